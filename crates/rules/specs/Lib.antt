pub mod Sorts
pub mod Breaks
pub mod Rules
pub mod Cases
pub mod Promised
pub mod Edited
pub mod Mended
