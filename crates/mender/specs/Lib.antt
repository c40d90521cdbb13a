pub mod Mended
pub mod Outcomes
pub mod Promised
pub mod Walk
