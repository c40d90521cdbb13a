pub mod Records
pub mod Promised
pub mod Cases
