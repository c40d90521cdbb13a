pub mod Tallied
pub mod Cases
