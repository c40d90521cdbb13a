pub mod Tally
pub mod Steps
pub mod Cases
