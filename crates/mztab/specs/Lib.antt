pub mod Shown
pub mod Readings
pub mod Outcomes
pub mod Cases
