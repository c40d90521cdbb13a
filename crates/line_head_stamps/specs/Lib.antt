pub mod Stamps
pub mod Ways
