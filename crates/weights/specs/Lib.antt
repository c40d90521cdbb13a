pub mod Weights
pub mod Cases
