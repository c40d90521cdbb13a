pub mod Ids
pub mod Cases
