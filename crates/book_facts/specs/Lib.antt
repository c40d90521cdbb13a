pub mod Facts
pub mod Asked
pub mod Cases
