pub mod Columning
pub mod Summing
pub mod Naming
