pub mod Parameters
pub mod Scan
