pub mod Sums
pub mod Shares
pub mod Refusals
pub mod Steps
