pub mod Columns
pub mod Marks
pub mod Sums
