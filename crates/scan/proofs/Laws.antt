-- Laws over plain lists, with no code in them: a file for each thing that they speak of.
pub mod Putting
pub mod Celling
pub mod Rowing
pub mod Means
pub mod Families
pub mod Keeping
pub mod Following
pub mod Lining
pub mod Scanning
pub mod Demanding
pub mod Ending
pub mod Placing
