-- Laws over plain lists, with no code in them: a file for each thing that they speak of.
pub mod Holes
pub mod Filling
pub mod Rowing
