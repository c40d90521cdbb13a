-- Laws over plain lists, with no code in them: a file for each thing that they speak of.
pub mod Walking
pub mod Passing
pub mod Writing
pub mod Promising
