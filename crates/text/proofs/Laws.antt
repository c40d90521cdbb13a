-- Laws over plain lists and positions, with no code in them: a file for each thing that they speak of.
pub mod CellParts
pub mod Lines
pub mod Openings
pub mod Counts
pub mod Control
pub mod Runs
pub mod Splicing
pub mod Joining
