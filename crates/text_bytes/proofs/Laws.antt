-- Laws over plain lists and positions, with no code in them: a file for each thing that they speak of.
pub mod Tests
pub mod Parts
pub mod Starts
pub mod Pieces
pub mod Each
pub mod Every
pub mod Same
pub mod Begins
pub mod Blocks
pub mod Firsts
