-- Laws over plain lists and positions, with no code in them.
pub mod Locating
pub mod Counting
