-- Laws over plain lists and positions, with no code in them.
pub mod Judging
