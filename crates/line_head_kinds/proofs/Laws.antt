-- Laws over plain lists, with no code in them.
pub mod Kinds
