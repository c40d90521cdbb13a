-- Laws over plain lists, with no code in them.
pub mod Parting
pub mod Knowing
pub mod Calling
