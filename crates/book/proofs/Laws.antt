-- Laws of the book, with no code in them.
pub mod Columns
pub mod Sized
pub mod Directing
