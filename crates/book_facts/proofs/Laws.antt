-- Laws of the first pass, with no code in them.
pub mod Surveying
pub mod Lettered
