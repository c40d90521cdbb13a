-- Laws of the text of the book, and of references beside its names, with no code in them.
pub mod Apart
pub mod Starting
pub mod Demanded
pub mod Heading
pub mod Laying
pub mod Referred
