pub mod Little
pub mod Eights
pub mod Writing
pub mod Reading
pub mod Promising
