pub mod Tallying
pub mod Refusing
pub mod Promising
