-- The laws that walks by hand have in common. They say nothing of any crate.
pub mod Again
pub mod Lent
pub mod Locals
pub mod Slices
pub mod Tests
