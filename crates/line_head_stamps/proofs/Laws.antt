-- Laws over plain lists, with no code in them.
pub mod Adding
pub mod Asking
pub mod Naming
pub mod Noting
pub mod Passing
pub mod Guessing
pub mod Writing
