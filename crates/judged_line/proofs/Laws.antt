-- Laws over plain lists, with no code in them.
pub mod Passing
pub mod Alone
pub mod Judging
