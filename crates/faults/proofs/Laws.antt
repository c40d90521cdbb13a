-- Laws over plain lists, with no code in them.
pub mod Closing
pub mod Recording
pub mod Reporting
