pub mod Names
pub mod Table
pub mod Links
pub mod Steps
