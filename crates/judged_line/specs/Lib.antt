pub mod Judged
pub mod Outcomes
pub mod Promised
pub mod Passing
