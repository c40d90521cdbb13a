pub mod Sums
pub mod Ranks
pub mod Halves
pub mod Rounds
pub mod Refusals
