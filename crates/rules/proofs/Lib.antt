-- The laws that promise, and those that proofs cite.
pub mod Laws
