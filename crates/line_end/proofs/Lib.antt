-- The laws that proofs cite.
pub mod Laws
