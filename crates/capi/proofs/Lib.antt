-- The law that the proofs cite.
pub mod Laws
