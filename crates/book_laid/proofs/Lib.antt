-- The laws that proofs cite on the floor above.
pub mod Laws
