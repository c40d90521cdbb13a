-- The laws that the proofs cite, here and on the floors above.
pub mod Laws
