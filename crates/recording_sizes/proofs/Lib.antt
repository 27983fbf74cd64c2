-- The laws that proofs here and in other crates cite. Assumes nothing.
pub mod Laws
