-- The laws that proofs here and in other crates cite. Assumes nothing.
pub mod Passing
pub mod Parts
pub mod Walking
pub mod Agreeing
pub mod Cases
pub mod Unique
