-- The laws that proofs here and in other crates cite. Assumes nothing.
pub mod Small
pub mod Lent
pub mod Answers
pub mod Turning
