-- The laws that proofs here and in other crates cite. Assumes nothing.
pub mod Playing
pub mod Turning
pub mod Promise
pub mod Lending
pub mod Joined
pub mod Unique
