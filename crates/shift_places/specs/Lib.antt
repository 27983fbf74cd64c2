-- The places of the shift report's numbers. Assumes nothing.
pub mod Places
