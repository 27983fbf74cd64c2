-- Sums side by side. Assumes nothing.
pub mod Sums
