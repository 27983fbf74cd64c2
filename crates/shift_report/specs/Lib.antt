-- The promise of the shift report. Assumes nothing.
pub mod Promise
pub mod Counting
