-- What becomes of a frame, as a place among the numbers. Assumes nothing.
pub mod Fates
