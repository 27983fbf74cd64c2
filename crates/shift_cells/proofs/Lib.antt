-- The laws of sums side by side. Assumes nothing.
pub mod Plus
