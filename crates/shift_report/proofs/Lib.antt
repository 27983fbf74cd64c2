-- The laws of the shift report. Assumes nothing.
pub mod Totals
pub mod Going
