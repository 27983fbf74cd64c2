-- Laws of the shift report. Assumes nothing.
pub mod Balance
pub mod Traces
