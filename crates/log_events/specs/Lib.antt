-- The events of a line. Assumes nothing.
pub mod Data
