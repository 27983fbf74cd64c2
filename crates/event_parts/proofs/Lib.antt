-- The laws of the parts of an event. Assumes nothing.
pub mod Parts
