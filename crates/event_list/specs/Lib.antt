-- The events of a recording. Assumes nothing.
pub mod Run
