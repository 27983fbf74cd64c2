-- How much of a log is read. Assumes nothing.
pub mod Cut
