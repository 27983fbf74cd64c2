-- A line of a candump log as it is read. Assumes nothing.
pub mod Reading
