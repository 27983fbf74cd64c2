pub mod Columns
pub mod Filters
pub mod Periodics
pub mod Ten
