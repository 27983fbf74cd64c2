pub mod Turns
pub mod Filters
pub mod Periodics
pub mod Store
