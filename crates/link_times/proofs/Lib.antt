pub mod Passes
pub mod Stands
