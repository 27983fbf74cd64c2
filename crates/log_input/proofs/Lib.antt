pub mod Cutting
pub mod Whole
