pub mod Whole
pub mod Refused
