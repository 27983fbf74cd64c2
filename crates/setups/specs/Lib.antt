pub mod Good
pub mod Saved
