pub mod Stored
pub mod Meaning
