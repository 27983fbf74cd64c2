pub mod Messages
pub mod Talks
pub mod Meaning
