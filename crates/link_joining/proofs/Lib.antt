pub mod Meanings
pub mod Bytes
pub mod Turns
