pub mod One
pub mod Bytes
pub mod Listening
pub mod Region
