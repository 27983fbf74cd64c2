pub mod Finding
pub mod Digits
