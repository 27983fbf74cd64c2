pub mod Under
pub mod Limits
