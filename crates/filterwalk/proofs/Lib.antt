pub mod Listed
pub mod Looks
