pub mod Care
pub mod Turns
pub mod Read
