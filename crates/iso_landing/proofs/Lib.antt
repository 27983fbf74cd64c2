pub mod Telling
pub mod Landing
