pub mod Record
pub mod Crossing
