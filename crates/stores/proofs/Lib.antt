pub mod Periodics
pub mod Written
pub mod Flight
