pub mod Periodics
pub mod Written
