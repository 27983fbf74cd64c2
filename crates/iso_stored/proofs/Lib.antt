pub mod Rows
pub mod Records
