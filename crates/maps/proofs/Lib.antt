pub mod Rows
pub mod Made
pub mod Parts
