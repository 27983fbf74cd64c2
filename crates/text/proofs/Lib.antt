pub mod Text
pub mod Worked
