pub mod Bytes
pub mod Verdict
pub mod Rule
pub mod Bars
pub mod Choice
