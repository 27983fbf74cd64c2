pub mod Keep
pub mod Answers
pub mod Served
pub mod Shifts
pub mod Examples
