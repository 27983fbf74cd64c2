pub mod Next
pub mod Marks
pub mod Any
