pub mod Next
pub mod Freed
