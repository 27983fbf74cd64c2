-- What is said of a naming with its code. Assumes nothing.
pub mod Naming
