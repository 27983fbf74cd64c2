pub mod Sizes
pub mod Putting
pub mod Pouring
