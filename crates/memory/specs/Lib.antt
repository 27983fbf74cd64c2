pub mod Sizes
pub mod Memory
pub mod Promise
pub mod Runs
