pub mod Sizes
pub mod Record
pub mod Region
pub mod Promise
