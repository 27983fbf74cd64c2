pub mod Fills
pub mod Narrowed
