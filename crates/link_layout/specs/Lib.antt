pub mod Sizes
pub mod Connection
pub mod Turned
