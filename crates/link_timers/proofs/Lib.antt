pub mod Spaces
pub mod Tries
pub mod Outs
pub mod Tests
