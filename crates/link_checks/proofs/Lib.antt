pub mod Tags
pub mod Texts
pub mod Parts
