pub mod Columns
pub mod Frame
pub mod Kept
pub mod ByMaps
