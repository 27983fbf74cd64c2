pub mod Moves
pub mod Region
