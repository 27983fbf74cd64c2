-- The text of a line by its pieces. Assumes nothing.
pub mod Pieces
