-- The export of a recording in pieces. Assumes nothing.
pub mod Pieces
pub mod Joined
