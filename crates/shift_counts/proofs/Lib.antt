-- What each event adds. Assumes nothing.
pub mod Blocks
pub mod Lines
