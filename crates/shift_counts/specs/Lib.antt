-- What an event adds. Assumes nothing.
pub mod Adds
