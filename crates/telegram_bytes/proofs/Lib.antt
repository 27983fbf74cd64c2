pub mod CopyLoop
pub mod Writes
