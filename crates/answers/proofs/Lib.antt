-- The laws of bytes that are written at a place. Assumes nothing.
pub mod Number
pub mod Put
pub mod Size
pub mod Unique
