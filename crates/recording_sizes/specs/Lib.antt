-- The sizes of recordings, their records and their answers. Assumes nothing.
pub mod Sizes
