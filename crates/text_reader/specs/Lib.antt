-- Text as it is read from a slice. Assumes nothing.
pub mod Reading
