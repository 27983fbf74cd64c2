-- The edition of a recording. Assumes nothing.
pub mod Edition
