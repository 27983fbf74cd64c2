-- What the mark means for a recording. Assumes nothing.
pub mod Marked
pub mod Worked
