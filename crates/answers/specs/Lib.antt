-- The bytes of answers, and where they were written. Assumes nothing.
pub mod Output
pub mod Put
