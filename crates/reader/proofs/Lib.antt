-- What is proved of the promises of this crate, and what its callers cite. Assumes nothing.
pub mod Reading
pub mod Unique
