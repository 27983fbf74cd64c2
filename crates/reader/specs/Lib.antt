-- What the contracts of this crate cite. Assumes nothing.
pub mod Reader
pub mod Cursor
