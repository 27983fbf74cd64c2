-- What each event adds, on a valid memory. Assumes nothing.
pub mod Counting
