-- What is looked at before an event. Assumes nothing.
pub mod Looks
