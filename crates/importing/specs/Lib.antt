-- The import of a candump log into a lent buffer. Assumes nothing.
pub mod Step
pub mod Promise
