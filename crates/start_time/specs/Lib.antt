-- The start time of a log as text. Assumes nothing.
pub mod Start
