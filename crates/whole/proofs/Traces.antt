-- Worked traces of the whole box from power-on, each proved by `refl`. Assumes nothing.
pub mod Words
pub mod Beside
pub mod Connections
pub mod Listening
