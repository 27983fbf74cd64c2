-- Worked traces of one ISO 15765 channel, each proved by `refl`. Assumes nothing.
pub mod Words
pub mod Calls
pub mod Filters
pub mod Receiving
pub mod Sending
pub mod Conversations
