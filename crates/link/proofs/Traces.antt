-- Worked stories of a TP2.0 connection. Assumes nothing.
pub mod Words
pub mod Opening
pub mod Sending
pub mod Receiving
pub mod Ending
