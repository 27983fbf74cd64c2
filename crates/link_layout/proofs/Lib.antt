pub mod Lawful
pub mod Bytes
pub mod Talking
pub mod Moves
pub mod Places
pub mod Fieldwise
pub mod Asked
pub mod Turning
