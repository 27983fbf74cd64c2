pub mod Events
pub mod Turning
pub mod Promise
pub mod Leaving
pub mod Joined
