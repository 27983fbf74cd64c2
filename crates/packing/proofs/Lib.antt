pub mod Fills
pub mod RoundTrip
pub mod Settled
