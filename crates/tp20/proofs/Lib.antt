pub mod Naming
pub mod RoundTrip
pub mod Settled
