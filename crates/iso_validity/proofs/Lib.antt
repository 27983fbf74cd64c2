pub mod Flights
pub mod Ready
