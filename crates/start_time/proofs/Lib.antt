pub mod Units
pub mod Starting
pub mod Traces
