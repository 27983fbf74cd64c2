pub mod Refused
pub mod Lists
pub mod Settled
