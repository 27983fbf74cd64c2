pub mod Carried
pub mod Fair
pub mod Counts
pub mod Lists
pub mod Traces
