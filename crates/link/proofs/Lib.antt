pub mod Carried
pub mod Traces
