pub mod Flows
pub mod Writing
