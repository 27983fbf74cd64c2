pub mod Cutting
pub mod Timing
pub mod Naming
pub mod Data
pub mod Identifying
pub mod Framing
pub mod Parts
