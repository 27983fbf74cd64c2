pub mod Limits
pub mod Talk
pub mod Iso
pub mod Step
pub mod Demands
