pub mod Device
pub mod Demands
