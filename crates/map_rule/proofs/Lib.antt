pub mod ByMap
pub mod Pack
pub mod Examples
