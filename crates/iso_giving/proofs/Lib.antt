pub mod Rules
pub mod Flying
pub mod Lowest
