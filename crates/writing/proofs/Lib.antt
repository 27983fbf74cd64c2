pub mod Loop
pub mod Writing
