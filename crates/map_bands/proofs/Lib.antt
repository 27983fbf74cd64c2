pub mod Alike
pub mod Bits
pub mod Spread
