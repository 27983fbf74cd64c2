pub mod Body
pub mod Parts
pub mod OnRegion
