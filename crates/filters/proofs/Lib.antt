pub mod Steps
pub mod OnRegion
