-- What the region of a raw channel says. Assumes nothing.
pub mod Looking
