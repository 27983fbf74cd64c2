-- Laws of what becomes of a frame. Assumes nothing.
pub mod Laws
