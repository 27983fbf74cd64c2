-- What is proved of codes. Assumes nothing.
pub mod Laws
pub mod Numbers
