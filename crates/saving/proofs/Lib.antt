pub mod Going
pub mod Entries
pub mod Laws
