pub mod Laws
pub mod Sent
