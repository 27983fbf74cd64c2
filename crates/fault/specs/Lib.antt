-- What is wrong with a recording, and where. Assumes nothing.
pub mod Fault
pub mod Laws
pub mod Cases
