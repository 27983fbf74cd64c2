pub mod Numbers
pub mod Transfers
