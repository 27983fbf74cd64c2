pub mod Entries
pub mod Walk
pub mod TwoLists
