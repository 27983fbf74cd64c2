pub mod Lain
