pub mod Landed
