pub mod Rows
pub mod Held
pub mod Lent
pub mod Mapped
pub mod Remade
