pub mod Far
pub mod Taking
pub mod Lines
pub mod Promise
