pub mod Again
pub mod Leave
