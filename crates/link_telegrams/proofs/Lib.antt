pub mod Laws
pub mod Next
