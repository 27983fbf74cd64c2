-- What a recording holds, and what the reader of one answers. Assumes nothing.
pub mod Events
pub mod Values
pub mod Found
pub mod Cases
