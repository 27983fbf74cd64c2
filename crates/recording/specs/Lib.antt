-- What a replay writes, whole and in pieces, and what the contracts of this crate cite. Assumes nothing.
pub mod Replay
pub mod Joined
