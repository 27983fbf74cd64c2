-- Bytes at a place of a buffer. Assumes nothing.
use Rattle.std.specs.Prelude.{ℕ, ◌+◌, List, ◌++◌, ◌≡◌, length, take, drop}

-- bytes were written at a place of a buffer: they stand there, the others stay, and `next` is the place after them
pub record Put (buffer : List ℕ) (at : ℕ) (bytes : List ℕ) (next : ℕ) (after : List ℕ) : Type 0 where
  pub ends : next ≡ at + length bytes
  pub holds : after ≡ take at buffer ++ bytes ++ drop (at + length bytes) buffer
