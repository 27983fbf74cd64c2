-- The words in which code on a part of a connection promises what it did: a move that may be refused says whether it was made, and leaves the bytes of
-- the new value, or those that were there. Assumes nothing.
use Rattle.std.specs.Prelude.{ℕ, ◌≡◌, Bool, true, false, List, T, length}
use Rattle.std.proofs.Math.Option.{Option, none, some}
use Rattle.codec.specs.Code.{Code}
use Rattle.link_layout.specs.Sizes.{link_size}
use Rattle.link_layout.specs.Connection.{connection_part}

-- there is a value
unfoldable pub is_there : {A : Type 0} → Option A → Bool
is_there none = false
is_there (some x) = true

-- the bytes of the value, or those that were there
unfoldable pub put_or : {A : Type 0} → Code A → Option A → List ℕ → List ℕ
put_or c none m = m
put_or c (some x) m = c.put x

-- the bytes of a connection
pub record LinkPart (m : List ℕ) : Type 0 where
  pub long : length m ≡ link_size
  pub valid : T (connection_part.valid m)
