-- Where a part of a store ends. Assumes nothing.
use Rattle.std.specs.Prelude.{ℕ, Option, Some, None}
use Rattle.std.proofs.Math.Option as maybe

-- a place, none where the part is bad
abbrev pub place_of : Option ℕ → maybe.Option ℕ
place_of (Some next) = maybe.some next
place_of None = maybe.none

-- of what was read the place after it alone
unfoldable pub after_of : {A : Type 0} → maybe.Option (A × ℕ) → maybe.Option ℕ
after_of maybe.none = maybe.none
after_of (maybe.some r) = maybe.some r.1
