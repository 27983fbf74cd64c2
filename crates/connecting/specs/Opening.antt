-- A channel's region is opened, whatever its kind. Assumes nothing.
use Rattle.std.specs.Prelude.{ℕ, List, ◌∷◌, ◌++◌, if◌then◌else◌, get_or, drop, eqb}
use Rattle.codec.specs.Word.{word}
use Rattle.layout.specs.Sizes.{loopback_at}

-- the code, and the bytes: the mark, the flags and the rate stand at the start; an open channel's region stays
unfoldable pub opening : (flags rate : ℕ) → List ℕ → ℕ × List ℕ
opening flags rate m = if eqb (get_or m 0 0) 0 then (0x00, 1 ∷ (word flags ++ (word rate ++ drop loopback_at m))) else (0x14, m)
