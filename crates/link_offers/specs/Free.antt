-- A standing connection that may give a telegram: nothing of it is in flight, and nothing is left of T3. Assumes nothing.
use Rattle.std.specs.Prelude.{◌≡◌, ℕ, ◌+◌, List, get_or}
use Rattle.codec.specs.Word.{word_at}
use Rattle.link_layout.specs.Sizes.{care_at, tests_in, wire_at}
use Rattle.link_layout.specs.Turned.{LinkPart}

pub record Free (m : List ℕ) : Type 0 where
  pub part : LinkPart m
  pub state : get_or m 0 0 ≡ 3
  pub line : get_or m wire_at 0 ≡ 0
  pub gap : word_at (wire_at + 1) m ≡ 0

-- with neither a connection acknowledge nor a test that waits
pub record Untested (m : List ℕ) : Type 0 where
  pub free : Free m
  pub answers : get_or m care_at 0 ≡ 1 → ⊥
  pub tests : get_or m (care_at + tests_in) 0 ≡ 1 → ⊥
