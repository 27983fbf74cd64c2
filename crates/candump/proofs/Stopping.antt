-- Request P11: what a line does to an import: it stops it and leaves nothing, or it is taken. Assumes nothing.
use Rattle.std.specs.Prelude.{if◌then◌else◌}
use Prim.Native.Nat.{ℕ, ◌+◌, ◌≤◌, ◌<◌}
use mathlib.Core.Path.{◌≡◌, refl, ap, ap₂, ◌∙◌}
use mathlib.Core.Bool.{Bool, true, false, ◌||◌, or-true}
use mathlib.Core.List.{List, ◌∷◌, ◌++◌}
use mathlib.Core.Option.{Option, none, some}
use borrow.Author.Tests.{lt-ltb, le-ltb}
use lib.Dec.{ltb}
use lib.ListN.{length}
use Rattle.candump.specs.Line.{Logged, Said, malformed, unknown, tells, line_in}
use Rattle.candump.specs.Log.{bytes_all, line_events, room, is_malformed, is_unknown, goes_back, does_not_fit, Import, stopped, taking, importing}

module _ (t n : ℕ) (out l : List ℕ) (ls : List (List ℕ)) where
  onward : Logged → Import
  onward g = importing g.time (n + 1) (out ++ bytes_all (line_events t g)) ls

  -- the import stops at this line for this reason: the earlier lines' events stay, nothing of this one
  abbrev Stops : ℕ → Type 0
  Stops reason = importing t n out (l ∷ ls) ≡ stopped out n reason

  by_line : (s : Said) → line_in l ≡ s → importing t n out (l ∷ ls) ≡ taking t n out s onward
  unfolding importing onward
  by_line s e = ap (λ (s : Said). taking t n out s onward) e

  pub malformed_stops : line_in l ≡ malformed → Stops is_malformed
  unfolding taking
  malformed_stops e = by_line malformed e

  pub unknown_stops : line_in l ≡ unknown → Stops is_unknown
  unfolding taking
  unknown_stops e = by_line unknown e

  module _ (g : Logged) (e : line_in l ≡ tells g) where
    by_tests : (p q : Bool) → ltb g.time t ≡ p → ltb room (length (out ++ bytes_all (line_events t g))) ≡ q
        → importing t n out (l ∷ ls) ≡ (if p then stopped out n goes_back else if q then stopped out n does_not_fit else onward g)
    unfolding taking
    by_tests p q x y =
        by_line (tells g) e
        ∙ ap₂ (λ (p q : Bool). if◌then◌else◌ {A = Import} p (stopped out n goes_back) (if◌then◌else◌ {A = Import} q (stopped out n does_not_fit) (onward g))) x y

    pub earlier_stops : g.time < t → Stops goes_back
    earlier_stops h = by_tests true (ltb room (length (out ++ bytes_all (line_events t g)))) (lt-ltb g.time t h) refl

    pub over_stops : t ≤ g.time → room < length (out ++ bytes_all (line_events t g)) → Stops does_not_fit
    over_stops h k = by_tests false true (le-ltb g.time t h) (lt-ltb room (length (out ++ bytes_all (line_events t g))) k)

    pub line_taken : t ≤ g.time → length (out ++ bytes_all (line_events t g)) ≤ room
        → importing t n out (l ∷ ls) ≡ importing g.time (n + 1) (out ++ bytes_all (line_events t g)) ls
    unfolding onward
    line_taken h k = by_tests false false (le-ltb g.time t h) (le-ltb room (length (out ++ bytes_all (line_events t g))) k)
