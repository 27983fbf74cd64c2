-- The lines that are whole, one byte after the other. Assumes nothing.
use Rattle.std.specs.Prelude.{Some, None}
use Prim.Native.Nat.{ℕ, ◌+◌, ◌≤◌, ◌<◌}
use mathlib.Core.Path.{◌≡◌, refl, sym, ap, ◌∙◌}
use mathlib.Core.List.{List}
use native.Mathlib.Numerals.{add-one}
use native.Mathlib.Omega.{arith}
use borrow.Author.Tests.{eq-eqb, ne_eqb, le-leb, lt-leb}
use lib.ListN.{length, get_or, take, drop, length-take, drop_of_length-le}
use lib.Seq.{drop-cons}
use Rattle.candump.specs.Log.{newline}
use Rattle.log_input.specs.Cut.{longest_log, cut_at, whole_from, whole_of, cut_of}

-- the bytes before a place were looked at
pub record Looked (log : List ℕ) (end line i : ℕ) : Type 0 where
  pub inside : i ≤ length log
  pub few : line ≤ i + 1
  pub is : whole_from i end line (drop i log) ≡ whole_of log

pub none_looked : (log : List ℕ) → Looked log 0 1 0
unfolding whole_of
none_looked log = record { inside = omega arith; few = omega arith; is = refl }

module _ {log : List ℕ} {end line i : ℕ} (l : Looked log end line i) where
  module _ (h : i < length log) where
    pub at_newline : get_or log i 0 ≡ newline → Looked log (i + 1) (line + 1) (i + 1)
    unfolding whole_from
    at_newline e =
        let step : whole_from i end line (drop i log) ≡ whole_from (i + 1) (i + 1) (line + 1) (drop (i + 1) log)
        = rw (drop-cons log i 0 h, eq-eqb (get_or log i 0) newline e) (ap (λ (k : ℕ). whole_from (i + 1) (i + 1) (line + 1) (drop k log)) (sym (add-one i))) in
        record { inside = omega arith; few = omega (arith, l.few); is = sym step ∙ l.is }

    pub at_another : (get_or log i 0 ≡ newline → ⊥) → Looked log end line (i + 1)
    unfolding whole_from
    at_another e =
        let step : whole_from i end line (drop i log) ≡ whole_from (i + 1) end line (drop (i + 1) log)
        = rw (drop-cons log i 0 h, ne_eqb (get_or log i 0) newline e) (ap (λ (k : ℕ). whole_from (i + 1) end line (drop k log)) (sym (add-one i))) in
        record { inside = omega arith; few = omega (arith, l.few); is = sym step ∙ l.is }

  pub all_looked : length log ≤ i → cut_at end (Some line) ≡ whole_of log
  unfolding whole_from
  all_looked h = sym (ap (whole_from i end line) (drop_of_length-le log {i = i} h)) ∙ l.is

-- ---- the room

pub first_few : (n : ℕ) (l : List ℕ) → length (take n l) ≤ n
first_few n l = omega (arith, length-take n l)

module _ (log : List ℕ) where
  pub all_read : length log ≤ longest_log → cut_at (length log) None ≡ cut_of log
  unfolding cut_of
  all_read h = rw (le-leb (length log) longest_log h)

  pub part_read_law : longest_log < length log → whole_of (take longest_log log) ≡ cut_of log
  unfolding cut_of
  part_read_law h = rw (lt-leb (length log) longest_log h)
