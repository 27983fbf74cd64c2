use Prim.Native.Nat.{ℕ, ◌≤◌, ◌<◌}
use lib.ListN.{get_or}
use Rattle.text_reader.specs.Reading.{digit_of}
use Rattle.log_reader.proofs.good_data.Given as goal

abbrev pub invariant-loop-c : goal.invariant-loop-c
invariant-loop-c l = (k : ℕ) → k < l.c-index → 16 ≤ digit_of (get_or l.text k 0) → ⊥
