-- `stored_records::plain_record` meets its contract. Assumes nothing.
use Rattle.stored_records.proofs.Records.{rec_small, rec_large, rec_good}
use Rattle.codec.specs.Plain.{all_zero}
use native.Mathlib.Omega.{arith}
use lib.ListN.{take, drop}
use lib.Dec.{eqb}
use Prim.Native.Nat.{ℕ, ◌-◌}
use mathlib.Core.List.{List}
use mathlib.Core.Bool.{◌&&◌}
use mathlib.Core.Path.{ap, ◌∙◌}
use Rattle.stored_records.proofs.plain_record.Goals as goal

pub returns-then-size-lt-LEAST_DATA : goal.returns-then-size-lt-LEAST_DATA
returns-then-size-lt-LEAST_DATA c = let w = c.word_at-size.ensures in
    rec_small c.args.s.now c.requires w.1 (omega arith)

pub returns-then-size-gt-MOST_DATA : goal.returns-then-size-gt-MOST_DATA
returns-then-size-gt-MOST_DATA c = let w = c.word_at-size.ensures in
    rec_large c.args.s.now c.requires w.1 (omega arith)

pub returns : goal.returns
returns c = let s : List ℕ = c.args.s.now in
    let w = c.word_at-size.ensures in
    (λ j. eqb (c.word_at.ensures.0 j) (w.0 j) && eqb (c.word_at-2.ensures.0 j) 5 && (c.eight_end.ensures ∙ ap (λ (n : ℕ). all_zero (drop (n - 4) (take 8 (drop 28 s)))) w.0) j)
    ∙ rec_good s c.requires w.1 (omega arith) (omega arith)
