-- `log_reader::good_data` meets its contract. The invariant: what stands up to a place are digits. Assumes nothing.
use Prim.Native.Nat.{ℕ, ◌≤◌}
use native.Mathlib.Omega.{arith}
use borrow.Author.Count.{below_more}
use lib.ListN.{get_or}
use Rattle.text_reader.specs.Reading.{digit_of}
use Rattle.text_reader.proofs.Digits.{some_digit, no_digit_there}
use Rattle.log_reader.proofs.Data.{too_many, odd_digits, no_digit, all_good}
use Rattle.log_reader.proofs.good_data.Goals as goal

pub returns-then-text-gt-DATA_DIGITS : goal.returns-then-text-gt-DATA_DIGITS
returns-then-text-gt-DATA_DIGITS c = too_many _ c.if-text-gt-DATA_DIGITS.true

pub returns-then-text-eq1 : goal.returns-then-text-eq1
returns-then-text-eq1 c = odd_digits _ c.if-text-eq1.true

pub returns-then-is_none : goal.returns-then-is_none
returns-then-is_none c =
    no_digit c.args.text.now c.loop-c.c-index c.loop-c-test.true (no_digit_there (get_or c.args.text.now c.loop-c.c-index 0) c.digit.result c.digit.ensures c.if-is_none.ensures)

pub loop-c-preserved : goal.loop-c-preserved
loop-c-preserved c =
    let good = some_digit (get_or c.args.text.now c.loop-c.c-index 0) c.digit.result c.digit.ensures c.if-is_none.ensures in
    below_more _ _ c.loop-c.invariant (λ (h : 16 ≤ digit_of (get_or c.args.text.now c.loop-c.c-index 0)). omega (arith, good))

pub returns : goal.returns
returns c =
    all_good c.args.text.now c.if-text-gt-DATA_DIGITS.false c.if-text-eq1.false (λ i h. c.loop-c.invariant i (omega (arith, c.loop-c-test.false)))
