-- `text_reader::number` meets its contract. The invariant: the digits up to a place make the number so far. Assumes nothing.
use Prim.Native.Nat.{ℕ, ◌+◌, ◌*◌, ◌≤◌, ◌<◌}
use mathlib.Core.Path.{◌≡◌, sym, ap, subst, ◌∙◌}
use native.Mathlib.Omega.{arith}
use lib.ListN.{get_or}
use Rattle.text_reader.specs.Reading.{digit_of, near}
use Rattle.text_reader.proofs.Digits.{Read, one_more, no_number, all_read, digit_is, digit_missing}
use Rattle.text_reader.proofs.number.Goals as goal

pub returns-in_err-d : goal.returns-in_err-d
returns-in_err-d c =
    let none_there = digit_missing (get_or c.args.s.now c.loop-c.c-index 0) c.in_err-d.ensures in
    c.from_residual.ensures ∙ no_number c.requires.0 c.requires.1 c.loop-c.invariant c.loop-c-test.true (omega (arith, none_there, c.requires.1))

pub returns-then-d-base : goal.returns-then-d-base
returns-then-d-base c =
    no_number c.requires.0 c.requires.1 c.loop-c.invariant c.loop-c-test.true (omega (arith, digit_is (get_or c.args.s.now c.loop-c.c-index 0) _ c.in_ok-d.ensures))

pub loop-c-preserved : goal.loop-c-preserved
loop-c-preserved c =
    let is : digit_of (get_or c.args.s.now c.loop-c.c-index 0) ≡ c.in_ok-d.field-0 = digit_is (get_or c.args.s.now c.loop-c.c-index 0) _ c.in_ok-d.ensures in
    subst (λ (n : ℕ). Read c.args.base c.args.s.now n (c.loop-c.c-index + 1))
    (ap (λ (n : ℕ). near (c.loop-c.v * c.args.base + n)) is ∙ sym c.at_most_far-v.ensures)
    (one_more c.requires.0 c.requires.1 c.loop-c.invariant c.loop-c-test.true (omega (arith, is, c.if-d-base.false)))

pub returns : goal.returns
returns c = all_read c.requires.0 c.requires.1 c.loop-c.invariant c.loop-c-test.false
