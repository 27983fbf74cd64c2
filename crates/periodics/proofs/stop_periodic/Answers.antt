-- `periodics::stop_periodic` meets its contract. Assumes nothing.
use mathlib.Core.Path.{sym, ◌∙◌}
use Prim.Native.Nat.{◌-◌}
use native.Mathlib.Omega.{arith}
use Rattle.stores.proofs.Periodics.{lent}
use Rattle.periodics.proofs.Region.{stop_zero, stop_high, stop_empty, stop_taken}
use Rattle.periodics.proofs.stop_periodic.Goals as goal

pub returns-then-number-lt1 : goal.returns-then-number-lt1
returns-then-number-lt1 c = λ rates t. stop_zero c.args.r.now c.requires c.args.number rates t c.if-number-lt1.true

pub returns-then-number-gt-LAST : goal.returns-then-number-gt-LAST
returns-then-number-gt-LAST c = λ rates t. stop_high c.args.r.now c.requires c.args.number rates t c.if-number-gt-LAST.true

pub word_at-requires : goal.word_at-requires
word_at-requires c = omega (arith, (lent c.args.r.now c.requires).long, c.if-number-gt-LAST.false, c.if-number-lt1.false)

pub returns-then-word_at-eq0 : goal.returns-then-word_at-eq0
returns-then-word_at-eq0 c =
    let low = c.if-number-lt1.false in
    let high = c.if-number-gt-LAST.false in
    let n = c.args.number in
    λ rates t. stop_empty c.args.r.now c.requires n rates t (n - 1) (omega arith) (omega arith) (sym c.word_at.ensures.0 ∙ c.if-word_at-eq0.true)

pub stop_at-requires : goal.stop_at-requires
stop_at-requires c = (lent c.args.r.now c.requires, omega (arith, c.if-number-gt-LAST.false, c.if-number-lt1.false))

pub returns : goal.returns
returns c =
    let low = c.if-number-lt1.false in
    let high = c.if-number-gt-LAST.false in
    let n = c.args.number in
    λ rates t. stop_taken c.args.r.now c.requires n rates t (n - 1) (omega arith) (omega arith) (λ z. c.if-word_at-eq0.false (c.word_at.ensures.0 ∙ z)) c.stop_at.new.part c.stop_at.ensures
