-- `timers::later_at` meets its contract. Assumes nothing.
use mathlib.Core.Path.{◌≡◌, refl, sym, ap, ◌∙◌, subst}
use Prim.Native.Nat.{ℕ, ◌+◌, ◌*◌, ◌-◌, ◌%◌, ◌≤◌, ◌<◌}
use native.Mathlib.Omega.{arith}
use Rattle.codec.specs.Word.{word}
use Rattle.layout.specs.Sizes.{phases_in, number_size}
use Rattle.stores.proofs.Periodics.{interval_small, phase_small}
use Rattle.timers.proofs.Moves.{later_none, later_soon, later_due}
use Rattle.timers.proofs.later_at.Goals as goal

pub word_at-interval-requires : goal.word_at-interval-requires
word_at-interval-requires c = omega (arith, c.requires.0.long)

pub returns-then-interval-eq0 : goal.returns-then-interval-eq0
returns-then-interval-eq0 c =
    λ flags. later_none c.args.part.now c.requires.0 c.args.i c.requires.1 c.args.us flags (sym c.word_at-interval.ensures.0 ∙ c.if-interval-eq0.true)

pub overflow_mul-period : goal.overflow_mul-period
overflow_mul-period c = omega (arith, c.word_at-interval.ensures.0, interval_small c.args.part.now c.requires.0 c.args.i c.requires.1)

pub word_at-requires : goal.word_at-requires
word_at-requires c = omega (arith, c.requires.0.long)

pub overflow_add-phase : goal.overflow_add-phase
overflow_add-phase c = omega (arith, c.word_at.ensures.0, phase_small c.args.part.now c.requires.0 c.args.i c.requires.1)

pub returns-then-phase-period : goal.returns-then-phase-period
returns-then-phase-period c =
    let i = c.args.i in
    let interval = c.word_at-interval.ensures.0 in
    let size : phases_in + i * number_size + 4 - (phases_in + i * number_size) ≡ 4 = omega arith in
    λ flags.
    later_soon c.args.part.now c.requires.0 i c.requires.1 c.args.us flags _ (ap (λ (x : ℕ). x + c.args.us) c.word_at.ensures.0) (phases_in + i * number_size) _ c.put_word.new.s refl size
    (subst (λ (x : ℕ). c.word_at.result + c.args.us < 1000 * x) interval c.if-phase-period.true) c.put_word.ensures

pub returns : goal.returns
returns c =
    let i = c.args.i in
    let interval = c.word_at-interval.ensures.0 in
    let size : phases_in + i * number_size + 4 - (phases_in + i * number_size) ≡ 4 = omega arith in
    λ flags.
    later_due c.args.part.now c.requires.0 i c.requires.1 c.args.us flags _ (ap (λ (x : ℕ). x + c.args.us) c.word_at.ensures.0) (phases_in + i * number_size) _ c.put_word-2.new.s refl size
    (λ z. c.if-interval-eq0.false (interval ∙ z)) (subst (λ (x : ℕ). 1000 * x ≤ c.word_at.result + c.args.us) interval c.if-phase-period.false)
    (c.put_word-2.ensures ∙ ap (λ (x : ℕ). word ((c.word_at.result + c.args.us) % (1000 * x))) interval)

pub nonzero_rem-phase : goal.nonzero_rem-phase
nonzero_rem-phase c = omega (arith, c.if-interval-eq0.false)
