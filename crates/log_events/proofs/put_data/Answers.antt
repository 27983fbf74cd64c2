-- `log_events::put_data` meets its contract. The invariant: the bytes up to a place were written. Assumes nothing.
use Prim.Native.Nat.{ℕ, ◌+◌, ◌*◌, ◌<◌}
use mathlib.Core.Path.{◌≡◌, ap₂, sym, subst, ◌∙◌}
use native.Mathlib.Omega.{arith}
use lib.ListN.{length, get_or, set}
use Rattle.text_reader.specs.Reading.{digit_of}
use Rattle.log_events.proofs.Pouring.{Poured, high_digit, low_digit, digit_given, byte_fits, one_poured, all_poured, even}
use Rattle.log_events.proofs.put_data.Goals as goal

-- both digits were read
pub overflow_mul-out : goal.overflow_mul-out
overflow_mul-out c =
    let small = high_digit c.loop-k.invariant (omega (arith, c.loop-k-test.true)) in
    record { fits = omega (arith, small, c.unwrap_or-high.ensures ∙ digit_given _ c.digit.result c.digit.ensures small) }

pub overflow_add-out : goal.overflow_add-out
overflow_add-out c =
    let high = high_digit c.loop-k.invariant (omega (arith, c.loop-k-test.true)) in
    let low = low_digit c.loop-k.invariant (omega (arith, c.loop-k-test.true)) in
    record { fits = omega (arith, high, low, c.unwrap_or-high.ensures ∙ digit_given _ c.digit.result c.digit.ensures high, c.unwrap_or-low.ensures ∙ digit_given _ c.digit-in-loop-k.result c.digit-in-loop-k.ensures low) }

pub bounds-out-place : goal.bounds-out-place
bounds-out-place c = byte_fits c.loop-k.invariant (omega (arith, c.loop-k-test.true)) c.requires.1

pub loop-k-preserved : goal.loop-k-preserved
loop-k-preserved c =
    let high = high_digit c.loop-k.invariant (omega (arith, c.loop-k-test.true)) in
    let low = low_digit c.loop-k.invariant (omega (arith, c.loop-k-test.true)) in
    let two : 2 * c.loop-k.k + 2 ≡ 2 * (c.loop-k.k + 1) = omega arith in
    subst (λ (n : ℕ). Poured c.args.out.now c.args.at c.args.text.now (set c.loop-k.out c.loop-k.place (c.unwrap_or-high.result * 16 + c.unwrap_or-low.result)) (c.loop-k.place + 1) n) two
    (subst (λ (v : ℕ). Poured c.args.out.now c.args.at c.args.text.now (set c.loop-k.out c.loop-k.place v) (c.loop-k.place + 1) (2 * c.loop-k.k + 2))
    (sym (ap₂ (λ (a b : ℕ). a * 16 + b) (c.unwrap_or-high.ensures ∙ digit_given _ c.digit.result c.digit.ensures high) (c.unwrap_or-low.ensures ∙ digit_given _ c.digit-in-loop-k.result c.digit-in-loop-k.ensures low)))
    (one_poured c.loop-k.invariant (omega (arith, c.loop-k-test.true))))

pub returns : goal.returns
returns c = all_poured c.loop-k.invariant (omega (arith, c.loop-k-test.false, even c.loop-k.invariant)) c.requires.1
