-- `store_check::slots_end` meets its contract. The invariant says what is left to read. Assumes nothing.
use Prim.Native.Nat.{◌-◌, ◌<◌}
use mathlib.Core.Path.{sym, ap, ◌∙◌}
use native.Mathlib.Omega.{arith}
use Rattle.store_records.specs.Places.{place_of}
use Rattle.store_check.proofs.Slots.{no_count, all_left, none_left, no_number, no_entry, one_less, low_number, entry_inside, ending_bad, ending_good}
use Rattle.store_check.proofs.slots_end.Goals as goal

pub returns-in_err-count : goal.returns-in_err-count
returns-in_err-count g c = λ ends f. ap place_of c.from_residual.ensures ∙ no_count _ _ _ (sym c.in_err-count.ensures)

pub loop-init : goal.loop-init
loop-init g c = (omega arith, λ ends f. all_left _ _ _ (omega arith) (sym c.in_ok-count.ensures))

pub overflow_add-last : goal.overflow_add-last
overflow_add-last g c = omega (arith, c.loop.invariant.0)

pub returns-in_err-number : goal.returns-in_err-number
returns-in_err-number g c =
    λ ends f.
    let more : 0 < c.in_ok-count.count.value - c.loop.counter = omega (arith, c.loop-test.true) in
    ap place_of c.from_residual-in_err-number.ensures ∙ no_number _ _ _ (c.loop.invariant.1 ends f) more (sym c.in_err-number.ensures)

pub find-requires : goal.find-requires
find-requires g c = c.requires _ (entry_inside _ _ _ (sym c.in_ok-number.ensures))

pub returns-in_err-place : goal.returns-in_err-place
returns-in_err-place g c =
    λ ends f.
    let more : 0 < c.in_ok-count.count.value - c.loop.counter = omega (arith, c.loop-test.true) in
    ap place_of c.from_residual-in_err-place.ensures
    ∙ no_entry _ _ _ (c.loop.invariant.1 ends f) more (sym c.in_ok-number.ensures) (ending_bad ends _ (f _ _ c.in_err-place.ensures))

pub loop-preserved : goal.loop-preserved
loop-preserved g c = (
  low_number _ _ _ (sym c.in_ok-number.ensures),
  λ ends f.
      let more : 0 < c.in_ok-count.count.value - c.loop.counter = omega (arith, c.loop-test.true) in
      one_less _ _ _ (c.loop.invariant.1 ends f) more (sym c.in_ok-number.ensures) (omega arith) (ending_good ends _ (f _ _ c.in_ok-place.ensures)),
)

pub returns : goal.returns
returns g c = λ ends f. none_left _ _ _ (c.loop.invariant.1 ends f) (omega (arith, c.loop-test.false))
