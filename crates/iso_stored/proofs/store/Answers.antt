-- `iso_stored::store` meets its contract, for any capacity and both directions. The invariant: the records passed are valid. Assumes nothing.
use Rattle.stored_records.proofs.Stores.{turn, store_over, store_is}
use Rattle.iso_stored.proofs.Records.{held_size}
use Rattle.iso_stored.specs.Held.{held}
use Rattle.iso.specs.Limits.{iso_record_size}
use Rattle.codec.specs.Code.{valid_all}
use lib.ListN.{length, get_or, drop}
use native.Mathlib.Omega.{arith}
use Prim.Native.Nat.{ℕ, ◌+◌, ◌*◌, ◌-◌}
use mathlib.Core.List.{List}
use mathlib.Core.Bool.{Bool, ◌&&◌}
use mathlib.Core.Path.{◌≡◌, refl, ap, ◌∙◌}
use Rattle.iso_stored.proofs.store.Goals as goal

pub overflow_cast-n : goal.overflow_cast-n
overflow_cast-n c = omega (arith, c.shared_slice_known-2-1.given 0)

pub returns-then-n-capacity : goal.returns-then-n-capacity
returns-then-n-capacity c = store_over (held c.args.sending c.args.flags) c.args.capacity c.args.s.now (omega arith)

pub loop-i-init : goal.loop-i-init
loop-i-init c = (omega arith, omega arith, refl, refl)

pub loop-i-preserved : goal.loop-i-preserved
loop-i-preserved c = let a : ℕ = 1 + c.loop-i.i * iso_record_size in (
  omega arith,
  omega arith,
  refl,
  ap (λ (b : Bool). c.loop-i.good && b) c.cell-good.ensures
      ∙ turn (held c.args.sending c.args.flags) iso_record_size (held_size c.args.sending c.args.flags) 1 c.loop-i.i a (a + iso_record_size - a) c.args.s.now c.loop-i.good refl (omega arith) c.loop-i.invariant.3,
)

pub returns : goal.returns
returns c = let s : List ℕ = c.args.s.now in
    let n : ℕ = get_or s 0 0 in
    let e : c.loop-i.i ≡ n = omega arith in
    let g : c.loop-i.good ≡ valid_all (held c.args.sending c.args.flags) n (drop 1 s) = c.loop-i.invariant.3 ∙ ap (λ (k : ℕ). valid_all (held c.args.sending c.args.flags) k (drop 1 s)) e in
    ap (λ (b : Bool). c.loop-i.good && b) c.all_zero.ensures
    ∙ store_is (held c.args.sending c.args.flags) c.args.capacity s iso_record_size (1 + n * iso_record_size) (length s - (1 + n * iso_record_size)) (held_size c.args.sending c.args.flags) (omega arith) refl (omega arith) c.loop-i.good g
