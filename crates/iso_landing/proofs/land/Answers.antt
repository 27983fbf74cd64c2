-- `iso_landing::land` meets its contract: the transfer first, then the flight. Assumes nothing.
use mathlib.Core.Path.{refl}
use Prim.Native.Nat.{ℕ, ◌+◌, ◌-◌, ◌*◌}
use native.Mathlib.Omega.{arith}
use lib.ListN.{get_or}
use Rattle.iso_layout.specs.Sizes.{talk_size, talks_at}
use Rattle.iso_landing.proofs.Landing.{owner_small, landed_quietly, landed_on, lent_size}
use Rattle.iso_landing.proofs.land.Goals as goal

pub overflow_cast-owner : goal.overflow_cast-owner
overflow_cast-owner c = omega (arith, owner_small c.args.r.now c.requires.0 c.requires.1)

pub returns-then-owner-lt2 : goal.returns-then-owner-lt2
returns-then-owner-lt2 c =
    landed_quietly c.args.r.now c.requires.0 c.requires.1 c.if-owner-lt2.true c.zero.new.d c.zero.ensures

pub overflow_mul-at : goal.overflow_mul-at
overflow_mul-at c = omega (arith, owner_small c.args.r.now c.requires.0 c.requires.1)

pub overflow_add-at : goal.overflow_add-at
overflow_add-at c = omega (arith, owner_small c.args.r.now c.requires.0 c.requires.1)

pub overflow_add-end : goal.overflow_add-end
overflow_add-end c = omega (arith, owner_small c.args.r.now c.requires.0 c.requires.1)

pub slice_bounds-landed_in-end : goal.slice_bounds-landed_in-end
slice_bounds-landed_in-end c = omega (arith, owner_small c.args.r.now c.requires.0 c.requires.1, c.requires.0.long)

pub returns : goal.returns
returns c =
    let r = c.args.r.now in
    let k : ℕ = get_or r 3236 0 in
    let h = c.if-owner-lt2.false in
    let turned = c.landed_in in
    landed_on r c.requires.0 c.requires.1 k refl h _ (lent_size (talks_at + (k - 2) * talk_size)) turned.new.t turned.ensures c.zero-2.new.d c.zero-2.ensures
