-- `iso_flights::disown` meets its contract: by the conversation that the flight belongs to. Assumes nothing.
use mathlib.Core.Path.{refl}
use Prim.Native.Nat.{ℕ, ◌+◌, ◌-◌, ◌*◌}
use native.Mathlib.Omega.{arith}
use lib.ListN.{get_or}
use Rattle.iso_layout.specs.Sizes.{talks_at, talk_size}
use Rattle.iso_flights.proofs.Flights.{long, owner_small, rests_as_it_is, flies_on, left_alone, part_size}
use Rattle.iso_flights.proofs.disown.Goals as goal

pub bounds-r-3236 : goal.bounds-r-3236
bounds-r-3236 c = omega (arith, long c.requires)

pub overflow_cast-owner : goal.overflow_cast-owner
overflow_cast-owner c = omega (arith, owner_small c.requires)

pub returns-then-owner-lt2 : goal.returns-then-owner-lt2
returns-then-owner-lt2 c = λ l. rests_as_it_is l c.if-owner-lt2.true

pub overflow_mul-at : goal.overflow_mul-at
overflow_mul-at c = omega (arith, owner_small c.requires)

pub overflow_add-at : goal.overflow_add-at
overflow_add-at c = omega (arith, owner_small c.requires)

pub overflow_add-end : goal.overflow_add-end
overflow_add-end c = omega (arith, owner_small c.requires)

pub slice_bounds-aloft-end : goal.slice_bounds-aloft-end
slice_bounds-aloft-end c = omega (arith, long c.requires, owner_small c.requires)

pub returns-then-aloft : goal.returns-then-aloft
returns-then-aloft c =
    let k : ℕ = get_or c.args.r.now 3236 0 in
    λ l. flies_on l k refl c.if-owner-lt2.false _ (part_size (talks_at + (k - 2) * talk_size)) c.aloft.result c.aloft.ensures c.if-aloft.true

pub slice_bounds-orphan-end : goal.slice_bounds-orphan-end
slice_bounds-orphan-end c = omega (arith, long c.requires)

pub returns : goal.returns
returns c =
    let k : ℕ = get_or c.args.r.now 3236 0 in
    λ l. left_alone l k refl c.if-owner-lt2.false _ (part_size (talks_at + (k - 2) * talk_size)) c.aloft.result c.aloft.ensures c.if-aloft.false c.orphan.new.f c.orphan.ensures
