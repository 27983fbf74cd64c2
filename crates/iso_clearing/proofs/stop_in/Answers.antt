-- `iso_clearing::stop_in` meets its contract: a number that has no filter is refused, and a place that is freed is zeros. Assumes nothing.
use mathlib.Core.Path.{◌≡◌, sym, ◌∙◌}
use mathlib.Core.Bool.{true}
use mathlib.Core.List.{[]}
use Prim.Native.Nat.{◌+◌, ◌-◌, ◌*◌}
use native.Mathlib.Omega.{arith}
use Rattle.codec.specs.Plain.{within}
use Rattle.iso.specs.Limits.{most_talks}
use Rattle.iso_layout.specs.Sizes.{talks_at, talk_size}
use Rattle.iso_flights.proofs.Flights.{part_size}
use Rattle.iso_clearing.proofs.Laws.{place_of, no_number, not_held, stop_lain, stopped}
use Rattle.iso_clearing.proofs.stop_in.Goals as goal
use Rattle.iso_clearing.proofs.stop_in.Goals.{Else-not-between}

-- the number is one of two
one_of_two : (c : goal.Else-not-between) → within 1 most_talks c.args.number ≡ true
one_of_two c = sym c.between.ensures ∙ c.if-not-between.false

pub returns-then-not-between : goal.returns-then-not-between
returns-then-not-between c =
    λ rates t. no_number c.args.r.now c.requires rates t c.args.number (sym c.between.ensures ∙ c.if-not-between.true)

pub overflow_sub-at : goal.overflow_sub-at
overflow_sub-at c = omega (arith, (place_of _ (one_of_two c)).0)

pub bounds-r-at : goal.bounds-r-at
bounds-r-at c = let l = c.requires.long in omega (arith, (place_of _ (one_of_two (goal.at.bounds-r-at c).Else-not-between)).1)

pub returns-then-r-at-eq0 : goal.returns-then-r-at-eq0
returns-then-r-at-eq0 c =
    λ rates t. not_held c.args.r.now c.requires rates t c.args.number (one_of_two (goal.at.returns-then-r-at-eq0 c).Else-not-between) c.if-r-at-eq0.true

pub slice_bounds-zero-end : goal.slice_bounds-zero-end
slice_bounds-zero-end c = let l = c.requires.long in omega (arith, (place_of _ (one_of_two (goal.at.slice_bounds-zero-end c).Else-not-between)).1)

pub disown-requires : goal.disown-requires
disown-requires c =
    stop_lain c.args.r.now c.requires [] 0 c.args.number (one_of_two (goal.at.disown-requires c).Else-not-between) _ (part_size (talks_at + (c.args.number - 1) * talk_size)) _ c.zero.ensures

pub returns : goal.returns
returns c =
    λ rates t.
    stopped c.args.r.now c.requires rates t c.args.number (one_of_two (goal.at.returns c).Else-not-between) _ (part_size (talks_at + (c.args.number - 1) * talk_size)) _ c.zero.ensures c.if-r-at-eq0.false
    _ c.disown.ensures
