-- `filters::stop_filter` meets its contract: a number that has no filter is refused, and a place that is freed is zeros. Assumes nothing.
use mathlib.Core.Path.{◌≡◌, refl, sym, ◌∙◌}
use mathlib.Core.Bool.{true}
use mathlib.Core.List.{[]}
use mathlib.Core.Option.{none}
use native.Mathlib.Omega.{arith}
use Rattle.codec.specs.Plain.{within}
use Rattle.machine.specs.Limits.{most_places}
use Rattle.filterbank.proofs.Lent.{part_lent}
use Rattle.filters.proofs.OnRegion.{place_of, no_number, not_held, stop_unmapped, stopped}
use Rattle.filters.proofs.stop_filter.Goals as goal
use Rattle.filters.proofs.stop_filter.Goals.{Else-not-between}

-- the number is one of ten
one_of_ten : (c : goal.Else-not-between) → within 1 most_places c.args.number ≡ true
one_of_ten c = sym c.between.ensures ∙ c.if-not-between.false

pub returns-then-not-between : goal.returns-then-not-between
returns-then-not-between c =
    λ rates t. no_number c.args.r.now c.requires rates t c.args.number (sym c.between.ensures ∙ c.if-not-between.true)

pub overflow_sub-i : goal.overflow_sub-i
overflow_sub-i c = omega (arith, (place_of _ (one_of_ten c)).0)

pub bounds-r-i : goal.bounds-r-i
bounds-r-i c = let l = c.requires.long in omega (arith, (place_of _ (one_of_ten (goal.at.bounds-r-i c).Else-not-between)).1)

pub returns-then-r-i-eq0 : goal.returns-then-r-i-eq0
returns-then-r-i-eq0 c =
    λ rates t. not_held c.args.r.now c.requires rates t c.args.number (one_of_ten (goal.at.returns-then-r-i-eq0 c).Else-not-between) c.if-r-i-eq0.true

pub put_place-requires : goal.put_place-requires
put_place-requires c =
    (part_lent c.args.r.now c.requires, (place_of _ (one_of_ten (goal.at.put_place-requires c).Else-not-between)).1, refl, refl)

pub remake-requires : goal.remake-requires
remake-requires c =
    stop_unmapped c.args.r.now c.requires [] 0 c.args.number (one_of_ten (goal.at.remake-requires c).Else-not-between) c.if-r-i-eq0.false c.put_place.new.part (λ flags. c.put_place.ensures flags none refl)

pub returns : goal.returns
returns c =
    λ rates t.
    stopped c.args.r.now c.requires rates t c.args.number (one_of_ten (goal.at.returns c).Else-not-between) c.if-r-i-eq0.false c.put_place.new.part
    (λ flags. c.put_place.ensures flags none refl) c.remake.new.m c.remake.ensures
