-- `ten_places::place` meets its contract, for periodics and for filters. Assumes nothing.
use Rattle.ten_places.specs.Place.{places_size, place_good}
use mathlib.Core.Bool.{Bool}
use mathlib.Core.Path.{ap, ◌∙◌, sym}
use Rattle.ten_places.proofs.place.Goals as goal

pub periodic-requires : goal.periodic-requires
unfolding places_size
periodic-requires c = (c.requires.0 ∙ ap places_size c.if-timed.true, c.requires.1)

pub returns-then-timed : goal.returns-then-timed
unfolding place_good
returns-then-timed c = c.periodic.ensures ∙ ap (λ (b : Bool). place_good b c.args.flags c.args.i c.args.s.now) (sym c.if-timed.true)

pub filter-requires : goal.filter-requires
unfolding places_size
filter-requires c = (c.requires.0 ∙ ap places_size c.if-timed.false, c.requires.1)

pub returns : goal.returns
unfolding place_good
returns c = c.filter.ensures ∙ ap (λ (b : Bool). place_good b c.args.flags c.args.i c.args.s.now) (sym c.if-timed.false)
