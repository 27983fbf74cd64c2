-- `validity::filters` meets its contract: the maps are asked for where the filters are valid. Assumes nothing.
use mathlib.Core.Path.{sym, ◌∙◌}
use borrow.Author.Rules.{rules}
use Rattle.ten_places.specs.Place.{places_size}
use Rattle.validity.proofs.Region.{part_there, no_filters, mapped_flat}
use Rattle.validity.proofs.filters.Goals as goal

pub valid-requires : goal.valid-requires
unfolding places_size
valid-requires c = search rules

pub returns-then-not-valid : goal.returns-then-not-valid
returns-then-not-valid c =
    no_filters c.args.flags c.args.s.now c.requires (sym c.if-not-valid.true ∙ c.valid.ensures)

pub fit-requires : goal.fit-requires
fit-requires c =
    (part_there c.args.flags c.args.s.now c.requires (sym c.if-not-valid.false ∙ c.valid.ensures), search rules)

pub returns : goal.returns
returns c =
    mapped_flat c.args.flags c.args.s.now c.requires _ (sym c.if-not-valid.false ∙ c.valid.ensures) (c.fit.ensures c.args.flags)
