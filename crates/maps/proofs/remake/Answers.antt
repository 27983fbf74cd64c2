-- `maps::remake` meets its contract: the filters stay, and the maps behind them are those that follow. Assumes nothing.
use mathlib.Core.Path.{refl, sym, subst}
use borrow.Author.Rules.{rules}
use Rattle.filterbank.specs.Part.{FilterPart}
use Rattle.maps.proofs.Parts.{behind}
use Rattle.maps.proofs.remake.Goals as goal

pub write-requires : goal.write-requires
write-requires c =
    (subst FilterPart (sym c.copy.ensures) c.requires.part, search rules)

pub returns : goal.returns
returns c =
    λ flags. behind flags c.args.m.now _ _ _ c.requires refl c.copy.ensures (c.write.ensures flags)
