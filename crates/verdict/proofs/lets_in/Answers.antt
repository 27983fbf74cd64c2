-- `verdict::lets_in` meets its contract: by the two maps, and by what they leave of the list. Assumes nothing.
use mathlib.Core.Path.{refl, sym, ◌∙◌}
use Rattle.filterbank.proofs.Mapped.{front}
use Rattle.verdict.proofs.Kept.{heads_kept}
use Rattle.verdict.proofs.ByMaps.{kept_out, by_the_list}
use Rattle.verdict.proofs.lets_in.Goals as goal

pub returns-then-in_map : goal.returns-then-in_map
returns-then-in_map c =
    λ flags rest e. kept_out c.args.m.now c.requires.0 flags _ _ rest c.requires.2 _ refl (sym c.if-in_map.true ∙ c.in_map.ensures)

pub by_list-requires : goal.by_list-requires
by_list-requires c =
    ((front c.args.m.now c.requires.0).long, heads_kept _ (front c.args.m.now c.requires.0) _ c.others-heads.ensures, c.requires.1)

pub returns : goal.returns
returns c =
    λ flags rest e.
    by_the_list c.args.m.now c.requires.0 flags _ _ rest c.requires.2 _ _ _ _ _ _ refl refl (sym c.if-in_map.false ∙ c.in_map.ensures) c.in_map-passed.ensures
    c.others-heads.ensures c.by_list.ensures e
