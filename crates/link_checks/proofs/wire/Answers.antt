use mathlib.Core.Path.{◌∙◌}
use mathlib.Core.Bool.{◌&&◌, ◌||◌}
use lib.ListN.{get_or}
use lib.Dec.{eqb, leb}
use Rattle.codec.specs.Word.{word_at}
use Rattle.link_checks.proofs.Tags.{wire_tag}
use Rattle.link_checks.proofs.Parts.{wire_flat}
use Rattle.link_checks.proofs.wire.Goals as goal

pub returns : goal.returns
returns c =
    let m = c.args.s.now in
    let w = c.word_at.ensures in
    (λ j. eqb (get_or m 0 0) 0 || leb (get_or m 0 0) 3 && eqb (w.0 j) 0) ∙ wire_tag (get_or m 0 0) (word_at 1 m) ∙ wire_flat m w.1
