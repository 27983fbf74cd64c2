use mathlib.Core.Path.{◌∙◌}
use lib.ListN.{get_or}
use lib.Dec.{eqb, leb}
use Rattle.codec.specs.Word.{word_at}
use Rattle.link_checks.specs.Tagged.{by_tag}
use Rattle.link_checks.proofs.Tags.{exit_tag}
use Rattle.link_checks.proofs.Parts.{leaves_flat}
use Rattle.link_checks.proofs.leaves.Goals as goal

pub returns : goal.returns
returns c =
    let m = c.args.s.now in
    let w = c.word_at-us.ensures in
    c.by_tag.ensures ∙ (λ j. by_tag (get_or m 0 0) (leb (w.0 j) 6300000) (leb (w.0 j) 255) (eqb (w.0 j) 0)) ∙ exit_tag (get_or m 0 0) (word_at 1 m) ∙ leaves_flat m w.1
