use mathlib.Core.Path.{ap, ◌∙◌}
use mathlib.Core.Bool.{Bool, ◌&&◌}
use lib.ListN.{get_or}
use lib.Dec.{eqb, leb}
use Rattle.codec.specs.Plain.{within}
use Rattle.codec.specs.Word.{word_at}
use Rattle.link.specs.Connection.{t_e, mntc}
use Rattle.link_checks.specs.Tagged.{by_tag}
use Rattle.link_checks.proofs.Tags.{trial_tag}
use Rattle.link_checks.proofs.Parts.{trials_flat}
use Rattle.link_checks.proofs.trials.Goals as goal

pub returns : goal.returns
unfolding within
returns c =
    let m = c.args.s.now in
    let w = c.word_at-us.ensures in
    ap (λ (b : Bool). leb (get_or m 0 0) mntc && b)
    (c.by_tag.ensures ∙ (λ j. by_tag (get_or m 1 0) (eqb (w.0 j) 0) (eqb (w.0 j) 0) (within 1 t_e (w.0 j))) ∙ trial_tag (get_or m 1 0) (word_at 2 m))
    ∙ trials_flat m w.1
