use mathlib.Core.Path.{◌∙◌}
use Rattle.link.specs.Connection.{asked_fits}
use Rattle.link_asking.specs.Asking.{asked_of}
use Rattle.link_asking.proofs.Laws.{asked_flat}
use Rattle.link_asking.proofs.asked.Goals as goal

pub returns : goal.returns
returns c =
    c.asked_fits.ensures
    ∙ (λ j. asked_fits (asked_of (c.word_at.ensures.0 j) (c.wide.ensures.0 j) (c.word_at-2.ensures.0 j) (c.wide-2.ensures.0 j) (c.wide-3.ensures.0 j) (c.wide-4.ensures.0 j) (c.wide-5.ensures.0 j)))
    ∙ asked_flat c.args.s.now c.word_at.ensures.1
