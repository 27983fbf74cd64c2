use mathlib.Core.Path.{◌∙◌}
use native.Mathlib.Omega.{arith}
use Rattle.link_store.proofs.Stores.{counted, most}
use Rattle.link_store.proofs.count.Goals as goal

pub returns : goal.returns
returns c =
    let is = counted c.args.s.now c.requires.0 c.requires.1 in
    (c.word_at.ensures.0 ∙ is, omega (arith, c.word_at.ensures.0, is, most c.args.s.now c.requires.0 c.requires.1))
