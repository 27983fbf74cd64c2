-- `iso_giving::fly` meets its contract: width and flow as they stand in the place. Assumes nothing.
use mathlib.Core.Path.{refl, sym, ◌∙◌}
use Rattle.iso_giving.proofs.Flying.{flies_there}
use Rattle.iso_giving.proofs.fly.Goals as goal

pub returns : goal.returns
returns c =
    let launched = c.launch in
    λ l t w e eo.
    flies_there l c.args.k c.requires.1 t e w c.args.bytes.now _ _ refl c.word_at-id.ensures.0 launched.new.f (λ flags w q. launched.ensures flags w (q ∙ sym c.owner_of-owner.ensures)) eo
