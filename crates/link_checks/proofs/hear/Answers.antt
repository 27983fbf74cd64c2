use mathlib.Core.Path.{ap, ◌∙◌}
use mathlib.Core.Bool.{Bool, ◌&&◌}
use lib.ListN.{get_or}
use lib.Dec.{leb}
use Rattle.codec.proofs.Lists.{bytes_of_law}
use Rattle.link_checks.proofs.Parts.{hear_flat}
use Rattle.link_checks.proofs.hear.Goals as goal

pub returns : goal.returns
returns c =
    let m = c.args.s.now in
    ap (λ (b : Bool). leb (get_or m 1 0) 2 && (leb (get_or m 2 0) 1 && b)) c.store.ensures ∙ hear_flat m (bytes_of_law m (λ i. (c.shared_slice_known-1.given i).fits)) c.requires
