use mathlib.Core.Path.{◌∙◌}
use mathlib.Core.Bool.{◌&&◌}
use Rattle.codec.proofs.Lists.{bytes_of_law}
use Rattle.stored_records.proofs.Parts.{Bytes}
use Rattle.link_standing.proofs.Limits.{parts_flat}
use Rattle.link_standing.proofs.parts.Goals as goal

pub returns : goal.returns
returns c =
    let m = c.args.s.now in
    let t : Bytes m = bytes_of_law m (λ i. (c.shared_slice_known-1.given i).fits) in
    (λ j. c.wire.ensures j && (c.care.ensures j && (c.out.ensures j && c.hear.ensures j))) ∙ parts_flat m c.requires t
