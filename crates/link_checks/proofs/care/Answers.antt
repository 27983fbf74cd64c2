use Rattle.codec.proofs.Lists.{bytes_of_law}
use Rattle.link_checks.proofs.Parts.{care_flat}
use Rattle.link_checks.proofs.care.Goals as goal

pub returns : goal.returns
returns c = let m = c.args.s.now in care_flat m (bytes_of_law m (λ i. (c.shared_slice_known-1.given i).fits))
