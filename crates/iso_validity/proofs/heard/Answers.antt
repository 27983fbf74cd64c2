-- `iso_validity::heard` meets its contract. Assumes nothing.
use Rattle.iso_validity.proofs.Ready.{heard_flat}
use Rattle.codec.proofs.Lists.{bytes_of_law}
use Rattle.iso_layout.specs.Sizes.{heard_size}
use lib.ListN.{get_or}
use lib.Dec.{leb}
use Prim.Native.Nat.{ℕ}
use mathlib.Core.List.{List}
use mathlib.Core.Bool.{Bool, ◌&&◌}
use mathlib.Core.Path.{ap, ◌∙◌}
use Rattle.iso_validity.proofs.heard.Goals as goal

pub returns : goal.returns
returns c = let s : List ℕ = c.args.s.now in
    ap (λ (x : Bool). x && leb (get_or s heard_size 0) 1) c.store.ensures ∙ heard_flat c.args.flags s (bytes_of_law s (λ i. (c.shared_slice_known-2-1.given i).fits))
