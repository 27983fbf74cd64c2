-- `link_starts::put_which` meets its contract: the number, then which. Assumes nothing.
use mathlib.Core.Path.{◌∙◌, ap}
use Prim.Native.Nat.{ℕ}
use mathlib.Core.List.{List, ◌∷◌}
use Rattle.codec.proofs.Lists.{marked}
use Rattle.link_starts.proofs.put_which.Goals as goal

pub returns : goal.returns
returns c = marked 4 c.args.which c.args.s.now _ c.requires ∙ ap {B = List ℕ} (λ (x : List ℕ). c.args.which ∷ x) c.put_word.ensures
