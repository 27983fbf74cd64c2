use mathlib.Core.Path.{ap, ◌∙◌}
use Prim.Native.Nat.{ℕ}
use Rattle.codec.specs.Plain.{zeros}
use Rattle.link_store.proofs.Stores.{none_put}
use Rattle.link_store.proofs.clear.Goals as goal

pub returns : goal.returns
returns c = c.zero.ensures ∙ ap (λ (n : ℕ). zeros n) c.requires ∙ none_put
