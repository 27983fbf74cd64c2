-- `talk_head::settle` meets its contract: by whether the transfer has a payload. Assumes nothing.
use Rattle.talk_head.specs.Headed.{with_payload}
use Rattle.talk_head.proofs.Bytes.{settled_bare, settled_full}
use mathlib.Core.Path.{ap, ◌∙◌}
use Prim.Native.Nat.{ℕ}
use mathlib.Core.List.{List, []}
use borrow.Author.Tests.{lt-ltb, le-ltb}
use Rattle.talk_head.proofs.settle.Goals as goal

pub returns-then-bare : goal.returns-then-bare
returns-then-bare c =
    c.clear_payload.ensures ∙ ap (λ (x : List ℕ). with_payload [] x) c.put_head.ensures
    ∙ settled_bare c.args.h c.args.t.now (lt-ltb c.args.h.kind 2 c.if-bare.true)

pub returns-else-bare : goal.returns-else-bare
returns-else-bare c =
    c.put_head.ensures ∙ settled_full c.args.h c.args.t.now (le-ltb c.args.h.kind 2 c.if-bare.false)
