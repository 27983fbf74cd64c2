use mathlib.Core.Path.{ap, ◌∙◌}
use mathlib.Core.List.{List}
use Prim.Native.Nat.{ℕ}
use lib.ListN.{take, drop}
use Rattle.talk_head.specs.Headed.{with_payload}
use Rattle.talk_frames.proofs.start.Goals as goal

pub returns : goal.returns
returns c = c.set_payload.ensures ∙ ap (λ (x : List ℕ). with_payload (take 6 (drop 2 c.args.bytes.now)) x) c.put_head.ensures
