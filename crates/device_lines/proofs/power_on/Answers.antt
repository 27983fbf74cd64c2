-- `device_lines::power_on` meets its contract. Assumes nothing.
use mathlib.Core.Path.{sym, ap, ◌∙◌}
use mathlib.Core.List.{List, []}
use Prim.Native.Nat.{ℕ}
use Rattle.codec.specs.Plain.{zeros}
use Rattle.layout.specs.Promise.{gives}
use Rattle.memory.proofs.Demands.{started, not_started}
use Rattle.device_lines.proofs.power_on.Goals as goal

pub returns-then-mem-ne-BOX : goal.returns-then-mem-ne-BOX
returns-then-mem-ne-BOX c =
    sym (not_started c.args.mem.now c.if-mem-ne-BOX.true)

pub returns : goal.returns
returns c =
    ap (λ (x : List ℕ). gives 0 0 [] x) (c.zero.ensures ∙ ap (λ (n : ℕ). zeros n) c.if-mem-ne-BOX.false) ∙ sym (started c.args.mem.now c.if-mem-ne-BOX.false)
