-- `iso_stored::extra` meets its contract. Assumes nothing.
use Rattle.std.specs.Prelude.{if◌then◌else◌}
use mathlib.Core.Path.{ap, sym, ◌∙◌}
use mathlib.Core.Bool.{Bool}
use Prim.Native.Nat.{ℕ}
use Rattle.iso_layout.specs.Record.{extra_is}
use Rattle.iso_stored.proofs.extra.Goals as goal

pub returns-then-indication : goal.returns-then-indication
unfolding extra_is
returns-then-indication c = let size : ℕ = c.args.size in
    sym (ap (λ (b : Bool). if b then 0 else size) (sym c.indication.ensures ∙ c.if-indication.true))

pub returns-else-indication : goal.returns-else-indication
unfolding extra_is
returns-else-indication c = let size : ℕ = c.args.size in
    sym (ap (λ (b : Bool). if b then 0 else size) (sym c.indication.ensures ∙ c.if-indication.false))
