-- `store_sizes::periodic_size` meets its contract. Assumes nothing.
use Prim.Native.Nat.{ℕ, ◌+◌}
use mathlib.Core.Path.{sym, ap, ◌∙◌}
use native.Mathlib.Omega.{arith}
use lib.ListN.{length}
use Rattle.number.specs.Number.{bytes_of}
use Rattle.number.proofs.Laws.{written_short}
use Rattle.store_sizes.proofs.Periodics.{no_bytes, some_bytes}
use Rattle.store_sizes.proofs.periodic_size.Goals as goal

pub returns-then-interval-eq0 : goal.returns-then-interval-eq0
returns-then-interval-eq0 c = no_bytes c.args.part.now c.requires.0 c.args.i c.requires.1 (sym c.word_at-interval.ensures.0 ∙ c.if-interval-eq0.true)

pub overflow_add-result : goal.overflow_add-result
overflow_add-result c = record { fits = omega (arith, c.number_size.ensures, (written_short c.word_at-interval.result).1) }

pub returns : goal.returns
returns c =
    let m = c.args.part.now in
    let i = c.args.i in
    let w = c.word_at-interval in
    ap (λ (k : ℕ). 37 + k) (c.number_size.ensures ∙ ap (λ (k : ℕ). length (bytes_of k)) w.ensures.0) ∙ some_bytes m c.requires.0 i c.requires.1 (λ e. c.if-interval-eq0.false (w.ensures.0 ∙ e))
