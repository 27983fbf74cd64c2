-- `store_sizes::periodic_count` meets its contract: what is left at a place is how many periodics there are from there on. Assumes nothing.
use Prim.Native.Nat.{ℕ, ◌+◌}
use mathlib.Core.Path.{◌≡◌, sym, ap, ◌∙◌}
use native.Mathlib.Omega.{arith}
use borrow.Author.Rules.{rules}
use Rattle.store_sizes.specs.Entries.{taken_from, periodics_of}
use Rattle.store_sizes.proofs.Turns.{taken_few}
use Rattle.store_sizes.proofs.Periodics.{ten_periodics, periodics_turn, periodics_end}
use Rattle.store_sizes.proofs.periodic_count.Goals as goal

counted : (c : goal.After-sum) → c.sum.result ≡ taken_from 0 (periodics_of c.args.part.now)
counted c =
    let m = c.args.part.now in
    c.sum.ensures (λ (k : ℕ). taken_from k (periodics_of m))
    (λ i x h p. periodics_turn m c.requires i h ∙ ap (λ (n : ℕ). n + taken_from (i + 1) (periodics_of m)) (sym (search rules)))
    (periodics_end m c.requires)

pub overflow_cast-result : goal.overflow_cast-result
overflow_cast-result c = record { fits = omega (arith, counted c, taken_few (periodics_of c.args.part.now), ten_periodics c.args.part.now c.requires) }

pub returns : goal.returns
returns c = counted c
