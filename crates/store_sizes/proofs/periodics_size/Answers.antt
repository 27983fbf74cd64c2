-- `store_sizes::periodics_size` meets its contract: what is left at a place is how many bytes the periodics from there on take. Assumes nothing.
use Prim.Native.Nat.{ℕ, ◌+◌}
use native.Mathlib.Omega.{arith}
use mathlib.Core.Path.{◌≡◌, sym, ap, ◌∙◌}
use mathlib.Core.Option.{none}
use lib.ListN.{length, get_or}
use borrow.Author.Rules.{rules}
use Rattle.machine.specs.Store.{periodic_bytes}
use Rattle.store_sizes.specs.Entries.{entry_of, entries_from, periodics_of}
use Rattle.store_sizes.proofs.Periodics.{bytes_turn, bytes_end, few_bytes}
use Rattle.store_sizes.proofs.periodics_size.Goals as goal

pub sum-requires : goal.sum-requires
sum-requires c =
    let m = c.args.part.now in
    λ i h. (
      search rules,
      λ x p.
          let e : x ≡ length (entry_of periodic_bytes i (get_or (periodics_of m) i none)) = search rules in
          omega (arith, e, few_bytes m c.requires i h),
    )

pub returns : goal.returns
returns c =
    let m = c.args.part.now in
    c.sum.ensures (λ (k : ℕ). length (entries_from periodic_bytes k (periodics_of m)))
    (λ i x h p. bytes_turn m c.requires i h ∙ ap (λ (n : ℕ). n + length (entries_from periodic_bytes (i + 1) (periodics_of m))) (sym (search rules)))
    (bytes_end m c.requires)
