-- The filters' part of the region of an open channel, as it is lent: with the maps behind it, and without. Assumes nothing.
use mathlib.Core.Path.{◌≡◌, sym, ap, subst, ◌∙◌}
use Prim.Native.Nat.{ℕ}
use native.Mathlib.Omega.{arith}
use mathlib.Core.List.{List}
use lib.ListN.{take, drop}
use lib.Seq.{take-take}
use Rattle.layout.specs.Sizes.{filters_at, filters_size, mapped_size}
use Rattle.layout.specs.Memory.{filters}
use Rattle.layout.specs.Promise.{Opened}
use Rattle.layout.proofs.Places.{fl}
use Rattle.layout.proofs.Region.{open_of, filters_part}
use Rattle.filterbank.specs.Part.{FilterPart, MappedPart}
use Rattle.filterbank.proofs.Held.{any_flags}
use Rattle.filterbank.proofs.Mapped.{mapped_got, front}

module _ (r : List ℕ) (f : Opened r) where
  pub mapped_lent : MappedPart (take mapped_size (drop filters_at r))
  mapped_lent = let p = filters_part r f in record { flags = fl (open_of r); long = p.long; valid = p.valid }

  first : take filters_size (take mapped_size (drop filters_at r)) ≡ take filters_size (drop filters_at r)
  first = take-take filters_size mapped_size (drop filters_at r) (omega arith)

  pub part_lent : FilterPart (take filters_size (drop filters_at r))
  part_lent = subst FilterPart first (front (take mapped_size (drop filters_at r)) mapped_lent)

  pub held_is : (flags : ℕ) → (filters flags).get (take filters_size (drop filters_at r)) ≡ (open_of r).filters
  held_is flags =
      any_flags flags (fl (open_of r)) (take filters_size (drop filters_at r))
      ∙ ap (filters (fl (open_of r))).get (sym first)
      ∙ sym (mapped_got (fl (open_of r)) (take mapped_size (drop filters_at r)))
      ∙ (filters_part r f).got
