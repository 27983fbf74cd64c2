-- The filters with the two maps behind them: the filters alone, and the maps as they follow. Assumes nothing.
use mathlib.Core.Path.{◌≡◌, sym, ap, subst, ◌∙◌}
use Prim.Native.Nat.{ℕ}
use native.Mathlib.Omega.{arith}
use mathlib.Core.List.{List, ◌++◌}
use lib.ListN.{take, drop}
use lib.Seq.{length-take-le}
use lib.Dec.{T}
use Rattle.codec.proofs.Tests.{left}
use Rattle.derived.specs.Derived.{derived, same_bytes}
use Rattle.derived.proofs.Derive.{derived_only}
use Rattle.map_rule.specs.Map.{maps_size, maps}
use Rattle.map_rule.proofs.ByMap.{maps_long}
use Rattle.machine.specs.Filter.{Slots, Filter}
use Rattle.layout.specs.Sizes.{filters_size}
use Rattle.layout.specs.Memory.{filters, mapped}
use Rattle.layout.proofs.Memory.{filters_lawful}
use Rattle.layout.proofs.Sizes.{filters_size_law}
use Rattle.filterbank.specs.Part.{FilterPart, MappedPart}

-- what is read of them is read of the filters
pub mapped_got : (flags : ℕ) (m : List ℕ) → (mapped flags).get m ≡ (filters flags).get (take filters_size m)
unfolding mapped derived
mapped_got flags m = ap (λ (n : ℕ). (filters flags).get (take n m)) (filters_size_law flags)

-- their bytes
pub mapped_put : (flags : ℕ) (fs : Slots Filter) → (mapped flags).put fs ≡ (filters flags).put fs ++ maps fs
unfolding mapped derived
mapped_put flags fs = λ i. (filters flags).put fs ++ maps fs

module _ (m : List ℕ) (v : MappedPart m) where
  pub front : FilterPart (take filters_size m)
  unfolding mapped derived
  front =
      let f = filters v.flags in
      let n : f.size ≡ filters_size = filters_size_law v.flags in
      record {
        flags = v.flags;
        long = length-take-le filters_size m (omega (arith, v.long));
        valid = subst (λ (k : ℕ). T (f.valid (take k m))) n (left (f.valid (take f.size m)) (same_bytes (drop f.size m) (maps (f.get (take f.size m)))) v.valid);
      }

  -- the maps are those of the filters
  pub back_is : drop filters_size m ≡ maps ((filters v.flags).get (take filters_size m))
  unfolding mapped
  back_is =
      ap (λ (k : ℕ). drop k m) (sym (filters_size_law v.flags))
      ∙ derived_only maps_size maps maps_long (filters_lawful v.flags) m v.valid
      ∙ ap maps (mapped_got v.flags m)
