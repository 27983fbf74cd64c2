-- What the verdict reads in the columns of the filters is what is held. Assumes nothing.
use mathlib.Core.Path.{◌≡◌, sym, ap, ap₂, subst, ◌∙◌}
use Prim.Native.Nat.{ℕ, ◌+◌, ◌*◌, ◌≤◌, ◌<◌}
use native.Mathlib.Omega.{arith}
use mathlib.Core.Bool.{Bool, true, false}
use mathlib.Core.Option.{Option, none}
use mathlib.Core.List.{List, []}
use lib.Dec.{eqb}
use lib.ListN.{length, get_or, take, drop}
use lib.Seq.{get_or-take, ext_get_or, length-take-le}
use Rattle.machine.specs.Limits.{most_places, most_data}
use Rattle.machine.specs.Filter.{Slots, Filter, passes}
use Rattle.layout.specs.Sizes.{widths_in, sizes_in, masks_in, patterns_in}
use Rattle.layout.specs.Memory.{filter_back, filters}
use Rattle.filterbank.specs.Part.{FilterPart}
use Rattle.filterbank.proofs.Held.{row_at, ten_held, held_at, type_at, width_at, size_at_law, mask_at, pattern_at_law, kind_known, size_small}
use Rattle.filterwalk.specs.Columns.{listed, Heads, none_of, ten_rows, filter_at, filters_in}
use Rattle.filterwalk.proofs.Listed.{listed_long, listed_at}

module _ (m : List ℕ) (v : FilterPart m) where
  abbrev columns : ℕ → Option Filter
  columns = filter_at (take masks_in m) (ten_rows masks_in m) (ten_rows patterns_in m)

  -- what is found at a place is what is held there
  found_at : (i : ℕ) (h : i < most_places) → columns i ≡ filter_back (row_at m v i h)
  unfolding filter_at ten_rows
  found_at i h =
      let byte_at : (k : ℕ) → k < masks_in → get_or (take masks_in m) k 0 ≡ get_or m k 0 = λ k l. get_or-take masks_in m k 0 l in
      let row_at_law : (at : ℕ) → get_or (ten_rows at m) i [] ≡ take most_data (drop (at + i * most_data) m) = λ at. listed_at (λ f. take most_data (drop (at + f * most_data) m)) most_places i [] h in
      ap filter_back
      (λ j. (
        (byte_at i (omega arith) ∙ type_at m v i h) j,
        ((ap (eqb 1) (byte_at (widths_in + i) (omega arith)) ∙ width_at m v i h) j, ((byte_at (sizes_in + i) (omega arith) ∙ size_at_law m v i h) j, ((row_at_law masks_in ∙ mask_at m v i h) j, (row_at_law patterns_in ∙ pattern_at_law m v i h) j))),
      ))

  -- the ten filters of the columns are those that are held
  pub columns_held : (flags : ℕ) → filters_in (take masks_in m) (ten_rows masks_in m) (ten_rows patterns_in m) ≡ (filters flags).get m
  unfolding filters_in
  columns_held flags =
      let ten : length (listed most_places columns) ≡ most_places = listed_long columns most_places in
      ext_get_or none (listed most_places columns) ((filters flags).get m) (ten ∙ sym (ten_held m v flags))
      (λ i h. let k : i < most_places = omega arith in listed_at columns most_places i none k ∙ found_at i k ∙ sym (held_at m v i k flags))

  -- the heads of the filters that are held, as they are lent
  pub heads_held : Heads (take masks_in m)
  heads_held =
      record {
        long = length-take-le masks_in m (omega (arith, v.long));
        kinds = λ f h. subst (λ (k : ℕ). k ≤ 2) (sym (get_or-take masks_in m f 0 (omega arith))) (kind_known m v f h);
        sizes = λ f h. subst (λ (k : ℕ). k ≤ most_data) (sym (get_or-take masks_in m (sizes_in + f) 0 (omega arith))) (size_small m v f h);
      }
