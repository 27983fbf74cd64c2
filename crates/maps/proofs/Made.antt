-- The map of the filters that a region holds, one place after the other. Assumes nothing.
use Rattle.std.specs.Prelude.{if◌then◌else◌}
use mathlib.Core.Path.{◌≡◌, refl, sym, ap, ap₂, ◌∙◌, subst}
use Prim.Native.Nat.{ℕ, zero, suc, ◌+◌, ◌*◌, ◌/◌, ◌%◌, ◌≤◌, ◌<◌}
use native.Mathlib.Nat.{not-suc-le-zero, le_of_suc-le-suc}
use native.Mathlib.Numerals.{add-one}
use native.Mathlib.Omega.{arith}
use mathlib.Core.Bool.{Bool, true, false, not, ◌&&◌, ◌||◌, beq}
use mathlib.Core.Option.{Option, none, some}
use mathlib.Core.List.{List, [], ◌∷◌}
use lib.Dec.{T, eqb, leb}
use lib.ListN.{length, get_or, take, drop, length-map}
use lib.Seq.{take_all, get_or-take, get_or-drop}
use lib.Bits.{bit_and, bit_or, or_zero_r}
use borrow.Author.Tests.{not-true}
use Rattle.codec.specs.Plain.{all, zeros}
use Rattle.codec.specs.Code.{via, such, each_via}
use Rattle.codec.proofs.Tests.{right}
use Rattle.codec.proofs.Cells.{all_here}
use Rattle.machine.specs.Limits.{most_places, least_data, most_data}
use Rattle.machine.specs.Message.{id_bytes}
use Rattle.machine.specs.Filter.{Slots, Filter, any_slot, matches}
use Rattle.machine.proofs.Every.{below_at}
use Rattle.layout.specs.Sizes.{widths_in, sizes_in}
use Rattle.layout.specs.Memory.{FilterRow, filter_back, filter_fits, filter_columns, filters, taken_fits}
use Rattle.layout.proofs.Memory.{filter_fits_law}
use Rattle.filterbank.specs.Part.{FilterPart}
use Rattle.filterbank.proofs.Held.{rows_of, row_at, nothing, ten_held, held_at, type_at, width_at, size_at_law, mask_at, pattern_at_law, any_flags}
use Rattle.map_rule.specs.Map.{map_size, in_map, map_bit, packed, map_byte, map_bytes}
use Rattle.map_rule.proofs.ByMap.{counted_at}
use Rattle.map_bands.specs.Bands.{band_size, eight, band_byte, band_at, byte_for, joined}
use Rattle.map_rule.proofs.Pack.{or_packed, packed_same, packed_none, packed_if, counted_same, counted_const}
use Rattle.maps.specs.Chosen.{mask_from, pattern_from, mapped_at, none_mapped, chosen_at}
use Rattle.maps.proofs.Rows.{unset, in_byte, in_bit, filter_bit}

-- ---- places one after the other

abbrev slot_test : {A : Type 0} → (A → Bool) → Option A → Bool
slot_test p none = false
slot_test p (some a) = p a

or_none : (b : Bool) → (b || false) ≡ b
or_none true = refl
or_none false = refl

any_take : {A : Type 0} (p : A → Bool) (s : Slots A) (f : ℕ) → f < length s → any_slot p (take (suc f) s) ≡ (any_slot p (take f s) || slot_test p (get_or s f none))
unfolding any_slot
any_take p [] f h = absurd (not-suc-le-zero h)
any_take p (none ∷ s) zero h = refl
any_take p (some a ∷ s) zero h = or_none (p a)
any_take p (none ∷ s) (suc f) h = any_take p s f (le_of_suc-le-suc h)
any_take p (some a ∷ s) (suc f) h = ap (λ (b : Bool). p a || b) (any_take p s f (le_of_suc-le-suc h)) ∙ group (p a) (any_slot p (take f s)) (slot_test p (get_or s f none))
  where
    group : (x y z : Bool) → (x || (y || z)) ≡ ((x || y) || z)
    group true y z = refl
    group false y z = refl

-- no place, no bit
pub none_yet : (block : Bool) → zeros map_size ≡ map_bytes block []
unfolding map_bytes map_byte map_bit any_slot
none_yet block = sym (counted_same map_size (map_byte block []) (λ k. 0) (λ k g. packed_none 8) ∙ counted_const map_size 0)

module _ (m : List ℕ) (v : FilterPart m) (block : Bool) where
  abbrev fs : Slots Filter
  fs = (filters 0).get m

  abbrev test : ℕ → Filter → Bool
  test id f = in_map f && (beq f.block block && matches false (id_bytes id) f)

  -- the map of the first f places
  abbrev pub map_up_to : ℕ → List ℕ
  map_up_to f = map_bytes block (take f fs)

  module _ (f : ℕ) (h : f < most_places) where
    -- what is read at a place
    abbrev kind : ℕ
    kind = get_or m f 0

    abbrev width : Bool
    width = eqb 1 (get_or m (widths_in + f) 0)

    abbrev size : ℕ
    size = get_or m (sizes_in + f) 0

    abbrev mask : List ℕ
    mask = take most_data (drop (mask_from f) m)

    abbrev pattern : List ℕ
    pattern = take most_data (drop (pattern_from f) m)

    abbrev read : FilterRow
    read = (kind, (width, (size, (mask, pattern))))

    read_is : read ≡ row_at m v f h
    read_is = λ i. (type_at m v f h i, (width_at m v f h i, (size_at_law m v f h i, (mask_at m v f h i, pattern_at_law m v f h i))))

    place : get_or fs f none ≡ filter_back read
    place = held_at m v f h 0 ∙ ap filter_back (sym read_is)

    read_fits : T (filter_fits v.flags read)
    unfolding filters each_via via such
    read_fits =
        let ten : length (rows_of m v) ≡ most_places = sym (length-map (rows_of m v) filter_back) ∙ ten_held m v 0 in
        let k : f < length (rows_of m v) = omega arith in
        subst (λ (r : FilterRow). T (filter_fits v.flags r)) (sym read_is)
        (all_here (filter_fits v.flags) (rows_of m v) f (nothing m v) (right (filter_columns.valid m) (all (filter_fits v.flags) (rows_of m v)) v.valid) k)

    fits : eqb kind 0 ≡ false → T (taken_fits v.flags read)
    unfolding filter_fits
    fits there = rw there at read_fits

    -- the bytes of a row are those of the part
    byte_at : (from i at : ℕ) → i < most_data → from + i ≡ at → get_or (take most_data (drop from m)) i 0 ≡ get_or m at 0
    byte_at from i at g e = get_or-take most_data (drop from m) i 0 g ∙ get_or-drop from m i 0 ∙ ap (λ (k : ℕ). get_or m k 0) e

    abbrev hm : ℕ
    hm = get_or m (mask_from f + 2) 0

    abbrev hp : ℕ
    hp = get_or m (pattern_from f + 2) 0

    abbrev lm : ℕ
    lm = get_or m (mask_from f + 3) 0

    abbrev lp : ℕ
    lp = get_or m (pattern_from f + 3) 0

    unset_is : unset pattern ≡ (eqb 0 (get_or m (pattern_from f) 0) && eqb 0 (get_or m (pattern_from f + 1) 0))
    unset_is = ap₂ (λ (a b : ℕ). eqb 0 a && eqb 0 b) (byte_at (pattern_from f) 0 (pattern_from f) (omega arith) (omega arith)) (byte_at (pattern_from f) 1 (pattern_from f + 1) (omega arith) refl)

    byte_is : (k : ℕ) → in_byte (get_or mask 2 0) (get_or pattern 2 0) (get_or mask 3 0) (get_or pattern 3 0) k ≡ in_byte hm hp lm lp k
    byte_is k =
        ap₂ (λ (a b : Bool). a && b)
        (ap₂ (λ (x y : ℕ). eqb (bit_and (k / band_size) x) y) (byte_at (mask_from f) 2 (mask_from f + 2) (omega arith) refl) (byte_at (pattern_from f) 2 (pattern_from f + 2) (omega arith) refl))
        (ap₂ (λ (x y : ℕ). eqb (bit_and (k % band_size) (x / 8)) (y / 8)) (byte_at (mask_from f) 3 (mask_from f + 3) (omega arith) (omega arith)) (byte_at (pattern_from f) 3 (pattern_from f + 3) (omega arith) (omega arith)))

    bit_is : (j : ℕ) → in_bit (get_or mask 3 0) (get_or pattern 3 0) j ≡ in_bit lm lp j
    bit_is j =
        ap₂ (λ (x y : ℕ). eqb (bit_and j (x % 8)) (y % 8)) (byte_at (mask_from f) 3 (mask_from f + 3) (omega arith) (omega arith)) (byte_at (pattern_from f) 3 (pattern_from f + 3) (omega arith) (omega arith))

    place_bit : (k j : ℕ) → k < map_size → j < 8 → slot_test (test (k * 8 + j)) (filter_back read) ≡ ((chosen_at m block f && in_byte hm hp lm lp k) && in_bit lm lp j)
    unfolding chosen_at mapped_at in_map
    place_bit k j g l = go (eqb kind 0) refl
      where
        go : (z : Bool) → eqb kind 0 ≡ z
            → slot_test (test (k * 8 + j)) (if z then none else some (record { block = eqb kind 2; wide = width; size = size; mask = mask; pattern = pattern }))
            ≡ (((((not z && not width) && leb size least_data) && beq (eqb kind 2) block) && (eqb 0 (get_or m (pattern_from f) 0) && eqb 0 (get_or m (pattern_from f + 1) 0)) && in_byte hm hp lm lp k) && in_bit lm lp j)
        go true e = refl
        go false e =
            let x = filter_fits_law v.flags kind size width mask pattern (fits e) in
            filter_bit size mask pattern x.mask_ends x.pattern_ends block (eqb kind 2) width k j g l
            ∙ ap₂ (λ (a b : Bool). (((((not width && leb size least_data) && beq (eqb kind 2) block) && unset pattern) && a) && b)) (byte_is k) (bit_is j)
            ∙ ap (λ (u : Bool). ((((not width && leb size least_data) && beq (eqb kind 2) block) && u) && in_byte hm hp lm lp k) && in_bit lm lp j) unset_is

    -- the byte of a place
    abbrev more : Bool → ℕ → ℕ
    more keep k = if keep then byte_for hm hp lm lp k else 0

    place_byte : (k : ℕ) → k < map_size → packed 8 (λ j. slot_test (test (k * 8 + j)) (get_or fs f none)) ≡ more (chosen_at m block f) k
    unfolding byte_for band_at band_byte eight
    place_byte k g =
        packed_same 8 _ (λ j. (chosen_at m block f && in_byte hm hp lm lp k) && in_bit lm lp j) (λ j l. ap (slot_test (test (k * 8 + j))) place ∙ place_bit k j g l)
        ∙ packed_if 8 (chosen_at m block f && in_byte hm hp lm lp k) (in_bit lm lp)
        ∙ nest (chosen_at m block f) (eqb (bit_and (k / band_size) hm) hp) (eqb (bit_and (k % band_size) (lm / 8)) (lp / 8)) (packed 8 (in_bit lm lp))
      where
        nest : (a b c : Bool) (x : ℕ) → (if a && (b && c) then x else 0) ≡ (if a then (if b then (if c then x else 0) else 0) else 0)
        nest true true c x = refl
        nest true false c x = refl
        nest false b c x = refl

    one_more : (k : ℕ) → k < map_size → bit_or (get_or (map_up_to f) k 0) (more (chosen_at m block f) k) ≡ map_byte block (take (f + 1) fs) k
    unfolding map_bytes map_byte map_bit
    one_more k g =
        ap₂ bit_or (counted_at (map_byte block (take f fs)) map_size k 0 g) (sym (place_byte k g))
        ∙ or_packed 8 (λ j. any_slot (test (k * 8 + j)) (take f fs)) (λ j. slot_test (test (k * 8 + j)) (get_or fs f none))
        ∙ packed_same 8 _ _
        (λ j l.
        sym (any_take (test (k * 8 + j)) fs f (omega (arith, ten_held m v 0)))
        ∙ ap (λ (n : ℕ). any_slot (test (k * 8 + j)) (take n fs)) (sym (add-one f)))

    -- A FILTER OF THE MAP MORE
    pub put_in : (map out : List ℕ) (keep : Bool) → map ≡ map_up_to f → keep ≡ chosen_at m block f → keep ≡ true → out ≡ joined map hm hp lm lp → out ≡ map_up_to (f + 1)
    unfolding joined map_bytes
    put_in map out keep e c t o =
        o
        ∙ ap (λ (x : List ℕ). joined x hm hp lm lp) e
        ∙ counted_same map_size _ (map_byte block (take (f + 1) fs)) (λ k g. ap (λ (b : Bool). bit_or (get_or (map_up_to f) k 0) (more b k)) (sym t ∙ c) ∙ one_more k g)

    -- another filter, or none
    pub left_out : (map : List ℕ) → map ≡ map_up_to f → chosen_at m block f ≡ false → map ≡ map_up_to (f + 1)
    unfolding map_bytes
    left_out map e t =
        e
        ∙ counted_same map_size (map_byte block (take f fs)) (map_byte block (take (f + 1) fs))
        (λ k g.
        sym (counted_at (map_byte block (take f fs)) map_size k 0 g)
        ∙ sym (or_zero_r (get_or (map_up_to f) k 0))
        ∙ ap (λ (b : Bool). bit_or (get_or (map_up_to f) k 0) (more b k)) (sym t)
        ∙ one_more k g)

  pub all_ten : (flags : ℕ) → map_up_to most_places ≡ map_bytes block ((filters flags).get m)
  all_ten flags = ap (map_bytes block) (take_all most_places fs (omega (arith, ten_held m v 0)) ∙ any_flags 0 flags m)

  -- no filter of the map, no bit
  no_bits : true ≡ none_mapped m → (f : ℕ) → f ≤ most_places → zeros map_size ≡ map_up_to f
  unfolding none_mapped chosen_at
  no_bits z zero h = none_yet block
  no_bits z (suc f) h =
      let k : f < most_places = omega arith in
      let e : mapped_at m f ≡ false = not-true _ (below_at (λ f. not (mapped_at m f)) most_places f (sym z) k) in
      left_out f k (zeros map_size) (no_bits z f (omega arith)) (ap (λ (b : Bool). b && beq (eqb (get_or m f 0) 2) block && (eqb 0 (get_or m (pattern_from f) 0) && eqb 0 (get_or m (pattern_from f + 1) 0))) e)
      ∙ ap map_up_to (add-one f)

  pub none_held : true ≡ none_mapped m → (flags : ℕ) → zeros map_size ≡ map_bytes block ((filters flags).get m)
  none_held z flags = no_bits z most_places (omega arith) ∙ all_ten flags
