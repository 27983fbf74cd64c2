-- What validity is of the parts of a region and of a region, as code finds it out. Assumes nothing.
use mathlib.Core.Path.{◌≡◌, refl, sym, ap, ap₂, subst, ◌∙◌}
use Prim.Native.Nat.{ℕ, zero, suc, ◌+◌, ◌-◌}
use native.Mathlib.Omega.{arith}
use mathlib.Core.Bool.{Bool, true, false, ◌&&◌}
use mathlib.Core.List.{List}
use lib.ListN.{length, get_or, take, drop}
use lib.Seq.{get_or-take, drop-drop, length-take-le}
use lib.Dec.{leb, T}
use Rattle.codec.specs.Plain.{member, all_zero, is_byte}
use Rattle.codec.specs.Word.{word_at}
use Rattle.codec.specs.Code.{Code, byte, word32, both, both_on, via, such, mark, slot, up_to, up_to_one, valid_slot}
use Rattle.codec.proofs.Word.{word_part, word_drop}
use Rattle.machine.specs.Codes.{three_rates, call_codes}
use Rattle.machine.specs.Channel.{is_raw_flags}
use Rattle.machine.specs.Limits.{most_written, most_to_read}
use Rattle.layout.specs.Sizes.{config_size, filters_size, mapped_size, periodics_size, written_size, flight_size, queue_size, sending_size, receiving_size, flags_at, filters_at, periodics_at, receiving_at, last_at, link_at, region_size}
use Rattle.layout.specs.Record.{out_cell, in_cell}
use Rattle.layout.specs.Memory.{config_fits, config, filters, mapped, periodics, sending_part, receiving_part, last_part, link_part, rest, open_part, region}
use Rattle.layout.proofs.Places.{Lasts, Ends, Behind}
use Rattle.link_layout.specs.Sizes.{link_size}
use Rattle.codec.proofs.Lists.{all_take}
use Rattle.layout.proofs.Sizes.{filters_size_law, mapped_size_law, periodics_size_law, written_size_law, queue_size_law, sending_size_law, receiving_size_law, last_size, config_size_law}
use Rattle.map_rule.specs.Map.{maps_size, maps}
use Rattle.derived.specs.Derived.{derived, same_bytes}
use Rattle.filterbank.specs.Part.{FilterPart}
use Rattle.stored_records.specs.Held.{cell}
use Rattle.ten_places.specs.Place.{places_valid}
use Rattle.stored_records.proofs.Parts.{Bytes, less, rest_part, behind_word, both_is, mark_is, byte_valid, at_rest}

-- a byte is its first
byte_got : (m : List ℕ) → byte.get m ≡ get_or m 0 0
unfolding byte
byte_got m = refl

-- ---- the configuration

abbrev Settings : Code (ℕ × (ℕ × Bool))
Settings = both word32 (both word32 mark)

settings_is : (m : List ℕ) → Bytes m → Settings.valid m ≡ leb (get_or m 8 0) 1
settings_is m t =
    behind_word (both word32 mark) m t ∙ behind_word mark (drop 4 m) (less 4 m t) ∙ ap mark.valid (drop-drop 4 4 m) ∙ mark_is (drop 8 m) (less 8 m t) ∙ ap (λ (k : ℕ). leb k 1) (at_rest 8 m)

first_word : (m : List ℕ) → (Settings.get m).0 ≡ word_at 0 m
unfolding both word32
first_word m = word_part 0 m

second_word : (m : List ℕ) → (Settings.get m).1.0 ≡ word_at 4 m
unfolding both word32
second_word m = word_part 4 m

pub config_flat : (m : List ℕ) → Bytes m → (leb (get_or m 8 0) 1 && (is_raw_flags (word_at 0 m) && member (word_at 4 m) three_rates)) ≡ config.valid m
unfolding config via such config_fits
config_flat m t = sym (λ j. settings_is m t j && (is_raw_flags (first_word m j) && member (second_word m j) three_rates))

-- ---- the parts of an open channel

module _ (flags : ℕ) where
  -- the filters and the maps
  module _ (m : List ℕ) (h : length m ≡ mapped_size) where
    part_is : (k : ℕ) → k ≡ filters_size → take k m ≡ take filters_size m
    part_is k e = ap (λ (n : ℕ). take n m) e

    pub part_there : true ≡ places_valid false flags (take filters_size m) → FilterPart (take filters_size m)
    unfolding places_valid
    part_there e = record { flags = flags; long = length-take-le filters_size m (omega arith); valid = subst T e tt }

    pub no_filters : false ≡ places_valid false flags (take filters_size m) → false ≡ (mapped flags).valid m
    unfolding mapped derived places_valid
    no_filters e =
        sym (ap (λ (k : ℕ). (filters flags).valid (take k m) && same_bytes (drop k m) (maps ((filters flags).get (take k m)))) (filters_size_law flags)
        ∙ ap (λ (b : Bool). b && same_bytes (drop filters_size m) (maps ((filters flags).get (take filters_size m)))) (sym e))

    pub mapped_flat : (b : Bool) → true ≡ places_valid false flags (take filters_size m) → b ≡ same_bytes (take maps_size (drop filters_size m)) (maps ((filters flags).get (take filters_size m))) → b ≡ (mapped flags).valid m
    unfolding mapped derived places_valid
    mapped_flat b e s =
        s
        ∙ ap (λ (x : List ℕ). same_bytes x (maps ((filters flags).get (take filters_size m)))) (rest_part filters_size maps_size m h)
        ∙ sym (ap (λ (k : ℕ). (filters flags).valid (take k m) && same_bytes (drop k m) (maps ((filters flags).get (take k m)))) (filters_size_law flags)
        ∙ ap (λ (b : Bool). b && same_bytes (drop filters_size m) (maps ((filters flags).get (take filters_size m)))) (sym e))

  pub sending_flat : (m : List ℕ) → length m ≡ sending_size
      → (places_valid true flags (take periodics_size m) && ((up_to most_written (cell true flags)).valid (take written_size (drop periodics_size m)) && (up_to 1 (cell true flags)).valid (take flight_size (drop (periodics_size + written_size) m)))) ≡ (sending_part flags).valid m
  unfolding sending_part via up_to_one cell places_valid
  sending_flat m h =
      sym (both_is (periodics flags) (both (up_to most_written (out_cell flags)) (up_to_one (out_cell flags))) periodics_size m (periodics_size_law flags)
      ∙ ap (λ (b : Bool). (periodics flags).valid (take periodics_size m) && b)
      (both_is (up_to most_written (out_cell flags)) (up_to_one (out_cell flags)) written_size (drop periodics_size m) (written_size_law flags)
      ∙ ap (λ (x : List ℕ). (up_to most_written (out_cell flags)).valid (take written_size (drop periodics_size m)) && (up_to 1 (out_cell flags)).valid x) (drop-drop written_size periodics_size m ∙ sym (rest_part (periodics_size + written_size) flight_size m h))))

  pub receiving_flat : (m : List ℕ) → Bytes m → ((up_to most_to_read (cell false flags)).valid (take queue_size m) && leb (get_or m queue_size 0) 1) ≡ (receiving_part flags).valid m
  unfolding receiving_part via cell
  receiving_flat m t =
      sym (both_is (up_to most_to_read (in_cell flags)) mark queue_size m (queue_size_law flags)
      ∙ ap (λ (b : Bool). (up_to most_to_read (in_cell flags)).valid (take queue_size m) && b) (mark_is (drop queue_size m) (less queue_size m t) ∙ ap (λ (k : ℕ). leb k 1) (at_rest queue_size m)))

  -- the last code, and the connection behind it
  last_flat : (m : List ℕ) → Bytes m → last_part.valid (take 1 (drop last_at m)) ≡ member (get_or m last_at 0) call_codes
  unfolding last_part such
  last_flat m t =
      let x : List ℕ = drop last_at m in
      ap₂ (λ (b : Bool) (k : ℕ). b && member k call_codes) (byte_valid (take 1 x) (all_take is_byte 1 x (less last_at m t))) (byte_got (take 1 x) ∙ get_or-take 1 x 0 0 (omega arith) ∙ at_rest last_at m)

  lasts_flat : (m : List ℕ) → Bytes m → length m ≡ region_size
      → (Lasts flags).valid (drop last_at m) ≡ (member (get_or m last_at 0) call_codes && (link_part flags).valid (take link_size (drop link_at m)))
  lasts_flat m t h =
      both_is last_part (link_part flags) 1 (drop last_at m) last_size
      ∙ ap₂ (λ (a : Bool) (x : List ℕ). a && (link_part flags).valid x) (last_flat m t) (drop-drop 1 last_at m ∙ sym (rest_part link_at link_size m h))

  -- what lies behind the configuration, each part where it begins in the region
  abbrev pub rest_tests : List ℕ → Bool
  rest_tests m =
      (mapped flags).valid (take mapped_size (drop filters_at m))
      && ((sending_part flags).valid (take sending_size (drop periodics_at m))
      && ((receiving_part flags).valid (take receiving_size (drop receiving_at m)) && (member (get_or m last_at 0) call_codes && (link_part flags).valid (take link_size (drop link_at m)))))

  rest_flat : (m : List ℕ) → Bytes m → length m ≡ region_size → (rest flags).valid (drop filters_at m) ≡ rest_tests m
  unfolding rest
  rest_flat m t h =
      both_is (mapped flags) (Behind flags) mapped_size (drop filters_at m) (mapped_size_law flags)
      ∙ ap (λ (b : Bool). (mapped flags).valid (take mapped_size (drop filters_at m)) && b)
      (ap (λ (x : List ℕ). (Behind flags).valid x) (drop-drop mapped_size filters_at m)
      ∙ both_is (sending_part flags) (Ends flags) sending_size (drop periodics_at m) (sending_size_law flags)
      ∙ ap (λ (b : Bool). (sending_part flags).valid (take sending_size (drop periodics_at m)) && b)
      (ap (λ (x : List ℕ). (Ends flags).valid x) (drop-drop sending_size periodics_at m)
      ∙ both_is (receiving_part flags) (Lasts flags) receiving_size (drop receiving_at m) (receiving_size_law flags)
      ∙ ap (λ (b : Bool). (receiving_part flags).valid (take receiving_size (drop receiving_at m)) && b)
      (ap (λ (x : List ℕ). (Lasts flags).valid x) (drop-drop receiving_size receiving_at m) ∙ lasts_flat m t h)))

-- the flags stand at the front
word_take : (m : List ℕ) → word_at 0 (take config_size m) ≡ word_at 0 m
unfolding word_at
word_take m = omega (arith, get_or-take 9 m 0 0 (omega arith), get_or-take 9 m 1 0 (omega arith), get_or-take 9 m 2 0 (omega arith), get_or-take 9 m 3 0 (omega arith))

pub config_key : (m : List ℕ) → (config.get (take config_size (drop flags_at m))).flags ≡ word_at flags_at m
unfolding config such via
config_key m = first_word (take config_size (drop flags_at m)) ∙ word_take (drop flags_at m) ∙ word_drop 0 flags_at m

pub open_flat : (m : List ℕ) → Bytes m → length m ≡ region_size
    → (config.valid (take config_size (drop flags_at m)) && rest_tests (word_at flags_at m) m) ≡ open_part.valid (drop flags_at m)
unfolding open_part via both_on
open_flat m t h =
    let c : Bool = config.valid (take config_size (drop flags_at m)) in
    sym (ap (λ (k : ℕ). config.valid (take k (drop flags_at m)) && (rest (config.get (take k (drop flags_at m))).flags).valid (drop k (drop flags_at m))) config_size_law
    ∙ ap₂ (λ (k : ℕ) (x : List ℕ). c && (rest k).valid x) (config_key m) (drop-drop config_size flags_at m)
    ∙ ap (λ (b : Bool). c && b) (rest_flat (word_at flags_at m) m t h))

-- ---- a region

module _ (m : List ℕ) where
  pub region_closed : length m ≡ region_size → get_or m 0 0 ≡ 0 → all_zero (take (region_size - flags_at) (drop flags_at m)) ≡ region.valid m
  unfolding region via slot
  region_closed h e =
      ap (λ (x : List ℕ). all_zero x) (rest_part flags_at (region_size - flags_at) m h) ∙ ap (λ (k : ℕ). valid_slot open_part k (drop flags_at m)) (sym e)

  pub region_open : get_or m 0 0 ≡ 1 → open_part.valid (drop flags_at m) ≡ region.valid m
  unfolding region via slot
  region_open e = ap (λ (k : ℕ). valid_slot open_part k (drop flags_at m)) (sym e)

  pub region_neither : (get_or m 0 0 ≡ 0 → ⊥) → (get_or m 0 0 ≡ 1 → ⊥) → false ≡ region.valid m
  unfolding region via slot
  region_neither a b = go (get_or m 0 0) a b
    where
      go : (k : ℕ) → (k ≡ 0 → ⊥) → (k ≡ 1 → ⊥) → false ≡ valid_slot open_part k (drop flags_at m)
      go zero a b = absurd (a refl)
      go (suc zero) a b = absurd (b refl)
      go (suc (suc k)) a b = refl
