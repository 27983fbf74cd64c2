-- Which channels are found, in a valid memory. Assumes nothing.
use mathlib.Core.Path.{◌≡◌, refl, ap, subst, ◌∙◌}
use Prim.Native.Nat.{ℕ, suc, ◌+◌, ◌*◌, ◌-◌, ◌≤◌, ◌<◌}
use native.Mathlib.Omega.{arith}
use mathlib.Core.Bool.{Bool, true, false}
use mathlib.Core.List.{List}
use lib.ListN.{length, get_or}
use lib.Dec.{T, ltb}
use borrow.Author.Tests.{lt-ltb, le-ltb, ltb-true, ltb-false}
use Rattle.codec.specs.Plain.{within}
use Rattle.machine.specs.Limits.{lines}
use Rattle.machine.specs.Channel.{Call, lent}
use Rattle.machine.specs.Step.{call}
use Rattle.layout.specs.Promise.{gives}
use Rattle.iso_layout.specs.Sizes.{iso_region_size}
use Rattle.whole.specs.Device.{channels}
use Rattle.memory.specs.Sizes.{isos_at, raw_at, iso_at_byte}
use Rattle.memory.specs.Memory.{valid}
use Rattle.memory.specs.Promise.{outcome, RawSeat, IsoSeat}
use Rattle.seats.specs.Seated.{Refused, Seated}
use Rattle.seats.specs.declared.Seat.{Seat}
use Rattle.seats.specs.declared.Seat.TheVariants.{Raw, Iso}
use Rattle.std.specs.Prelude.{Some}
use Rattle.memory.specs.Runs.{place_at}
use Rattle.memory.proofs.Memory.{valid_long}
use Rattle.memory.proofs.Rows.{raws, isos}
use Rattle.memory.proofs.Entry.{raw_kind, iso_kind}
use Rattle.memory.proofs.Seats.{no_channel, not_open, is_seat}

-- the two halves of the eight places
pub place_raw : (i : ℕ) → i < lines → place_at i ≡ raw_at i
unfolding place_at
place_raw i h = rw (lt-ltb i lines h) refl

pub place_iso : (i : ℕ) → lines ≤ i → place_at i ≡ iso_at_byte (i - lines)
unfolding place_at
place_iso i h = rw (le-ltb i lines h) refl

module _ (m : List ℕ) (v : T (valid m)) (k : ℕ) where
  -- no channel has that number
  pub none_such : within 1 channels k ≡ false → Refused m k
  none_such h = no_channel m v k h

  module _ (low : 1 ≤ k) (high : k ≤ channels) (base : ℕ) (is : base ≡ place_at (k - 1)) where
    in_raws : k - 1 < lines → base ≡ raw_at (k - 1)
    in_raws h = is ∙ place_raw (k - 1) h

    in_isos : lines ≤ k - 1 → base ≡ isos_at + (k - suc lines) * iso_region_size
    in_isos h = let same : k - 1 - lines ≡ k - suc lines = omega arith in is ∙ place_iso (k - 1) h ∙ ap iso_at_byte same

    -- a channel that is closed
    pub none_open : get_or m base 0 ≡ 0 → Refused m k
    unfolding raw_kind iso_kind raws isos
    none_open z = by (ltb (k - 1) lines) refl
      where
        by : (b : Bool) → ltb (k - 1) lines ≡ b → (rates : List ℕ) (x : Call) → gives 0x02 0 (lent x) m ≡ outcome rates m (call k x)
        by true q = let h = ltb-true (k - 1) lines q in not_open m v raw_kind k base (omega arith) (omega arith) (in_raws h) z
        by false q = let h = ltb-false (k - 1) lines q in not_open m v iso_kind k base (omega arith) (omega arith) (in_isos h) z

    -- one that is open
    module _ (n : get_or m base 0 ≡ 0 → ⊥) where
      pub raw_open : base < isos_at → RawSeat m k base
      unfolding raw_kind iso_kind raws isos
      raw_open = raw_by (ltb (k - 1) lines) refl
        where
          raw_by : (b : Bool) → ltb (k - 1) lines ≡ b → base < isos_at → RawSeat m k base
          raw_by true q l = let h = ltb-true (k - 1) lines q in is_seat m v raw_kind k base (omega arith) (omega arith) (in_raws h) n
          raw_by false q l = let h = in_isos (ltb-false (k - 1) lines q) in absurd (omega arith)

      pub iso_open : isos_at ≤ base → IsoSeat m k base
      unfolding raw_kind iso_kind raws isos
      iso_open = iso_by (ltb (k - 1) lines) refl
        where
          iso_by : (b : Bool) → ltb (k - 1) lines ≡ b → isos_at ≤ base → IsoSeat m k base
          iso_by true q l = let h = ltb-true (k - 1) lines q in let e = in_raws h in absurd (omega arith)
          iso_by false q l = let h = ltb-false (k - 1) lines q in is_seat m v iso_kind k base (omega arith) (omega arith) (in_isos h) n

    -- its first byte is in the memory
    pub in_memory : base < length m
    in_memory = by (ltb (k - 1) lines) refl
      where
        by : (b : Bool) → ltb (k - 1) lines ≡ b → base < length m
        by true q = let h = ltb-true (k - 1) lines q in let e = in_raws h in omega (arith, valid_long m v)
        by false q = let e = in_isos (ltb-false (k - 1) lines q) in omega (arith, valid_long m v)

-- the seat that was found
pub raw_seat : (m : List ℕ) (k : ℕ) {at : ℕ} (s : Seat) → s ≡ Raw at → Seated m k (Some s) → RawSeat m k at
raw_seat m k s e found = subst (λ (s : Seat). Seated m k (Some s)) e found

pub iso_seat : (m : List ℕ) (k : ℕ) {at : ℕ} (s : Seat) → s ≡ Iso at → Seated m k (Some s) → IsoSeat m k at
iso_seat m k s e found = subst (λ (s : Seat). Seated m k (Some s)) e found
