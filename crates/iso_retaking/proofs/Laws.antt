-- Taking, on the region of an open ISO 15765 channel, where it changes nothing: the answers of `iso`. Assumes nothing.
use mathlib.Core.Path.{◌≡◌, refl, sym, ap, ◌∙◌}
use Prim.Native.Nat.{ℕ, ◌+◌, ◌*◌, ◌≤◌, ◌<◌}
use native.Mathlib.Omega.{arith}
use mathlib.Core.Option.{Option, none, some}
use mathlib.Core.List.{List, [], ◌∷◌, ◌++◌}
use lib.ListN.{length, get_or, take, drop}
use lib.Seq.{drop-drop}
use borrow.Author.Tests.{lt-ltb, le-ltb}
use Rattle.codec.specs.Code.{byte, both, via, such, slot}
use Rattle.codec.proofs.Part.{Part, byte_of}
use Rattle.machine.specs.Codes.{code_of}
use Rattle.machine.specs.Channel.{take_next}
use Rattle.layout.specs.Promise.{gives}
use Rattle.iso.specs.Limits.{iso_record_size}
use Rattle.iso.specs.Iso.{OpenIso, ready, Flight, set_flight, shown_iso, on_ready, on_iso_take, iso_taking, showing, shorter_iso, unless_iso}
use Rattle.iso_layout.specs.Sizes.{iso_flight_at, iso_flight_size}
use Rattle.iso_layout.specs.Record.{rec536, frame_cell}
use Rattle.iso_layout.specs.Region.{flight_code, owner_parts, iso_region}
use Rattle.iso_layout.specs.Promise.{IsoOpened, iso_outcome}
use Rattle.iso_layout.proofs.Good.{fli}
use Rattle.iso_layout.proofs.Lawful.{shown_iso_is}
use Rattle.iso_layout.proofs.Region.{ready_of, stays, lies, flight_part}

behind_two : (xs z : List ℕ) (a b : ℕ) → take iso_flight_size xs ≡ a ∷ b ∷ z → take iso_record_size (drop 2 xs) ≡ z
behind_two [] z a b e = ap (λ (y : List ℕ). drop 2 y) e
behind_two (x ∷ []) z a b e = ap (λ (y : List ℕ). drop 2 y) e
behind_two (x ∷ y ∷ xs) z a b e = ap (λ (y : List ℕ). drop 2 y) e

flown_is : (flags : ℕ) (x : Flight) → (slot (flight_code flags)).put (some x) ≡ 1 ∷ owner_parts x.owner ∷ rec536.put x.frame
unfolding slot flight_code frame_cell via such both byte
flown_is flags x = refl

none_is : (flags : ℕ) → get_or ((slot (flight_code flags)).put none) 0 0 ≡ 0
unfolding slot
none_is flags = refl

-- a frame is in flight, and these are its bytes
pub record Flies (o : OpenIso) (bytes : List ℕ) : Type 0 where
  pub one : Flight
  pub is : o.flight ≡ some one
  pub shows : bytes ≡ shown_iso one.frame

module _ (r : List ℕ) (f : IsoOpened r) where
  abbrev o : OpenIso
  o = ready_of r

  abbrev bytes : List ℕ
  bytes = take iso_record_size (drop (iso_flight_at + 2) r)

  part : Part iso_region r (slot (flight_code (fli (ready_of r)))) iso_flight_at iso_flight_size (ready_of r).flight (λ x. ready (set_flight (ready_of r) x))
  part = flight_part o r (lies r f)

  pub none_flies : o.flight ≡ none → get_or r iso_flight_at 0 ≡ 0
  none_flies e = byte_of part 0 (omega arith) ∙ ap (λ (y : Option Flight). get_or ((slot (flight_code (fli o))).put y) 0 0) e ∙ none_is (fli o)

  pub flies : (get_or r iso_flight_at 0 ≡ 0 → ⊥) → Flies (ready_of r) (take iso_record_size (drop (iso_flight_at + 2) r))
  flies n = go o.flight refl
    where
      go : (y : Option Flight) → o.flight ≡ y → Flies o bytes
      go none e = absurd (n (none_flies e))
      go (some x) e =
          let there : take iso_flight_size (drop iso_flight_at r) ≡ 1 ∷ owner_parts x.owner ∷ rec536.put x.frame = part.is ∙ ap (slot (flight_code (fli o))).put e ∙ flown_is (fli o) x in
          record {
            one = x;
            is = e;
            shows = ap (λ (y : List ℕ). take iso_record_size y) (sym (drop-drop 2 iso_flight_at r)) ∙ behind_two (drop iso_flight_at r) _ _ _ there ∙ sym (shown_iso_is x.frame);
          }

  module _ (rates : List ℕ) (now : ℕ) (b : List ℕ) where
    pub take_short : length b < iso_record_size → gives 0x04 0 b r ≡ iso_outcome rates now r (take_next b)
    unfolding on_ready on_iso_take unless_iso code_of shorter_iso
    take_short s = stays r f rates now (take_next b) 0x04 0 b (rw (lt-ltb (length b) (iso_record_size * 1) s) refl)

    pub take_again : iso_record_size ≤ length b → (get_or r iso_flight_at 0 ≡ 0 → ⊥) → (ys : List ℕ) → ys ≡ take iso_record_size (drop (iso_flight_at + 2) r)
        → gives 0x00 0 (ys ++ drop iso_record_size b) r ≡ iso_outcome rates now r (take_next b)
    unfolding on_ready on_iso_take unless_iso code_of shorter_iso iso_taking showing
    take_again s n ys e =
        let x : Flies o bytes = flies n in
        ap (λ (z : List ℕ). gives 0x00 0 (z ++ drop iso_record_size b) r) (e ∙ x.shows)
        ∙ stays r f rates now (take_next b) 0x00 0 (shown_iso x.one.frame ++ drop iso_record_size b) (rw (le-ltb (length b) (iso_record_size * 1) s) (rw x.is refl))
