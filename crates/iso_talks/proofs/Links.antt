-- What two conversations and a flight say of each other, by the numbers of their places. Assumes nothing.
use mathlib.Core.Path.{◌≡◌, refl, sym, ap, ap₂, ◌∙◌}
use Prim.Native.Nat.{ℕ, zero, suc, ◌+◌, ◌≤◌}
use native.Mathlib.Omega.{arith}
use mathlib.Core.Bool.{Bool, true, false, ◌&&◌, ◌||◌, not, beq, or-false}
use mathlib.Core.Option.{Option, none, some}
use mathlib.Core.List.{List, [], ◌∷◌}
use lib.ListN.{get_or, drop}
use lib.Dec.{eqb, leb}
use borrow.Author.Tests.{ne_eqb, eq-eqb, le-leb, lt-leb}
use Rattle.codec.specs.Plain.{member}
use Rattle.codec.specs.Word.{word_at}
use Rattle.codec.specs.Code.{Code, slot, get_slot, byte, both, via, such}
use Rattle.machine.specs.Filter.{any_slot}
use Rattle.machine.specs.Message.{Rec}
use Rattle.iso.specs.Iso.{Talk, Flight, knows, transmitting, airborne, airborne_at}
use Rattle.iso_layout.specs.Sizes.{pattern_in, flow_in, transfer_in}
use Rattle.iso_layout.specs.Region.{Transferred, transfer_on, transfer_back, payload508, talk_cell, owner_parts, owner_back, flight_back, frame_cell, flight_code, transmits_in, knows_other, owner_fits, owned_by, flight_fits}
use Rattle.iso_stored.proofs.Rows.{byte_got}
use Rattle.iso_transfers.proofs.Transfers.{go_on_at, payload_of, parts_of}
use Rattle.iso_talks.proofs.Places.{talk_at, talk_got}

-- ---- kinds

kind_transmits : (k n time block gap : ℕ) (w : Bool) (b : List ℕ) → transmitting (transfer_on k n time block gap w b) ≡ leb 3 k
unfolding transmitting
kind_transmits zero n time block gap w b = refl
kind_transmits (suc zero) n time block gap w b = refl
kind_transmits (suc (suc zero)) n time block gap w b = refl
kind_transmits (suc (suc (suc zero))) n time block gap w b = refl
kind_transmits (suc (suc (suc (suc zero)))) n time block gap w b = refl
kind_transmits (suc (suc (suc (suc (suc zero))))) n time block gap w b = refl
kind_transmits (suc (suc (suc (suc (suc (suc k)))))) n time block gap w b = sym (le-leb 3 (suc (suc (suc (suc (suc (suc k)))))) (omega arith))

kind_airborne : (k n time block gap : ℕ) (w : Bool) (b : List ℕ) → airborne (transfer_on k n time block gap w b) ≡ ((eqb k 2 && not w) || (eqb k 3 || eqb k 5))
unfolding airborne
kind_airborne zero n time block gap w b = refl
kind_airborne (suc zero) n time block gap w b = refl
kind_airborne (suc (suc zero)) n time block gap w b = sym (or-false (not w))
kind_airborne (suc (suc (suc zero))) n time block gap w b = refl
kind_airborne (suc (suc (suc (suc zero)))) n time block gap w b = refl
kind_airborne (suc (suc (suc (suc (suc zero))))) n time block gap w b = refl
kind_airborne (suc (suc (suc (suc (suc (suc k)))))) n time block gap w b =
    let j : ℕ = suc (suc (suc (suc (suc (suc k))))) in
    sym (λ i. (ne_eqb j 2 (λ e. absurd (omega arith)) i && not w) || (ne_eqb j 3 (λ e. absurd (omega arith)) i || ne_eqb j 5 (λ e. absurd (omega arith)) i))

transmitting_is : (p : Transferred) → transmitting (transfer_back p) ≡ leb 3 p.0
transmitting_is p = kind_transmits p.0 p.1.0 p.1.1.0 p.1.1.1.0 p.1.1.1.1.0 p.1.1.1.1.1.0 p.1.1.1.1.1.1

airborne_is : (p : Transferred) → airborne (transfer_back p) ≡ ((eqb p.0 2 && not p.1.1.1.1.1.0) || (eqb p.0 3 || eqb p.0 5))
airborne_is p = kind_airborne p.0 p.1.0 p.1.1.0 p.1.1.1.0 p.1.1.1.1.0 p.1.1.1.1.1.0 p.1.1.1.1.1.1

-- ---- places

-- something of what a place holds, where nothing has it
of_slot : {A : Type 0} (f : Option A → Bool) (c : Code A) (k : ℕ) (m : List ℕ) (x : A) → f none ≡ false → c.get m ≡ x → f (get_slot c k m) ≡ (not (eqb k 0) && f (some x))
of_slot f c zero m x z e = z
of_slot f c (suc k) m x z e = ap (λ (y : _). f (some y)) e ∙ ap (λ (b : Bool). not b && f (some x)) (sym (ne_eqb (suc k) 0 (λ e. absurd (omega arith))))

module _ (flags : ℕ) where
  pub transmits_is : (t : List ℕ) → (not (eqb (get_or t 0 0) 0) && leb 3 (get_or t transfer_in 0)) ≡ transmits_in ((slot (talk_cell flags)).get t)
  unfolding slot transmits_in
  transmits_is t =
      sym (of_slot transmits_in (talk_cell flags) (get_or t 0 0) (drop 1 t) (talk_at t) refl (talk_got t flags)
      ∙ ap (λ (x : Bool). not (eqb (get_or t 0 0) 0) && x) (transmitting_is (parts_of t (payload508.get (payload_of t)))))

  pub airborne_at_law : (t : List ℕ)
      → (not (eqb (get_or t 0 0) 0) && ((eqb (get_or t transfer_in 0) 2 && not (eqb 1 (go_on_at t))) || (eqb (get_or t transfer_in 0) 3 || eqb (get_or t transfer_in 0) 5)))
      ≡ airborne_at ((slot (talk_cell flags)).get t)
  unfolding slot airborne_at
  airborne_at_law t =
      sym (of_slot airborne_at (talk_cell flags) (get_or t 0 0) (drop 1 t) (talk_at t) refl (talk_got t flags)
      ∙ ap (λ (x : Bool). not (eqb (get_or t 0 0) 0) && x) (airborne_is (parts_of t (payload508.get (payload_of t)))))

  -- identifiers: an empty place has none
  abbrev At : List ℕ → Option Talk
  At t = (slot (talk_cell flags)).get t

  empty : (t : List ℕ) → get_or t 0 0 ≡ 0 → At t ≡ none
  unfolding slot
  empty t e = ap (λ (k : ℕ). get_slot (talk_cell flags) k (drop 1 t)) e

  there : (t : List ℕ) → (get_or t 0 0 ≡ 0 → ⊥) → At t ≡ some (talk_at t)
  unfolding slot
  there t h = go (get_or t 0 0) h
    where
      go : (k : ℕ) → (k ≡ 0 → ⊥) → get_slot (talk_cell flags) k (drop 1 t) ≡ some (talk_at t)
      go zero h = absurd (h refl)
      go (suc k) h = ap some (talk_got t flags)

  pub apart_first : (a b : List ℕ) → get_or a 0 0 ≡ 0 → true ≡ not (knows_other (At a) (At b ∷ []))
  unfolding knows_other
  apart_first a b e = sym (ap (λ (x : Option Talk). not (knows_other x (At b ∷ []))) (empty a e))

  pub apart_second : (a b : List ℕ) → (get_or a 0 0 ≡ 0 → ⊥) → get_or b 0 0 ≡ 0 → true ≡ not (knows_other (At a) (At b ∷ []))
  unfolding knows_other any_slot
  apart_second a b h e = sym (ap₂ (λ (x y : Option Talk). not (knows_other x (y ∷ []))) (there a h) (empty b e))

  pub apart_is : (a b : List ℕ) → (get_or a 0 0 ≡ 0 → ⊥) → (get_or b 0 0 ≡ 0 → ⊥)
      → not (beq (eqb 1 (get_or a 1 0)) (eqb 1 (get_or b 1 0))
      && ((eqb (word_at pattern_in a) (word_at pattern_in b) || eqb (word_at pattern_in a) (word_at flow_in b))
      || (eqb (word_at flow_in a) (word_at pattern_in b) || eqb (word_at flow_in a) (word_at flow_in b)))) ≡ not (knows_other (At a) (At b ∷ []))
  unfolding knows_other any_slot knows member
  apart_is a b h g =
      (λ i. not (beq (eqb 1 (get_or a 1 0)) (eqb 1 (get_or b 1 0))
      && ((eqb (word_at pattern_in a) (word_at pattern_in b) || sym (or-false (eqb (word_at pattern_in a) (word_at flow_in b))) i)
      || (eqb (word_at flow_in a) (word_at pattern_in b) || sym (or-false (eqb (word_at flow_in a) (word_at flow_in b))) i))))
      ∙ ap not (sym (or-false (knows (eqb 1 (get_or a 1 0)) (word_at pattern_in a) (word_at flow_in a) (talk_at b))))
      ∙ sym (ap₂ (λ (x y : Option Talk). not (knows_other x (y ∷ []))) (there a h) (there b g))

  -- ---- the flight

  abbrev Flown : List ℕ → Option Flight
  Flown f = (slot (flight_code flags)).get f

  abbrev flight_at : List ℕ → Flight
  flight_at f = record { frame = (frame_cell flags).get (drop 2 f); owner = owner_back (get_or f 1 0) }

  flight_got : (f : List ℕ) → (flight_code flags).get (drop 1 f) ≡ flight_at f
  unfolding flight_code via such
  flight_got f = ap flight_back (byte_got (frame_cell flags) 1 2 f refl)

  owner_there : (n : ℕ) → owner_parts (owner_back n) ≡ n
  owner_there zero = refl
  owner_there (suc zero) = refl
  owner_there (suc (suc k)) = refl

  pub owned_by_law : (k : ℕ) (f : List ℕ) → (not (eqb (get_or f 0 0) 0) && eqb (get_or f 1 0) (k + 2)) ≡ owned_by k (Flown f)
  unfolding slot owned_by
  owned_by_law k f =
      sym (of_slot (owned_by k) (flight_code flags) (get_or f 0 0) (drop 1 f) (flight_at f) refl (flight_got f)
      ∙ ap (λ (n : ℕ). not (eqb (get_or f 0 0) 0) && eqb n (k + 2)) (owner_there (get_or f 1 0)))

  owner_is : (a b : Option Talk) (n : ℕ) → owner_fits (a ∷ b ∷ []) (owner_back n) ≡ (leb n 1 || ((eqb n 2 && airborne_at a) || (eqb n 3 && airborne_at b)))
  unfolding owner_fits airborne_at
  owner_is a b zero = refl
  owner_is a b (suc zero) = refl
  owner_is a b (suc (suc zero)) = sym (or-false (airborne_at a))
  owner_is a b (suc (suc (suc zero))) = refl
  owner_is a b (suc (suc (suc (suc k)))) =
      let n : ℕ = suc (suc (suc (suc k))) in
      sym (λ i. lt-leb n 1 (omega arith) i || ((ne_eqb n 2 (λ e. absurd (omega arith)) i && airborne_at a) || (ne_eqb n 3 (λ e. absurd (omega arith)) i && airborne_at b)))

  pub owned_is : (f : List ℕ) (a b : Option Talk)
      → (eqb (get_or f 0 0) 0 || (leb (get_or f 1 0) 1 || ((eqb (get_or f 1 0) 2 && airborne_at a) || (eqb (get_or f 1 0) 3 && airborne_at b)))) ≡ flight_fits (a ∷ b ∷ []) (Flown f)
  unfolding slot flight_fits
  owned_is f a b =
      ap (λ (x : Bool). eqb (get_or f 0 0) 0 || x) (sym (owner_is a b (get_or f 1 0))) ∙ go (get_or f 0 0)
    where
      go : (k : ℕ) → (eqb k 0 || owner_fits (a ∷ b ∷ []) (owner_back (get_or f 1 0))) ≡ flight_fits (a ∷ b ∷ []) (get_slot (flight_code flags) k (drop 1 f))
      go zero = refl
      go (suc k) =
          ap (λ (x : Bool). x || owner_fits (a ∷ b ∷ []) (owner_back (get_or f 1 0))) (ne_eqb (suc k) 0 (λ e. absurd (omega arith)))
          ∙ ap (λ (x : Flight). owner_fits (a ∷ b ∷ []) x.owner) (sym (flight_got f))
