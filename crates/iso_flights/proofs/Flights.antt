-- A frame in flight and the transfer that it belongs to, in the bytes of a region. Assumes nothing.
use Rattle.std.specs.Prelude.{if◌then◌else◌}
use mathlib.Core.Path.{◌≡◌, refl, sym, ap, ◌∙◌, subst}
use Prim.Native.Nat.{ℕ, zero, suc, ◌+◌, ◌-◌, ◌*◌, ◌≤◌, ◌<◌}
use native.Mathlib.Omega.{arith}
use mathlib.Core.Bool.{Bool, true, false, not, ◌&&◌, ◌||◌}
use mathlib.Core.Option.{Option, none, some}
use mathlib.Core.List.{List, [], ◌∷◌}
use lib.ListN.{length, get_or, set, take, drop}
use lib.Dec.{T, eqb, leb, leb→le}
use borrow.Rule.Slice.PartMut.{put_mid, mid_of}
use Rattle.codec.specs.Plain.{zeros}
use Rattle.codec.specs.Code.{Code, byte, both, both_on, via, such, slot}
use Rattle.codec.proofs.Tests.{left, right, join}
use Rattle.codec.proofs.Part.{byte_of}
use Rattle.layout.specs.Memory.{config}
use Rattle.machine.specs.Filter.{Slots}
use Rattle.iso.specs.Limits.{most_talks}
use Rattle.iso.specs.Iso.{Stage, opens, awaits, flies, sends, Transmission, Transfer, idle, refuses, receives, transmits, Talk, Owner, nobody, message, transfer_at, Flight, OpenIso, ready, set_flight, airborne, airborne_at, owner_in, flight_in}
use Rattle.iso_layout.specs.Sizes.{iso_flight_size, iso_flight_at, talks_at, talk_size, iso_region_size}
use Rattle.iso_layout.specs.Region.{transfer_parts, transmits_at, owner_parts, owned_fits, flight_code, talk_cell, ready_parts, iso_rest, iso_region}
use Rattle.iso_layout.proofs.Region.{Lies, flight_part, talk_part, lies_long}
use Rattle.talk_head.specs.Headed.{Tells, payload_at, head_at}
use Rattle.talk_head.specs.declared.Head.{Head}
use Rattle.talk_head.proofs.Taken.{told, head_of, bytes_of, Taken, taken, vacant}
use Rattle.iso_flights.specs.Lain.{Lain, disowned}

-- ---- a transfer with a frame in flight, by its head

unfoldable pub aloft_head : Head → Bool
aloft_head h = (eqb h.kind 2 && not h.waits) || (eqb h.kind 3 || eqb h.kind 5)

or_false : (b : Bool) → (b || false) ≡ b
or_false true = refl
or_false false = refl

stage_aloft : (p : List ℕ) (n : ℕ) (s : Stage) → aloft_head (head_of (transfer_parts (transmits_at p n s))) ≡ airborne (transmits_at p n s)
unfolding aloft_head airborne
stage_aloft p n opens = refl
stage_aloft p n (awaits run) = refl
stage_aloft p n (flies l g) = refl
stage_aloft p n (sends l g w) = refl

parts_aloft : (x : Transfer) → aloft_head (head_of (transfer_parts x)) ≡ airborne x
unfolding aloft_head airborne
parts_aloft idle = refl
parts_aloft refuses = refl
parts_aloft (receives r) = or_false (not r.go_on)
parts_aloft (transmits t) =
    let same : ◌≡◌ {A = Transmission} (record { payload = t.payload; taken = t.taken; stage = t.stage }) t = refl in
    subst (λ y. aloft_head (head_of (transfer_parts (transmits y))) ≡ airborne (transmits y)) same (stage_aloft t.payload t.taken t.stage)

module _ (t : List ℕ) (l : length t ≡ talk_size) (flags : ℕ) (v : T ((slot (talk_cell flags)).valid t)) where
  pub free_rests : get_or t 0 0 ≡ 0 → false ≡ airborne_at ((slot (talk_cell flags)).get t)
  unfolding airborne_at
  free_rests e = sym (ap airborne_at (vacant flags t l v e))

  pub taken_flies : (get_or t 0 0 ≡ 0 → ⊥) → (h : Head) → h ≡ head_at t → aloft_head h ≡ airborne_at ((slot (talk_cell flags)).get t)
  unfolding airborne_at
  taken_flies n h e =
      let p : Taken flags t = taken flags t l v n in
      ap aloft_head e ∙ told (λ h b. aloft_head h ≡ airborne p.talk.transfer) p.talk.transfer (parts_aloft p.talk.transfer) (head_at t) (payload_at t) p.tells
      ∙ sym (ap airborne_at p.is)

-- ---- what a flight belongs to

abbrev owner_byte : Option Flight → ℕ
owner_byte none = 0
owner_byte (some f) = owner_parts f.owner

zero_at : (n i : ℕ) → get_or (zeros n) i 0 ≡ 0
zero_at zero i = refl
zero_at (suc n) zero = refl
zero_at (suc n) (suc i) = zero_at n i

owner_there : (flags : ℕ) (x : Option Flight) → get_or ((slot (flight_code flags)).put x) 1 0 ≡ owner_byte x
unfolding slot flight_code via such both byte
owner_there flags none = zero_at (flight_code flags).size 0
owner_there flags (some f) = refl

owner_three : (flags : ℕ) (x : Option Flight) → T ((slot (flight_code flags)).ok x) → owner_byte x ≤ 3
unfolding slot flight_code via such both owned_fits
owner_three flags none t = omega arith
owner_three flags (some f) t = leb→le (owner_parts f.owner) 3 (search (left, right) depth 6)

module _ (ts : Slots Talk) where
  rests : (w : Owner) → owner_parts w < 2 → owner_in ts w ≡ w
  unfolding owner_in
  rests nobody h = refl
  rests message h = refl
  rests (transfer_at k) h = absurd (omega arith)

  of_transfer : (w : Owner) → 2 ≤ owner_parts w → (b : Bool) → airborne_at (get_or ts (owner_parts w - 2) none) ≡ b → owner_in ts w ≡ (if b then w else nobody)
  unfolding owner_in
  of_transfer nobody h b e = absurd (omega arith)
  of_transfer message h b e = absurd (omega arith)
  of_transfer (transfer_at k) h b e =
      let same : suc (suc k) - 2 ≡ k = omega arith in
      ap (λ (q : Bool). if q then transfer_at k else nobody) (ap (λ (j : ℕ). airborne_at (get_or ts j none)) (sym same) ∙ e)

  pub not_owned : (x : Option Flight) → owner_byte x < 2 → flight_in ts x ≡ x
  unfolding flight_in
  not_owned none h = refl
  not_owned (some f) h = ap (λ w. some (record { frame = f.frame; owner = w })) (rests f.owner h)

  pub still_owned : (x : Option Flight) → 2 ≤ owner_byte x → airborne_at (get_or ts (owner_byte x - 2) none) ≡ true → flight_in ts x ≡ x
  unfolding flight_in
  still_owned none h e = refl
  still_owned (some f) h e = ap (λ w. some (record { frame = f.frame; owner = w })) (of_transfer f.owner h true e)

  pub put_nobody : (flags : ℕ) (x : Option Flight) → 2 ≤ owner_byte x → airborne_at (get_or ts (owner_byte x - 2) none) ≡ false → set ((slot (flight_code flags)).put x) 1 0 ≡ (slot (flight_code flags)).put (flight_in ts x)
  unfolding flight_in slot flight_code via such both byte
  put_nobody flags none h e = absurd (omega arith)
  put_nobody flags (some f) h e = ap (λ w. (slot (flight_code flags)).put (some (record { frame = f.frame; owner = w }))) (sym (of_transfer f.owner h false e))

-- ---- in a region

pub part_size : (at : ℕ) → at + talk_size - at ≡ talk_size
part_size at = omega arith

pub lain_lies : {r : List ℕ} (l : Lain r) → Lies l.channel r
unfolding both_on iso_rest both
lain_lies l =
    let t : T ((both_on (λ c. c.flags) config iso_rest).ok (ready_parts l.channel)) = l.ok in
    record {
      bytes = l.bytes;
      config_ok = search (left, right) depth 9;
      talks_ok = search (left, right) depth 9;
      written_ok = search (left, right) depth 9;
      flight_ok = search (left, right) depth 9;
      heard_ok = search (left, right) depth 9;
      last_ok = search (left, right) depth 9;
    }

lies_ok : {o : OpenIso} {r : List ℕ} → Lies o r → T ((both_on (λ c. c.flags) config iso_rest).ok (ready_parts o))
unfolding both_on iso_rest both
lies_ok l = search (join, l.config_ok, l.talks_ok, l.written_ok, l.flight_ok, l.heard_ok, l.last_ok) depth 9

pub lies_lain : {o : OpenIso} {r : List ℕ} → Lies o r → Lain r
lies_lain {o} l = record { channel = o; ok = lies_ok l; bytes = l.bytes }

-- what `disown` says, of a channel that lies there
pub of_lies : {o : OpenIso} {r : List ℕ} → Lies o r → {ys : List ℕ} → ((l : Lain r) → ys ≡ iso_region.put (ready (disowned l.channel))) → ys ≡ iso_region.put (ready (disowned o))
of_lies {o} l y = y (record { channel = o; ok = lies_ok l; bytes = l.bytes })

module _ {r : List ℕ} (l : Lain r) where
  abbrev o : OpenIso
  o = l.channel

  abbrev flags : ℕ
  flags = o.config.flags

  pub long : length r ≡ iso_region_size
  long = lies_long o r (lain_lies l)

  owner_is : get_or r (iso_flight_at + 1) 0 ≡ owner_byte o.flight
  owner_is = byte_of (flight_part o r (lain_lies l)) 1 (omega arith) ∙ owner_there flags o.flight

  pub owner_small : get_or r (iso_flight_at + 1) 0 ≤ 3
  owner_small = subst (λ (k : ℕ). k ≤ 3) (sym owner_is) (owner_three flags o.flight (lain_lies l).flight_ok)

  same : flight_in o.talks o.flight ≡ o.flight → r ≡ iso_region.put (ready (disowned o))
  unfolding disowned set_flight
  same e = sym l.bytes ∙ ap (λ x. iso_region.put (ready (set_flight o x))) (sym e)

  pub rests_as_it_is : get_or r (iso_flight_at + 1) 0 < 2 → r ≡ iso_region.put (ready (disowned o))
  rests_as_it_is h = same (not_owned o.talks o.flight (subst (λ (k : ℕ). k < 2) owner_is h))

  -- the conversation that it belongs to, lent as n bytes
  module _ (k : ℕ) (e : k ≡ get_or r (iso_flight_at + 1) 0) (h : 2 ≤ k) (n : ℕ) (en : n ≡ talk_size) where
    abbrev at : ℕ
    at = talks_at + (k - 2) * talk_size

    here : k - 2 < most_talks
    here = omega (arith, owner_small)

    module _ (b : Bool) (a : (flags : ℕ) → T ((slot (talk_cell flags)).valid (take n (drop at r))) → b ≡ airborne_at ((slot (talk_cell flags)).get (take n (drop at r)))) where
      flies_so : airborne_at (get_or o.talks (owner_byte o.flight - 2) none) ≡ b
      flies_so =
          let p = talk_part o r (lain_lies l) (k - 2) here in
          let lent : (flags : ℕ) → T ((slot (talk_cell flags)).valid (take talk_size (drop at r))) → b ≡ airborne_at ((slot (talk_cell flags)).get (take talk_size (drop at r))) =
          subst (λ (j : ℕ). (flags : ℕ) → T ((slot (talk_cell flags)).valid (take j (drop at r))) → b ≡ airborne_at ((slot (talk_cell flags)).get (take j (drop at r)))) en a in
          ap (λ (j : ℕ). airborne_at (get_or o.talks (j - 2) none)) (sym (e ∙ owner_is)) ∙ ap airborne_at (sym p.got) ∙ sym (lent flags p.valid)

      two : 2 ≤ owner_byte o.flight
      two = subst (λ (j : ℕ). 2 ≤ j) (e ∙ owner_is) h

      pub flies_on : b ≡ true → r ≡ iso_region.put (ready (disowned o))
      flies_on t = same (still_owned o.talks o.flight two (flies_so ∙ t))

      pub left_alone : b ≡ false → (ys : List ℕ) → ys ≡ set (mid_of iso_flight_at iso_flight_size r) 1 0 → put_mid iso_flight_at iso_flight_size r ys ≡ iso_region.put (ready (disowned o))
      unfolding disowned
      left_alone t ys y =
          let p = flight_part o r (lain_lies l) in
          p.becomes ys (flight_in o.talks o.flight) (y ∙ ap (λ (m : List ℕ). set m 1 0) p.is ∙ put_nobody o.talks flags o.flight two (flies_so ∙ t))
