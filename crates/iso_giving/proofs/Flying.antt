-- The region in which a conversation gives a frame: its place, then the flight. Assumes nothing.
use mathlib.Core.Path.{◌≡◌, refl, sym, ap, ◌∙◌, subst}
use Prim.Native.Nat.{ℕ, ◌+◌, ◌*◌, ◌-◌, ◌≤◌, ◌<◌}
use native.Mathlib.Omega.{arith}
use mathlib.Core.Bool.{Bool, true, false}
use mathlib.Core.Option.{Option, none, some}
use mathlib.Core.List.{List, []}
use lib.ListN.{length, get_or, set, take, drop, length-set}
use lib.Seq.{get_or-take, get_or-set_same, length-take-le}
use lib.Dec.{T, eqb}
use borrow.Rule.Slice.PartMut.{put_mid, put_same}
use Rattle.codec.specs.Word.{word, word_at}
use Rattle.codec.specs.Code.{byte, word32, both, both_on, via, such, mark, mark_of, slot}
use Rattle.codec.proofs.Tests.{join}
use Rattle.codec.proofs.Word.{word_back, word_drop}
use Rattle.codec.proofs.Lists.{all_at, all_set}
use Rattle.codec.proofs.Many.{many_make, many_count, many_each}
use Rattle.codec.proofs.Part.{Part, byte_of}
use Rattle.machine.specs.Message.{Rec}
use Rattle.iso.specs.Limits.{most_talks}
use Rattle.iso.specs.Iso.{Talk, Owner, OpenIso, ready, Given, set_talks, set_written, set_flight, turned, framed}
use Rattle.iso_layout.specs.Sizes.{talk_size, talks_at, flow_in, iso_flight_at, iso_flight_size}
use Rattle.iso_layout.specs.Region.{owner_parts, talk_cell, talks_code, flight_code, iso_rest, iso_region}
use Rattle.iso_layout.specs.Promise.{IsoOpened}
use Rattle.iso_layout.proofs.Held.{TalkOk, talk_make, talk_sound, id_small}
use Rattle.iso_layout.proofs.Good.{fli}
use Rattle.iso_layout.proofs.Taking.{GivenOk, MayGive}
use Rattle.iso_layout.proofs.Region.{ready_of, kept, Lies, lies, talk_part, flight_part}
use Rattle.iso_launching.specs.Launch.{flown}
use Rattle.iso_flights.specs.Lain.{Lain}
use Rattle.iso_flights.proofs.Flights.{lain_lies, part_size}
use Rattle.framing.specs.Data.{carried, frame_room}
use Rattle.talk_giving.specs.Giving.{Placed, data_of, after, given_by, left_by, Gave}
use Rattle.iso_giving.specs.Giving.{channel_in, owner_of, flying, chose, taking, Chose, Rule, chosen_at, given_in, given_at}
use Rattle.iso_giving.proofs.Rules.{MayYield, Yields, Fair}

-- ---- width and flow of a conversation that lies at a place

word_in : (n j : ℕ) (m : List ℕ) → j + 4 ≤ n → word_at j (take n m) ≡ word_at j m
unfolding word_at
word_in n j m h =
    omega (arith, get_or-take n m j 0 (omega arith), get_or-take n m (j + 1) 0 (omega arith), get_or-take n m (j + 2) 0 (omega arith), get_or-take n m (j + 3) 0 (omega arith))

wide_put : (flags : ℕ) (c : Talk) → get_or ((slot (talk_cell flags)).put (some c)) 1 0 ≡ mark_of c.wide
unfolding slot talk_cell such via both mark byte
wide_put flags c = refl

flow_put : (flags : ℕ) (c : Talk) → word_at flow_in ((slot (talk_cell flags)).put (some c)) ≡ word_at 0 (word c.flow)
unfolding slot talk_cell such via both mark byte word32 word word_at
flow_put flags c = refl

mark_one : (b : Bool) → eqb (mark_of b) 1 ≡ b
mark_one true = refl
mark_one false = refl

module _ {r : List ℕ} (l : Lain r) (k : ℕ) (h : k < most_talks) (c : Talk) (e : get_or l.channel.talks k none ≡ some c) where
  abbrev its_flags : ℕ
  its_flags = fli l.channel

  abbrev its_at : ℕ
  its_at = talks_at + k * talk_size

  its_place : Part iso_region r (slot (talk_cell (fli l.channel))) (talks_at + k * talk_size) talk_size (get_or l.channel.talks k none) (λ x. ready (set_talks l.channel (set l.channel.talks k x)))
  its_place = talk_part l.channel r (lain_lies l) k h

  its_ok : TalkOk its_flags c
  unfolding talks_code slot
  its_ok =
      talk_sound its_flags c
      (subst (λ (x : Option Talk). T ((slot (talk_cell its_flags)).ok x)) e
      (all_at (slot (talk_cell its_flags)).ok l.channel.talks k none tt (many_each most_talks (slot (talk_cell its_flags)) l.channel.talks (lain_lies l).talks_ok)))

  wide_there : eqb (get_or r (its_at + 1) 0) 1 ≡ c.wide
  wide_there = ap (λ (n : ℕ). eqb n 1) (byte_of its_place 1 (omega arith) ∙ ap (λ (x : Option Talk). get_or ((slot (talk_cell its_flags)).put x) 1 0) e ∙ wide_put its_flags c) ∙ mark_one c.wide

  flow_there : word_at (its_at + flow_in) r ≡ c.flow
  flow_there =
      sym (word_drop flow_in its_at r) ∙ sym (word_in talk_size flow_in (drop its_at r) (omega arith))
      ∙ ap (word_at flow_in) (its_place.is ∙ ap (slot (talk_cell its_flags)).put e) ∙ flow_put its_flags c ∙ word_back c.flow (id_small c.wide c.flow its_ok.flow_in_law)

  -- its frame in the flight
  pub flies_there : (w : Owner) (b : List ℕ) (wide : Bool) (id : ℕ) → wide ≡ eqb (get_or r (talks_at + k * talk_size + 1) 0) 1 → id ≡ word_at (talks_at + k * talk_size + flow_in) r → (ys : List ℕ)
      → ((flags : ℕ) (w : Owner) → owner_parts w ≡ owner_of k (get_or b 0 0) → ys ≡ flown flags (framed wide id b) w) → owner_parts w ≡ owner_of k (get_or b 0 0)
      → put_mid iso_flight_at iso_flight_size r ys ≡ iso_region.put (ready (flying l.channel c w b))
  unfolding flown flying
  flies_there w b wide id ew ei ys y eo =
      (flight_part l.channel r (lain_lies l)).becomes ys (some (record { frame = framed c.wide c.flow b; owner = w }))
      (y its_flags w eo ∙ (λ i. (slot (flight_code its_flags)).put (some (record { frame = framed ((ew ∙ wide_there) i) ((ei ∙ flow_there) i) b; owner = w }))))

-- ---- a conversation of an open channel gives

lain_of : {o : OpenIso} {r : List ℕ} → Lies o r → Lain r
unfolding both_on iso_rest both
lain_of {o} q =
    record { channel = o; ok = search (join, q.config_ok, q.talks_ok, q.written_ok, q.flight_ok, q.heard_ok, q.last_ok) depth 9; bytes = q.bytes }

pub lent_data : (n : ℕ) (d : List ℕ) → take (n - 0) d ≡ take n d
lent_data n d = let z : n - 0 ≡ n = omega arith in ap (λ (k : ℕ). take k d) z

pub long_data : (n : ℕ) (d : List ℕ) → length d ≡ frame_room → n ≤ frame_room → length (take (n - 0) d) ≡ n
long_data n d l h = ap length (lent_data n d) ∙ length-take-le n d (omega arith)

module _ (r : List ℕ) (f : IsoOpened r) (k : ℕ) (h : k < most_talks) where
  abbrev o : OpenIso
  o = ready_of r

  abbrev flags : ℕ
  flags = fli o

  abbrev at : ℕ
  at = talks_at + k * talk_size

  abbrev x : Option Talk
  x = get_or o.talks k none

  abbrev t : List ℕ
  t = take (at + talk_size - at) (drop at r)

  place : Part iso_region r (slot (talk_cell flags)) at (at + talk_size - at) x (λ y. ready (set_talks o (set o.talks k y)))
  place = subst (λ (n : ℕ). Part iso_region r (slot (talk_cell flags)) at n x (λ y. ready (set_talks o (set o.talks k y)))) (sym (part_size at)) (talk_part o r (lies r f) k h)

  pub place_long : length (take (talks_at + k * talk_size + talk_size - (talks_at + k * talk_size)) (drop (talks_at + k * talk_size) r)) ≡ talk_size
  place_long = place.long ∙ part_size at

  pub placed : Placed (take (talks_at + k * talk_size + talk_size - (talks_at + k * talk_size)) (drop (talks_at + k * talk_size) r))
  placed = record { flags = flags; valid = place.valid }

  talks_each : T ((talks_code flags).ok o.talks)
  talks_each = (lies r f).talks_ok

  x_ok : T ((slot (talk_cell flags)).ok x)
  unfolding talks_code
  x_ok = all_at (slot (talk_cell flags)).ok o.talks k none (unfold slot in tt) (many_each most_talks (slot (talk_cell flags)) o.talks talks_each)

  two : length o.talks ≡ most_talks
  unfolding talks_code
  two = many_count most_talks (slot (talk_cell flags)) o.talks talks_each

  module _ (R : Rule) (fair : Fair flags k R) (n : ℕ) (d u : List ℕ) (gave : Gave (R k) n d t u) where
    data_is : take n d ≡ given_by (R k) x
    data_is = (gave flags place.valid).0 ∙ ap (given_by (R k)) place.got

    u_is : u ≡ (slot (talk_cell flags)).put (left_by (R k) x)
    u_is = (gave flags place.valid).1 ∙ ap (λ (y : Option Talk). (slot (talk_cell flags)).put (left_by (R k) y)) place.got

    -- nothing
    nothing : (y : Option Talk) → given_by (R k) y ≡ [] → (given_in R k o.talks o.written y ≡ none) × (left_by (R k) y ≡ y)
    unfolding given_by left_by given_in chosen_at data_of after
    nothing none e = (refl, refl)
    nothing (some c) e = go (R k c) (fair.yields c) e
      where
        go : (g : Option Given) → MayYield k c g → data_of g ≡ [] → (chosen_at k o.talks o.written c g ≡ none) × (◌≡◌ {A = Option Talk} (some (after c g)) (some c))
        go none m e = (refl, refl)
        go (some g) m e = absurd (m.there e)

    pub gave_nothing : n ≡ 0 → Chose (given_at R k (channel_in r)) false r (put_mid (talks_at + k * talk_size) (talks_at + k * talk_size + talk_size - (talks_at + k * talk_size)) r u)
    unfolding given_at chose taking
    gave_nothing z =
        let q = nothing x (sym data_is ∙ ap (λ (j : ℕ). take j d) z) in
        let same : u ≡ t = u_is ∙ ap (slot (talk_cell flags)).put q.1 ∙ sym place.is in (
          sym (ap chose q.0),
          ap (λ (ys : List ℕ). put_mid at (at + talk_size - at) r ys) same ∙ put_same at (at + talk_size - at) r ∙ sym (kept r f)
              ∙ ap (λ y. iso_region.put (ready (taking o y))) (sym q.0),
        )

    -- a frame
    pub record Gives (y : Option Talk) : Type 0 where
      pub talk : Talk
      pub given : Given
      pub is : y ≡ some talk
      pub by : R k talk ≡ some given

    something : (y : Option Talk) → (given_by (R k) y ≡ [] → ⊥) → Gives y
    unfolding given_by data_of
    something none n = absurd (n refl)
    something (some c) n = go (R k c) refl n
      where
        go : (g : Option Given) → R k c ≡ g → (data_of g ≡ [] → ⊥) → Gives (some c)
        go none e n = absurd (n refl)
        go (some g) e n = record { talk = c; given = g; is = refl; by = e }

    not_empty : (n ≡ 0 → ⊥) → length d ≡ frame_room → n ≤ frame_room → take n d ≡ [] → ⊥
    not_empty z l m e = let k : length (take n d) ≡ n = length-take-le n d (omega arith) in let q : length (take n d) ≡ 0 = ap length e in z (omega arith)

    module _ (z : n ≡ 0 → ⊥) (l : length d ≡ frame_room) (m : n ≤ frame_room) where
      g : Gives x
      g = something x (λ e. not_empty z l m (data_is ∙ e))

      abbrev c : Talk
      c = g.talk

      abbrev given : Given
      given = g.given

      c_ok : TalkOk flags c
      unfolding slot
      c_ok = talk_sound flags c (subst (λ (y : Option Talk). T ((slot (talk_cell flags)).ok y)) g.is x_ok)

      given_ok : GivenOk flags k c (Unit {0}) given
      given_ok = subst (MayGive flags k c (Unit {0})) g.by (fair.holds c c_ok)

      yields : Yields k c given
      yields = subst (MayYield k c) g.by (fair.yields c)

      data_there : take n d ≡ carried given.frame
      unfolding given_by data_of
      data_there = data_is ∙ ap (given_by (R k)) g.is ∙ ap data_of g.by

      abbrev c₁ : Talk
      c₁ = turned c given.transfer

      left_there : left_by (R k) x ≡ some c₁
      unfolding left_by after
      left_there = ap (left_by (R k)) g.is ∙ ap (λ y. some (after c y)) g.by

      abbrev o₁ : OpenIso
      o₁ = set_talks o (set o.talks k (some c₁))

      abbrev r₁ : List ℕ
      r₁ = put_mid at (at + talk_size - at) r u

      talks_after : T ((talks_code flags).ok (set o.talks k (some c₁)))
      unfolding talks_code slot
      talks_after =
          many_make most_talks (slot (talk_cell flags)) (set o.talks k (some c₁)) (length-set o.talks k (some c₁) ∙ two)
          (all_set (slot (talk_cell flags)).ok o.talks k (some c₁) (many_each most_talks (slot (talk_cell flags)) o.talks talks_each) (talk_make flags c₁ given_ok.talk_ok))

      lies₁ : Lies o₁ r₁
      unfolding set_talks
      lies₁ =
          let q = lies r f in
          record {
            bytes = sym (place.becomes u (some c₁) (u_is ∙ ap (slot (talk_cell flags)).put left_there));
            config_ok = q.config_ok;
            talks_ok = talks_after;
            written_ok = q.written_ok;
            flight_ok = q.flight_ok;
            heard_ok = q.heard_ok;
            last_ok = q.last_ok;
          }

      chosen_is : given_at R k o ≡ some (record { frame = given.frame; owner = given.owner; talks = set o.talks k (some c₁); written = o.written })
      unfolding given_at given_in chosen_at
      chosen_is = ap (given_in R k o.talks o.written) g.is ∙ ap (chosen_at k o.talks o.written c) g.by

      pub gave_frame : (b r₂ : List ℕ) → b ≡ take n d
          → ((l : Lain (put_mid (talks_at + k * talk_size) (talks_at + k * talk_size + talk_size - (talks_at + k * talk_size)) r u)) (c : Talk) (w : Owner) → get_or l.channel.talks k none ≡ some c → owner_parts w ≡ owner_of k (get_or b 0 0) → r₂ ≡ iso_region.put (ready (flying l.channel c w b)))
          → Chose (given_at R k (channel_in r)) true r r₂
      unfolding chose taking flying lain_of set_talks set_written set_flight turned
      gave_frame b r₂ eb flown =
          let bytes : b ≡ carried given.frame = eb ∙ data_there in
          let owned : owner_parts given.owner ≡ owner_of k (get_or b 0 0) = yields.owner_is ∙ ap (λ (y : List ℕ). owner_of k (get_or y 0 0)) (sym bytes) in
          let here : get_or (set o.talks k (some c₁)) k none ≡ some c₁ = get_or-set_same o.talks k (some c₁) none (omega (arith, two)) in
          let frame : framed c.wide c.flow b ≡ given.frame = ap (framed c.wide c.flow) bytes ∙ sym yields.frame_is in (
            sym (ap chose chosen_is),
            flown (lain_of lies₁) c₁ given.owner here owned
                ∙ ap (λ (y : Rec). iso_region.put (ready (set_flight o₁ (some (record { frame = y; owner = given.owner }))))) frame
                ∙ ap (λ y. iso_region.put (ready (taking o y))) (sym chosen_is),
          )
