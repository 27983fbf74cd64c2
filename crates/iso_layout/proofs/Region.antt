-- The region of an open ISO 15765 channel: how a call that leaves it or moves it meets its promise, and its parts, each lent as a slice. Assumes
-- nothing.
use mathlib.Core.Path.{◌≡◌, refl, sym, ap, ◌∙◌, subst}
use Prim.Native.Nat.{ℕ, suc, ◌+◌, ◌*◌, ◌^◌, ◌<◌}
use native.Mathlib.Omega.{arith}
use mathlib.Core.Option.{none}
use mathlib.Core.List.{List, [], ◌∷◌, ◌++◌, append_assoc}
use lib.ListN.{length, get_or, set, drop, length-append}
use lib.Seq.{set-append_seam}
use lib.Dec.{T}
use Rattle.codec.specs.Plain.{zeros}
use Rattle.codec.specs.Word.{word, word_at}
use Rattle.codec.specs.Code.{byte, word32, via, such, slot, get_slot, up_to, both, both_on}
use Rattle.codec.proofs.Tests.{left, join}
use Rattle.codec.proofs.Word.{word_back}
use Rattle.codec.proofs.Lawful.{ok_word}
use Rattle.codec.proofs.Lists.{all_at}
use Rattle.codec.proofs.Many.{many_each, slot_lawful, up_to_lawful}
use Rattle.codec.proofs.Part.{Part, part, byte_of}
use Rattle.machine.specs.Channel.{Call, says}
use Rattle.layout.specs.Memory.{config}
use Rattle.layout.specs.Sizes.{config_size, flags_at}
use Rattle.layout.specs.Promise.{gives}
use Rattle.layout.proofs.Memory.{config_lawful}
use Rattle.layout.proofs.Sizes.{config_size_law}
use Rattle.iso.specs.Limits.{most_talks, most_messages}
use Rattle.iso.specs.Iso.{OpenIso, Iso, shut, ready, set_talks, set_config, set_written, set_flight, set_receiving, set_last, is_ready, on_ready, on_iso_call, iso_notes}
use Rattle.iso_layout.specs.Sizes.{talk_size, talks_size, messages_size, iso_flight_size, heard_size, talks_at, messages_at, iso_flight_at, heard_at, iso_last_at, iso_region_size}
use Rattle.iso_layout.specs.Region.{message_cell, talk_cell, talks_code, flight_code, heard_part, iso_last_part, ready_parts, iso_rest, ready_part, iso_chan_back, iso_region}
use Rattle.iso_layout.specs.Promise.{IsoOpened, iso_gives, iso_outcome}
use Rattle.iso_layout.proofs.Sizes.{slot_size, talks_size_law, messages_size_law, iso_flight_size_law, heard_part_size, iso_last_size, parts_size, iso_region_size_law, shut_zeros}
use Rattle.iso_layout.proofs.Lawful.{talk_lawful, talks_lawful, message_lawful, flight_lawful, heard_part_lawful, last_lawful, parts_lawful, iso_region_lawful}
use Rattle.iso_layout.proofs.Good.{FineIso, fli, GoodIso, iso_good, good_talks, good_heard}
use Rattle.iso_layout.proofs.Places.{iso_config_place, talks_place, talk_place, messages_place, flight_place, receiving_place, last_place}

-- ---- a closed channel's region, and an open one's

module _ (r : List ℕ) (long : length r ≡ iso_region_size) (v : T (iso_region.valid r)) where
  pub again : iso_region.put (iso_region.get r) ≡ r
  again = iso_region_lawful.put_get r (long ∙ sym iso_region_size_law) v

  -- by the first byte
  pub is_shut : get_or r 0 0 ≡ 0 → iso_region.get r ≡ shut
  unfolding iso_region via slot
  is_shut e = ap (λ (k : ℕ). iso_chan_back (get_slot ready_part k (drop 1 r))) e

  pub shut_bytes : get_or r 0 0 ≡ 0 → r ≡ zeros iso_region_size
  shut_bytes e = sym again ∙ ap iso_region.put (is_shut e) ∙ shut_zeros

  pub not_shut : (get_or r 0 0 ≡ 0 → ⊥) → IsoOpened r
  unfolding iso_region via slot
  not_shut n =
      let first : get_or (iso_region.put (iso_region.get r)) 0 0 ≡ get_or r 0 0 = ap (λ (x : List ℕ). get_or x 0 0) again in
      record { long = long; valid = v; mark = sym first ∙ one (iso_region.get r) (λ z. n (sym first ∙ z)) }
    where
      one : (c : Iso) → (get_or (iso_region.put c) 0 0 ≡ 0 → ⊥) → get_or (iso_region.put c) 0 0 ≡ 1
      one shut n = absurd (n refl)
      one (ready o) n = refl

-- what an open channel's region holds
abbrev pub ready_of : List ℕ → OpenIso
ready_of r = ready_part.get (drop 1 r)

module _ (r : List ℕ) (f : IsoOpened r) where
  pub is_ready_law : iso_region.get r ≡ ready (ready_of r)
  unfolding iso_region via slot
  is_ready_law = ap (λ (k : ℕ). iso_chan_back (get_slot ready_part k (drop 1 r))) f.mark

  pub kept : iso_region.put (ready (ready_of r)) ≡ r
  kept = ap iso_region.put (sym is_ready_law) ∙ iso_region_lawful.put_get r (f.long ∙ sym iso_region_size_law) f.valid

  pub fine : FineIso (ready (ready_of r))
  fine = subst FineIso is_ready_law (iso_region_lawful.ok_get r (f.long ∙ sym iso_region_size_law) f.valid)

  pub good : GoodIso (ready_of r)
  good = iso_good (ready_of r) fine

  -- a call that moves the channel: the answer is the judge's, the bytes are those of what it moved to
  pub moves : (rates : List ℕ) (now : ℕ) (x : Call) (c : Iso) (code v : ℕ) (b ys : List ℕ) → on_ready rates now (ready_of r) x ≡ (c, says code v b) → ys ≡ iso_region.put c
      → gives code v b ys ≡ iso_outcome rates now r x
  unfolding iso_outcome iso_gives on_iso_call says
  moves rates now x c code v b ys s y =
      ap (λ (z : List ℕ). gives code v b z) y ∙ sym (ap (λ (k : Iso). iso_gives (on_iso_call rates now k x)) is_ready_law ∙ ap iso_gives s)

  -- a call that leaves it
  pub stays : (rates : List ℕ) (now : ℕ) (x : Call) (code v : ℕ) (b : List ℕ) → on_ready rates now (ready_of r) x ≡ (ready (ready_of r), says code v b) → gives code v b r ≡ iso_outcome rates now r x
  stays rates now x code v b s = moves rates now x (ready (ready_of r)) code v b r s (sym kept)

-- ---- the bytes of a channel whose parts each can be held, however they hang together

pub record Lies (o : OpenIso) (r : List ℕ) : Type 0 where
  pub bytes : iso_region.put (ready o) ≡ r
  pub config_ok : T (config.ok o.config)
  pub talks_ok : T ((talks_code (fli o)).ok o.talks)
  pub written_ok : T ((up_to most_messages (message_cell (fli o))).ok o.written)
  pub flight_ok : T ((slot (flight_code (fli o))).ok o.flight)
  pub heard_ok : T ((heard_part (fli o)).ok o.receiving)
  pub last_ok : T (iso_last_part.ok o.last)

-- an open channel's region is such
pub lies : (r : List ℕ) → IsoOpened r → Lies (ready_of r) r
lies r f =
    let g : GoodIso (ready_of r) = good r f in
    record {
      bytes = kept r f;
      config_ok = g.config_ok;
      talks_ok = good_talks (ready_of r) g;
      written_ok = g.written_ok;
      flight_ok = g.flight_ok;
      heard_ok = good_heard (ready_of r) g;
      last_ok = g.last_ok;
    }

-- its parts, each lent as a slice
module _ (o : OpenIso) (r : List ℕ) (l : Lies o r) where
  abbrev flags : ℕ
  flags = fli o

  pub config_part : Part iso_region r config flags_at config_size o.config (λ c. ready (set_config o c))
  config_part = part r l.bytes config_size config_size_law (iso_config_place o) config_lawful l.config_ok

  -- the flags of the connection, read in place
  pub flags_at_law : word_at flags_at r ≡ o.config.flags
  unfolding config via such both word32 word word_at
  flags_at_law =
      let p = config_part in
      let small : o.config.flags < 2 ^ 32 = ok_word o.config.flags (search (left, l.config_ok)) in
      let same : word_at flags_at r ≡ word_at 0 (config.put o.config) = omega (arith, byte_of p 0 (omega arith), byte_of p 1 (omega arith), byte_of p 2 (omega arith), byte_of p 3 (omega arith)) in
      same ∙ word_back o.config.flags small

  pub talks_part : Part iso_region r (talks_code flags) talks_at talks_size o.talks (λ ts. ready (set_talks o ts))
  talks_part = part r l.bytes talks_size (talks_size_law flags) (talks_place o l.config_ok) (talks_lawful flags) l.talks_ok

  -- conversation k
  pub talk_part : (k : ℕ) → k < most_talks → Part iso_region r (slot (talk_cell flags)) (talks_at + k * talk_size) talk_size (get_or o.talks k none) (λ x. ready (set_talks o (set o.talks k x)))
  unfolding talks_code
  talk_part k h =
      part r l.bytes talk_size (slot_size flags) (talk_place o l.config_ok l.talks_ok k h) (slot_lawful (talk_lawful flags))
      (all_at (slot (talk_cell flags)).ok o.talks k none (unfold slot in tt) (many_each most_talks (slot (talk_cell flags)) o.talks l.talks_ok))

  pub messages_part : Part iso_region r (up_to most_messages (message_cell flags)) messages_at messages_size o.written (λ ws. ready (set_written o ws))
  messages_part = part r l.bytes messages_size (messages_size_law flags) (messages_place o l.config_ok l.talks_ok) (up_to_lawful (message_lawful flags) most_messages) l.written_ok

  pub flight_part : Part iso_region r (slot (flight_code flags)) iso_flight_at iso_flight_size o.flight (λ x. ready (set_flight o x))
  flight_part =
      part r l.bytes iso_flight_size (iso_flight_size_law flags) (flight_place o l.config_ok l.talks_ok l.written_ok) (slot_lawful (flight_lawful flags)) l.flight_ok

  pub receiving_part_law : Part iso_region r (heard_part flags) heard_at (heard_size + 1) o.receiving (λ x. ready (set_receiving o x))
  receiving_part_law =
      part r l.bytes (heard_size + 1) (heard_part_size flags) (receiving_place o l.config_ok l.talks_ok l.written_ok l.flight_ok) (heard_part_lawful flags) l.heard_ok

  pub last_part_law : Part iso_region r iso_last_part iso_last_at 1 o.last (λ k. ready (set_last o k))
  last_part_law =
      part r l.bytes 1 iso_last_size (last_place o l.config_ok l.talks_ok l.written_ok l.flight_ok l.heard_ok) last_lawful l.last_ok

  -- as many bytes as a region has
  pub lies_long : length r ≡ iso_region_size
  unfolding iso_region ready_part iso_rest via slot such both both_on
  lies_long =
      let whole : T ((both_on (λ c. c.flags) config iso_rest).ok (ready_parts o)) = search (join, l.config_ok, l.talks_ok, l.written_ok, l.flight_ok, l.heard_ok, l.last_ok) depth 9 in
      ap length (sym l.bytes) ∙ ap suc (parts_lawful.long (ready_parts o) whole) ∙ parts_size

-- ---- the region after a move is that of an open channel again

module _ (o : OpenIso) (t : FineIso (ready o)) where
  pub opened_again : IsoOpened (iso_region.put (ready o))
  unfolding iso_region via slot
  opened_again = record { long = iso_region_lawful.long (ready o) t ∙ iso_region_size_law; valid = iso_region_lawful.valid_put (ready o) t; mark = refl }

  pub ready_again : ready_of (iso_region.put (ready o)) ≡ o
  ready_again = let e : ready (ready_of (iso_region.put (ready o))) ≡ ready o = sym (is_ready_law (iso_region.put (ready o)) opened_again) ∙ iso_region_lawful.get_put (ready o) t in cc e

-- ---- a code that is noted

-- what stands in front of the last code of an open channel
abbrev front : OpenIso → List ℕ
front o =
    1 ∷ (config.put o.config ++ ((talks_code (fli o)).put o.talks ++ ((up_to most_messages (message_cell (fli o))).put o.written ++ ((slot (flight_code (fli o))).put o.flight ++ (heard_part (fli o)).put o.receiving))))

-- the last code is the last byte of the region
ends_in_last : (o : OpenIso) (k : ℕ) → iso_region.put (ready (set_last o k)) ≡ front o ++ k ∷ []
unfolding iso_region ready_part iso_rest iso_last_part via such both both_on slot byte set_last
ends_in_last o k = sym (simp append_assoc)

-- another one stored there, whatever else the channel holds
pub iso_last_stored : (o : OpenIso) (k : ℕ) → length (iso_region.put (ready o)) ≡ iso_region_size → set (iso_region.put (ready o)) iso_last_at k ≡ iso_region.put (ready (set_last o k))
unfolding set_last
iso_last_stored o k long =
    let e : iso_region.put (ready o) ≡ front o ++ o.last ∷ [] = ends_in_last o o.last in
    let n : length (front o) ≡ iso_last_at = omega (arith, ap length e, length-append (front o) (o.last ∷ [])) in
    ap (λ (r : List ℕ). set r iso_last_at k) e ∙ ap (λ (i : ℕ). set (front o ++ o.last ∷ []) i k) (sym n) ∙ set-append_seam (front o) o.last [] k ∙ sym (ends_in_last o k)

-- so a code of an open channel, but 0x00, is noted by a store
pub iso_notes_stored : (c : Iso) (k : ℕ) → T (is_ready c) → length (iso_region.put c) ≡ iso_region_size → set (iso_region.put c) iso_last_at (suc k) ≡ iso_region.put (iso_notes (suc k) c)
unfolding is_ready iso_notes
iso_notes_stored shut k t long = absurd t
iso_notes_stored (ready o) k t long = iso_last_stored o (suc k) long
