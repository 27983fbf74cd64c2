-- Write on an ISO 15765 channel: one message, a loop over messages, and the region of an open channel after it. Assumes nothing.
use mathlib.Core.Path.{◌≡◌, refl, sym, ap, ap₂, ◌∙◌, subst}
use Prim.Native.Nat.{ℕ, zero, suc, ◌+◌, ◌*◌, ◌-◌, ◌≤◌, ◌<◌}
use native.Mathlib.Omega.{arith}
use mathlib.Core.Bool.{Bool, true, false, not, ◌&&◌}
use mathlib.Core.Option.{none}
use mathlib.Core.List.{List, [], ◌∷◌, ◌++◌}
use lib.ListN.{length, get_or, set, take, drop}
use lib.Dec.{T, eqb, leb, ltb}
use borrow.Author.Tests.{ne_eqb, le-leb, lt-leb, lt-ltb, le-ltb}
use borrow.Rule.Slice.PartMut.{put_mid}
use Rattle.codec.specs.Plain.{all, is_byte}
use Rattle.codec.specs.Word.{word_at}
use Rattle.codec.specs.Code.{such, slot}
use Rattle.codec.proofs.Lists.{part_long}
use Rattle.codec.proofs.Many.{up_to_lawful}
use Rattle.codec.proofs.Part.{Part}
use Rattle.codec.proofs.Store.{one_more, count_at}
use Rattle.machine.specs.Codes.{code_of}
use Rattle.machine.specs.Limits.{size_in, data_in}
use Rattle.machine.specs.Filter.{Slots, any_slot}
use Rattle.machine.specs.Message.{id_of, Rec, size_of, wide_of, data_of, clean}
use Rattle.machine.specs.Channel.{write, Wrote, unless_stopped}
use Rattle.layout.specs.Promise.{gives}
use Rattle.layout.specs.Sizes.{flags_at}
use Rattle.iso.specs.Limits.{most_messages, iso_record_size, least_message, longest_single}
use Rattle.iso.specs.Iso.{Talk, carries, ready, set_written, shorter_iso, unless_iso, iso_message_code, iso_write_code, iso_writing, on_iso_write, on_ready}
use Rattle.iso_layout.specs.Sizes.{flow_in, talk_size, talks_at, messages_at, messages_size}
use Rattle.iso_layout.specs.Region.{rec536, message_cell, talk_cell, iso_region}
use Rattle.iso_layout.specs.Promise.{IsoOpened, iso_outcome}
use Rattle.iso_layout.proofs.Sizes.{message_size, messages_size_law}
use Rattle.iso_layout.proofs.Lawful.{message_lawful}
use Rattle.iso_layout.proofs.Good.{fli, GoodIso}
use Rattle.iso_layout.proofs.Region.{ready_of, good, moves, stays, lies, flags_at_law, talk_part, messages_part}
use Rattle.iso_layout.proofs.Calls.{writing_ok}
use Rattle.message.proofs.Laws.{id_of_data}
use Rattle.writing.specs.Store.{Queued, Stopped, StorePart, Laws}
use Rattle.writing.proofs.Loop.{one_queued, refused_as}
use Rattle.iso_writing.specs.declared.Flow.{Flow}
use Rattle.iso_writing.specs.Written.{iso, messages, MessagesPart, talk_by, talks_by, unmatched}
use Rattle.iso_writing.proofs.Flows.{same_place, under}

-- ---- one message

abbrev coded : ℕ → Bool → Bool → ℕ
coded own alone full = code_of ((not (eqb own 0), own) ∷ (alone, 0x17) ∷ (full, 0x11) ∷ [])

module _ (flags : ℕ) (ts : Slots Talk) (held : List Rec) (m : List ℕ) where
  by_tests : {own : ℕ} {alone full : Bool} → iso_message_code flags m ≡ own → unmatched ts m ≡ alone → leb most_messages (length held) ≡ full → iso_write_code flags ts held m ≡ coded own alone full
  unfolding iso_write_code unmatched
  by_tests p q r = λ i. coded (p i) (q i) (r i)

  code_bad : (iso_message_code flags m ≡ 0 → ⊥) → iso_write_code flags ts held m ≡ iso_message_code flags m
  unfolding iso_write_code code_of
  code_bad n = rw (ne_eqb (iso_message_code flags m) 0 n) refl

  code_alone : iso_message_code flags m ≡ 0 → unmatched ts m ≡ true → iso_write_code flags ts held m ≡ 0x17
  unfolding code_of
  code_alone e u = by_tests e u refl

  code_full : iso_message_code flags m ≡ 0 → unmatched ts m ≡ false → most_messages ≤ length held → iso_write_code flags ts held m ≡ 0x11
  unfolding code_of
  code_full e u h = by_tests e u (le-leb most_messages (length held) h)

  code_good : iso_message_code flags m ≡ 0 → unmatched ts m ≡ false → length held < most_messages → iso_write_code flags ts held m ≡ 0
  unfolding code_of
  code_good e u h = by_tests e u (lt-leb most_messages (length held) h)

-- the test as code makes it
pub alone_is : (ts : Slots Talk) (m : List ℕ) {size id : ℕ} {known wide : Bool} → size ≡ word_at size_in m → least_message ≤ size_of m → wide ≡ wide_of m → id ≡ id_of (drop data_in m) → known ≡ any_slot (carries wide id) ts
    → (ltb longest_single size && not known) ≡ unmatched ts m
unfolding unmatched size_of
alone_is ts m es low ew ei ek =
    ap₂ (λ (k : ℕ) (b : Bool). ltb longest_single k && not b) es (ek ∙ ap₂ (λ (w : Bool) (k : ℕ). any_slot (carries w k) ts) ew (ei ∙ sym (id_of_data m (omega arith))))

module _ {flags : ℕ} {store : List ℕ} (w : MessagesPart flags store) (ts : Slots Talk) where
  abbrev xs : List Rec
  xs = (messages flags).get store

  sized : length store ≡ (messages flags).size
  sized = w.long ∙ sym (messages_size_law flags)

  is : store ≡ (messages flags).put xs
  is = sym ((up_to_lawful (message_lawful flags) most_messages).put_get store sized w.valid)

  count : get_or store 0 0 ≡ length xs
  count = count_at (message_cell flags) most_messages xs is

  -- what one message leaves
  abbrev After : List ℕ → ℕ → List ℕ → Type 0
  After m code after = Queued (messages flags) (iso_write_code flags ts) store m code after

  pub bad_message : (m : List ℕ) (code : ℕ) → code ≡ iso_message_code flags m → (code ≡ 0 → ⊥) → After m code store
  bad_message m code e n = refused_as store m code is n (code_bad flags ts xs m (λ z. n (e ∙ z)) ∙ sym e)

  pub no_filter : (m : List ℕ) → iso_message_code flags m ≡ 0 → unmatched ts m ≡ true → After m 0x17 store
  no_filter m e u = refused_as store m 0x17 is (λ z. omega arith) (code_alone flags ts xs m e u)

  pub no_room : (m : List ℕ) → iso_message_code flags m ≡ 0 → unmatched ts m ≡ false → most_messages ≤ get_or store 0 0 → After m 0x11 store
  no_room m e u h = refused_as store m 0x11 is (λ z. omega arith) (code_full flags ts xs m e u (omega (arith, count)))

  -- where the next record begins
  abbrev pub next_at : ℕ
  next_at = 1 + iso_record_size * get_or store 0 0

  pub room : get_or store 0 0 < most_messages → length (take (next_at + iso_record_size - next_at) (drop next_at store)) ≡ iso_record_size
  room h = part_long next_at iso_record_size store (omega (arith, w.long))

  pub stored : (m ys : List ℕ) → iso_message_code flags m ≡ 0 → unmatched ts m ≡ false → get_or store 0 0 < most_messages → ys ≡ rec536.put (clean m)
      → After m 0 (set (put_mid next_at (next_at + iso_record_size - next_at) store ys) 0 (get_or store 0 0 + 1))
  unfolding message_cell such
  stored m ys e u h ey =
      let n : get_or store 0 0 ≡ length xs = count in
      let code : iso_write_code flags ts xs m ≡ 0 = code_good flags ts xs m e u (omega arith) in
      record {
        code_is = sym code;
        store_is =
            one_more (message_lawful flags) most_messages iso_record_size (message_size flags) xs is ((up_to_lawful (message_lawful flags) most_messages).ok_get store sized w.valid) (clean m) next_at
            (next_at + iso_record_size - next_at) (get_or store 0 0 + 1) (omega arith) ey (omega arith) (omega arith) (omega arith)
            ∙ ap (messages flags).put (sym (one_queued (iso_write_code flags ts xs m) xs m code));
      }

-- ---- the loop

module _ (flags : ℕ) (ts : Slots Talk) where
  pub more_ok : (held : List Rec) (m : List ℕ) → iso_write_code flags ts held m ≡ 0 → iso_record_size ≤ length m → T (all is_byte m) → T ((messages flags).ok held) → T ((messages flags).ok (held ++ clean m ∷ []))
  unfolding iso_writing unless_stopped
  more_ok held m e h b t =
      subst (λ (k : ℕ). T ((messages flags).ok (unless_stopped k held 0 (record { held = held ++ clean m ∷ []; count = 1; code = 0 })).held)) e (writing_ok flags ts 1 m held 0 (omega arith) b t)

  pub none_left : (b : List ℕ) (held : List Rec) (count : ℕ) → iso_writing flags ts 0 b held count ≡ record { held = held; count = count; code = 0 }
  unfolding iso_writing
  none_left b held count = refl

  pub one_left : (n : ℕ) (b : List ℕ) (held : List Rec) (count : ℕ)
      → iso_writing flags ts (suc n) b held count ≡ unless_stopped (iso_write_code flags ts held b) held count (iso_writing flags ts n (drop iso_record_size b) (held ++ clean b ∷ []) (count + 1))
  unfolding iso_writing
  one_left n b held count = refl

-- a write on an ISO 15765 channel
pub iso_laws : (flags : ℕ) (ts : Slots Talk) → Laws (iso flags ts)
iso_laws flags ts =
    record {
      lawful = up_to_lawful (message_lawful flags) most_messages;
      none_left = none_left flags ts;
      one_left = one_left flags ts;
      more_ok = more_ok flags ts;
    }

pub part_is : (ts : Slots Talk) {flags : ℕ} {m : List ℕ} → MessagesPart flags m → StorePart (iso flags ts) m
part_is ts {flags} w = record { long = w.long ∙ sym (messages_size_law flags); valid = w.valid }

pub is_part : (ts : Slots Talk) {flags : ℕ} {m : List ℕ} → StorePart (iso flags ts) m → MessagesPart flags m
is_part ts {flags} w = record { long = w.long ∙ messages_size_law flags; valid = w.valid }

-- ---- conversations that carry the same

module _ (flags : ℕ) (ts us : Slots Talk) (same : (wide : Bool) (id : ℕ) → any_slot (carries wide id) ts ≡ any_slot (carries wide id) us) where
  same_code : (held : List Rec) (m : List ℕ) → iso_write_code flags ts held m ≡ iso_write_code flags us held m
  unfolding iso_write_code
  same_code held m = ap (λ (b : Bool). coded (iso_message_code flags m) (ltb longest_single (size_of m) && not b) (leb most_messages (length held))) (same (wide_of m) (id_of (data_of m)))

  same_writes : (n : ℕ) (b : List ℕ) (held : List Rec) (count : ℕ) → iso_writing flags ts n b held count ≡ iso_writing flags us n b held count
  unfolding iso_writing
  same_writes zero b held count = refl
  same_writes (suc n) b held count =
      ap₂ (λ (k : ℕ) (x : Wrote). unless_stopped k held count x) (same_code held b) (same_writes n (drop iso_record_size b) (held ++ clean b ∷ []) (count + 1))

-- ---- on the region of an open channel

-- f says what the bytes of conversation k of r say
pub record Says (f : Flow) (t : List ℕ) : Type 0 where
  pub taken : f.taken ≡ eqb (get_or t 0 0) 1
  pub width : f.wide ≡ eqb (get_or t 1 0) 1
  pub flow : f.id ≡ word_at flow_in t

module _ {r : List ℕ} (f : IsoOpened r) where
  abbrev place : ℕ → List ℕ
  place k = take talk_size (drop (talks_at + k * talk_size) r)

  same_talks : (one two : Flow) → Says one (place 0) → Says two (place 1) → (wide : Bool) (id : ℕ) → any_slot (carries wide id) (talks_by one two) ≡ any_slot (carries wide id) (ready_of r).talks
  unfolding talks_by
  same_talks one two p q wide id =
      let g : GoodIso (ready_of r) = good r f in
      let fl : ℕ = fli (ready_of r) in
      let a = talk_part (ready_of r) r (lies r f) 0 (omega arith) in
      let b = talk_part (ready_of r) r (lies r f) 1 (omega arith) in
      same_place fl one (place 0) p.taken p.width p.flow g.one g.one_ok (a.is ∙ ap (λ (ts : Slots Talk). (slot (talk_cell fl)).put (get_or ts 0 none)) g.talks_are) wide id (talk_by two ∷ [])
      ∙ under wide id g.one (talk_by two ∷ []) (g.two ∷ [])
      (same_place fl two (place 1) q.taken q.width q.flow g.two g.two_ok (b.is ∙ ap (λ (ts : Slots Talk). (slot (talk_cell fl)).put (get_or ts 1 none)) g.talks_are) wide id [])
      ∙ ap (any_slot (carries wide id)) (sym g.talks_are)

  module _ {flags : ℕ} (e : flags ≡ word_at flags_at r) where
    flags_are : flags ≡ fli (ready_of r)
    flags_are = e ∙ flags_at_law (ready_of r) r (lies r f)

    held_part : Part iso_region r (messages (fli (ready_of r))) messages_at messages_size (ready_of r).written (λ ws. ready (set_written (ready_of r) ws))
    held_part = messages_part (ready_of r) r (lies r f)

    -- what `queue_all` asks
    pub messages_lent : MessagesPart flags (take messages_size (drop messages_at r))
    messages_lent =
        subst (λ (k : ℕ). MessagesPart k (take messages_size (drop messages_at r))) (sym flags_are) (record { long = held_part.long; valid = held_part.valid })

    pub write_done : (rates : List ℕ) (t n : ℕ) (b : List ℕ) (one two : Flow) → Says one (take talk_size (drop talks_at r)) → Says two (take talk_size (drop (talks_at + talk_size) r))
        → {code count : ℕ} {ys : List ℕ} → iso_record_size * n ≤ length b
        → Stopped (messages flags) (iso_writing flags (talks_by one two) n b ((messages flags).get (take messages_size (drop messages_at r))) 0) code count ys
        → gives code count [] (put_mid messages_at messages_size r ys) ≡ iso_outcome rates t r (write n b)
    unfolding on_ready on_iso_write unless_iso code_of shorter_iso
    write_done rates t n b one two p q {code} {count} {ys} h s =
        let k : ℕ = fli (ready_of r) in
        let w : Wrote = iso_writing k (ready_of r).talks n b (ready_of r).written 0 in
        let d : Stopped (messages k) w code count ys =
        subst (λ (x : Wrote). Stopped (messages k) x code count ys) (same_writes k (talks_by one two) (ready_of r).talks (same_talks one two p q) n b (ready_of r).written 0)
        (subst (λ (x : List Rec). Stopped (messages k) (iso_writing k (talks_by one two) n b x 0) code count ys) held_part.got
        (subst (λ (j : ℕ). Stopped (messages j) (iso_writing j (talks_by one two) n b ((messages j).get (take messages_size (drop messages_at r))) 0) code count ys) flags_are s)) in
        ap₂ (λ (x y : ℕ). gives x y [] (put_mid messages_at messages_size r ys)) d.code_is d.count_is
        ∙ moves r f rates t (write n b) _ w.code w.count [] _ (rw (le-ltb (length b) (iso_record_size * n) h) refl) (held_part.becomes ys w.held d.store_is)

  pub write_short : (rates : List ℕ) (t n : ℕ) (b : List ℕ) → length b < iso_record_size * n → gives 0x04 0 [] r ≡ iso_outcome rates t r (write n b)
  unfolding on_ready on_iso_write unless_iso code_of shorter_iso
  write_short rates t n b h = stays r f rates t (write n b) 0x04 0 [] (rw (lt-ltb (length b) (iso_record_size * n) h) refl)
