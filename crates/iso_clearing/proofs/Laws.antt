-- Stopping and clearing, on the region of an open ISO 15765 channel: the answers of `iso`. Assumes nothing.
use Rattle.std.specs.Prelude.{if◌then◌else◌}
use mathlib.Core.Path.{◌≡◌, refl, sym, ap, ◌∙◌}
use Prim.Native.Nat.{ℕ, ◌+◌, ◌-◌, ◌*◌, ◌≤◌, ◌<◌}
use native.Mathlib.Omega.{arith}
use mathlib.Core.Bool.{Bool, true, false}
use mathlib.Core.Option.{Option, none, some}
use mathlib.Core.List.{List, []}
use lib.ListN.{length, get_or, set, take, drop}
use lib.Dec.{T}
use borrow.Author.Tests.{ne_eqb}
use borrow.Rule.Slice.PartMut.{put_mid}
use Rattle.codec.specs.Plain.{within, zeros}
use Rattle.codec.specs.Code.{Code, byte, word32, both, both_on, via, such, mark, many, slot, up_to}
use Rattle.codec.proofs.Tests.{join, true_T, within_low, within_high}
use Rattle.codec.proofs.Many.{many_count, many_set}
use Rattle.codec.proofs.Part.{Part, byte_of}
use Rattle.machine.specs.Codes.{code_of}
use Rattle.machine.specs.Filter.{Slots, taken, has}
use Rattle.machine.proofs.Slots.{has_place, has_none}
use Rattle.machine.specs.Channel.{Receiving, clear, stop_filter}
use Rattle.layout.specs.Memory.{config}
use Rattle.layout.specs.Promise.{gives}
use Rattle.iso.specs.Limits.{most_talks, most_messages}
use Rattle.iso.specs.Iso.{Talk, OpenIso, Iso, ready, did, unless_iso, no_talks, set_talks, set_written, set_receiving, with_talks, on_ready, on_stop_talk, on_iso_clear}
use Rattle.iso_layout.specs.Sizes.{talk_size, talks_size, messages_size, heard_size, talks_at, messages_at, heard_at}
use Rattle.iso_layout.specs.Region.{rec536, message_cell, heard_cell, payload508, transfer_plain, transfer_code, talk_cell, talks_code, heard_part, iso_rest, ready_parts, iso_region}
use Rattle.iso_layout.specs.Promise.{IsoOpened, iso_outcome}
use Rattle.iso_layout.proofs.Good.{fli}
use Rattle.iso_layout.proofs.Region.{ready_of, moves, stays, Lies, lies, talks_part, talk_part, messages_part, receiving_part_law}
use Rattle.iso_flights.specs.Lain.{Lain, disowned}

-- ---- zeros are the bytes of nothing

pub none_zeros : (flags : ℕ) → (slot (talk_cell flags)).put none ≡ zeros talk_size
unfolding slot talk_cell such via both mark byte word32 transfer_code transfer_plain payload508 many
none_zeros flags = refl

no_talks_law : (flags : ℕ) → (talks_code flags).put no_talks ≡ zeros talks_size
unfolding no_talks talks_code talk_cell transfer_code transfer_plain payload508 mark via such both many slot word32 byte
no_talks_law flags = refl

no_messages : (flags : ℕ) → (up_to most_messages (message_cell flags)).put [] ≡ zeros messages_size
unfolding up_to message_cell rec536 via such both many word32 byte
no_messages flags = refl

no_queue : (flags : ℕ) → (heard_part flags).put (record { queue = []; lost = false }) ≡ zeros (heard_size + 1)
unfolding heard_part up_to heard_cell rec536 mark via such both many word32 byte
no_queue flags = refl

talks_none : (flags : ℕ) → T ((talks_code flags).ok no_talks)
unfolding talks_code no_talks many slot
talks_none flags = tt

without : (flags : ℕ) (ts : Slots Talk) (k : ℕ) → T ((talks_code flags).ok ts) → T ((talks_code flags).ok (set ts k none))
unfolding talks_code
without flags ts k t = many_set most_talks (slot (talk_cell flags)) ts k none t (unfold slot in tt)

two_places : (flags : ℕ) (ts : Slots Talk) → T ((talks_code flags).ok ts) → length ts ≡ most_talks
unfolding talks_code
two_places flags ts t = many_count most_talks (slot (talk_cell flags)) ts t

-- a place's first byte says whether it is taken
first_byte : (flags : ℕ) (x : Option Talk) → get_or ((slot (talk_cell flags)).put x) 0 0 ≡ (if taken x then 1 else 0)
unfolding slot taken
first_byte flags none = refl
first_byte flags (some c) = refl

is_free : (b : Bool) → ◌≡◌ {A = ℕ} (if b then 1 else 0) 0 → b ≡ false
is_free true e = absurd (omega arith)
is_free false e = refl

is_taken : (b : Bool) → (◌≡◌ {A = ℕ} (if b then 1 else 0) 0 → ⊥) → b ≡ true
is_taken true n = refl
is_taken false n = absurd (n refl)

-- the place of one of two numbers, counted from 0
pub place_of : (n : ℕ) → within 1 most_talks n ≡ true → (1 ≤ n) × (n - 1 < most_talks)
place_of n w =
    let t = true_T (within 1 most_talks n) w in
    let l = within_low 1 most_talks n t in
    let h = within_high 1 most_talks n t in (l, omega arith)

module _ (r : List ℕ) (f : IsoOpened r) where
  abbrev o : OpenIso
  o = ready_of r

  abbrev flags : ℕ
  flags = fli (ready_of r)

  -- ---- other conversations, and the flight that lets go of what is over

  module _ (ts : Slots Talk) (ok : T ((talks_code (fli (ready_of r))).ok ts)) (m : List ℕ) (e : m ≡ iso_region.put (ready (set_talks (ready_of r) ts))) where
    whole : T ((both_on (λ c. c.flags) config iso_rest).ok (ready_parts (set_talks o ts)))
    unfolding both_on iso_rest both set_talks
    whole = let l : Lies o r = lies r f in search (join, ok, l.config_ok, l.written_ok, l.flight_ok, l.heard_ok, l.last_ok) depth 9

    abbrev lain : Lain m
    lain = record { channel = set_talks o ts; ok = whole; bytes = sym e }

    let_go : (zs : List ℕ) → ((l : Lain m) → zs ≡ iso_region.put (ready (disowned l.channel))) → zs ≡ iso_region.put (ready (with_talks o ts))
    unfolding disowned with_talks set_talks
    let_go zs z = z lain

  module _ (rates : List ℕ) (t : ℕ) where
    -- ---- stop

    module _ (number : ℕ) where
      refused : has o.talks number ≡ false → gives 0x16 0 [] r ≡ iso_outcome rates t r (stop_filter number)
      unfolding on_ready on_stop_talk unless_iso code_of
      refused e = stays r f rates t (stop_filter number) 0x16 0 [] (rw e refl)

      pub no_number : within 1 most_talks number ≡ false → gives 0x16 0 [] r ≡ iso_outcome rates t r (stop_filter number)
      no_number w = refused (has_none o.talks number (ap (λ (k : ℕ). within 1 k number) (two_places flags o.talks (lies r f).talks_ok) ∙ w))

      module _ (w : within 1 most_talks number ≡ true) where
        abbrev k : ℕ
        k = number - 1

        abbrev at : ℕ
        at = talks_at + (number - 1) * talk_size

        here : Part iso_region r (slot (talk_cell flags)) at talk_size (get_or o.talks k none) (λ x. ready (set_talks o (set o.talks k x)))
        here = talk_part o r (lies r f) k (place_of number w).1

        byte_is : get_or r at 0 ≡ (if taken (get_or o.talks k none) then 1 else 0)
        byte_is = let z : at ≡ at + 0 = omega arith in ap (λ (i : ℕ). get_or r i 0) z ∙ byte_of here 0 (omega arith) ∙ first_byte flags (get_or o.talks k none)

        has_is : has o.talks number ≡ taken (get_or o.talks k none)
        has_is = has_place o.talks number k (omega (arith, (place_of number w).0))

        pub not_held : get_or r (talks_at + (number - 1) * talk_size) 0 ≡ 0 → gives 0x16 0 [] r ≡ iso_outcome rates t r (stop_filter number)
        not_held e = refused (has_is ∙ is_free _ (sym byte_is ∙ e))

        -- its place, lent as n bytes, is zeros
        module _ (n : ℕ) (en : n ≡ talk_size) (ys : List ℕ) (y : ys ≡ zeros (length (take n (drop (talks_at + (number - 1) * talk_size) r)))) where
          emptied : put_mid at n r ys ≡ iso_region.put (ready (set_talks o (set o.talks k none)))
          emptied =
              ap (λ (j : ℕ). put_mid at j r ys) en
              ∙ here.becomes ys none (y ∙ ap (λ (j : ℕ). zeros (length (take j (drop at r)))) en ∙ ap (λ (j : ℕ). zeros j) here.long ∙ sym (none_zeros flags))

          pub stop_lain : Lain (put_mid (talks_at + (number - 1) * talk_size) n r ys)
          stop_lain = lain (set o.talks k none) (without flags o.talks k (lies r f).talks_ok) _ emptied

          pub stopped : (get_or r (talks_at + (number - 1) * talk_size) 0 ≡ 0 → ⊥) → (zs : List ℕ)
              → ((l : Lain (put_mid (talks_at + (number - 1) * talk_size) n r ys)) → zs ≡ iso_region.put (ready (disowned l.channel)))
              → gives 0 0 [] zs ≡ iso_outcome rates t r (stop_filter number)
          unfolding on_ready on_stop_talk unless_iso code_of did
          stopped b zs z =
              let there : has o.talks number ≡ true = has_is ∙ is_taken _ (λ e. b (byte_is ∙ e)) in
              moves r f rates t (stop_filter number) (ready (with_talks o (set o.talks k none))) 0 0 [] zs (rw there refl)
              (let_go (set o.talks k none) (without flags o.talks k (lies r f).talks_ok) _ emptied zs z)

    -- ---- clear

    module _ (kind : ℕ) where
      cleared : {B : Type 0} {d : Code B} {off n : ℕ} {x : B} {w : B → Iso} → Part iso_region r d off n x w → (b : B) → d.put b ≡ zeros n → (ys : List ℕ)
          → ys ≡ zeros (length (take n (drop off r))) → put_mid off n r ys ≡ iso_region.put (w b)
      cleared p b z ys e = p.becomes ys b (e ∙ ap (λ (k : ℕ). zeros k) p.long ∙ sym z)

      pub clear_messages : kind ≡ 1 → (ys : List ℕ) → ys ≡ zeros (length (take messages_size (drop messages_at r))) → gives 0 0 [] (put_mid messages_at messages_size r ys) ≡ iso_outcome rates t r (clear kind)
      unfolding on_ready on_iso_clear did
      clear_messages e ys y =
          moves r f rates t (clear kind) (ready (set_written o [])) 0 0 [] _ (rw e refl) (cleared (messages_part o r (lies r f)) [] (no_messages flags) ys y)

      pub clear_queue : kind ≡ 2 → (ys : List ℕ) → ys ≡ zeros (length (take (heard_size + 1) (drop heard_at r))) → gives 0 0 [] (put_mid heard_at (heard_size + 1) r ys) ≡ iso_outcome rates t r (clear kind)
      unfolding on_ready on_iso_clear did
      clear_queue e ys y =
          let q : Receiving = record { queue = []; lost = false } in
          moves r f rates t (clear kind) (ready (set_receiving o q)) 0 0 [] _ (rw e refl) (cleared (receiving_part_law o r (lies r f)) q (no_queue flags) ys y)

      pub clear_periodics : kind ≡ 3 → gives 0 0 [] r ≡ iso_outcome rates t r (clear kind)
      unfolding on_ready on_iso_clear did
      clear_periodics e = stays r f rates t (clear kind) 0 0 [] (rw e refl)

      pub clear_unknown : (kind ≡ 1 → ⊥) → (kind ≡ 2 → ⊥) → (kind ≡ 3 → ⊥) → (kind ≡ 4 → ⊥) → gives 0x0F 0 [] r ≡ iso_outcome rates t r (clear kind)
      unfolding on_ready on_iso_clear
      clear_unknown a b c d = stays r f rates t (clear kind) 0x0F 0 [] (rw (ne_eqb kind 1 a) (rw (ne_eqb kind 2 b) (rw (ne_eqb kind 3 c) (rw (ne_eqb kind 4 d) refl))))

      module _ (ys : List ℕ) (y : ys ≡ zeros (length (take talks_size (drop talks_at r)))) where
        silent : put_mid talks_at talks_size r ys ≡ iso_region.put (ready (set_talks o no_talks))
        silent = cleared (talks_part o r (lies r f)) no_talks (no_talks_law flags) ys y

        pub clear_lain : Lain (put_mid talks_at talks_size r ys)
        clear_lain = lain no_talks (talks_none flags) _ silent

        pub clear_talks : kind ≡ 4 → (zs : List ℕ) → ((l : Lain (put_mid talks_at talks_size r ys)) → zs ≡ iso_region.put (ready (disowned l.channel))) → gives 0 0 [] zs ≡ iso_outcome rates t r (clear kind)
        unfolding on_ready on_iso_clear did
        clear_talks e zs z =
            moves r f rates t (clear kind) (ready (with_talks o no_talks)) 0 0 [] zs (rw e refl) (let_go no_talks (talks_none flags) _ silent zs z)
