-- The oldest written message leaves the messages and its frame is in flight. Assumes nothing.
use mathlib.Core.Path.{◌≡◌, refl, sym, ap, ap₂, ◌∙◌, subst}
use Prim.Native.Nat.{ℕ, suc, ◌-◌, ◌≤◌, ◌<◌}
use native.Mathlib.Omega.{arith}
use mathlib.Core.Bool.{Bool, true, false, not, ◌||◌, true≢false}
use mathlib.Core.Option.{Option, none, some}
use mathlib.Core.List.{List, [], ◌∷◌, ◌++◌}
use lib.ListN.{length, get_or, take, drop, length-drop}
use lib.Seq.{length-take-le}
use lib.Dec.{T}
use borrow.Rule.Slice.PartMut.{put_mid, mid_of}
use borrow.Author.Tests.{le-leb, lt-leb}
use Rattle.codec.specs.Plain.{member, all, is_byte}
use Rattle.codec.specs.Code.{slot, up_to}
use Rattle.codec.proofs.Tests.{left}
use Rattle.codec.proofs.Lists.{of_member}
use Rattle.codec.proofs.Many.{up_to_count, up_to_each, up_to_drop}
use Rattle.codec.proofs.Part.{Part, byte_of}
use Rattle.machine.specs.Message.{Rec, bit, width_flag, id_bytes, id_of}
use Rattle.machine.specs.Filter.{Slots, any_slot}
use Rattle.receiving.proofs.Sent.{id_there}
use Rattle.iso.specs.Limits.{most_messages, id_size, iso_data, most_payload, longest_single, in_single}
use Rattle.iso.specs.Iso.{Talk, Owner, message, OpenIso, ready, Given, Chosen, set_talks, set_written, set_flight, framed, single_frame, transmitting, passing, giving, lowest, starting}
use Rattle.iso_layout.specs.Sizes.{messages_at, messages_size, iso_flight_at, iso_flight_size}
use Rattle.iso_layout.specs.Record.{message_cell}
use Rattle.iso_layout.specs.Region.{owner_parts, flight_code, transmits_in, iso_region}
use Rattle.iso_layout.specs.Promise.{IsoOpened}
use Rattle.iso_layout.proofs.Held.{ToSend, sending_sound}
use Rattle.iso_layout.proofs.Good.{fli, FineIso, GoodIso, Linked, good_iso}
use Rattle.iso_layout.proofs.Taking.{MayChoose, lowest_ok}
use Rattle.iso_layout.proofs.Region.{ready_of, kept, good, Lies, lies, messages_part, flight_part, opened_again, ready_again}
use Rattle.framing.specs.Data.{frame_room, carried, Carries}
use Rattle.framing.proofs.Laws.{single_carries}
use Rattle.iso_launching.specs.Launch.{messages, flown}
use Rattle.iso_giving.specs.Giving.{channel_in, chose, taking, Chose, Rule, starts, Segmented, Startable}
use Rattle.iso_giving.proofs.Rules.{fair_starts}
use Rattle.iso_sending.specs.Starting.{HeldIn, Reads, OldestIs, Calm}

-- ---- a channel with what was chosen can be held

pub chosen_good : (o : OpenIso) → GoodIso o → (x : Option Chosen) → MayChoose (fli o) x → GoodIso (taking o x)
unfolding taking set_talks set_written set_flight slot
chosen_good o g none k = g
chosen_good o g (some x) k =
    record {
      config_ok = g.config_ok;
      one = k.one;
      two = k.two;
      talks_are = k.talks_are;
      one_ok = k.one_ok;
      two_ok = k.two_ok;
      written_ok = k.written_ok;
      flight_ok = k.flight_ok;
      queue_ok = g.queue_ok;
      last_ok = g.last_ok;
      linked_ok = k.linked_ok;
      no_listener = g.no_listener;
    }

module _ (r : List ℕ) (f : IsoOpened r) (x : Option Chosen) (k : MayChoose (fli (ready_of r)) x) (u : List ℕ) (e : u ≡ iso_region.put (ready (taking (ready_of r) x))) where
  chosen_fine : FineIso (ready (taking (ready_of r) x))
  chosen_fine = good_iso (taking (ready_of r) x) (chosen_good (ready_of r) (good r f) x k)

  pub chosen_open : IsoOpened u
  chosen_open = subst IsoOpened (sym e) (opened_again (taking (ready_of r) x) chosen_fine)

  pub chosen_there : ready_of u ≡ taking (ready_of r) x
  chosen_there = ap ready_of e ∙ ready_again (taking (ready_of r) x) chosen_fine

-- ---- the choice with other messages left

unfoldable rewritten : List Rec → Option Chosen → Option Chosen
rewritten ws none = none
rewritten ws (some x) = some (record { frame = x.frame; owner = x.owner; talks = x.talks; written = ws })

module _ (R : Rule) (ws vs : List Rec) where
  passed : (s : Option Talk) (x : Option Chosen) → passing s (rewritten vs x) ≡ rewritten vs (passing s x)
  unfolding passing rewritten
  passed s none = refl
  passed s (some x) = refl

  given : (g : Option Given) (c : Talk) (ts : Slots Talk) (x : Option Chosen) → giving g c ts vs (rewritten vs x) ≡ rewritten vs (giving g c ts ws x)
  unfolding giving rewritten
  given none c ts x = refl
  given (some g) c ts x = refl

  lowest_rewritten : (k : ℕ) (ts : Slots Talk) → lowest R k ts vs ≡ rewritten vs (lowest R k ts ws)
  unfolding lowest rewritten
  lowest_rewritten k [] = refl
  lowest_rewritten k (none ∷ ts) = ap (passing none) (lowest_rewritten (suc k) ts) ∙ passed none (lowest R (suc k) ts ws)
  lowest_rewritten k (some c ∷ ts) =
      ap (giving (R k c) c ts vs) (ap (passing (some c)) (lowest_rewritten (suc k) ts) ∙ passed (some c) (lowest R (suc k) ts ws))
      ∙ given (R k c) c ts (passing (some c) (lowest R (suc k) ts ws))

chose_rewritten : (ws : List Rec) (x : Option Chosen) → chose (rewritten ws x) ≡ chose x
unfolding rewritten chose
chose_rewritten ws none = refl
chose_rewritten ws (some x) = refl

taking_rewritten : (o : OpenIso) (ws : List Rec) (x : Option Chosen) → true ≡ chose x → taking o (rewritten ws x) ≡ set_written (taking o x) ws
unfolding rewritten chose taking set_talks set_written set_flight
taking_rewritten o ws none e = absurd (true≢false e)
taking_rewritten o ws (some x) e = refl

written_rewritten : (o : OpenIso) (ws : List Rec) (x : Option Chosen) → true ≡ chose x → (taking o (rewritten ws x)).written ≡ ws
unfolding rewritten chose taking set_talks set_written set_flight
written_rewritten o ws none e = absurd (true≢false e)
written_rewritten o ws (some x) e = refl

none_taking : (o : OpenIso) (x : Option Chosen) → false ≡ chose x → taking o x ≡ o
unfolding chose taking
none_taking o none e = refl
none_taking o (some x) e = absurd (true≢false (sym e))

-- a payload that lies in front of a buffer
pub lent_long : (n : ℕ) (d : List ℕ) → length d ≡ most_payload → n ≤ most_payload → length (take (n - 0) d) ≡ n
lent_long n d l h = let e : length (take (n - 0) d) ≡ n - 0 = length-take-le (n - 0) d (omega arith) in omega arith

-- ---- where none transmits

neither_of : (a b : Bool) → (a || b) ≡ false → T (not a) × (b ≡ false)
neither_of true b e = absurd (true≢false e)
neither_of false b e = (tt, e)

calm_two : (a b : Option Talk) → any_slot (λ c. transmitting c.transfer) (a ∷ b ∷ []) ≡ false → T (not (transmits_in a)) × T (not (transmits_in b))
unfolding any_slot transmits_in
calm_two none none e = (tt, tt)
calm_two none (some d) e = (tt, (neither_of (transmitting d.transfer) false e).0)
calm_two (some c) none e = ((neither_of (transmitting c.transfer) false e).0, tt)
calm_two (some c) (some d) e =
    let p = neither_of (transmitting c.transfer) (transmitting d.transfer || false) e in
    (p.0, (neither_of (transmitting d.transfer) false p.1).0)

-- ---- the oldest goes

-- what stands in the messages' place without the oldest
abbrev pub Dropped : List ℕ → List ℕ → Type 0
Dropped s ys = (flags : ℕ) → T ((messages flags).valid s) → ys ≡ (messages flags).put (drop 1 ((messages flags).get s))

module _ (r : List ℕ) (f : IsoOpened r) where
  abbrev o : OpenIso
  o = ready_of r

  abbrev flags : ℕ
  flags = fli o

  abbrev held : List ℕ
  held = mid_of messages_at messages_size r

  place : Part iso_region r (messages (fli (ready_of r))) messages_at messages_size (ready_of r).written (λ ws. ready (set_written (ready_of r) ws))
  place = messages_part o r (lies r f)

  count_put : (ws : List Rec) → get_or ((messages flags).put ws) 0 0 ≡ length ws
  unfolding up_to
  count_put ws = refl

  count_at : get_or r messages_at 0 ≡ length o.written
  count_at = byte_of place 0 (omega arith) ∙ count_put o.written

  count_in : get_or held 0 0 ≡ length o.written
  count_in = ap (λ (x : List ℕ). get_or x 0 0) place.is ∙ count_put o.written

  pub dropped : (ys : List ℕ) → Dropped (mid_of messages_at messages_size r) ys → put_mid messages_at messages_size r ys ≡ iso_region.put (ready (set_written (ready_of r) (drop 1 (ready_of r).written)))
  dropped ys y = place.becomes ys (drop 1 o.written) (y flags place.valid ∙ ap (λ (ws : List Rec). (messages flags).put (drop 1 ws)) place.got)

  pub held_long : length (mid_of messages_at messages_size r) ≡ messages_size
  held_long = place.long

  pub held_few : get_or (mid_of messages_at messages_size r) 0 0 ≤ most_messages
  held_few = omega (arith, count_in, up_to_count most_messages (message_cell flags) o.written (lies r f).written_ok)

  -- none is held
  no_length : (ws : List Rec) → length ws ≡ 0 → ws ≡ []
  no_length [] e = refl
  no_length (m ∷ ws) e = absurd (omega arith)

  pub none_starts : get_or r messages_at 0 ≡ 0 → Chose (starting (channel_in r).written (channel_in r).talks) false r r
  unfolding starting chose taking
  none_starts z =
      let e : o.written ≡ [] = no_length o.written (sym count_at ∙ z) in (
        ap (λ (ws : List Rec). chose (starting ws o.talks)) (sym e),
        sym (kept r f) ∙ ap (λ (ws : List Rec). iso_region.put (ready (taking o (starting ws o.talks)))) (sym e),
      )

  -- one is
  module _ (n : get_or r messages_at 0 ≡ 0 → ⊥) where
    held_by : (m : Rec) (ws : List Rec) → o.written ≡ m ∷ ws → HeldIn held
    held_by m ws e =
        record {
          flags = flags;
          message = m;
          rest = ws;
          ok = subst (λ (x : List Rec). T ((messages flags).ok x)) e (lies r f).written_ok;
          bytes = sym (place.is ∙ ap (messages flags).put e);
        }

    pub held_in : HeldIn (mid_of messages_at messages_size r)
    held_in = go o.written refl
      where
        go : (ws : List Rec) → o.written ≡ ws → HeldIn held
        go [] e = absurd (n (count_at ∙ ap length e))
        go (m ∷ ws) e = held_by m ws e

    oldest_is : (wide : Bool) (id : ℕ) (payload : List ℕ) → ((h : HeldIn (mid_of messages_at messages_size r)) → Reads h.message wide id payload) → OldestIs (channel_in r) wide id payload
    unfolding held_by
    oldest_is wide id payload y = go o.written refl
      where
        go : (ws : List Rec) → o.written ≡ ws → OldestIs o wide id payload
        go [] e = absurd (n (count_at ∙ ap length e))
        go (m ∷ ws) e = record { message = m; rest = ws; is = e; reads = y (held_by m ws e) }

    -- its payload, in front of a buffer
    pub oldest_lent : (wide : Bool) (id size : ℕ) (buffer : List ℕ) → ((h : HeldIn (mid_of messages_at messages_size r)) → Reads h.message wide id (take size buffer)) → OldestIs (channel_in r) wide id (take (size - 0) buffer)
    oldest_lent wide id size buffer y =
        let z : size - 0 ≡ size = omega arith in
        oldest_is wide id (take (size - 0) buffer) (λ h. subst (λ (k : ℕ). Reads h.message wide id (take k buffer)) (sym z) (y h))

  module _ (wide : Bool) (id : ℕ) (payload : List ℕ) (x : OldestIs (channel_in r) wide id payload) where
    abbrev m : Rec
    m = x.message

    abbrev ws : List Rec
    ws = x.rest

    written_ok : T ((messages flags).ok (m ∷ ws))
    written_ok = subst (λ (y : List Rec). T ((messages flags).ok y)) x.is (lies r f).written_ok

    cell_ok : T ((message_cell flags).ok m)
    cell_ok = left ((message_cell flags).ok m) _ (up_to_each most_messages (message_cell flags) (m ∷ ws) written_ok)

    sendable : ToSend flags iso_data m
    unfolding message_cell
    sendable = sending_sound flags iso_data m cell_ok

    pub some_held : 0 < get_or (mid_of messages_at messages_size r) 0 0
    some_held = let e : length o.written ≡ suc (length ws) = ap length x.is in omega (arith, count_in)

    payload_long : length payload ≡ length m.bytes - id_size
    payload_long = ap length (sym x.reads.rest) ∙ length-drop id_size m.bytes

    -- as a single frame
    module _ (short : length payload ≤ in_single) where
      fits_one : length m.bytes ≤ longest_single
      fits_one = omega (arith, payload_long, sendable.fit.least)

      single_starting : starting o.written o.talks ≡ some (record { frame = single_frame m; owner = message; talks = o.talks; written = ws })
      unfolding starting
      single_starting = ap (λ (y : List Rec). starting y o.talks) x.is ∙ rw (le-leb (length m.bytes) longest_single fits_one) refl

      flag_is : (tx : ℕ) → T (member tx (0 ∷ 0x100 ∷ [])) → tx ≡ width_flag (bit 0x100 tx)
      unfolding width_flag bit
      flag_is tx t = of_member (λ (n : ℕ). n ≡ width_flag (bit 0x100 n)) (0 ∷ 0x100 ∷ []) (refl, (refl, tt)) tx t

      id_there_is : (b : List ℕ) → id_size ≤ length b → T (all is_byte b) → take id_size b ≡ id_bytes (id_of b)
      id_there_is [] h t = absurd (omega arith)
      id_there_is (p ∷ []) h t = absurd (omega arith)
      id_there_is (p ∷ y ∷ []) h t = absurd (omega arith)
      id_there_is (p ∷ y ∷ w ∷ []) h t = absurd (omega arith)
      id_there_is (p ∷ y ∷ w ∷ v ∷ b) h t = sym (id_there p y w v b t)

      four : id_size ≤ length m.bytes
      four = omega (arith, sendable.fit.least)

      single_framed : (b : List ℕ) → b ≡ carried (single_frame m) → framed wide id b ≡ single_frame m
      unfolding framed single_frame
      single_framed b e =
          let data_is : b ≡ (length m.bytes - id_size) ∷ drop id_size m.bytes = e ∙ single_carries m four in
          let flag : width_flag wide ≡ m.tx = ap width_flag (sym x.reads.width) ∙ sym (flag_is m.tx sendable.flag) in
          let front : id_bytes id ≡ take id_size m.bytes = ap id_bytes (sym x.reads.identifier) ∙ sym (id_there_is m.bytes four sendable.fit.bytes) in
          λ i. record { rx = 0; tx = flag i; time = 0; bytes = front i ++ data_is i }

      pub single_room : (n : ℕ) (d : List ℕ) → ((m : Rec) → id_size ≤ length m.bytes → drop id_size m.bytes ≡ payload → Carries n d (single_frame m)) → n ≤ frame_room
      single_room n d carries = (carries m four x.reads.rest).1

      module _ (ys : List ℕ) (y : Dropped (mid_of messages_at messages_size r) ys) where
        abbrev r₁ : List ℕ
        r₁ = put_mid messages_at messages_size r ys

        lies₁ : Lies (set_written o ws) r₁
        unfolding set_written
        lies₁ =
            let q = lies r f in
            record {
              bytes = sym (dropped ys y ∙ ap (λ (vs : List Rec). iso_region.put (ready (set_written o (drop 1 vs)))) x.is);
              config_ok = q.config_ok;
              talks_ok = q.talks_ok;
              written_ok = up_to_drop most_messages (message_cell flags) 1 (m ∷ ws) written_ok;
              flight_ok = q.flight_ok;
              heard_ok = q.heard_ok;
              last_ok = q.last_ok;
            }

        pub single_starts : (n : ℕ) (d b zs : List ℕ) → b ≡ take n d → ((m : Rec) → id_size ≤ length m.bytes → drop id_size m.bytes ≡ payload → Carries n d (single_frame m))
            → ((flags : ℕ) (w : Owner) → owner_parts w ≡ 1 → zs ≡ flown flags (framed wide id b) w)
            → Chose (starting (channel_in r).written (channel_in r).talks) true r (put_mid iso_flight_at iso_flight_size (put_mid messages_at messages_size r ys) zs)
        unfolding flown chose taking set_talks set_written set_flight
        single_starts n d b zs eb carries z =
            let frame : framed wide id b ≡ single_frame m = single_framed b (eb ∙ (carries m four x.reads.rest).0) in (
              ap chose (sym single_starting),
              (flight_part (set_written o ws) r₁ lies₁).becomes zs (some (record { frame = single_frame m; owner = message }))
                  (z flags message refl ∙ ap (λ (p : Rec). (slot (flight_code flags)).put (some (record { frame = p; owner = message }))) frame)
                  ∙ ap (λ (p : Option Chosen). iso_region.put (ready (taking o p))) (sym single_starting),
            )

    -- by its first frame
    module _ (more : in_single < length payload) (calm : Calm (channel_in r)) where
      too_long : longest_single < length m.bytes
      too_long = omega (arith, payload_long)

      segmented : Segmented flags wide id payload m
      segmented = record { ok = cell_ok; long = too_long; width = x.reads.width; identifier = x.reads.identifier; rest = x.reads.rest }

      pub startable : Startable (channel_in r).config.flags wide id payload
      startable = record { message = m; is = segmented }

      abbrev first : Option Chosen
      first = lowest (starts m) 0 o.talks o.written

      starting_is : starting o.written o.talks ≡ rewritten ws first
      unfolding starting
      starting_is = ap (λ (y : List Rec). starting y o.talks) x.is ∙ rw (lt-leb (length m.bytes) longest_single too_long) (lowest_rewritten (starts m) o.written ws 0 o.talks)

      may : MayChoose flags first
      may =
          let g : GoodIso o = good r f in
          subst (λ (ts : Slots Talk). MayChoose flags (lowest (starts m) 0 ts o.written)) (sym g.talks_are)
          (lowest_ok flags (Unit {0}) o.written (lies r f).written_ok g.one g.two (subst (Linked g.one g.two) calm.rests g.linked_ok)
          (λ p. calm_two g.one g.two (ap (any_slot (λ c. transmitting c.transfer)) (sym g.talks_are) ∙ calm.quiet)) (starts m) (λ j c q. (fair_starts segmented j).holds c q) g.one_ok g.two_ok g.one g.two refl refl)

      module _ (b : Bool) (u : List ℕ) (told : (m : Rec) → Segmented (channel_in r).config.flags wide id payload m → Chose (lowest (starts m) 0 (channel_in r).talks (channel_in r).written) b r u) where
        p : Chose first b r u
        p = told m segmented

        pub none_segmented : b ≡ false → Chose (starting (channel_in r).written (channel_in r).talks) false r u
        none_segmented e =
            let n : false ≡ chose (rewritten ws first) = sym e ∙ p.0 ∙ sym (chose_rewritten ws first) in (
              n ∙ ap chose (sym starting_is),
              p.1 ∙ ap (λ (y : OpenIso). iso_region.put (ready y)) (none_taking o first (sym e ∙ p.0) ∙ sym (none_taking o (rewritten ws first) n))
                  ∙ ap (λ (y : Option Chosen). iso_region.put (ready (taking o y))) (sym starting_is),
            )

        pub opened_then : IsoOpened u
        opened_then = chosen_open r f first may u p.1

        module _ (e : b ≡ true) where
          yes : true ≡ chose first
          yes = sym e ∙ p.0

          written_then : (ready_of u).written ≡ o.written
          written_then =
              ap (λ (y : OpenIso). y.written) (chosen_there r f first may u p.1) ∙ ap (λ (y : Option Chosen). (taking o y).written) (lowest_rewritten (starts m) o.written o.written 0 o.talks)
              ∙ written_rewritten o o.written first yes

          pub oldest_then : OldestIs (channel_in u) wide id payload
          oldest_then = record { message = m; rest = ws; is = written_then ∙ x.is; reads = x.reads }

          pub segmented_starts : (zs : List ℕ) → zs ≡ iso_region.put (ready (set_written (ready_of u) (drop 1 (ready_of u).written))) → Chose (starting (channel_in r).written (channel_in r).talks) true r zs
          segmented_starts zs z = (
            yes ∙ sym (chose_rewritten ws first) ∙ ap chose (sym starting_is),
            z ∙ ap₂ (λ (y : OpenIso) (vs : List Rec). iso_region.put (ready (set_written y (drop 1 vs)))) (chosen_there r f first may u p.1) (written_then ∙ x.is)
                ∙ ap (λ (y : OpenIso). iso_region.put (ready y)) (sym (taking_rewritten o ws first yes))
                ∙ ap (λ (y : Option Chosen). iso_region.put (ready (taking o y))) (sym starting_is),
          )
