-- What was in flight has landed, in the bytes of a region. Assumes nothing.
use mathlib.Core.Path.{◌≡◌, refl, sym, ap, ap₂, ◌∙◌, subst}
use Prim.Native.Nat.{ℕ, zero, suc, ◌+◌, ◌-◌, ◌*◌, ◌^◌, ◌≤◌, ◌<◌}
use native.Mathlib.Nat.{suc-ne-zero}
use native.Mathlib.Numerals.{one-add}
use native.Mathlib.Omega.{arith}
use mathlib.Core.Bool.{Bool, true, false}
use mathlib.Core.Option.{Option, none, some}
use mathlib.Core.List.{List, [], ◌∷◌, ◌++◌}
use lib.ListN.{length, get_or, set, take, drop}
use lib.Dec.{T}
use borrow.Rule.Slice.PartMut.{put_mid, mid_of}
use Rattle.codec.specs.Plain.{zeros, all}
use Rattle.codec.specs.Code.{byte, both, via, such, slot}
use Rattle.codec.proofs.Tests.{true_T, T_true}
use Rattle.codec.proofs.Lists.{Each}
use Rattle.codec.proofs.Part.{byte_of}
use Rattle.machine.specs.Message.{Rec}
use Rattle.machine.specs.Filter.{Slots}
use Rattle.machine.specs.Channel.{says, sent}
use Rattle.layout.specs.Promise.{gives}
use Rattle.iso.specs.Limits.{most_talks, iso_data}
use Rattle.iso.specs.Iso.{Transfer, Talk, Owner, nobody, message, transfer_at, Flight, OpenIso, ready, set_talks, set_flight, set_receiving, turned_slot, turn_at, news_at, airborne_at, sent_of, done_of, un_single, landed_talks, messages_done, done_records, arrive_iso, iso_sending, did, on_ready}
use Rattle.iso_layout.specs.Sizes.{talk_size, talks_at, iso_flight_at, iso_flight_size}
use Rattle.iso_layout.specs.Region.{heard_cell, owner_parts, talk_cell, talks_code, payload508, flight_code, owner_fits, flight_fits, iso_region}
use Rattle.iso_layout.specs.Promise.{IsoOpened, iso_outcome}
use Rattle.iso_layout.proofs.Sizes.{iso_flight_size_law}
use Rattle.iso_layout.proofs.Held.{ToSend}
use Rattle.iso_layout.proofs.Good.{FineIso, fli, Linked, GoodIso, good_iso, good_talks}
use Rattle.iso_layout.proofs.Taking.{FlightOk, flight_sound, LandedOk, landed_ok, dones_ok}
use Rattle.iso_layout.proofs.Region.{ready_of, is_ready_law, good, moves, stays, Lies, lies, talk_part, flight_part, opened_again, ready_again}
use Rattle.talk_head.specs.Headed.{payload_on}
use Rattle.talk_head.proofs.Taken.{Taken, taken}
use Rattle.talk_message.specs.Sent.{messages}
use Rattle.talk_message.specs.declared.Sent.{Sent}
use Rattle.iso_single.specs.Single.{SingleIn}
use Rattle.iso_landing.specs.Landing.{channel_in, arrives, Holds, ended_by, landed_by}

-- a place of a conversation, lent
pub lent_size : (at : ℕ) → at + talk_size - at ≡ talk_size
lent_size at = omega arith

-- ---- what is in flight, by its first bytes

mark_there : (flags : ℕ) (x : Option Flight) → (get_or ((slot (flight_code flags)).put x) 0 0 ≡ 0 → ⊥) → Flight
unfolding slot
mark_there flags none n = absurd (n refl)
mark_there flags (some f) n = f

mark_is : (flags : ℕ) (x : Option Flight) (n : get_or ((slot (flight_code flags)).put x) 0 0 ≡ 0 → ⊥) → x ≡ some (mark_there flags x n)
unfolding slot mark_there
mark_is flags none n = absurd (n refl)
mark_is flags (some f) n = refl

none_there : (flags : ℕ) (x : Option Flight) → get_or ((slot (flight_code flags)).put x) 0 0 ≡ 0 → x ≡ none
unfolding slot
none_there flags none e = refl
none_there flags (some f) e = absurd (suc-ne-zero 0 e)

owner_byte : (flags : ℕ) (f : Flight) → get_or ((slot (flight_code flags)).put (some f)) 1 0 ≡ owner_parts f.owner
unfolding slot flight_code via such both byte
owner_byte flags f = refl

none_put : (flags : ℕ) → zeros iso_flight_size ≡ (slot (flight_code flags)).put none
unfolding slot
none_put flags =
    let s : 1 + (flight_code flags).size ≡ iso_flight_size = iso_flight_size_law flags in
    ap (λ (k : ℕ). zeros k) (sym s ∙ one-add (flight_code flags).size)

module _ (r : List ℕ) (v : IsoOpened r) where
  abbrev o : OpenIso
  o = ready_of r

  abbrev flags : ℕ
  flags = o.config.flags

  first_is : get_or r iso_flight_at 0 ≡ get_or ((slot (flight_code flags)).put o.flight) 0 0
  first_is = let z : iso_flight_at + 0 ≡ iso_flight_at = refl in ap (λ (k : ℕ). get_or r k 0) (sym z) ∙ byte_of (flight_part o r (lies r v)) 0 (omega arith)

  pub nothing_sent : (rates : List ℕ) (now : ℕ) → get_or r iso_flight_at 0 ≡ 0 → gives 0x07 0 [] r ≡ iso_outcome rates now r sent
  unfolding on_ready iso_sending
  nothing_sent rates now e = stays r v rates now sent 0x07 0 [] (ap (iso_sending now o) (none_there flags o.flight (sym first_is ∙ e)))

  module _ (n : get_or r iso_flight_at 0 ≡ 0 → ⊥) where
    held : get_or ((slot (flight_code flags)).put o.flight) 0 0 ≡ 0 → ⊥
    held z = n (first_is ∙ z)

    abbrev f : Flight
    f = mark_there flags o.flight held

    flies : o.flight ≡ some f
    flies = mark_is flags o.flight held

    f_ok : T ((flight_code flags).ok f)
    unfolding slot
    f_ok = subst (λ (x : Option Flight). T ((slot (flight_code flags)).ok x)) flies (lies r v).flight_ok

    owner_is : get_or r (iso_flight_at + 1) 0 ≡ owner_parts f.owner
    owner_is = byte_of (flight_part o r (lies r v)) 1 (omega arith) ∙ ap (λ (x : Option Flight). get_or ((slot (flight_code flags)).put x) 1 0) flies ∙ owner_byte flags f

    pub owner_small : get_or r (iso_flight_at + 1) 0 ≤ 3
    owner_small = let k = (flight_sound flags f f_ok).few in omega (arith, owner_is)

    g : GoodIso o
    g = good r v

    l : Linked g.one g.two (some f)
    l = subst (Linked g.one g.two) flies g.linked_ok

    landed : LandedOk flags (landed_talks f.owner o.talks) (messages_done f f.owner o.talks)
    landed =
        subst (λ (ts : Slots Talk). LandedOk flags (landed_talks f.owner ts) (messages_done f f.owner ts)) (sym g.talks_are)
        (landed_ok flags g.one g.two f l g.one_ok g.two_ok (flight_sound flags f f_ok) f.owner refl)

    abbrev o' : OpenIso
    o' = set_flight (set_talks o (landed_talks f.owner o.talks)) none

    good' : GoodIso o'
    unfolding set_flight set_talks slot
    good' =
        record {
          config_ok = g.config_ok;
          one = landed.one;
          two = landed.two;
          talks_are = landed.talks_are;
          one_ok = landed.one_ok;
          two_ok = landed.two_ok;
          written_ok = g.written_ok;
          flight_ok = tt;
          queue_ok = g.queue_ok;
          last_ok = g.last_ok;
          linked_ok = landed.linked_ok;
          no_listener = g.no_listener;
        }

    abbrev put' : List ℕ
    put' = iso_region.put (ready o')

    landed_is : put' ≡ iso_region.put (ready (landed_by (channel_in r).flight (channel_in r)))
    unfolding channel_in landed_by
    landed_is = ap (λ (x : Option Flight). iso_region.put (ready (landed_by x o))) (sym flies)

    ended_is : messages_done f f.owner o.talks ≡ ended_by (channel_in r).flight (channel_in r).talks
    unfolding channel_in ended_by
    ended_is = ap (λ (x : Option Flight). ended_by x o.talks) (sym flies)

    -- ---- land

    empties : (x : OpenIso) {m : List ℕ} (k : Lies x m) (ys : List ℕ) → ys ≡ zeros (length (mid_of iso_flight_at iso_flight_size m)) → put_mid iso_flight_at iso_flight_size m ys ≡ iso_region.put (ready (set_flight x none))
    empties x {m} k ys y =
        let p = flight_part x m k in
        p.becomes ys none (y ∙ ap (λ (j : ℕ). zeros j) p.long ∙ none_put (fli x))

    same_talks : (w : Owner) → owner_parts w < 2 → landed_talks w o.talks ≡ o.talks
    unfolding landed_talks
    same_talks nobody h = refl
    same_talks message h = refl
    same_talks (transfer_at k) h = absurd (omega arith)

    pub landed_quietly : get_or r (iso_flight_at + 1) 0 < 2 → (ys : List ℕ) → ys ≡ zeros (length (mid_of iso_flight_at iso_flight_size r))
        → put_mid iso_flight_at iso_flight_size r ys ≡ iso_region.put (ready (landed_by (channel_in r).flight (channel_in r)))
    unfolding set_talks
    landed_quietly h ys y =
        empties o (lies r v) ys y
        ∙ ap (λ (ts : Slots Talk). iso_region.put (ready (set_flight (set_talks o ts) none))) (sym (same_talks f.owner (subst (λ (k : ℕ). k < 2) owner_is h))) ∙ landed_is

    -- the conversation that it belonged to
    module _ (k : ℕ) (e : k ≡ get_or r (iso_flight_at + 1) 0) (h : 2 ≤ k) (j : ℕ) (ej : j ≡ talk_size) where
      abbrev at : ℕ
      at = talks_at + (k - 2) * talk_size

      here : k - 2 < most_talks
      here = omega (arith, owner_small)

      owner_at : (w : Owner) → owner_parts w ≡ k → w ≡ transfer_at (k - 2)
      owner_at nobody q = absurd (omega arith)
      owner_at message q = absurd (omega arith)
      owner_at (transfer_at i) q = let s : i ≡ k - 2 = omega arith in ap transfer_at s

      its : f.owner ≡ transfer_at (k - 2)
      its = owner_at f.owner (sym (e ∙ owner_is))

      abbrev passed : Talk → Transfer
      passed c = sent_of c.transfer

      module _ (ys : List ℕ) (y : (flags : ℕ) → T ((slot (talk_cell flags)).valid (take j (drop at r))) → ys ≡ (slot (talk_cell flags)).put (turned_slot passed ((slot (talk_cell flags)).get (take j (drop at r))))) where
        turned_is : landed_talks f.owner o.talks ≡ set o.talks (k - 2) (turned_slot passed (get_or o.talks (k - 2) none))
        unfolding landed_talks turn_at
        turned_is = ap (λ (w : Owner). landed_talks w o.talks) its

        moved : put_mid at j r ys ≡ iso_region.put (ready (set_talks o (landed_talks f.owner o.talks)))
        moved =
            let p = talk_part o r (lies r v) (k - 2) here in
            let lent : (flags : ℕ) → T ((slot (talk_cell flags)).valid (take talk_size (drop at r))) → ys ≡ (slot (talk_cell flags)).put (turned_slot passed ((slot (talk_cell flags)).get (take talk_size (drop at r)))) =
            subst (λ (i : ℕ). (flags : ℕ) → T ((slot (talk_cell flags)).valid (take i (drop at r))) → ys ≡ (slot (talk_cell flags)).put (turned_slot passed ((slot (talk_cell flags)).get (take i (drop at r))))) ej y in
            ap (λ (i : ℕ). put_mid at i r ys) ej
            ∙ p.becomes ys (turned_slot passed (get_or o.talks (k - 2) none)) (lent flags p.valid ∙ ap (λ (x : Option Talk). (slot (talk_cell flags)).put (turned_slot passed x)) p.got)
            ∙ ap (λ (ts : Slots Talk). iso_region.put (ready (set_talks o ts))) (sym turned_is)

        moved_lies : Lies (set_talks o (landed_talks f.owner o.talks)) (put_mid at j r ys)
        unfolding set_talks set_flight
        moved_lies =
            let q = lies r v in
            record { bytes = sym moved; config_ok = q.config_ok; talks_ok = good_talks o' good'; written_ok = q.written_ok; flight_ok = q.flight_ok; heard_ok = q.heard_ok; last_ok = q.last_ok }

        pub landed_on : (zs : List ℕ) → zs ≡ zeros (length (mid_of iso_flight_at iso_flight_size (put_mid at j r ys)))
            → put_mid iso_flight_at iso_flight_size (put_mid at j r ys) zs ≡ iso_region.put (ready (landed_by (channel_in r).flight (channel_in r)))
        landed_on zs z = empties _ moved_lies zs z ∙ landed_is

      -- its message
      in_the_air : T (airborne_at (get_or o.talks (k - 2) none))
      unfolding flight_fits owner_fits
      in_the_air =
          let t : T (owner_fits (g.one ∷ g.two ∷ []) f.owner) = l.owner in
          subst (λ (ts : Slots Talk). T (airborne_at (get_or ts (k - 2) none))) (sym g.talks_are) (subst (λ (w : Owner). T (owner_fits (g.one ∷ g.two ∷ []) w)) its t)

      taken_there : (x : Option Talk) → T (airborne_at x) → get_or ((slot (talk_cell flags)).put x) 0 0 ≡ 0 → ⊥
      unfolding slot airborne_at
      taken_there none t q = t
      taken_there (some c) t q = suc-ne-zero 0 q

      lent_place : take j (drop at r) ≡ take talk_size (drop at r)
      lent_place = ap (λ (i : ℕ). take i (drop at r)) ej

      pub place_long : length (take j (drop at r)) ≡ talk_size
      place_long = ap length lent_place ∙ (talk_part o r (lies r v) (k - 2) here).long

      pub place_payload : T (payload508.valid (drop payload_on (take j (drop at r))))
      place_payload =
          let p = talk_part o r (lies r v) (k - 2) here in
          subst (λ (m : List ℕ). T (payload508.valid (drop payload_on m))) (sym lent_place)
          (taken flags (take talk_size (drop at r)) p.long p.valid (λ q. taken_there (get_or o.talks (k - 2) none) in_the_air (ap (λ (m : List ℕ). get_or m 0 0) (sym p.is) ∙ q))).payload

      pub message_of : (ms : List Rec) → ((flags : ℕ) → T ((slot (talk_cell flags)).valid (take j (drop at r))) → news_at (λ c. done_of c c.transfer) ((slot (talk_cell flags)).get (take j (drop at r))) ≡ ms)
          → ms ≡ ended_by (channel_in r).flight (channel_in r).talks
      unfolding messages_done
      message_of ms y =
          let p = talk_part o r (lies r v) (k - 2) here in
          sym (y flags (subst (λ (m : List ℕ). T ((slot (talk_cell flags)).valid m)) (sym lent_place) p.valid))
          ∙ ap (λ (m : List ℕ). news_at (λ c. done_of c c.transfer) ((slot (talk_cell flags)).get m)) lent_place ∙ ap (news_at (λ c. done_of c c.transfer)) p.got
          ∙ ap (λ (w : Owner). messages_done f w o.talks) (sym its) ∙ ended_is

    -- ---- the message

    none_of : (w : Owner) → owner_parts w < 1 → [] ≡ messages_done f w o.talks
    unfolding messages_done
    none_of nobody h = refl
    none_of message h = absurd (omega arith)
    none_of (transfer_at i) h = absurd (omega arith)

    pub no_message : get_or r (iso_flight_at + 1) 0 < 1 → [] ≡ ended_by (channel_in r).flight (channel_in r).talks
    no_message h = none_of f.owner (subst (λ (k : ℕ). k < 1) owner_is h) ∙ ended_is

    one_of : (w : Owner) → owner_parts w ≡ 1 → un_single f.frame ∷ [] ≡ messages_done f w o.talks
    unfolding messages_done
    one_of nobody h = absurd (omega arith)
    one_of message h = refl
    one_of (transfer_at i) h = absurd (omega arith)

    module _ (h : get_or r (iso_flight_at + 1) 0 ≡ 1) where
      pub single : SingleIn (mid_of iso_flight_at iso_flight_size r)
      single =
          record {
            flags = flags;
            flight = f;
            ok = f_ok;
            owner = sym owner_is ∙ h;
            bytes = ap (slot (flight_code flags)).put (sym flies) ∙ sym (flight_part o r (lies r v)).is;
          }

      pub single_of : (ms : List Rec) → ((s : SingleIn (mid_of iso_flight_at iso_flight_size r)) → ms ≡ un_single s.flight.frame ∷ []) → ms ≡ ended_by (channel_in r).flight (channel_in r).talks
      single_of ms y =
          y (record { flags = flags; flight = f; ok = f_ok; owner = sym owner_is ∙ h; bytes = ap (slot (flight_code flags)).put (sym flies) ∙ sym (flight_part o r (lies r v)).is })
          ∙ one_of f.owner (sym owner_is ∙ h) ∙ ended_is

    -- ---- all of it

    module _ (now : ℕ) (small : now < 2 ^ 32) (ys : List ℕ) (y : ys ≡ iso_region.put (ready (landed_by (channel_in r).flight (channel_in r)))) (ms : List Rec) (em : ms ≡ ended_by (channel_in r).flight (channel_in r).talks) where
      is_put : put' ≡ ys
      is_put = landed_is ∙ sym y

      fine' : FineIso (ready o')
      fine' = good_iso o' good'

      pub opened_then : IsoOpened ys
      opened_then = subst IsoOpened is_put (opened_again o' fine')

      channel_is : channel_in ys ≡ o'
      unfolding channel_in
      channel_is = ap ready_of (sym is_put) ∙ ready_again o' fine'

      messages_are : ms ≡ messages_done f f.owner o.talks
      messages_are = em ∙ sym ended_is

      pub holds : Holds now (channel_in ys) ms
      holds =
          subst (λ (x : OpenIso). Holds now x ms) (sym channel_is)
          (subst (λ (xs : List Rec). Holds now o' xs) (sym messages_are) (unfold set_flight set_talks in dones_ok flags now small o.config.loopback (messages_done f f.owner o.talks) landed.messages_ok))

      pub all_sent : (rates : List ℕ) (zs : List ℕ) → zs ≡ iso_region.put (ready (arrives now (channel_in ys) ms)) → gives 0 0 [] zs ≡ iso_outcome rates now r sent
      unfolding on_ready iso_sending did arrives set_flight set_talks set_receiving
      all_sent rates zs z =
          moves r v rates now sent (ready (arrives now o' (messages_done f f.owner o.talks))) 0 0 [] zs (ap (iso_sending now o) flies)
          (z ∙ (λ i. iso_region.put (ready (arrives now (channel_is i) (messages_are i)))))
