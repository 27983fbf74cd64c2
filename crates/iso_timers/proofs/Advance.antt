-- An advance in the bytes of an ISO 15765 region. Assumes nothing.
use Rattle.std.specs.Prelude.{if◌then◌else◌}
use mathlib.Core.Path.{◌≡◌, refl, sym, ap, ap₂, ◌∙◌, subst}
use Prim.Native.Nat.{ℕ, zero, suc, ◌+◌, ◌*◌, ◌≤◌, ◌<◌}
use native.Mathlib.Nat.{suc-ne-zero}
use native.Mathlib.Omega.{arith}
use mathlib.Core.Bool.{Bool, true, false, ◌&&◌}
use mathlib.Core.Option.{Option, none, some}
use mathlib.Core.List.{List, [], ◌∷◌, ◌++◌, map, append-nil}
use lib.ListN.{length, get_or, take, drop, length-map, length-drop}
use lib.Seq.{take_all, drop_at, get_or-take, get_or-drop, length-take-le}
use lib.Dec.{T, leb, ltb, ltb→lt}
use borrow.Author.Tests.{le-leb}
use borrow.Rule.Slice.PartMut.{put_mid, mid_of}
use Rattle.codec.specs.Code.{slot, many}
use Rattle.codec.proofs.Tests.{left, right, T_true, true_T}
use Rattle.codec.proofs.Lists.{all_map}
use Rattle.codec.proofs.Many.{many_make, many_count, many_each, slot_lawful}
use Rattle.records.proofs.Laws.{two_parts}
use Rattle.machine.specs.Limits.{most_advance}
use Rattle.machine.specs.Filter.{Slots}
use Rattle.iso.specs.Limits.{most_talks}
use Rattle.iso.specs.Iso.{Transfer, Talk, Owner, nobody, message, transfer_at, Flight, OpenIso, Iso, shut, ready, set_talks, set_flight, turned, turned_slot, turn_each, becomes, airborne_at, owner_in, flight_in, with_talks, later_transfer, on_iso_advance}
use Rattle.iso_layout.specs.Sizes.{transfer_in, talk_size, talks_size, talks_at, iso_region_size}
use Rattle.iso_layout.specs.Region.{talk_cell, talks_code, owner_fits, flight_fits, iso_region}
use Rattle.iso_layout.specs.Promise.{IsoOpened}
use Rattle.iso_layout.proofs.Sizes.{slot_size}
use Rattle.iso_layout.proofs.Lawful.{talk_lawful}
use Rattle.iso_layout.proofs.Held.{talk_make, talk_sound}
use Rattle.iso_layout.proofs.Good.{GoodIso}
use Rattle.iso_layout.proofs.Hearing.{turned_ok, later_ok}
use Rattle.iso_layout.proofs.Region.{again, is_shut, not_shut, ready_of, is_ready_law, kept, good, Lies, lies, talks_part, talk_part}
use Rattle.talk_head.specs.Headed.{payload_at, head_at}
use Rattle.talk_head.proofs.Taken.{Taken, taken, vacant}
use Rattle.talk_times.proofs.Times.{bare_stays}
use Rattle.iso_flights.specs.Lain.{Lain, disowned}
use Rattle.iso_flights.proofs.Flights.{lies_lain, of_lies}

-- ---- a flight that fits its conversations is theirs still

fits_owner : (ts : Slots Talk) (w : Owner) → T (owner_fits ts w) → owner_in ts w ≡ w
unfolding owner_fits owner_in
fits_owner ts nobody t = refl
fits_owner ts message t = refl
fits_owner ts (transfer_at k) t = ap (λ (q : Bool). if q then transfer_at k else nobody) (T_true (airborne_at (get_or ts k none)) t)

fits_same : (ts : Slots Talk) (f : Option Flight) → T (flight_fits ts f) → flight_in ts f ≡ f
unfolding flight_fits flight_in
fits_same ts none t = refl
fits_same ts (some f) t = ap (λ w. some (record { frame = f.frame; owner = w })) (fits_owner ts f.owner t)

module _ (us : ℕ) where
  abbrev passed : Talk → Transfer
  passed c = later_transfer us c.transfer

  -- ---- one conversation

  slot_passed : (flags : ℕ) (x : Option Talk) → T ((slot (talk_cell flags)).ok x) → T ((slot (talk_cell flags)).ok (turned_slot passed x))
  unfolding slot turned_slot becomes
  slot_passed flags none t = tt
  slot_passed flags (some c) t =
      let o = talk_sound flags c t in
      talk_make flags (turned c (passed c)) (turned_ok flags passed c o [] (later_ok flags 0 (omega arith) c o us c.transfer refl))

  -- what is free, idle or refuses stays so
  pub place_rests : (flags : ℕ) (t : List ℕ) → length t ≡ talk_size → T ((slot (talk_cell flags)).valid t) → get_or t transfer_in 0 < 2 → turned_slot passed ((slot (talk_cell flags)).get t) ≡ (slot (talk_cell flags)).get t
  unfolding head_at turned_slot turned
  place_rests flags t l v h = go (get_or t 0 0) refl
    where
      go : (k : ℕ) → get_or t 0 0 ≡ k → turned_slot passed ((slot (talk_cell flags)).get t) ≡ (slot (talk_cell flags)).get t
      go zero e = let g = vacant flags t l v e in ap (turned_slot passed) g ∙ sym g
      go (suc k) e =
          let p : Taken flags t = taken flags t l v (λ z. suc-ne-zero k (sym e ∙ z)) in
          ap (turned_slot passed) p.is ∙ ap {B = Option Talk} (λ x. some (turned p.talk x)) (bare_stays us (head_at t) (payload_at t) p.talk.transfer p.tells h) ∙ sym p.is

  -- ---- both

  module _ (flags : ℕ) (m : List ℕ) (l : length m ≡ talks_size) (v : T ((talks_code flags).valid m)) where
    abbrev s : ℕ
    s = (slot (talk_cell flags)).size

    one_valid : T ((slot (talk_cell flags)).valid (take talk_size m))
    unfolding talks_code many
    one_valid =
        subst (λ (n : ℕ). T ((slot (talk_cell flags)).valid (take n m))) (slot_size flags)
        (left ((slot (talk_cell flags)).valid (take s m)) _ v)

    two_valid : T ((slot (talk_cell flags)).valid (take talk_size (drop talk_size m)))
    unfolding talks_code many
    two_valid =
        subst (λ (n : ℕ). T ((slot (talk_cell flags)).valid (take n (drop n m)))) (slot_size flags)
        (left ((slot (talk_cell flags)).valid (take s (drop s m))) true (right ((slot (talk_cell flags)).valid (take s m)) _ v))

    got : (talks_code flags).get m ≡ (slot (talk_cell flags)).get (take talk_size m) ∷ (slot (talk_cell flags)).get (take talk_size (drop talk_size m)) ∷ []
    unfolding talks_code many
    got = ap {B = List (Option Talk)} (λ (n : ℕ). (slot (talk_cell flags)).get (take n m) ∷ (slot (talk_cell flags)).get (take n (drop n m)) ∷ []) (slot_size flags)

    put_two : (a b : Option Talk) → (slot (talk_cell flags)).put a ++ (slot (talk_cell flags)).put b ≡ (talks_code flags).put (a ∷ b ∷ [])
    unfolding talks_code many
    put_two a b = ap (λ (x : List ℕ). (slot (talk_cell flags)).put a ++ x) (sym (append-nil ((slot (talk_cell flags)).put b)))

    pub both_later : (ys zs : List ℕ)
        → ((flags : ℕ) → T ((slot (talk_cell flags)).valid (take talk_size m)) → ys ≡ (slot (talk_cell flags)).put (turned_slot passed ((slot (talk_cell flags)).get (take talk_size m))))
        → ((flags : ℕ) → T ((slot (talk_cell flags)).valid (mid_of talk_size talk_size (ys ++ drop talk_size m)))
        → zs ≡ (slot (talk_cell flags)).put (turned_slot passed ((slot (talk_cell flags)).get (mid_of talk_size talk_size (ys ++ drop talk_size m)))))
        → put_mid talk_size talk_size (ys ++ drop talk_size m) zs ≡ (talks_code flags).put (turn_each passed ((talks_code flags).get m))
    unfolding turn_each
    both_later ys zs y z =
        let c = slot (talk_cell flags) in
        let law = slot_lawful (talk_lawful flags) in
        let ey = y flags one_valid in
        let first : length (take talk_size m) ≡ talk_size = length-take-le talk_size m (omega arith) in
        let held : T (c.ok (c.get (take talk_size m))) = law.ok_get (take talk_size m) (first ∙ sym (slot_size flags)) one_valid in
        let ly : length ys ≡ talk_size = ap length ey ∙ law.long _ (slot_passed flags _ held) ∙ slot_size flags in
        let mid : mid_of talk_size talk_size (ys ++ drop talk_size m) ≡ take talk_size (drop talk_size m) = ap (λ (x : List ℕ). take talk_size x) (drop_at ys (drop talk_size m) talk_size ly) in
        let ez = z flags (subst (λ (x : List ℕ). T (c.valid x)) (sym mid) two_valid) ∙ ap (λ (x : List ℕ). c.put (turned_slot passed (c.get x))) mid in
        two_parts talk_size talk_size m ys zs (omega arith) ly ∙ ap₂ (λ (a b : List ℕ). a ++ b) ey ez
        ∙ put_two (turned_slot passed (c.get (take talk_size m))) (turned_slot passed (c.get (take talk_size (drop talk_size m))))
        ∙ ap (λ (x : List (Option Talk)). (talks_code flags).put (map (turned_slot passed) x)) (sym got)

  -- ---- in a region

  module _ (r : List ℕ) (long : length r ≡ iso_region_size) (v : T (iso_region.valid r)) (u : us ≤ most_advance) where
    abbrev after : List ℕ
    after = iso_region.put (on_iso_advance us (iso_region.get r))

    pub closed_stays : get_or r 0 0 ≡ 0 → r ≡ after
    unfolding on_iso_advance
    closed_stays e = let g = is_shut r long v e in sym (again r long v) ∙ ap iso_region.put (g ∙ sym (ap (on_iso_advance us) g))

    module _ (n : get_or r 0 0 ≡ 0 → ⊥) where
      opened : IsoOpened r
      opened = not_shut r long v n

      abbrev o : OpenIso
      o = ready_of r

      abbrev flags : ℕ
      flags = o.config.flags

      abbrev next : Slots Talk
      next = turn_each passed o.talks

      after_is : iso_region.put (ready (with_talks o next)) ≡ after
      unfolding on_iso_advance
      after_is = ap iso_region.put (sym (ap (on_iso_advance us) (is_ready_law r opened) ∙ ap (λ (q : Bool). if q then ready (with_talks o next) else ready o) (le-leb us most_advance u)))

      next_ok : T ((talks_code flags).ok next)
      unfolding talks_code turn_each
      next_ok =
          let t : T ((many most_talks (slot (talk_cell flags))).ok o.talks) = (lies r opened).talks_ok in
          many_make most_talks (slot (talk_cell flags)) (map (turned_slot passed) o.talks) (length-map o.talks (turned_slot passed) ∙ many_count most_talks (slot (talk_cell flags)) o.talks t)
          (all_map (slot (talk_cell flags)).ok (turned_slot passed) (slot_passed flags) o.talks (many_each most_talks (slot (talk_cell flags)) o.talks t))

      module _ (ys : List ℕ) (y : (flags : ℕ) → T ((talks_code flags).valid (mid_of talks_at talks_size r)) → ys ≡ (talks_code flags).put (turn_each passed ((talks_code flags).get (mid_of talks_at talks_size r)))) where
        moved : put_mid talks_at talks_size r ys ≡ iso_region.put (ready (set_talks o next))
        moved = let p = talks_part o r (lies r opened) in p.becomes ys next (y flags p.valid ∙ ap (λ x. (talks_code flags).put (turn_each passed x)) p.got)

        moved_lies : Lies (set_talks o next) (put_mid talks_at talks_size r ys)
        unfolding set_talks
        moved_lies =
            let l = lies r opened in
            record { bytes = sym moved; config_ok = l.config_ok; talks_ok = next_ok; written_ok = l.written_ok; flight_ok = l.flight_ok; heard_ok = l.heard_ok; last_ok = l.last_ok }

        pub lain : Lain (put_mid talks_at talks_size r ys)
        lain = lies_lain moved_lies

        pub moved_on : (zs : List ℕ) → ((l : Lain (put_mid talks_at talks_size r ys)) → zs ≡ iso_region.put (ready (disowned l.channel))) → zs ≡ after
        unfolding disowned with_talks set_talks
        moved_on zs z = of_lies moved_lies z ∙ after_is

      -- neither receives or transmits
      kind_of : (k : ℕ) → get_or (take talk_size (drop (talks_at + k * talk_size) r)) transfer_in 0 ≡ get_or r (talks_at + k * talk_size + transfer_in) 0
      kind_of k = get_or-take talk_size (drop (talks_at + k * talk_size) r) transfer_in 0 (omega arith) ∙ get_or-drop (talks_at + k * talk_size) r transfer_in 0

      rests_at : (k : ℕ) → k < most_talks → get_or r (talks_at + k * talk_size + transfer_in) 0 < 2 → turned_slot passed (get_or o.talks k none) ≡ get_or o.talks k none
      rests_at k h b =
          let p = talk_part o r (lies r opened) k h in
          subst (λ x. turned_slot passed x ≡ x) p.got
          (place_rests flags (take talk_size (drop (talks_at + k * talk_size) r)) p.long p.valid (subst (λ (j : ℕ). j < 2) (sym (kind_of k)) b))

      pub idle_stays : (ltb (get_or r (talks_at + transfer_in) 0) 2 && ltb (get_or r (talks_at + talk_size + transfer_in) 0) 2) ≡ true → r ≡ after
      unfolding turn_each with_talks set_talks set_flight
      idle_stays e =
          let t : T (ltb (get_or r (talks_at + transfer_in) 0) 2 && ltb (get_or r (talks_at + talk_size + transfer_in) 0) 2) = true_T _ e in
          let a : get_or r (talks_at + transfer_in) 0 < 2 = ltb→lt _ 2 (left (ltb (get_or r (talks_at + transfer_in) 0) 2) (ltb (get_or r (talks_at + talk_size + transfer_in) 0) 2) t) in
          let b : get_or r (talks_at + talk_size + transfer_in) 0 < 2 = ltb→lt _ 2 (right (ltb (get_or r (talks_at + transfer_in) 0) 2) (ltb (get_or r (talks_at + talk_size + transfer_in) 0) 2) t) in
          let g : GoodIso o = good r opened in
          let one = rests_at 0 (omega arith) a in
          let two = rests_at 1 (omega arith) b in
          let pair : o.talks ≡ g.one ∷ g.two ∷ [] = g.talks_are in
          let first : turned_slot passed g.one ≡ g.one = subst (λ (x : Slots Talk). turned_slot passed (get_or x 0 none) ≡ get_or x 0 none) pair one in
          let other : turned_slot passed g.two ≡ g.two = subst (λ (x : Slots Talk). turned_slot passed (get_or x 1 none) ≡ get_or x 1 none) pair two in
          let same : next ≡ o.talks = ap (map (turned_slot passed)) pair ∙ ap₂ {C = List (Option Talk)} (λ (x y : Option Talk). x ∷ y ∷ []) first other ∙ sym pair in
          let still : flight_in next o.flight ≡ o.flight = ap (λ (x : Slots Talk). flight_in x o.flight) (same ∙ pair) ∙ fits_same (g.one ∷ g.two ∷ []) o.flight g.linked_ok.owner in
          sym (kept r opened) ∙ ap₂ (λ (x : Slots Talk) (y : Option Flight). iso_region.put (ready (set_flight (set_talks o x) y))) (sym same) (sym still) ∙ after_is
