-- LISTS OF PARAMETERS IN BYTES over the whole box, with rates out of the three: a list one pair at a time on a valid memory with the channel open, of
-- either kind, and what a list leaves that a pair ended. Assumes nothing.
use mathlib.Core.Path.{◌≡◌, refl, sym, ap, ◌∙◌, subst}
use Prim.Native.Nat.{ℕ, ◌+◌, ◌-◌, ◌≤◌, ◌<◌}
use native.Mathlib.Omega.{arith}
use mathlib.Core.Bool.{Bool, true, false, true≢false}
use mathlib.Core.List.{List, [], ◌∷◌, ◌++◌}
use lib.ListN.{length}
use lib.Dec.{T, ltb}
use borrow.Author.Tests.{ltb-true, ltb-false}
use borrow.Rule.Slice.PartMut.{mid_of}
use Rattle.codec.specs.Plain.{member}
use Rattle.machine.specs.Limits.{most_pairs}
use Rattle.machine.specs.Channel.{Chan, closed, opened, is_open, Answer, says, Pairs, flat, get_parameter, set_parameter, get_list, set_list, on_open}
use Rattle.machine.specs.Step.{Event, call}
use Rattle.machine.proofs.Parameters.{set_many, get_many}
use Rattle.layout.specs.Sizes.{region_size}
use Rattle.layout.specs.Promise as raw_promise
use Rattle.layout.specs.Promise.{Result, gives, answered}
use Rattle.layout.specs.Reach.{Bytes}
use Rattle.layout.proofs.Region.{open_of}
use Rattle.layout.proofs.Region as raw_region
use Rattle.layout.proofs.Calls.{Known}
use Rattle.iso.specs.Iso.{Iso, shut, ready, is_ready, on_ready}
use Rattle.iso.proofs.Lists.{iso_set_many, iso_get_many}
use Rattle.iso_layout.specs.Sizes.{iso_region_size, iso_last_at}
use Rattle.iso_layout.proofs.Region.{ready_of}
use Rattle.iso_layout.proofs.Region as iso_region
use Rattle.whole.specs.Device.{Device, raw, iso, chan_at, iso_at, any_at, step}
use Rattle.whole.specs.Demands.{pair_codes, SetEnded, GetEnded}
use Rattle.whole.proofs.Dispatch.{any_raw, any_iso}
use Rattle.whole.proofs.Lists.{IsOpen, open_raw, open_iso, OpenAt, set_none, get_none, SetGoes, set_step, set_stop, get_leaves_all, get_step, get_stop, set_ended, get_ended, list_value}
use Rattle.memory.specs.Sizes.{isos_at}
use Rattle.memory.specs.Memory.{memory, image, load, valid}
use Rattle.memory.specs.Promise.{outcome, noted_in, RawSeat, IsoSeat, Placed}
use Rattle.memory.specs.Runs.{SetListEnded, GetListEnded}
use Rattle.memory.proofs.Memory.{image_load, load_image, ok_load, valid_image}
use Rattle.memory.proofs.Reach.{ok_sane, step_ok}
use Rattle.memory.proofs.Rows.{raws, isos, by_step, not_valid}
use Rattle.memory.proofs.Entry.{raw_kind, iso_kind}
use Rattle.memory.proofs.Seats.{in_row, seat_open, raw_lent_law, raw_looked, iso_lent, iso_looked}
use Rattle.memory.proofs.Isolation.{outcome_is}

-- ---- a valid memory in which the channel of number k is open

pub record Ready (m : List ℕ) (k : ℕ) : Type 0 where
  pub good : T (valid m)
  pub place : ℕ
  pub number : k ≡ place + 1
  pub there : OpenAt place (load m)

raw_is : (c : Chan) → T (is_open c) → IsOpen (raw c)
unfolding is_open
raw_is closed t = absurd t
raw_is (opened o) t = open_raw o

iso_is : (c : Iso) → T (is_ready c) → IsOpen (iso c)
unfolding is_ready
iso_is shut t = absurd t
iso_is (ready o) t = open_iso o

module _ (m : List ℕ) (v : T (valid m)) (k base : ℕ) where
  ready_at : (i : ℕ) → k ≡ i + 1 → i < 8 → IsOpen (any_at i (load m)) → Ready m k
  ready_at i e h o = record { good = v; place = i; number = e; there = record { place = h; eight = (ok_sane (load m) (ok_load m v)).eight; is = o } }

  raw_ready : RawSeat m k base → Ready m k
  unfolding raw_kind raws
  raw_ready s =
      let low = s.low in
      let h : k - 1 < 4 = in_row raw_kind m v k base s in
      ready_at (k - 1) (omega arith) (omega arith) (subst IsOpen (sym (any_raw (k - 1) (load m) h)) (raw_is (chan_at (k - 1) (load m)) (seat_open raw_kind m v k base s)))

  iso_ready : IsoSeat m k base → Ready m k
  unfolding iso_kind isos
  iso_ready s =
      let low = s.low in
      let h : k - 5 < 4 = in_row iso_kind m v k base s in
      ready_at (k - 5 + 4) (omega arith) (omega arith) (subst IsOpen (sym (any_iso (k - 5) (load m))) (iso_is (iso_at (k - 5) (load m)) (seat_open iso_kind m v k base s)))

  -- where its region was found
  pub placed_ready : Placed m k base → (base ≡ 0 → ⊥) → Ready m k
  placed_ready p n = by (ltb base isos_at) refl
    where
      by : (b : Bool) → ltb base isos_at ≡ b → Ready m k
      by true q = raw_ready (p.raw n (ltb-true base isos_at q))
      by false q = iso_ready (p.iso (ltb-false base isos_at q))

  -- ---- more than 16 pairs are refused before any, and the code is noted

  module _ (rates : List ℕ) (ps : Pairs) (h : most_pairs < length ps) (zs : List ℕ) where
    abbrev pub Over : Type 0
    Over = (gives 0x04 0 [] zs ≡ outcome rates m (call k (set_list ps))) × (gives 0x04 0 (flat ps) zs ≡ outcome rates m (call k (get_list ps)))

    pub raw_over : RawSeat m k base → zs ≡ raw_promise.noted_in base 0x04 m → Over
    unfolding on_open
    raw_over s n =
        let r : List ℕ = mid_of base (base + region_size - base) m in
        let o = raw_lent_law m v k base s in (
          raw_looked m v k base s rates (set_list ps) refl 4 0 [] (raw_region.stays r o rates (load m).clock (set_list ps) 4 0 [] (set_many rates (open_of r) ps h)) zs n,
          raw_looked m v k base s rates (get_list ps) refl 4 0 (flat ps) (raw_region.stays r o rates (load m).clock (get_list ps) 4 0 (flat ps) (get_many rates (open_of r) ps h)) zs n,
        )

    pub iso_over : IsoSeat m k base → zs ≡ noted_in iso_last_at base 0x04 m → Over
    unfolding on_ready
    iso_over s n =
        let r : List ℕ = mid_of base (base + iso_region_size - base) m in
        let o = iso_lent m v k base s in (
          iso_looked m v k base s rates (set_list ps) 4 0 [] (iso_region.stays r o rates (load m).clock (set_list ps) 4 0 [] (iso_set_many rates (ready_of r) ps h)) zs n refl,
          iso_looked m v k base s rates (get_list ps) 4 0 (flat ps) (iso_region.stays r o rates (load m).clock (get_list ps) 4 0 (flat ps) (iso_get_many rates (ready_of r) ps h)) zs n refl,
        )

module _ (rates : List ℕ) (known : Known rates) where
  -- what a step of the machine is in bytes
  abbrev in_bytes : Device × Answer → Result
  in_bytes s = answered s.1 (image s.0)

  module _ (m : List ℕ) (v : T (valid m)) where
    pub told : (e : Event) → outcome rates m e ≡ in_bytes (step rates (load m) e)
    told e = sym (by_step m v rates e (step rates (load m) e).0 (step rates (load m) e).1 refl)

    next_ok : (e : Event) → Bytes e → T (memory.ok (step rates (load m) e).0)
    next_ok e b = step_ok rates known (load m) e (ok_load m v) b

    -- one call and then another
    told_next : (e e' : Event) → Bytes e → outcome rates (outcome rates m e).memory e' ≡ in_bytes (step rates (step rates (load m) e).0 e')
    told_next e e' b = ap (λ (x : Result). outcome rates x.memory e') (told e) ∙ outcome_is rates known (step rates (load m) e).0 e' (next_ok e b)

  -- ---- one pair at a time

  module _ (m : List ℕ) (k : ℕ) (r : Ready m k) where
    abbrev d : Device
    d = load m

    -- the channel's own number
    renumbered : (P : ℕ → Type 0) → P (r.place + 1) → P k
    renumbered P p = subst P (sym r.number) p

    pub set_ends : gives 0 0 [] m ≡ outcome rates m (call k (set_list []))
    unfolding says
    set_ends =
        renumbered (λ j. gives 0 0 [] m ≡ outcome rates m (call j (set_list [])))
        (ap (λ (x : List ℕ). gives 0 0 [] x) (sym (image_load m r.good)) ∙ sym (told m r.good _ ∙ ap in_bytes (set_none rates d r.place r.there)))

    pub get_ends : gives 0 0 [] m ≡ outcome rates m (call k (get_list []))
    unfolding says
    get_ends =
        renumbered (λ j. gives 0 0 [] m ≡ outcome rates m (call j (get_list [])))
        (ap (λ (x : List ℕ). gives 0 0 [] x) (sym (image_load m r.good)) ∙ sym (told m r.good _ ∙ ap in_bytes (get_none rates d r.place r.there)))

    -- a list's answer is its code alone
    pub no_value : (ps : Pairs) → length ps ≤ most_pairs → (outcome rates m (call k (get_list ps))).value ≡ 0
    no_value ps few =
        renumbered (λ j. (outcome rates m (call j (get_list ps))).value ≡ 0)
        (ap (λ (x : Result). x.value) (told m r.good _) ∙ list_value rates r.place ps d r.there few)

    module _ (p : ℕ × ℕ) (ps : Pairs) (h : length (p ∷ ps) ≤ most_pairs) where
      -- a set that is accepted: the channel stays open, and the rest of the list does what the list does
      pub set_goes : (c : ℕ) (m' : List ℕ) → gives c 0 [] m' ≡ outcome rates m (call k (set_parameter p.0 p.1)) → c ≡ 0
          → Ready m' k × (outcome rates m' (call k (set_list ps)) ≡ outcome rates m (call k (set_list (p ∷ ps))))
      set_goes c m' =
          renumbered (λ j. gives c 0 [] m' ≡ outcome rates m (call j (set_parameter p.0 p.1)) → c ≡ 0 → Ready m' j × (outcome rates m' (call j (set_list ps)) ≡ outcome rates m (call j (set_list (p ∷ ps)))))
          (λ e z.
          let one : Event = call (r.place + 1) (set_parameter p.0 p.1) in
          let same : gives c 0 [] m' ≡ in_bytes (step rates d one) = e ∙ told m r.good one in
          let left : m' ≡ image (step rates d one).0 = ap (λ (x : Result). x.memory) same in
          let ok : T (memory.ok (step rates d one).0) = next_ok m r.good one tt in
          let g : SetGoes rates d r.place r.there p = set_step rates d r.place r.there p (sym (ap (λ (x : Result). x.code) same) ∙ z) in (
            record {
              good = subst (λ (x : List ℕ). T (valid x)) (sym left) (valid_image _ ok);
              place = r.place;
              number = refl;
              there = subst (OpenAt r.place) (sym (ap load left ∙ load_image _ ok)) g.stays_open;
            },
            ap (λ (x : List ℕ). outcome rates x (call (r.place + 1) (set_list ps))) left ∙ outcome_is rates known (step rates d one).0 (call (r.place + 1) (set_list ps)) ok
                ∙ sym (told m r.good (call (r.place + 1) (set_list (p ∷ ps))) ∙ ap in_bytes (g.goes ps h)),
          ))

      -- one that is refused is what the list does
      pub set_stops : (c : ℕ) (m' : List ℕ) → gives c 0 [] m' ≡ outcome rates m (call k (set_parameter p.0 p.1)) → (c ≡ 0 → ⊥) → gives c 0 [] m' ≡ outcome rates m (call k (set_list (p ∷ ps)))
      set_stops c m' =
          renumbered (λ j. gives c 0 [] m' ≡ outcome rates m (call j (set_parameter p.0 p.1)) → (c ≡ 0 → ⊥) → gives c 0 [] m' ≡ outcome rates m (call j (set_list (p ∷ ps))))
          (λ e n.
          let one : Event = call (r.place + 1) (set_parameter p.0 p.1) in
          let same : gives c 0 [] m' ≡ in_bytes (step rates d one) = e ∙ told m r.good one in
          same ∙ sym (told m r.good (call (r.place + 1) (set_list (p ∷ ps))) ∙ ap in_bytes (set_stop rates d r.place r.there p ps h (λ z. n (ap (λ (x : Result). x.code) same ∙ z)))))

      -- a get that is accepted leaves the memory, and its value goes into the pair
      abbrev pub with_pair : ℕ → Result → Result
      with_pair w x = gives x.code 0 (p.0 ∷ w ∷ x.buffer) x.memory

      pub get_goes : (c w : ℕ) (m' : List ℕ) → gives c w [] m' ≡ outcome rates m (call k (get_parameter p.0)) → c ≡ 0
          → (m' ≡ m) × (with_pair w (outcome rates m (call k (get_list ps))) ≡ outcome rates m (call k (get_list (p ∷ ps))))
      unfolding says
      get_goes c w m' =
          renumbered (λ j. gives c w [] m' ≡ outcome rates m (call j (get_parameter p.0)) → c ≡ 0 → (m' ≡ m) × (with_pair w (outcome rates m (call j (get_list ps))) ≡ outcome rates m (call j (get_list (p ∷ ps)))))
          (λ e z.
          let one : Event = call (r.place + 1) (get_parameter p.0) in
          let same : gives c w [] m' ≡ in_bytes (step rates d one) = e ∙ told m r.good one in
          let code : (step rates d one).1.code ≡ 0 = sym (ap (λ (x : Result). x.code) same) ∙ z in (
            ap (λ (x : Result). x.memory) same ∙ ap image (get_leaves_all rates d r.place r.there p code) ∙ image_load m r.good,
            ap (with_pair w) (told m r.good (call (r.place + 1) (get_list ps)))
                ∙ ap (λ (x : ℕ). with_pair x (in_bytes (step rates d (call (r.place + 1) (get_list ps))))) (ap (λ (x : Result). x.value) same)
                ∙ sym (told m r.good (call (r.place + 1) (get_list (p ∷ ps))) ∙ ap in_bytes (get_step rates d r.place r.there p ps h code)),
          ))

      -- one that is refused leaves the list
      pub get_stops : (c w : ℕ) (m' : List ℕ) → gives c w [] m' ≡ outcome rates m (call k (get_parameter p.0)) → (c ≡ 0 → ⊥) → gives c 0 (flat (p ∷ ps)) m' ≡ outcome rates m (call k (get_list (p ∷ ps)))
      unfolding says
      get_stops c w m' =
          renumbered (λ j. gives c w [] m' ≡ outcome rates m (call j (get_parameter p.0)) → (c ≡ 0 → ⊥) → gives c 0 (flat (p ∷ ps)) m' ≡ outcome rates m (call j (get_list (p ∷ ps))))
          (λ e n.
          let one : Event = call (r.place + 1) (get_parameter p.0) in
          let same : gives c w [] m' ≡ in_bytes (step rates d one) = e ∙ told m r.good one in
          ap (λ (x : Result). gives x.code 0 (flat (p ∷ ps)) x.memory) same
          ∙ sym (told m r.good (call (r.place + 1) (get_list (p ∷ ps))) ∙ ap in_bytes (get_stop rates d r.place r.there p ps h (λ z. n (ap (λ (x : Result). x.code) same ∙ z)))))

  -- ---- what a list leaves that a pair ended

  -- a pair's code is given for no memory but a valid one
  ended_valid : (m : List ℕ) (e : Event) → member (outcome rates m e).code pair_codes ≡ true → T (valid m)
  unfolding member pair_codes
  ended_valid m e t = by (valid m) refl
    where
      by : (b : Bool) → valid m ≡ b → T b
      by true h = tt
      by false h = absurd (true≢false (sym t ∙ ap (λ (x : Result). member x.code pair_codes) (sym (not_valid rates m e h))))

  pub set_list_ended : (m : List ℕ) (k : ℕ) (ps : Pairs) → member (outcome rates m (call k (set_list ps))).code pair_codes ≡ true → SetListEnded rates m k ps
  set_list_ended m k ps t =
      let v = ended_valid m (call k (set_list ps)) t in
      let e : SetEnded rates (load m) k ps = set_ended rates (load m) (ok_sane (load m) (ok_load m v)).eight k ps (sym (ap (λ (x : Result). member x.code pair_codes) (told m v (call k (set_list ps)))) ∙ t) in
      record {
        before = e.before;
        refused = e.refused;
        behind = e.behind;
        is = e.is;
        accepted = ap (λ (x : Result). x.code) (told m v (call k (set_list e.before))) ∙ e.accepted;
        leaves = told m v (call k (set_list ps)) ∙ ap in_bytes e.leaves ∙ sym (told_next m v (call k (set_list e.before)) (call k (set_parameter e.refused.0 e.refused.1)) tt);
      }

  pub get_list_ended : (m : List ℕ) (k : ℕ) (ps : Pairs) → member (outcome rates m (call k (get_list ps))).code pair_codes ≡ true → GetListEnded rates m k ps
  get_list_ended m k ps t =
      let v = ended_valid m (call k (get_list ps)) t in
      let it = told m v (call k (get_list ps)) in
      let e : GetEnded rates (load m) k ps = get_ended rates (load m) (ok_sane (load m) (ok_load m v)).eight k ps (sym (ap (λ (x : Result). member x.code pair_codes) it) ∙ t) in
      let front = told m v (call k (get_list e.before)) in
      let next = told_next m v (call k (get_list e.before)) (call k (get_parameter e.refused.0)) tt in
      record {
        before = e.before;
        refused = e.refused;
        behind = e.behind;
        is = e.is;
        accepted = ap (λ (x : Result). x.code) front ∙ e.accepted;
        memory = ap (λ (x : Result). x.memory) it ∙ ap image e.leaves ∙ sym (ap (λ (x : Result). x.memory) next);
        code = ap (λ (x : Result). x.code) it ∙ e.code ∙ sym (ap (λ (x : Result). x.code) next);
        list = ap (λ (x : Result). x.buffer) it ∙ e.list ∙ sym (ap (λ (x : Result). x.buffer ++ flat (e.refused ∷ e.behind)) front);
      }
