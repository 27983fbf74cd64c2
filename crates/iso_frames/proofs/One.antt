-- A frame concerns one conversation at most: the channel after it is that in which the one has heard it. Assumes nothing.
use Rattle.std.specs.Prelude.{if◌then◌else◌}
use mathlib.Core.Path.{◌≡◌, refl, sym, ap, ap₂, ◌∙◌, subst}
use Prim.Native.Nat.{ℕ}
use mathlib.Core.Bool.{Bool, true, false, not, ◌||◌, beq}
use mathlib.Core.Option.{Option, none, some}
use mathlib.Core.List.{List, [], ◌∷◌, ◌++◌, append-nil}
use lib.ListN.{get_or}
use lib.Dec.{T, eqb, eqb→eq, eqb_refl}
use Rattle.codec.specs.Plain.{member}
use Rattle.codec.proofs.Tests.{left, right, join, or_left, T_true, true_T}
use Rattle.machine.specs.Message.{Rec}
use Rattle.machine.specs.Filter.{Slots, any_slot}
use Rattle.iso.specs.Iso.{Talk, Transfer, Owner, nobody, message, transfer_at, Flight, OpenIso, becomes, listening, heard, turned, turned_slot, turn_each, turn_at, news, news_at, knows, airborne_at, owner_in, flight_in, set_talks, set_flight, set_receiving, with_talks, arrive_iso}
use Rattle.iso_layout.specs.Region.{knows_other, owner_fits, flight_fits}
use Rattle.iso_layout.proofs.Good.{GoodIso}
use Rattle.iso_frames.specs.Frame.{concerned, hears_at}

-- ---- the flight of a channel whose conversations stay

flight_stays : (ts : Slots Talk) (f : Option Flight) → T (flight_fits ts f) → flight_in ts f ≡ f
unfolding flight_fits flight_in owner_fits owner_in
flight_stays ts none t = refl
flight_stays ts (some f) t = ap (λ (w : Owner). some (record { frame = f.frame; owner = w })) (go f.owner t)
  where
    go : (w : Owner) → T (owner_fits ts w) → owner_in ts w ≡ w
    go nobody t = refl
    go message t = refl
    go (transfer_at k) t = ap (λ (g : Bool). if g then transfer_at k else nobody) (T_true (airborne_at (get_or ts k none)) t)

-- ---- one conversation

pub bool_same : (v w : Bool) → beq v w ≡ true → v ≡ w
bool_same true true e = refl
bool_same true false e = sym e
bool_same false true e = e
bool_same false false e = refl

pub bool_refl : (v : Bool) → T (beq v v)
bool_refl true = tt
bool_refl false = tt

-- two of one pattern and width know each other
both_know : (wide : Bool) (id : ℕ) (x y : Option Talk) → T (concerned wide id x) → T (concerned wide id y) → T (knows_other x (y ∷ []))
unfolding concerned knows_other any_slot knows member
both_know wide id none y t u = absurd t
both_know wide id (some c) none t u = absurd u
both_know wide id (some c) (some d) t u =
    let w : wide ≡ c.wide = bool_same wide c.wide (T_true (beq wide c.wide) (left (beq wide c.wide) (eqb id c.pattern) t)) in
    let v : wide ≡ d.wide = bool_same wide d.wide (T_true (beq wide d.wide) (left (beq wide d.wide) (eqb id d.pattern) u)) in
    let p : id ≡ c.pattern = eqb→eq id c.pattern (right (beq wide c.wide) (eqb id c.pattern) t) in
    let q : id ≡ d.pattern = eqb→eq id d.pattern (right (beq wide d.wide) (eqb id d.pattern) u) in
    let same : T (beq c.wide d.wide) = subst (λ (z : Bool). T (beq c.wide z)) (sym w ∙ v) (bool_refl c.wide) in
    let equal : T (eqb c.pattern d.pattern) = subst (λ (z : ℕ). T (eqb c.pattern z)) (sym p ∙ q) (eqb_refl c.pattern) in
    or_left (knows c.wide c.pattern c.flow d) (any_slot (knows c.wide c.pattern c.flow) [])
    (join (beq c.wide d.wide) (member c.pattern (d.pattern ∷ d.flow ∷ []) || member c.flow (d.pattern ∷ d.flow ∷ [])) same
    (or_left (member c.pattern (d.pattern ∷ d.flow ∷ [])) (member c.flow (d.pattern ∷ d.flow ∷ [])) (or_left (eqb c.pattern d.pattern) (member c.pattern (d.flow ∷ [])) equal)))

module _ (t : ℕ) (wide : Bool) (id : ℕ) (b : List ℕ) where
  abbrev after : Talk → Transfer
  after c = (heard t wide id b c).transfer

  abbrev told : Talk → List Rec
  told c = (heard t wide id b c).records

  abbrev after_it : Talk → Transfer
  after_it c = (listening t c b).transfer

  abbrev told_it : Talk → List Rec
  told_it c = (listening t c b).records

  -- a conversation that it does not concern stays and tells nothing; the other hears it
  away : (x : Option Talk) → concerned wide id x ≡ false → (turned_slot after x ≡ x) × (news_at told x ≡ [])
  unfolding concerned turned_slot news_at heard turned becomes
  away none e = (refl, refl)
  away (some c) e = (
    ap (λ (g : Bool). some (turned c (if g then listening t c b else becomes c.transfer []).transfer)) e,
    ap (λ (g : Bool). (if g then listening t c b else becomes c.transfer []).records) e,
  )

  near : (x : Option Talk) → concerned wide id x ≡ true → (turned_slot after x ≡ turned_slot after_it x) × (news_at told x ≡ news_at told_it x)
  unfolding concerned turned_slot news_at heard turned becomes
  near none e = (refl, refl)
  near (some c) e = (
    ap (λ (g : Bool). some (turned c (if g then listening t c b else becomes c.transfer []).transfer)) e,
    ap (λ (g : Bool). (if g then listening t c b else becomes c.transfer []).records) e,
  )

  news_two : (x y : Option Talk) → news told (x ∷ y ∷ []) ≡ news_at told x ++ news_at told y
  unfolding news news_at
  news_two none none = refl
  news_two none (some d) = append-nil (told d)
  news_two (some c) none = refl
  news_two (some c) (some d) = ap (λ (z : List Rec). told c ++ z) (append-nil (told d))

  -- ---- the channel

  module _ (o : OpenIso) (g : GoodIso o) where
    abbrev heard_by : Slots Talk → List Rec → OpenIso
    heard_by ts rs = set_receiving (with_talks o ts) (arrive_iso o.receiving rs)

    whole : heard_by (turn_each after o.talks) (news told o.talks) ≡ heard_by (turned_slot after g.one ∷ turned_slot after g.two ∷ []) (news_at told g.one ++ news_at told g.two)
    unfolding turn_each
    whole = ap₂ (λ (ts : Slots Talk) (rs : List Rec). heard_by ts rs) (ap (turn_each after) g.talks_are) (ap (news told) g.talks_are ∙ news_two g.one g.two)

    -- none is concerned
    pub none_hears : concerned wide id g.one ≡ false → concerned wide id g.two ≡ false → heard_by (turn_each after o.talks) (news told o.talks) ≡ o
    unfolding set_receiving with_talks set_flight set_talks arrive_iso
    none_hears p q =
        let x = away g.one p in
        let y = away g.two q in
        let ts : turned_slot after g.one ∷ turned_slot after g.two ∷ [] ≡ o.talks = ap₂ (λ (a c : Option Talk). a ∷ c ∷ []) x.0 y.0 ∙ sym g.talks_are in
        let rs : news_at told g.one ++ news_at told g.two ≡ [] = ap₂ (λ (a c : List Rec). a ++ c) x.1 y.1 in
        let f : flight_in o.talks o.flight ≡ o.flight = flight_stays o.talks o.flight (subst (λ (z : Slots Talk). T (flight_fits z o.flight)) (sym g.talks_are) g.linked_ok.owner) in
        whole ∙ ap₂ (λ (z : Slots Talk) (rs : List Rec). heard_by z rs) ts rs ∙ ap (λ (z : Option Flight). set_flight o z) f

    -- the first is, and so the second is not; or the second is
    pub first_hears : concerned wide id g.one ≡ true → heard_by (turn_each after o.talks) (news told o.talks) ≡ hears_at 0 t b o
    unfolding hears_at turn_at
    first_hears p =
        let other : concerned wide id g.two ≡ false = alone (concerned wide id g.two) (λ u. both_know wide id g.one g.two (true_T _ p) u) g.linked_ok.apart in
        let x = near g.one p in
        let y = away g.two other in
        whole
        ∙ ap₂ (λ (z : Slots Talk) (rs : List Rec). heard_by z rs) (ap₂ (λ (a c : Option Talk). a ∷ c ∷ []) x.0 y.0) (ap₂ (λ (a c : List Rec). a ++ c) x.1 y.1 ∙ append-nil (news_at told_it g.one))
        ∙ sym (ap (λ (ts : Slots Talk). heard_by (turn_at 0 after_it ts) (news_at told_it (get_or ts 0 none))) g.talks_are)
      where
        alone : (u : Bool) → (T u → T (knows_other g.one (g.two ∷ []))) → T (not (knows_other g.one (g.two ∷ []))) → u ≡ false
        alone true f n = absurd (never (knows_other g.one (g.two ∷ [])) n (f tt))
          where
            never : (k : Bool) → T (not k) → T k → ⊥
            never true n u = n
            never false n u = u
        alone false f n = refl

    pub second_hears : concerned wide id g.one ≡ false → concerned wide id g.two ≡ true → heard_by (turn_each after o.talks) (news told o.talks) ≡ hears_at 1 t b o
    unfolding hears_at turn_at
    second_hears p q =
        let x = away g.one p in
        let y = near g.two q in
        whole
        ∙ ap₂ (λ (z : Slots Talk) (rs : List Rec). heard_by z rs) (ap₂ (λ (a c : Option Talk). a ∷ c ∷ []) x.0 y.0) (ap₂ (λ (a c : List Rec). a ++ c) x.1 y.1)
        ∙ sym (ap (λ (ts : Slots Talk). heard_by (turn_at 1 after_it ts) (news_at told_it (get_or ts 1 none))) g.talks_are)
