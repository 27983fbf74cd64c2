-- The bytes of a connection some microseconds later where it doesn't stand, state by state. Assumes nothing.
use Rattle.std.specs.Prelude.{if◌then◌else◌}
use mathlib.Core.Path.{◌≡◌, refl, sym, ap, ◌∙◌, subst}
use Prim.Native.Nat.{ℕ, ◌+◌, ◌-◌}
use mathlib.Core.Bool.{Bool, true, false}
use mathlib.Core.Option.{Option, none, some}
use mathlib.Core.List.{List}
use lib.ListN.{length, get_or, take, drop}
use lib.Dec.{T, leb, ltb}
use borrow.Rule.Slice.PartMut.{put_mid}
use Rattle.codec.specs.Code.{Code}
use Rattle.codec.proofs.Part.{Part}
use Rattle.link.specs.Connection.{mntc, Trial, waits, flies, runs, wire_later, Exit, exit_later, Connection, absent, opening, connecting, standing, leaving, state_of, tried, passing, ended}
use Rattle.link_layout.specs.Sizes.{which_size, trials_size, trials_at, exit_at}
use Rattle.link_layout.specs.Connection.{trials, leaves, wire, connection_part}
use Rattle.link_layout.specs.Turned.{LinkPart, is_there, put_or}
use Rattle.link_layout.proofs.Lawful.{connection_lawful}
use Rattle.link_layout.proofs.Talking.{Held}
use Rattle.link_layout.proofs.Places.{connection_size, held, kept, fine, state_is, opening_trials_part, connecting_trials_part, leaving_exit_part, is_absent, IsLeaving, is_leaving}
use Rattle.link_timers.specs.Timed.{trial_later, trials_later}

-- ---- a move that may be refused

pub made_of : {A : Type 0} (x : Option A) → true ≡ is_there x → (y : A) × (x ≡ some y)
unfolding is_there
made_of none e = absurd (subst T e tt)
made_of (some y) e = (y, refl)

pub none_of : {A : Type 0} (x : Option A) → false ≡ is_there x → x ≡ none
unfolding is_there
none_of none e = refl
none_of (some y) e = absurd (subst T (sym e) tt)

abbrev pub Turns : {B : Type 0} → Code B → List ℕ → (B → Option B) → Bool → List ℕ → Type 0
Turns d s f made ys = (made ≡ is_there (f (d.get s))) × (ys ≡ put_or d (f (d.get s)) s)

module _ {A : Type 0} {c : Code A} {r : List ℕ} {B : Type 0} {d : Code B} {off n : ℕ} {v : B} {w : B → A} (p : Part c r d off n v w) (f : B → Option B) (made : Bool) (ys : List ℕ) where
  -- it was made: the whole with the new value
  pub turned : Turns d (take n (drop off r)) f made ys → made ≡ true → (y : B) × ((f v ≡ some y) × (put_mid off n r ys ≡ c.put (w y)))
  unfolding put_or
  turned q e =
      let s : List ℕ = take n (drop off r) in
      let m = made_of (f (d.get s)) (sym e ∙ q.0) in
      (m.0, (ap f (sym p.got) ∙ m.1, p.becomes ys m.0 (q.1 ∙ ap (λ (x : Option B). put_or d x s) m.1)))

  -- it was refused: the whole as it was
  pub kept_so : Turns d (take n (drop off r)) f made ys → made ≡ false → (f v ≡ none) × (put_mid off n r ys ≡ c.put (w v))
  unfolding put_or
  kept_so q e =
      let s : List ℕ = take n (drop off r) in
      let m = none_of (f (d.get s)) (sym e ∙ q.0) in
      (ap f (sym p.got) ∙ m, p.becomes ys v (q.1 ∙ ap (λ (x : Option B). put_or d x s) m ∙ p.is))

-- ---- the bytes of a connection that can be held

pub again : (m : List ℕ) (c : Connection) → Held c → m ≡ connection_part.put c → LinkPart m × (connection_part.get m ≡ c)
again m c t e = (
  subst LinkPart (sym e) (record { long = connection_lawful.long c t ∙ connection_size; valid = connection_lawful.valid_put c t }),
  ap connection_part.get e ∙ connection_lawful.get_put c t,
)

-- ---- an opening telegram

abbrev follow : Option (ℕ × Trial) → (ℕ → Trial → Connection) → Connection → Connection
follow none on over = over
follow (some p) on over = on p.0 p.1

tried_is : (t n : ℕ) (s : Trial) (on : ℕ → Trial → Connection) (over : Connection) → follow (trial_later t n s) on over ≡ tried t n s on over
unfolding trial_later tried
tried_is t n waits on over = refl
tried_is t n flies on over = refl
tried_is t n (runs k) on over = go (ltb t k) (leb mntc n)
  where
    go : (x y : Bool) → follow (if x then some (n, runs (k - t)) else if y then none else some (n + 1, waits)) on over ≡ (if x then on n (runs (k - t)) else if y then over else on (n + 1) waits)
    go true y = refl
    go false true = refl
    go false false = refl

-- what ends an opening telegram's trials is the end
record Trying (m : List ℕ) (us : ℕ) (c : Connection) : Type 0 where
  pub n : ℕ
  pub s : Trial
  pub on : ℕ → Trial → Connection
  pub part : Part connection_part m trials trials_at trials_size (n, s) (λ x. on x.0 x.1)
  pub whole : on n s ≡ c
  pub later : tried us n s on (ended c) ≡ passing us c

module _ (m : List ℕ) (p : LinkPart m) (us : ℕ) where
  abbrev pub Passing : List ℕ
  Passing = connection_part.put (passing us (connection_part.get m))

  pub to : (c c' : Connection) → held m p ≡ c → c' ≡ passing us c → connection_part.put c' ≡ Passing
  to c c' e q = ap connection_part.put (q ∙ ap (passing us) (sym e))

  pub none_passes : get_or m 0 0 ≡ 0 → m ≡ Passing
  unfolding passing
  none_passes z =
      let e = is_absent (held m p) (sym (state_is m p) ∙ z) in
      sym (kept m p) ∙ ap connection_part.put e ∙ to absent absent e refl

  -- a disconnect telegram
  module _ (z : get_or m 0 0 ≡ 4) where
    leaver : IsLeaving (held m p)
    leaver = is_leaving (held m p) (sym (state_is m p) ∙ z)

    exit : Part connection_part m leaves exit_at which_size leaver.1.0 (λ x. leaving leaver.0 x)
    exit = leaving_exit_part m p leaver.0 leaver.1.0 leaver.1.1

    pub exit_long : length (take which_size (drop exit_at m)) ≡ which_size
    exit_long = exit.long

    pub exit_passes : (ys : List ℕ)
        → (T (wire.valid (take which_size (drop exit_at m))) → ys ≡ wire.put (wire_later us (wire.get (take which_size (drop exit_at m)))))
        × (T (leaves.valid (take which_size (drop exit_at m))) → ys ≡ leaves.put (exit_later us (leaves.get (take which_size (drop exit_at m)))))
        → put_mid exit_at which_size m ys ≡ Passing
    unfolding passing
    exit_passes ys q =
        exit.becomes ys (exit_later us leaver.1.0) (q.1 exit.valid ∙ ap (λ (x : Exit). leaves.put (exit_later us x)) exit.got)
        ∙ to _ _ leaver.1.1 refl

  -- an opening telegram
  trying : (c : Connection) → held m p ≡ c → (state_of c ≡ 0 → ⊥) → (state_of c ≡ 3 → ⊥) → (state_of c ≡ 4 → ⊥) → Trying m us c
  unfolding state_of passing ended
  trying absent e d f g = absurd (d refl)
  trying (opening a n s) e d f g =
      record { n = n; s = s; on = opening a; part = opening_trials_part m p a n s e; whole = refl; later = refl }
  trying (connecting a tx n s) e d f g =
      record { n = n; s = s; on = connecting a tx; part = connecting_trials_part m p a tx n s e; whole = refl; later = refl }
  trying (standing a tx l) e d f g = absurd (f refl)
  trying (leaving tx x) e d f g = absurd (g refl)

  module _ (d : get_or m 0 0 ≡ 0 → ⊥) (f : get_or m 0 0 ≡ 3 → ⊥) (g : get_or m 0 0 ≡ 4 → ⊥) where
    abbrev tries : Trying m us (held m p)
    tries = trying (held m p) refl (λ e. d (state_is m p ∙ e)) (λ e. f (state_is m p ∙ e)) (λ e. g (state_is m p ∙ e))

    pub trials_lent : (length (take trials_size (drop trials_at m)) ≡ trials_size) × T (trials.valid (take trials_size (drop trials_at m)))
    trials_lent = (tries.part.long, tries.part.valid)

    module _ (made : Bool) (ys : List ℕ) (q : Turns trials (take trials_size (drop trials_at m)) (trials_later us) made ys) where
      pub trial_passes : made ≡ true → put_mid trials_at trials_size m ys ≡ Passing
      unfolding trials_later
      trial_passes e =
          let t = turned tries.part (trials_later us) made ys q e in
          t.1.1 ∙ to (held m p) _ refl
          (ap (λ (x : Option (ℕ × Trial)). follow x tries.on (ended (held m p))) (sym t.1.0) ∙ tried_is us tries.n tries.s tries.on (ended (held m p)) ∙ tries.later)

      module _ (e : made ≡ false) where
        over : (trials_later us (tries.n, tries.s) ≡ none) × (put_mid trials_at trials_size m ys ≡ connection_part.put (tries.on tries.n tries.s))
        over = kept_so tries.part (trials_later us) made ys q e

        same : LinkPart (put_mid trials_at trials_size m ys) × (connection_part.get (put_mid trials_at trials_size m ys) ≡ held m p)
        same = again (put_mid trials_at trials_size m ys) (held m p) (fine m p) (over.1 ∙ ap connection_part.put tries.whole)

        pub still : LinkPart (put_mid trials_at trials_size m ys)
        still = same.0

        pub trial_ends : (r : List ℕ) → r ≡ connection_part.put (ended (connection_part.get (put_mid trials_at trials_size m ys))) → r ≡ Passing
        unfolding trials_later
        trial_ends r y =
            y ∙ ap (λ (x : Connection). connection_part.put (ended x)) same.1
            ∙ to (held m p) _ refl
            (ap (λ (x : Option (ℕ × Trial)). follow x tries.on (ended (held m p))) (sym over.0) ∙ tried_is us tries.n tries.s tries.on (ended (held m p)) ∙ tries.later)
