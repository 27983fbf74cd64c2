-- What the region of an open ISO 15765 channel can hold, part by part, and how its conversations and its flight hang together. Assumes nothing.
use Rattle.std.specs.Prelude.{if◌then◌else◌}
use mathlib.Core.Path.{◌≡◌, refl, sym, subst}
use Prim.Native.Nat.{ℕ, suc, ◌+◌}
use native.Mathlib.Omega.{arith}
use mathlib.Core.Bool.{Bool, true, false, ◌&&◌, ◌||◌, not}
use mathlib.Core.Option.{Option, none, some}
use mathlib.Core.List.{[], ◌∷◌}
use lib.ListN.{length, get_or}
use lib.Dec.{T, eqb, eqb→eq}
use Rattle.codec.specs.Plain.{all}
use Rattle.codec.specs.Code.{both, both_on, via, such, many, slot, up_to}
use Rattle.codec.proofs.Tests.{left, right, join}
use Rattle.codec.proofs.Lawful.{mark_ok}
use Rattle.codec.proofs.Many.{many_count, many_each, many_make}
use Rattle.machine.specs.Filter.{Slots, any_slot}
use Rattle.iso.specs.Limits.{most_talks, most_messages, most_heard}
use Rattle.iso.specs.Iso.{Transfer, Talk, Owner, nobody, message, transfer_at, Flight, OpenIso, Iso, shut, ready, turned, knows, transmitting, airborne, airborne_at, owner_in, flight_in}
use Rattle.machine.specs.Channel.{listens}
use Rattle.layout.specs.Memory.{config}
use Rattle.iso_layout.specs.Region.{message_cell, heard_cell, talk_cell, talks_code, owner_parts, flight_code, heard_part, iso_last_part, iso_rest, transmits_in, knows_other, owner_fits, flies_in, owned_by, flight_fits, linked_talks, linked, ready_part, iso_region}
use Rattle.iso_layout.proofs.Held.{TalkOk, talk_make, talk_sound}

abbrev pub FineIso : Iso → Type 0
FineIso c = T (iso_region.ok c)

pub fine_shut : FineIso shut
unfolding iso_region via slot
fine_shut = tt

abbrev pub fli : OpenIso → ℕ
fli o = o.config.flags

-- ---- two conversations and a flight

pub record Linked (a b : Option Talk) (f : Option Flight) : Type 0 where
  pub apart : T (not (knows_other a (b ∷ [])))
  pub one : T (not (transmits_in a && transmits_in b))
  pub owner : T (flight_fits (a ∷ b ∷ []) f)
  pub first : T (flies_in a) → T (owned_by 0 f)
  pub second : T (flies_in b) → T (owned_by 1 f)

implied : (p q : Bool) → T (not p || q) → T p → T q
implied true q t u = t
implied false q t u = absurd u

implies : (p q : Bool) → (T p → T q) → T (not p || q)
implies true q f = f tt
implies false q f = tt

pub linked_make : (a b : Option Talk) (f : Option Flight) → Linked a b f → T (linked_talks (a ∷ b ∷ []) f)
unfolding linked_talks
linked_make a b f l =
    let p = implies (flies_in a) (owned_by 0 f) l.first in
    let q = implies (flies_in b) (owned_by 1 f) l.second in
    search (join, l.apart, l.one, l.owner)

pub linked_sound : (a b : Option Talk) (f : Option Flight) → T (linked_talks (a ∷ b ∷ []) f) → Linked a b f
unfolding linked_talks
linked_sound a b f t =
    record {
      apart = search (left, right);
      one = search (left, right);
      owner = search (left, right);
      first = implied (flies_in a) (owned_by 0 f) (search (left, right));
      second = implied (flies_in b) (owned_by 1 f) (search (left, right));
    }

-- a place holds a conversation that can be held, or none
abbrev pub PlaceOk : ℕ → Option Talk → Type 0
PlaceOk flags none = Unit {0}
PlaceOk flags (some c) = TalkOk flags c

place_make : (flags : ℕ) (x : Option Talk) → PlaceOk flags x → T ((slot (talk_cell flags)).ok x)
unfolding slot
place_make flags none o = tt
place_make flags (some c) o = talk_make flags c o

place_sound : (flags : ℕ) (x : Option Talk) → T ((slot (talk_cell flags)).ok x) → PlaceOk flags x
unfolding slot
place_sound flags none t = tt
place_sound flags (some c) t = talk_sound flags c t

-- ---- what an open channel holds

pub record GoodIso (o : OpenIso) : Type 0 where
  pub config_ok : T (config.ok o.config)
  pub one : Option Talk
  pub two : Option Talk
  pub talks_are : o.talks ≡ one ∷ two ∷ []
  pub one_ok : PlaceOk (fli o) one
  pub two_ok : PlaceOk (fli o) two
  pub written_ok : T ((up_to most_messages (message_cell (fli o))).ok o.written)
  pub flight_ok : T ((slot (flight_code (fli o))).ok o.flight)
  pub queue_ok : T ((up_to most_heard (heard_cell (fli o))).ok o.receiving.queue)
  pub last_ok : T (iso_last_part.ok o.last)
  pub linked_ok : Linked one two o.flight
  pub no_listener : T (not (listens (fli o)))

pair : (ts : Slots Talk) → length ts ≡ most_talks → (P : Slots Talk → Type 0) → ((a b : Option Talk) → P (a ∷ b ∷ [])) → P ts
pair [] h P f = absurd (omega arith)
pair (a ∷ []) h P f = absurd (omega arith)
pair (a ∷ b ∷ []) h P f = f a b
pair (a ∷ b ∷ c ∷ ts) h P f = absurd (omega arith)

-- both conversations; the queue with its mark
pub good_talks : (o : OpenIso) → GoodIso o → T ((talks_code (fli o)).ok o.talks)
unfolding talks_code
good_talks o g =
    let a = place_make (fli o) g.one g.one_ok in
    let b = place_make (fli o) g.two g.two_ok in
    subst (λ (x : Slots Talk). T ((many most_talks (slot (talk_cell (fli o)))).ok x)) (sym g.talks_are)
    (many_make most_talks (slot (talk_cell (fli o))) (g.one ∷ g.two ∷ []) refl (search (join, a, b)))

pub good_heard : (o : OpenIso) → GoodIso o → T ((heard_part (fli o)).ok o.receiving)
unfolding heard_part via both
good_heard o g = search (join, mark_ok, g.queue_ok)

pub good_iso : (o : OpenIso) → GoodIso o → FineIso (ready o)
unfolding iso_region ready_part iso_rest heard_part talks_code linked via slot such both both_on
good_iso o g =
    let ts : T ((many most_talks (slot (talk_cell (fli o)))).ok o.talks) = unfold talks_code in good_talks o g in
    let k : T (linked_talks o.talks o.flight) =
    subst (λ (x : Slots Talk). T (linked_talks x o.flight)) (sym g.talks_are) (linked_make g.one g.two o.flight g.linked_ok) in
    search (join, mark_ok, g.no_listener, g.config_ok, g.written_ok, g.flight_ok, g.queue_ok, g.last_ok) depth 10

pub iso_good : (o : OpenIso) → FineIso (ready o) → GoodIso o
unfolding iso_region ready_part iso_rest heard_part talks_code linked via slot such both both_on
iso_good o t =
    let ts : T ((many most_talks (slot (talk_cell (fli o)))).ok o.talks) = search (left, right) depth 9 in
    let config_is : T (config.ok o.config) = search (left, right) depth 9 in
    let written_is : T ((up_to most_messages (message_cell (fli o))).ok o.written) = search (left, right) depth 9 in
    let flight_is : T ((slot (flight_code (fli o))).ok o.flight) = search (left, right) depth 9 in
    let queue_is : T ((up_to most_heard (heard_cell (fli o))).ok o.receiving.queue) = search (left, right) depth 9 in
    let last_is : T (iso_last_part.ok o.last) = search (left, right) depth 9 in
    let k : T (linked_talks o.talks o.flight) = search (left, right) in
    let quiet : T (not (listens (fli o))) = search right in
    pair o.talks (many_count most_talks (slot (talk_cell (fli o))) o.talks ts) (λ (x : Slots Talk). o.talks ≡ x → GoodIso o)
    (λ a b e.
    let all_ok : T (all (slot (talk_cell (fli o))).ok (a ∷ b ∷ [])) = subst (λ (x : Slots Talk). T (all (slot (talk_cell (fli o))).ok x)) e (many_each most_talks (slot (talk_cell (fli o))) o.talks ts) in
    record {
      config_ok = config_is;
      one = a;
      two = b;
      talks_are = e;
      one_ok = place_sound (fli o) a (left ((slot (talk_cell (fli o))).ok a) _ all_ok);
      two_ok = place_sound (fli o) b (left ((slot (talk_cell (fli o))).ok b) _ (right ((slot (talk_cell (fli o))).ok a) _ all_ok));
      written_ok = written_is;
      flight_ok = flight_is;
      queue_ok = queue_is;
      last_ok = last_is;
      linked_ok = linked_sound a b o.flight (subst (λ (x : Slots Talk). T (linked_talks x o.flight)) e k);
      no_listener = quiet;
    })
    refl

-- ---- conversations that go on or go

-- a conversation is gone, or has another transfer that transmits and flies only where the old one did
pub data Less : Option Talk → Option Talk → Type 0 where
  gone : {x : Option Talk} → Less x none
  turns : {c : Talk} (x : Transfer) → (T (transmitting x) → T (transmitting c.transfer))
      → (T (transmitting x && airborne x) → T (transmitting c.transfer && airborne c.transfer)) → Less (some c) (some (turned c x))

less_transmits : {x y : Option Talk} → Less x y → T (transmits_in y) → T (transmits_in x)
unfolding transmits_in turned
less_transmits gone t = absurd t
less_transmits (turns x p q) t = p t

less_flies : {x y : Option Talk} → Less x y → T (flies_in y) → T (flies_in x)
unfolding flies_in transmits_in airborne_at turned
less_flies gone t = absurd t
less_flies (turns x p q) t = q t

less_knows : {x y z w : Option Talk} → Less x y → Less z w → T (knows_other y (w ∷ [])) → T (knows_other x (z ∷ []))
unfolding knows_other turned any_slot knows
less_knows gone m t = absurd t
less_knows (turns x p q) gone t = absurd t
less_knows (turns x p q) (turns y r s) t = t

pub not_more : (p q : Bool) → (T q → T p) → T (not p) → T (not q)
not_more true q f t = absurd t
not_more false true f t = absurd (f tt)
not_more false false f t = tt

pub owner_fits_law : (ts : Slots Talk) (f : Option Flight) → T (flight_fits ts (flight_in ts f))
unfolding flight_fits flight_in owner_fits owner_in
owner_fits_law ts none = tt
owner_fits_law ts (some f) = go f.owner
  where
    at : (k : ℕ) (g : Bool) → airborne_at (get_or ts k none) ≡ g → T (owner_fits ts (if g then transfer_at k else nobody))
    at k true e = subst T (sym e) tt
    at k false e = tt

    go : (w : Owner) → T (owner_fits ts (owner_in ts w))
    go nobody = tt
    go message = tt
    go (transfer_at k) = at k (airborne_at (get_or ts k none)) refl

-- where a transfer's frame is in flight and its conversation still says so, it is its own
module _ (ts : Slots Talk) where
  still_owned : (k : ℕ) (f : Option Flight) → T (airborne_at (get_or ts k none)) → T (owned_by k f) → T (owned_by k (flight_in ts f))
  unfolding owned_by flight_in owner_in
  still_owned k none a t = t
  still_owned k (some f) a t = go f.owner t
    where
      kept : (j : ℕ) (g : Bool) → airborne_at (get_or ts j none) ≡ g → T (eqb (suc (suc j)) (k + 2)) → T (eqb (owner_parts (if g then transfer_at j else nobody)) (k + 2))
      kept j true e u = u
      kept j false e u =
          let same : suc (suc j) ≡ k + 2 = eqb→eq (suc (suc j)) (k + 2) u in
          let here : k ≡ j = omega arith in
          absurd (subst T e (subst (λ (n : ℕ). T (airborne_at (get_or ts n none))) here a))

      go : (w : Owner) → T (eqb (owner_parts w) (k + 2)) → T (eqb (owner_parts (owner_in ts w)) (k + 2))
      go nobody u = u
      go message u = u
      go (transfer_at j) u = kept j (airborne_at (get_or ts j none)) refl u

fly_air : (x : Option Talk) → T (flies_in x) → T (airborne_at x)
unfolding flies_in
fly_air x t = right (transmits_in x) (airborne_at x) t

pub less_linked : {a b c d : Option Talk} {f : Option Flight} → Linked a b f → Less a c → Less b d → Linked c d (flight_in (c ∷ d ∷ []) f)
less_linked {a} {b} {c} {d} {f} l p q =
    record {
      apart = not_more (knows_other a (b ∷ [])) (knows_other c (d ∷ [])) (less_knows p q) l.apart;
      one =
          not_more (transmits_in a && transmits_in b) (transmits_in c && transmits_in d)
          (λ t. join (transmits_in a) (transmits_in b) (less_transmits p (left (transmits_in c) (transmits_in d) t)) (less_transmits q (right (transmits_in c) (transmits_in d) t))) l.one;
      owner = owner_fits_law (c ∷ d ∷ []) f;
      first = λ t. still_owned (c ∷ d ∷ []) 0 f (fly_air c t) (l.first (less_flies p t));
      second = λ t. still_owned (c ∷ d ∷ []) 1 f (fly_air d t) (l.second (less_flies q t));
    }
