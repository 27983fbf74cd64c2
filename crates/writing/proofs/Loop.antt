-- A write to a store of messages, whatever the store and the rule of its codes: one message, and a loop over messages. Assumes nothing.
use mathlib.Core.Path.{◌≡◌, refl, sym, ap, ◌∙◌, subst}
use Prim.Native.Nat.{ℕ, zero, suc, ◌+◌, ◌*◌, ◌-◌, ◌≤◌, ◌<◌}
use native.Mathlib.Nat.{mul-add, mul-one, mul-le-mul_left}
use native.Mathlib.Omega.{arith}
use mathlib.Core.List.{List, [], ◌∷◌, ◌++◌}
use lib.ListN.{length, take, drop, length-drop}
use lib.Seq.{take_all, drop-drop}
use lib.Dec.{T}
use borrow.Author.Tests.{ne_eqb}
use Rattle.codec.specs.Plain.{all, is_byte}
use Rattle.codec.specs.Code.{Code}
use Rattle.codec.proofs.Lists.{all_drop}
use Rattle.machine.specs.Message.{Rec, clean}
use Rattle.machine.specs.Channel.{Wrote, unless_stopped}
use Rattle.writing.specs.Store.{queued, Queued, Stopped, Kind, StorePart, Laws}

-- ---- one message

left_as_they_are : (code : ℕ) (held : List Rec) (m : List ℕ) → (code ≡ 0 → ⊥) → queued code held m ≡ held
unfolding queued
left_as_they_are code held m n = rw (ne_eqb code 0 n) refl

pub one_queued : (code : ℕ) (held : List Rec) (m : List ℕ) → code ≡ 0 → queued code held m ≡ held ++ clean m ∷ []
unfolding queued
one_queued code held m e = rw e refl

-- a store with a message refused
pub refused_as : {store : Code (List Rec)} {rule : List Rec → List ℕ → ℕ} (before m : List ℕ) (code : ℕ) → before ≡ store.put (store.get before) → (code ≡ 0 → ⊥) → rule (store.get before) m ≡ code → Queued store rule before m code before
refused_as {store} before m code is n e =
    record { code_is = sym e; store_is = is ∙ ap store.put (sym (left_as_they_are _ (store.get before) m (λ z. n (sym e ∙ z)))) }

-- ---- the loop

stops : (code : ℕ) (held : List Rec) (count : ℕ) (more : Wrote) → (code ≡ 0 → ⊥) → unless_stopped code held count more ≡ record { held = held; count = count; code = code }
unfolding unless_stopped
stops zero held count more z = absurd (z refl)
stops (suc k) held count more z = refl

goes_on : (code : ℕ) (held : List Rec) (count : ℕ) (more : Wrote) → code ≡ 0 → unless_stopped code held count more ≡ more
unfolding unless_stopped
goes_on code held count more e = ap (λ (k : ℕ). unless_stopped k held count more) e

-- n records of b, after i of them
module _ {w : Kind} (k : Laws w) (n i : ℕ) (b : List ℕ) (held : List Rec) where
  abbrev here : List ℕ
  here = drop (w.size * i) b

  abbrev now : Wrote
  now = w.writes (n - i) here held i

  abbrev more : Wrote
  more = w.writes (n - (i + 1)) (drop (w.size * (i + 1)) b) (held ++ clean here ∷ []) (i + 1)

  one_more_turn : i < n → now ≡ unless_stopped (w.rule held here) held i more
  one_more_turn h =
      let s : n - i ≡ suc (n - (i + 1)) = omega arith in
      let e : w.size * i + w.size ≡ w.size * (i + 1) = omega (arith, mul-add w.size i 1, mul-one w.size) in
      let d : drop w.size here ≡ drop (w.size * (i + 1)) b = drop-drop w.size (w.size * i) b ∙ ap (λ (k : ℕ). drop k b) e in
      ap (λ (k : ℕ). w.writes k here held i) s
      ∙ k.one_left (n - (i + 1)) here held i
      ∙ ap (λ (x : List ℕ). unless_stopped (w.rule held here) held i (w.writes (n - (i + 1)) x (held ++ clean here ∷ []) (i + 1))) d

  turned : i < n → w.rule held here ≡ 0 → now ≡ more
  turned h e = one_more_turn h ∙ goes_on _ held i more e

  stopped : (code : ℕ) → i < n → code ≡ w.rule held here → (code ≡ 0 → ⊥) → now ≡ record { held = held; count = i; code = code }
  stopped code h e z = one_more_turn h ∙ ap (λ (k : ℕ). unless_stopped k held i more) (sym e) ∙ stops code held i more z

-- a store after i of n records of b
pub record Turn (w : Kind) (n : ℕ) (b before store : List ℕ) (i : ℕ) : Type 0 where
  pub part : StorePart w store
  pub same : w.writes n b (w.store.get before) 0 ≡ w.writes (n - i) (drop (w.size * i) b) (w.store.get store) i

-- a write that ends so
ends : {store : Code (List Rec)} {w : Wrote} {code count : ℕ} {held : List Rec} {after : List ℕ} → w ≡ record { held = held; count = count; code = code } → after ≡ store.put held → Stopped store w code count after
ends {store} e s =
    record { code_is = sym (ap (λ (x : Wrote). x.code) e); count_is = sym (ap (λ (x : Wrote). x.count) e); store_is = s ∙ ap (λ (x : Wrote). store.put x.held) (sym e) }

-- the room for a record that is left
room : (size n i k : ℕ) → i < n → size * n ≤ k → size * i + size ≤ k
room size n i k h l = omega (arith, mul-add size i 1, mul-one size, mul-le-mul_left {m = i + 1} {n = n} size (omega arith))

module _ {w : Kind} (k : Laws w) {n : ℕ} {b before store : List ℕ} {i : ℕ} (u : Turn w n b before store i) where
  abbrev held : List Rec
  held = w.store.get store

  module _ {size : ℕ} (e : w.size ≡ size) (h : i < n) (l : size * n ≤ length b) where
    -- the message that is lent
    abbrev pub lent : List ℕ
    lent = take (length b - size * i) (drop (size * i) b)

    abbrev m : List ℕ
    m = drop (w.size * i) b

    left : size * i + size ≤ length b
    left = room size n i (length b) h l

    lent_is : lent ≡ m
    lent_is = take_all (length b - size * i) (drop (size * i) b) (omega (arith, length-drop (size * i) b)) ∙ ap (λ (k : ℕ). drop (k * i) b) (sym e)

    here_long : w.size ≤ length m
    here_long = subst (λ (k : ℕ). k ≤ length (drop (k * i) b)) (sym e) (omega (arith, left, length-drop (size * i) b))

    pub turn_stops : {code : ℕ} {after : List ℕ} → Queued w.store w.rule store lent code after → (code ≡ 0 → ⊥) → Stopped w.store (w.writes n b (w.store.get before) 0) code i after
    turn_stops {code} d z =
        let c : code ≡ w.rule held m = d.code_is ∙ ap (w.rule held) lent_is in
        ends (u.same ∙ stopped k n i b held code h c z) (d.store_is ∙ ap w.store.put (left_as_they_are _ held lent (λ y. z (d.code_is ∙ y))))

    pub turn_more : {after : List ℕ} → Queued w.store w.rule store lent 0 after → T (all is_byte b) → Turn w n b before after (i + 1)
    turn_more {after} d t =
        let c : w.rule held m ≡ 0 = sym (d.code_is ∙ ap (w.rule held) lent_is) in
        let next : List Rec = held ++ clean m ∷ [] in
        let a : after ≡ w.store.put next = d.store_is ∙ ap (λ (x : List ℕ). w.store.put (queued (w.rule held x) held x)) lent_is ∙ ap w.store.put (one_queued _ held m c) in
        let o : T (w.store.ok next) = k.more_ok held m c here_long (all_drop is_byte (w.size * i) b t) (k.lawful.ok_get store u.part.long u.part.valid) in
        record {
          part = record { long = ap length a ∙ k.lawful.long next o; valid = subst (λ (x : List ℕ). T (w.store.valid x)) (sym a) (k.lawful.valid_put next o) };
          same = u.same ∙ turned k n i b held h c ∙ ap (λ (x : List Rec). w.writes (n - (i + 1)) (drop (w.size * (i + 1)) b) x (i + 1)) (sym (ap w.store.get a ∙ k.lawful.get_put next o));
        }
