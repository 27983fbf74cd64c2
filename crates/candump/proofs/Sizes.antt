-- Request P11: what the events of a recording take of its bytes. Assumes nothing.
use Rattle.std.specs.Prelude.{if◌then◌else◌}
use Prim.Native.Nat.{ℕ, zero, suc, ◌+◌, ◌-◌, ◌≤◌, ◌<◌}
use mathlib.Core.Path.{◌≡◌, refl, sym, ap, ◌∙◌, subst}
use mathlib.Core.Logic.{◌⊎◌, inl, inr, ⊎_elim}
use mathlib.Core.Bool.{Bool, true, false}
use mathlib.Core.List.{List, [], ◌∷◌, ◌++◌}
use mathlib.Core.Option.{Option, none, some, map, bind}
use native.Mathlib.Omega.{arith}
use borrow.Author.Tests.{leb-true, leb-false, ltb-false}
use lib.Dec.{leb, ltb, T, ltb→lt}
use lib.ListN.{length, get_or, take, drop, length-append, length-drop}
use lib.Seq.{length-take-le}
use Rattle.codec.specs.Plain.{all, is_byte}
use Rattle.codec.proofs.Lists.{Each, all_drop, all_take, all_at}
use Rattle.number.specs.Number.{Found, number_in, bytes_of}
use Rattle.number.proofs.Laws.{writes_back, read_bounded, written_short}
use Rattle.machine.specs.Cases.{◌&◌}
use Rattle.machine.specs.Channel.{Call, start_filter, start_flow}
use Rattle.machine.specs.Step.{Event, connect, call, frame, advance, close}
use Rattle.events.specs.Events.{Reads, ◌>>=◌, done, bad, number, bytes, at_most64, record_in, start_in, arguments, arguments_of, read_event}
use Rattle.edition.specs.Edition.{start_of}
use Rattle.edition.proofs.Marked.{start_inside}
use Rattle.recording_sizes.specs.Sizes.{longest, most, on_iso}
use Rattle.event_list.specs.Run.{and_then, events_from, events_of}
use Rattle.events.proofs.Reading.{same, split}
use Rattle.events.proofs.Ending.{least, event_ends}
use Rattle.candump.specs.Log.{event_bytes, bytes_all}
use Rattle.candump.proofs.Cost.{length_more, one_byte, advance_size}

-- the data of a frame are bytes
abbrev pub Fine : Event → Type 0
Fine (connect l p f r) = Unit {0}
Fine (call k x) = Unit {0}
Fine (frame l w n b) = T (all is_byte b)
Fine (advance u) = Unit {0}
Fine close = Unit {0}

-- ---- a number and bytes that were read

module _ (s : List ℕ) (octets : T (all is_byte s)) where
  number_size : (at v next : ℕ) → number s at ≡ some (v, next) → at + length (bytes_of v) ≡ next
  unfolding number
  number_size at v next = go (number_in (drop at s)) refl
    where
      go : (o : Option Found) → number_in (drop at s) ≡ o → map {B = ℕ × ℕ} (λ f. (f.value, at + f.size)) o ≡ some (v, next) → at + length (bytes_of v) ≡ next
      go none q e = let z : ◌≡◌ {A = ℕ} 0 1 = cc in absurd (omega arith)
      go (some f) q e =
          let value : f.value ≡ v = ap (λ p. p.0) (same e) in
          let place : at + f.size ≡ next = ap (λ p. p.1) (same e) in
          let small : (i : ℕ) → get_or (drop at s) i 0 < 256 = λ i. ltb→lt (get_or (drop at s) i 0) 256 (all_at is_byte (drop at s) i 0 tt (all_drop is_byte at s octets)) in
          let w : bytes_of f.value ≡ take f.size (drop at s) = writes_back (drop at s) f small q in
          let long : length (bytes_of f.value) ≡ f.size = ap length w ∙ length-take-le f.size (drop at s) (read_bounded (drop at s) f q).there in
          let same_long : length (bytes_of f.value) ≡ length (bytes_of v) = ap (λ (n : ℕ). length (bytes_of n)) value in
          omega arith

  few_size : (at v next : ℕ) → at_most64 s at ≡ some (v, next) → at + length (bytes_of v) ≡ next
  unfolding at_most64 done bad
  few_size at v next e =
      let w = split number (λ n. if leb n most then done n else bad) s at v next e in
      go w.what w.place w.first (leb w.what 64) w.rest
    where
      go : (n p : ℕ) → number s at ≡ some (n, p) → (g : Bool) → ◌≡◌ {A = Option (ℕ × ℕ)} (if◌then◌else◌ {A = Reads ℕ} g (done n) bad s p) (some (v, next)) → at + length (bytes_of v) ≡ next
      go n p f true r =
          let value : n ≡ v = ap (λ p. p.0) (same r) in
          let place : p ≡ next = ap (λ p. p.1) (same r) in
          let same_long : length (bytes_of n) ≡ length (bytes_of v) = ap (λ (n : ℕ). length (bytes_of n)) value in
          omega (arith, number_size at n p f)
      go n p f false r = let z : ◌≡◌ {A = ℕ} 0 1 = cc in absurd (omega arith)

  bytes_size : (n at : ℕ) (b : List ℕ) (next : ℕ) → bytes n s at ≡ some (b, next) → (at + n ≡ next) × (length b ≡ n) × T (all is_byte b)
  unfolding bytes
  bytes_size n at b next = go (leb (at + n) (length s)) refl
    where
      go : (g : Bool) → leb (at + n) (length s) ≡ g → ◌≡◌ {A = Option (List ℕ × ℕ)} (if g then some (take n (drop at s), at + n) else none) (some (b, next)) → (at + n ≡ next) × (length b ≡ n) × T (all is_byte b)
      go true q e =
          let is : take n (drop at s) ≡ b = ap (λ p. p.0) (same e) in
          let place : at + n ≡ next = ap (λ p. p.1) (same e) in
          let room : at + n ≤ length s = leb-true (at + n) (length s) q in (
            place,
            sym (ap length is) ∙ length-take-le n (drop at s) (omega (arith, length-drop at s)),
            subst (λ (l : List ℕ). T (all is_byte l)) is (all_take is_byte n (drop at s) (all_drop is_byte at s octets)),
          )
      go false q e = let z : ◌≡◌ {A = ℕ} 0 1 = cc in absurd (omega arith)

-- ---- an event that was read

-- an event that the size doesn't see
abbrev Other : Event → Type 0
Other e = (event_bytes e ≡ []) × Fine e

-- its arguments: with a byte for its number they take as many bytes as the event is written in
record Kept (p : Reads Event) : Type 0 where
  ends : (s : List ℕ) → T (all is_byte s) → (at : ℕ) (e : Event) (next : ℕ) → p s at ≡ some (e, next) → Other e ⊎ ((at + length (event_bytes e) ≡ next + 1) × Fine e)

-- every event read is such a one
record Yields (p : Reads Event) : Type 0 where
  all_are : (s : List ℕ) (at : ℕ) (e : Event) (next : ℕ) → p s at ≡ some (e, next) → Other e

yields_done : (e : Event) → Other e → Yields (done e)
unfolding done
yields_done e h = record { all_are = λ s at e' next r. subst Other (ap (λ p. p.0) (same r)) h }

yields_then : {A : Type 0} (p : Reads A) (q : A → Reads Event) → ((a : A) → Yields (q a)) → Yields (p >>= q)
yields_then p q h = record { all_are = λ s at e next r. let w = split p q s at e next r in (h w.what).all_are s w.place e next w.rest }

yields_bad : Yields bad
unfolding bad
yields_bad = record { all_are = λ s at e next r. let z : ◌≡◌ {A = ℕ} 0 1 = cc in absurd (omega arith) }

kept_other : (p : Reads Event) → Yields p → Kept p
kept_other p h = record { ends = λ s o at e next r. inl (h.all_are s at e next r) }

advance_kept : Kept (number >>= (λ u. done (advance u)))
unfolding done
advance_kept = record {
  ends = λ s o at e next r.
      let w = split number (λ u. done (advance u)) s at e next r in
      let is : advance w.what ≡ e = ap (λ p. p.0) (same w.rest) in
      let place : w.place ≡ next = ap (λ p. p.1) (same w.rest) in
      let long : at + length (event_bytes (advance w.what)) ≡ next + 1 = omega (arith, number_size s o at w.what w.place w.first, advance_size w.what) in
      inr (subst (λ (x : Event). (at + length (event_bytes x) ≡ next + 1) × Fine x) is (long, tt));
}

pub frame_size : (l w n : ℕ) (b : List ℕ) → length (event_bytes (frame l w n b)) ≡ 1 + length (bytes_of l) + length (bytes_of w) + length (bytes_of n) + length (bytes_of (length b)) + length b
unfolding event_bytes
frame_size l w n b =
    omega (
      arith,
      one_byte 5 (omega arith),
      length-append (bytes_of 5) (bytes_of l ++ (bytes_of w ++ (bytes_of n ++ (bytes_of (length b) ++ b)))),
      length-append (bytes_of l) (bytes_of w ++ (bytes_of n ++ (bytes_of (length b) ++ b))),
      length-append (bytes_of w) (bytes_of n ++ (bytes_of (length b) ++ b)),
      length-append (bytes_of n) (bytes_of (length b) ++ b),
      length-append (bytes_of (length b)) b,
    )

frame_kept : Kept (do line ← number; wide ← number; id ← number; n ← at_most64; b ← bytes n; done (frame line wide id b))
unfolding done
frame_kept = record {
  ends = λ s o at e next r.
      let w₁ = split number _ s at e next r in
      let w₂ = split number _ s w₁.place e next w₁.rest in
      let w₃ = split number _ s w₂.place e next w₂.rest in
      let w₄ = split at_most64 _ s w₃.place e next w₃.rest in
      let w₅ = split (bytes w₄.what) _ s w₄.place e next w₄.rest in
      let is : frame w₁.what w₂.what w₃.what w₅.what ≡ e = ap (λ p. p.0) (same w₅.rest) in
      let place : w₅.place ≡ next = ap (λ p. p.1) (same w₅.rest) in
      let b = bytes_size s o w₄.what w₄.place w₅.what w₅.place w₅.first in
      let count : length (bytes_of (length w₅.what)) ≡ length (bytes_of w₄.what) = ap (λ (n : ℕ). length (bytes_of n)) b.1 in
      let long : at + length (event_bytes (frame w₁.what w₂.what w₃.what w₅.what)) ≡ next + 1
      = omega (
        arith,
        number_size s o at w₁.what w₁.place w₁.first,
        number_size s o w₁.place w₂.what w₂.place w₂.first,
        number_size s o w₂.place w₃.what w₃.place w₃.first,
        few_size s o w₃.place w₄.what w₄.place w₄.first,
        b.0,
        b.1,
        frame_size w₁.what w₂.what w₃.what w₅.what,
      ) in
      inr (subst (λ (x : Event). (at + length (event_bytes x) ≡ next + 1) × Fine x) is (long, b.2));
}

-- ---- every event

yields_call : (k : ℕ) (x : Call) → Yields (done (call k x))
unfolding event_bytes
yields_call k x = yields_done (call k x) (refl, tt)

yields_connect : (l p f r : ℕ) → Yields (done (connect l p f r))
unfolding event_bytes
yields_connect l p f r = yields_done (connect l p f r) (refl, tt)

yields_close : Yields (done close)
unfolding event_bytes
yields_close = yields_done close (refl, tt)

yields_start : (k t : ℕ) (m p : List ℕ) → Yields (start_in k t m p)
unfolding start_in
yields_start k t m p = by (on_iso k)
  where
    by : (g : Bool) → Yields (if g then (do flow ← record_in k; done (call k (start_flow t m p flow))) else done (call k (start_filter t m p)))
    by true = yields_then (record_in k) (λ flow. done (call k (start_flow t m p flow))) (λ flow. yields_call k (start_flow t m p flow))
    by false = yields_call k (start_filter t m p)

ruleset others = (yields_then, yields_call, yields_connect, yields_close, yields_start, yields_bad)

each_at : {A : Type 0} (P : A → Type 0) (xs : List A) (d : A) → Each P xs → P d → (k : ℕ) → P (get_or xs k d)
each_at P [] d h p k = p
each_at P (x ∷ xs) d h p zero = h.0
each_at P (x ∷ xs) d h p (suc k) = each_at P xs d h.1 p k

all_kept : Each Kept arguments
unfolding arguments
all_kept =
    kept_other _ yields_bad
    & kept_other _ (search others depth 12)
    & kept_other _ (search others depth 12)
    & kept_other _ (search others depth 12)
    & advance_kept
    & frame_kept
    & kept_other _ (search others depth 12)
    & kept_other _ (search others depth 12)
    & kept_other _ (search others depth 12)
    & kept_other _ (search others depth 12)
    & kept_other _ (search others depth 12)
    & kept_other _ (search others depth 12)
    & kept_other _ (search others depth 12)
    & kept_other _ (search others depth 12)
    & kept_other _ (search others depth 12)
    & kept_other _ (search others depth 12)
    & kept_other _ (search others depth 12)
    & tt

arguments_kept : (kind : ℕ) → Kept (arguments_of kind)
unfolding arguments_of
arguments_kept kind = each_at Kept arguments bad all_kept (kept_other bad yields_bad) kind

module _ (s : List ℕ) (octets : T (all is_byte s)) where
  -- an event takes at least the bytes that it is written in
  event_kept : (at : ℕ) (e : Event) (next : ℕ) → read_event s at ≡ some (e, next) → (at + length (event_bytes e) ≤ next) × Fine e
  unfolding read_event
  event_kept at e next r =
      let w = split number arguments_of s at e next r in
      ⊎_elim
      (λ (o : Other e). (omega (arith, ap length o.0, (event_ends s at e next r).0), o.1))
      (λ (k : (w.place + length (event_bytes e) ≡ next + 1) × Fine e). (omega (arith, k.0, number_size s octets at w.what w.place w.first, (written_short w.what).0), k.1))
      ((arguments_kept w.what).ends s octets w.place e next w.rest)

  pub events_within : (turns at : ℕ) → at ≤ length s → (at + length (bytes_all (events_from turns s at)) ≤ length s) × Each Fine (events_from turns s at)
  unfolding events_from bytes_all and_then
  events_within zero at h = (omega arith, tt)
  events_within (suc turns) at h = go (leb (length s) at) (read_event s at) refl (events_within turns)
    where
      go : (g : Bool) (o : Option (Event × ℕ)) → read_event s at ≡ o → ((at : ℕ) → at ≤ length s → (at + length (bytes_all (events_from turns s at)) ≤ length s) × Each Fine (events_from turns s at))
          → (at + length (bytes_all (if g then [] else and_then o (λ next. events_from turns s next))) ≤ length s) × Each Fine (if g then [] else and_then o (λ next. events_from turns s next))
      go true o q ih = (omega arith, tt)
      go false none q ih = (omega arith, tt)
      go false (some r) q ih =
          let k = event_kept at r.0 r.1 q in
          let more = ih r.1 (event_ends s at r.0 r.1 q).1 in
          (omega (arith, k.0, more.0, length-append (event_bytes r.0) (bytes_all (events_from turns s r.1))), (k.1, more.1))

-- THE EVENTS OF A RECORDING take no more bytes than it has, and the data of their frames are bytes
pub events_fit : (s : List ℕ) → T (all is_byte s) → (length (bytes_all (events_of s)) ≤ longest) × Each Fine (events_of s)
unfolding events_of bytes_all
events_fit s octets = go (ltb longest (length s)) refl
  where
    go : (g : Bool) → ltb longest (length s) ≡ g → (length (bytes_all (if g then [] else events_from (length s) s (start_of s))) ≤ longest) × Each Fine (if g then [] else events_from (length s) s (start_of s))
    go true q = (omega arith, tt)
    go false q =
        let w = events_within s octets (length s) (start_of s) (start_inside s) in
        (omega (arith, w.0, ltb-false longest (length s) q), w.1)
