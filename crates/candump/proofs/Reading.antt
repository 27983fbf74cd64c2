-- Request P11: events that were written are read back. Assumes nothing.
use Rattle.std.specs.Prelude.{if◌then◌else◌}
use Prim.Native.Nat.{ℕ, zero, suc, ◌+◌, ◌-◌, ◌≤◌, ◌<◌}
use mathlib.Core.Path.{◌≡◌, refl, sym, ap, ◌∙◌, subst}
use mathlib.Core.Bool.{Bool, true, false, ◌&&◌}
use mathlib.Core.List.{List, [], ◌∷◌, ◌++◌, append_assoc, append-nil}
use mathlib.Core.Option.{Option, none, some, map, bind}
use native.Mathlib.Omega.{arith}
use borrow.Author.Tests.{le-leb, lt-leb, le-ltb}
use lib.Dec.{eqb, leb, ltb}
use lib.ListN.{length, get_or, take, drop, length-append}
use lib.Seq.{take_at, drop-drop, drop-append_seam}
use Rattle.number.specs.Number.{largest, Found, number_in, groups, bytes_of}
use Rattle.number.proofs.Laws.{reads_back, written_short}
use Rattle.machine.specs.Step.{Event, connect, call, frame, advance, close}
use Rattle.events.specs.Events.{Reads, ◌>>=◌, done, bad, number, bytes, at_most64, arguments, arguments_of, read_event}
use Rattle.edition.specs.Edition.{edition_event, new_edition, mark_size, marked, start_of}
use Rattle.recording_sizes.specs.Sizes.{longest, most}
use Rattle.event_list.specs.Run.{and_then, events_from, events_of}
use Rattle.candump.specs.Log.{event_bytes, bytes_all}
use Rattle.candump.proofs.Cost.{length_more}

-- a recording goes on at a place with these bytes
record At (s : List ℕ) (at : ℕ) (l : List ℕ) : Type 0 where
  drops : drop at s ≡ l
  ends : at + length l ≡ length s

further : (s : List ℕ) (at : ℕ) (xs l : List ℕ) → At s at (xs ++ l) → At s (at + length xs) l
further s at xs l h =
    record {
      drops = sym (drop-drop (length xs) at s) ∙ ap (drop (length xs)) h.drops ∙ drop-append_seam xs l;
      ends = omega (arith, h.ends, length-append xs l);
    }

module _ (s : List ℕ) where
  number_at : (at v : ℕ) (l : List ℕ) → v ≤ largest → At s at (bytes_of v ++ l) → number s at ≡ some (v, at + length (bytes_of v))
  unfolding number
  number_at at v l m h = rw (h.drops, reads_back v l m)

  bytes_at : (at : ℕ) (b l : List ℕ) → At s at (b ++ l) → bytes (length b) s at ≡ some (b, at + length b)
  unfolding bytes
  bytes_at at b l h =
      rw (le-leb (at + length b) (length s) (omega (arith, h.ends, length-append b l)), h.drops, take_at b l (length b) refl)

  few_at : (at v : ℕ) (l : List ℕ) → v ≤ most → At s at (bytes_of v ++ l) → at_most64 s at ≡ some (v, at + length (bytes_of v))
  unfolding at_most64 ◌>>=◌ bind done
  few_at at v l m h = rw (number_at at v l (omega arith) h, le-leb v most m)

-- an event that a recording can hold, of those that an import writes
pub data Writable : Event → Type 0 where
  an_advance : {u : ℕ} → u ≤ largest → Writable (advance u)
  a_frame : {l w n : ℕ} {b : List ℕ} → l ≤ largest → w ≤ largest → n ≤ largest → length b ≤ most → Writable (frame l w n b)

-- what was read at a place, and what follows it
record ReadAt (s : List ℕ) (at : ℕ) (e : Event) (l : List ℕ) : Type 0 where
  next : ℕ
  reads : read_event s at ≡ some (e, next)
  there : At s next l

event_at_law : (s : List ℕ) (at : ℕ) {e : Event} (l : List ℕ) → Writable e → At s at (event_bytes e ++ l) → ReadAt s at e l
unfolding event_bytes read_event ◌>>=◌ bind arguments_of arguments done
event_at_law s at l (an_advance {u} m) h =
    let h₀ : At s at (bytes_of 4 ++ (bytes_of u ++ l)) = subst (At s at) (append_assoc (bytes_of 4) (bytes_of u) l) h in
    let p₁ : ℕ = at + length (bytes_of 4) in
    let h₁ : At s p₁ (bytes_of u ++ l) = further s at (bytes_of 4) (bytes_of u ++ l) h₀ in
    record {
      next = p₁ + length (bytes_of u);
      reads = rw (number_at s at 4 (bytes_of u ++ l) (omega arith) h₀, number_at s p₁ u l m h₁);
      there = further s p₁ (bytes_of u) l h₁;
    }
event_at_law s at more (a_frame {l} {w} {n} {b} ml mw mn mb) h =
    let e : (bytes_of 5 ++ (bytes_of l ++ (bytes_of w ++ (bytes_of n ++ (bytes_of (length b) ++ b))))) ++ more ≡ bytes_of 5 ++ (bytes_of l ++ (bytes_of w ++ (bytes_of n ++ (bytes_of (length b) ++ (b ++ more)))))
    = simp append_assoc in
    let h₀ : At s at (bytes_of 5 ++ (bytes_of l ++ (bytes_of w ++ (bytes_of n ++ (bytes_of (length b) ++ (b ++ more)))))) = subst (At s at) e h in
    let p₁ : ℕ = at + length (bytes_of 5) in
    let h₁ : At s p₁ (bytes_of l ++ (bytes_of w ++ (bytes_of n ++ (bytes_of (length b) ++ (b ++ more))))) = further s at (bytes_of 5) _ h₀ in
    let p₂ : ℕ = p₁ + length (bytes_of l) in
    let h₂ : At s p₂ (bytes_of w ++ (bytes_of n ++ (bytes_of (length b) ++ (b ++ more)))) = further s p₁ (bytes_of l) _ h₁ in
    let p₃ : ℕ = p₂ + length (bytes_of w) in
    let h₃ : At s p₃ (bytes_of n ++ (bytes_of (length b) ++ (b ++ more))) = further s p₂ (bytes_of w) _ h₂ in
    let p₄ : ℕ = p₃ + length (bytes_of n) in
    let h₄ : At s p₄ (bytes_of (length b) ++ (b ++ more)) = further s p₃ (bytes_of n) _ h₃ in
    let p₅ : ℕ = p₄ + length (bytes_of (length b)) in
    let h₅ : At s p₅ (b ++ more) = further s p₄ (bytes_of (length b)) _ h₄ in
    record {
      next = p₅ + length b;
      reads = rw (number_at s at 5 _ (omega arith) h₀, number_at s p₁ l _ ml h₁, number_at s p₂ w _ mw h₂, number_at s p₃ n _ mn h₃, few_at s p₄ (length b) _ mb h₄, bytes_at s p₅ b more h₅);
      there = further s p₅ b more h₅;
    }

-- all events of a run
pub data AllWritable : List Event → Type 0 where
  none_left : AllWritable []
  one_more : {e : Event} {es : List Event} → Writable e → AllWritable es → AllWritable (e ∷ es)

-- an event has a byte or more
some_bytes : {e : Event} → Writable e → 1 ≤ length (event_bytes e)
unfolding event_bytes
some_bytes (an_advance {u} m) = omega (arith, length-append (bytes_of 4) (bytes_of u), (written_short 4).0)
some_bytes (a_frame {l} {w} {n} {b} ml mw mn mb) = omega (arith, length-append (bytes_of 5) (bytes_of l ++ (bytes_of w ++ (bytes_of n ++ (bytes_of (length b) ++ b)))), (written_short 5).0)

some_bytes_each : {es : List Event} → AllWritable es → length es ≤ length (bytes_all es)
some_bytes_each none_left = omega arith
some_bytes_each (one_more {e} {es} w ws) = omega (arith, length_more e es, some_bytes w, some_bytes_each ws)

events_at : (s : List ℕ) (turns at : ℕ) {es : List Event} → AllWritable es → length es ≤ turns → At s at (bytes_all es) → events_from turns s at ≡ es
unfolding events_from and_then bytes_all
events_at s zero at none_left k h = refl
events_at s zero at (one_more w ws) k h = absurd (omega arith)
events_at s (suc turns) at none_left k h = rw (le-leb (length s) at (omega (arith, h.ends)))
events_at s (suc turns) at (one_more {e} {es} w ws) k h =
    let r : ReadAt s at e (bytes_all es) = event_at_law s at (bytes_all es) w h in
    rw (lt-leb (length s) at (omega (arith, h.ends, length-append (event_bytes e) (bytes_all es), some_bytes w)), r.reads)
    (ap (λ (l : List Event). e ∷ l) (events_at s turns r.next ws (omega arith) r.there))

-- what an import writes begins with no mark of an edition: with event 4 or 5, if there is any
not_zero : (x : ℕ) (l : List ℕ) → eqb x edition_event ≡ false → 0 ≡ start_of (x ∷ l)
unfolding start_of marked
not_zero x l e = by (ltb (length (x ∷ l)) mark_size)
  where
    by : (g : Bool) → 0 ≡ (if (if g then false else eqb x edition_event && eqb (get_or (x ∷ l) 1 0) new_edition) then mark_size else 0)
    by true = refl
    by false = rw e

no_mark : {es : List Event} → AllWritable es → 0 ≡ start_of (bytes_all es)
unfolding bytes_all event_bytes bytes_of groups start_of marked
no_mark none_left = refl
no_mark (one_more {es = es} (an_advance {u} m) ws) = not_zero 4 (bytes_of u ++ bytes_all es) refl
no_mark (one_more {es = es} (a_frame {l} {w} {n} {b} ml mw mn mb) ws) =
    not_zero 5 ((bytes_of l ++ (bytes_of w ++ (bytes_of n ++ (bytes_of (length b) ++ b)))) ++ bytes_all es) refl

-- EVENTS THAT WERE WRITTEN ARE READ BACK
pub events_back : {es : List Event} → AllWritable es → length (bytes_all es) ≤ longest → events_of (bytes_all es) ≡ es
unfolding events_of
events_back {es} w h =
    rw (le-ltb longest (length (bytes_all es)) h, ← (no_mark w))
    (events_at (bytes_all es) (length (bytes_all es)) 0 w (some_bytes_each w) (record { drops = refl; ends = omega arith }))
