-- Events exported one after the other. Assumes nothing.
use Rattle.std.specs.Prelude.{if◌then◌else◌}
use Prim.Native.Nat.{ℕ, zero, suc, ◌+◌, ◌-◌, ◌*◌, ◌≤◌, ◌<◌}
use mathlib.Core.Path.{◌≡◌, refl, sym, ap, ap₂, ◌∙◌, subst}
use mathlib.Core.Logic.{◌⊎◌, inl, inr, ⊎_elim}
use mathlib.Core.Bool.{Bool, true, false, ◌&&◌, ◌||◌}
use mathlib.Core.List.{List, [], ◌∷◌, ◌++◌, append_assoc, append-nil}
use mathlib.Core.Option.{Option, none, some}
use native.Mathlib.Omega.{arith}
use borrow.Author.Tests.{le-leb, lt-leb, lt-ltb, le-ltb, ltb-true, ltb-false, leb-true, leb-false}
use lib.Dec.{eqb, leb, ltb}
use lib.ListN.{length, take, drop, length-append, length-take, length-drop, take-append-drop}
use lib.Seq.{length-take-le, take_at, drop_at, drop-drop}
use Rattle.recording_sizes.specs.Sizes.{longest}
use Rattle.machine.specs.Limits.{most_advance}
use Rattle.machine.specs.Step.{Event, connect, call, frame, advance, close}
use Rattle.events.specs.Events.{read_event}
use Rattle.events.proofs.Ending.{least, event_ends}
use Rattle.answers.specs.Put.{Put}
use Rattle.answers.proofs.Put.{put_length}
use Rattle.candump.specs.Line.{second}
use Rattle.candump.specs.Log.{latest, lasts}
use Rattle.exporting.specs.Pieces.{line_room, code_of, Piece, piece, after, line_of, writes, goes_on, Left, leaves, written, Exports, Reaches}
use Rattle.exporting.proofs.Events.{line_short, second_most}

pub least_one : (e : Event) → 1 ≤ least e
least_one (connect l p f r) = omega arith
least_one (call k x) = omega arith
least_one (frame l w n b) = omega arith
least_one (advance t) = omega arith
least_one close = omega arith

pub or_last : (g : Bool) → (g || true) ≡ true
or_last true = refl
or_last false = refl

module _ (s : List ℕ) (at start : ℕ) (b : List ℕ) where
  -- where the export is: what stands at the buffer's start, and what is left, make the piece
  pub record Goes (next time : ℕ) (out : List ℕ) (place : ℕ) : Type 0 where
    pub turns : ℕ
    pub enough : length s ≤ turns + next
    pub inside : next ≤ length s
    pub early : time ≤ latest + second * next
    pub short : place ≤ length b
    pub same_length : length out ≡ length b
    pub behind : drop place out ≡ drop place b
    pub is : after (take place out) (goes_on turns s next time (length b - place)) ≡ goes_on (length s) s at start (length b)

  pub nothing_yet : at ≤ length s → start ≤ latest + second * at → Goes at start b 0
  nothing_yet h k =
      record { turns = length s; enough = omega arith; inside = h; early = k; short = omega arith; same_length = refl; behind = refl; is = ap (goes_on (length s) s at start) z }
    where
      z : length b - 0 ≡ length b
      z = omega arith

  module _ {next time : ℕ} {out : List ℕ} {place : ℕ} (k : Goes next time out place) where
    sized : length (take place out) ≡ place
    sized = length-take-le place out (omega (arith, k.short, k.same_length))

    -- ---- it ends

    ended : (turns : ℕ) → (leb (length s) next || ltb (length b - place) line_room) ≡ true → goes_on turns s next time (length b - place) ≡ piece [] next time
    unfolding goes_on
    ended zero e = refl
    ended (suc turns) e = ap (λ (g : Bool). if◌then◌else◌ {A = Piece} g (piece [] next time) (writes (length s) (read_event s next) time (length b - place) (goes_on turns s))) e

    stopped : (last : ℕ) → last + line_room ≡ length b → (ltb next (length s) && leb place last) ≡ false → (leb (length s) next || ltb (length b - place) line_room) ≡ true
    stopped last l = by (ltb next (length s)) refl (leb place last) refl
      where
        by : (g : Bool) → ltb next (length s) ≡ g → (h : Bool) → leb place last ≡ h → (g && h) ≡ false → (leb (length s) next || ltb (length b - place) line_room) ≡ true
        by true p true q e = let z : ◌≡◌ {A = ℕ} 0 1 = cc in absurd (omega arith)
        by true p false q e = let over : length b - place < line_room = omega (arith, leb-false place last q, k.short) in rw (lt-ltb (length b - place) line_room over) (or_last (leb (length s) next))
        by false p h q e = rw (le-leb (length s) next (ltb-false next (length s) p))

    pub all_done : (last : ℕ) → last + line_room ≡ length b → (ltb next (length s) && leb place last) ≡ false → leaves 0x00 next time place out ≡ written (goes_on (length s) s at start (length b)) b
    unfolding written
    all_done last l e =
        let p : after (take place out) (piece [] next time) ≡ goes_on (length s) s at start (length b) = ap (after (take place out)) (sym (ended k.turns (stopped last l e))) ∙ k.is in
        let z : take place out ++ [] ≡ take place out = append-nil (take place out) in
        let size : place ≡ length (take place out ++ []) = sym sized ∙ ap length (sym z) in
        let buffer : out ≡ (take place out ++ []) ++ drop (length (take place out ++ [])) b
        = sym (take-append-drop place out) ∙ ap₂ (λ (x y : List ℕ). x ++ y) (sym z) (k.behind ∙ ap (λ (n : ℕ). drop n b) size) in
        ap₂ (λ (n : ℕ) (o : List ℕ). leaves 0x00 next time n o) size buffer ∙ ap (λ (q : Piece). leaves 0x00 q.at q.time (length q.bytes) (q.bytes ++ drop (length q.bytes) b)) p

    -- ---- it goes on

    module _ (more : next < length s) (size : length s ≤ longest) (last : ℕ) (l : last + line_room ≡ length b) (room : place ≤ last) where
      pub late : time ≤ latest + second * longest
      late = omega (arith, k.early, k.inside)

      pub line_room_law : place + line_room ≤ length out
      line_room_law = omega (arith, k.same_length)

      -- one turn of the definition
      turn : (turns : ℕ) → length s ≤ turns + next → (turns' : ℕ) → turns ≡ suc turns'
          → goes_on turns s next time (length b - place) ≡ writes (length s) (read_event s next) time (length b - place) (goes_on turns' s)
      unfolding goes_on
      turn turns h turns' e =
          ap (λ (n : ℕ). goes_on n s next time (length b - place)) e
          ∙ rw (lt-leb (length s) next more, le-ltb (length b - place) line_room (omega arith))

      module _ (next' time' place' : ℕ) (out' : List ℕ) (r : Reaches (length s) (read_event s next) time out place next' time' place' out') where
        -- a bad event ends the recording
        bad : (o : Option (Event × ℕ)) → read_event s next ≡ o → o ≡ none → Reaches (length s) o time out place next' time' place' out' → Goes next' time' out' place'
        unfolding writes goes_on
        bad none q e (a, c, d, f) =
            let t : ℕ = k.turns in
            let e₁ : k.turns ≡ suc (k.turns - 1) = omega (arith, k.enough) in
            let was : goes_on k.turns s next time (length b - place) ≡ piece [] (length s) time
            = turn k.turns k.enough (k.turns - 1) e₁ ∙ ap (λ (o : Option (Event × ℕ)). writes (length s) o time (length b - place) (goes_on (k.turns - 1) s)) q in
            rw (a, c, d, f)
            (record {
              turns = 0;
              enough = omega arith;
              inside = omega arith;
              early = omega (arith, k.early, k.inside);
              short = k.short;
              same_length = k.same_length;
              behind = k.behind;
              is = ap (after (take place out)) (sym was) ∙ k.is;
            })
        bad (some x) q e h = let z : ◌≡◌ {A = ℕ} 0 1 = cc in absurd (omega arith)

        good : (x : Event × ℕ) → read_event s next ≡ some x → next' ≡ x.1 → Exports x.0 time out place time' place' out' → Goes next' time' out' place'
        unfolding writes
        good x q a p =
            let ends = event_ends s next x.0 x.1 q in
            let one : 1 ≤ least x.0 = least_one x.0 in
            let few : length (line_of time x.0) ≤ line_room = line_short time x.0 late in
            let fits : place + length (line_of time x.0) ≤ length out = omega (arith, line_room_law) in
            let e₁ : k.turns ≡ suc (k.turns - 1) = omega (arith, k.enough) in
            let was : goes_on k.turns s next time (length b - place) ≡ after (line_of time x.0) (goes_on (k.turns - 1) s x.1 (time + lasts x.0 (code_of x.0)) (length b - place - length (line_of time x.0)))
            = turn k.turns k.enough (k.turns - 1) e₁ ∙ ap (λ (o : Option (Event × ℕ)). writes (length s) o time (length b - place) (goes_on (k.turns - 1) s)) q in
            let ends' : place' ≡ place + length (line_of time x.0) = p.put.ends in
            let out_is : out' ≡ (take place out ++ line_of time x.0) ++ drop place' out = p.put.holds ∙ ap (λ (n : ℕ). (take place out ++ line_of time x.0) ++ drop n out) (sym ends') in
            let front : length (take place out ++ line_of time x.0) ≡ place' = omega (arith, length-append (take place out) (line_of time x.0), sized) in
            let free : length b - place - length (line_of time x.0) ≡ length b - place' = omega arith in
            let rest : goes_on (k.turns - 1) s x.1 (time + lasts x.0 (code_of x.0)) (length b - place - length (line_of time x.0)) ≡ goes_on (k.turns - 1) s next' time' (length b - place')
            = ap₂ (λ (n t : ℕ). goes_on (k.turns - 1) s n t (length b - place - length (line_of time x.0))) (sym a) (sym p.passes) ∙ ap (goes_on (k.turns - 1) s next' time') free in
            record {
              turns = k.turns - 1;
              enough = omega (arith, k.enough, ends.0, a);
              inside = omega (arith, ends.1, a);
              early = omega (arith, k.early, p.passes, second_most x.0, ends.0, a);
              short = omega (arith, fits, k.same_length);
              same_length = put_length p.put fits ∙ k.same_length;
              behind =
                  ap (drop place') out_is ∙ drop_at (take place out ++ line_of time x.0) (drop place' out) place' front
                  ∙ ap (λ (n : ℕ). drop n out) ends' ∙ sym (drop-drop (length (line_of time x.0)) place out)
                  ∙ ap (drop (length (line_of time x.0))) k.behind ∙ drop-drop (length (line_of time x.0)) place b
                  ∙ ap (λ (n : ℕ). drop n b) (sym ends');
              is =
                  ap (λ (l : List ℕ). after l (goes_on (k.turns - 1) s next' time' (length b - place')))
                  (ap (take place') out_is ∙ take_at (take place out ++ line_of time x.0) (drop place' out) place' front)
                  ∙ ap (after (take place out ++ line_of time x.0)) (sym rest)
                  ∙ ap (λ (l : List ℕ). piece l (goes_on (k.turns - 1) s x.1 (time + lasts x.0 (code_of x.0)) (length b - place - length (line_of time x.0))).at
                  (goes_on (k.turns - 1) s x.1 (time + lasts x.0 (code_of x.0)) (length b - place - length (line_of time x.0))).time)
                  (append_assoc (take place out) (line_of time x.0) (goes_on (k.turns - 1) s x.1 (time + lasts x.0 (code_of x.0)) (length b - place - length (line_of time x.0))).bytes)
                  ∙ ap (after (take place out)) (sym was)
                  ∙ k.is;
            }

        pub goes : Goes next' time' out' place'
        goes = by (read_event s next) refl r
          where
            by : (o : Option (Event × ℕ)) → read_event s next ≡ o → Reaches (length s) o time out place next' time' place' out' → Goes next' time' out' place'
            by none q h = bad none q refl h
            by (some x) q h = good x q h.0 h.1

        -- and gets further
        pub further : next < next'
        further = by (read_event s next) refl r
          where
            by : (o : Option (Event × ℕ)) → read_event s next ≡ o → Reaches (length s) o time out place next' time' place' out' → next < next'
            by none q h = omega (arith, h.0)
            by (some x) q h = omega (arith, h.0, (event_ends s next x.0 x.1 q).0, least_one x.0)
