-- PIECES JOINED ARE THE EXPORT: a piece writes the first bytes of what is left, and the rest is what is left from its place and time on; so pieces one
-- after the other, whatever room is lent to each, write the export. Each moves the place, so that as many as there are bytes are enough, and no time that
-- a piece leaves is refused. Assumes nothing.
use Rattle.std.specs.Prelude.{if◌then◌else◌}
use Prim.Native.Nat.{ℕ, zero, suc, ◌+◌, ◌-◌, ◌*◌, ◌≤◌, ◌<◌}
use mathlib.Core.Bool.{Bool, true, false, ◌||◌}
use mathlib.Core.List.{List, [], ◌∷◌, ◌++◌, append-nil, append_assoc}
use mathlib.Core.Option.{Option, none, some}
use mathlib.Core.Path.{◌≡◌, refl, sym, ap, ap₂, ◌∙◌, subst, subst₂}
use native.Mathlib.Omega.{arith}
use borrow.Author.Tests.{le-leb, lt-leb, leb-true, leb-false, lt-ltb, le-ltb, ltb-true, ltb-false}
use lib.Dec.{leb, ltb}
use lib.ListN.{length, take, drop}
use lib.Seq.{take_at}
use Rattle.codec.proofs.Lists.{Each}
use Rattle.recording_sizes.specs.Sizes.{longest}
use Rattle.machine.specs.Step.{Event}
use Rattle.edition.specs.Edition.{mark_size, mark_at}
use Rattle.edition.proofs.Marked.{at_mark}
use Rattle.events.specs.Events.{read_event}
use Rattle.events.proofs.Ending.{event_ends}
use Rattle.candump.specs.Line.{second}
use Rattle.candump.specs.Log.{latest, lasts, exported}
use Rattle.exporting.specs.Pieces.{line_room, code_of, Piece, piece, after, line_of, writes, goes_on, event_at, piece_of, latest_at, Left, leaves, written, exports}
use Rattle.exporting.specs.Joined.{text_of, text_from, rest, Joined, before, joined}
use Rattle.exporting.proofs.Events.{second_most}
use Rattle.exporting.proofs.Turning.{least_one, or_last}
use Rattle.exporting.proofs.Promise.{latest_near, latest_far, behind_mark, no_mark, event_inside}
use Rattle.exporting.proofs.Leaving.{text_end, text_on, same_turns, left_none, left_long, left_text, all_left}

-- ---- the events of a piece

module _ (s : List ℕ) where
  ended_stops : (turns at t free : ℕ) → length s ≤ at → goes_on turns s at t free ≡ piece [] at t
  unfolding goes_on
  ended_stops zero at t free h = refl
  ended_stops (suc turns) at t free h = rw (le-leb (length s) at h)

  full_stops : (turns at t free : ℕ) → free < line_room → goes_on turns s at t free ≡ piece [] at t
  unfolding goes_on
  full_stops zero at t free h = refl
  full_stops (suc turns) at t free h =
      ap (λ (g : Bool). if◌then◌else◌ {A = Piece} g (piece [] at t) (writes (length s) (read_event s at) t free (goes_on turns s)))
      (ap (λ (g : Bool). leb (length s) at || g) (lt-ltb free line_room h) ∙ or_last (leb (length s) at))

  goes_turn : (turns at t free : ℕ) → at < length s → line_room ≤ free → goes_on (suc turns) s at t free ≡ writes (length s) (read_event s at) t free (goes_on turns s)
  unfolding goes_on
  goes_turn turns at t free here room = rw (lt-leb (length s) at here, le-ltb free line_room room)

-- what the events from a place on write is what the piece writes, and then what those from its place and time on write; it goes on from the place,
-- inside the recording, and no more than a second for each byte
record Splits (s : List ℕ) (turns t at : ℕ) (p : Piece) : Type 0 where
  joins : text_from turns s at t ≡ p.bytes ++ text_from (length s) s p.at p.time
  further : at ≤ p.at
  inside : at ≤ length s → p.at ≤ length s
  early : p.time + second * at ≤ t + second * p.at

module _ (s : List ℕ) where
  -- nothing is written
  stop_splits : (turns t at : ℕ) → length s ≤ at + turns → Splits s turns t at (piece [] at t)
  stop_splits turns t at enough = record {
    joins = same_turns s turns (length s) at t enough (omega arith);
    further = omega arith;
    inside = λ h. h;
    early = omega arith;
  }

  -- an event is written
  turn_splits : (turns t at free : ℕ) → at < length s → ((next u left : ℕ) → at < next → Splits s turns u next (goes_on turns s next u left)) → (x : Option (Event × ℕ)) → read_event s at ≡ x → Splits s (suc turns) t at (writes (length s) x t free (goes_on turns s))
  unfolding writes text_of
  turn_splits turns t at free here more none e = record {
    joins =
        text_on s turns at t here ∙ ap (λ x. text_of x t (text_from turns s)) e
        ∙ sym (text_end s (length s) (length s) t (omega arith));
    further = omega arith;
    inside = λ h. omega arith;
    early = omega arith;
  }
  turn_splits turns t at free here more (some r) e =
      let ends = event_ends s at r.0 r.1 e in
      let one = least_one r.0 in
      let line : List ℕ = line_of t r.0 in
      let u : ℕ = t + lasts r.0 (code_of r.0) in
      let p : Piece = goes_on turns s r.1 (t + lasts r.0 (code_of r.0)) (free - length (line_of t r.0)) in
      let behind : Splits s turns (t + lasts r.0 (code_of r.0)) r.1 (goes_on turns s r.1 (t + lasts r.0 (code_of r.0)) (free - length (line_of t r.0)))
      = more r.1 (t + lasts r.0 (code_of r.0)) (free - length (line_of t r.0)) (omega (arith, ends.0)) in
      record {
        joins =
            text_on s turns at t here ∙ ap (λ x. text_of x t (text_from turns s)) e
            ∙ ap (λ (l : List ℕ). line ++ l) behind.joins ∙ sym (append_assoc line p.bytes (text_from (length s) s p.at p.time));
        further = omega (arith, ends.0, behind.further);
        inside = λ h. behind.inside ends.1;
        early = omega (arith, ends.0, behind.early, second_most r.0);
      }

  goes_splits : (turns t at free : ℕ) → length s ≤ at + turns → Splits s turns t at (goes_on turns s at t free)
  goes_splits zero t at free enough = subst (Splits s zero t at) (sym (ended_stops s zero at t free (omega arith))) (stop_splits zero t at enough)
  goes_splits (suc turns) t at free enough = by_end (leb (length s) at) refl (λ next u left far. goes_splits turns u next left (omega arith))
    where
      More : Type 0
      More = (next u left : ℕ) → at < next → Splits s turns u next (goes_on turns s next u left)

      by_room : More → at < length s → (b : Bool) → ltb free line_room ≡ b → Splits s (suc turns) t at (goes_on (suc turns) s at t free)
      by_room more here true e = subst (Splits s (suc turns) t at) (sym (full_stops s (suc turns) at t free (ltb-true free line_room e))) (stop_splits (suc turns) t at enough)
      by_room more here false e =
          subst (Splits s (suc turns) t at) (sym (goes_turn s turns at t free here (ltb-false free line_room e))) (turn_splits turns t at free here more (read_event s at) refl)

      by_end : (b : Bool) → leb (length s) at ≡ b → More → Splits s (suc turns) t at (goes_on (suc turns) s at t free)
      by_end true e more = subst (Splits s (suc turns) t at) (sym (ended_stops s (suc turns) at t free (leb-true (length s) at e))) (stop_splits (suc turns) t at enough)
      by_end false e more = by_room more (leb-false (length s) at e) (ltb free line_room) refl

  -- where there is room, a turn moves the place
  turn_moves : (turns t at free : ℕ) → length s ≤ at + suc turns → at < length s → (x : Option (Event × ℕ)) → read_event s at ≡ x → at < (writes (length s) x t free (goes_on turns s)).at
  unfolding writes
  turn_moves turns t at free enough here none e = here
  turn_moves turns t at free enough here (some r) e =
      let ends = event_ends s at r.0 r.1 e in
      let one = least_one r.0 in
      let on : length s ≤ r.1 + turns = omega (arith, ends.0) in
      omega (arith, ends.0, (goes_splits turns (t + lasts r.0 (code_of r.0)) r.1 (free - length (line_of t r.0)) on).further)

  goes_moves : (turns t at free : ℕ) → length s ≤ at + turns → at < length s → line_room ≤ free → at < (goes_on turns s at t free).at
  goes_moves zero t at free enough here room = absurd (omega arith)
  goes_moves (suc turns) t at free enough here room =
      subst (λ (p : Piece). at < p.at) (sym (goes_turn s turns at t free here room)) (turn_moves turns t at free enough here (read_event s at) refl)

  -- ---- where events begin, once they have

  begun_there : (at k : ℕ) → at < length s → event_at s at ≤ k → event_at s k ≡ k
  begun_there at k here h = by_mark (mark_at s k) refl
    where
      by_mark : (b : Bool) → mark_at s k ≡ b → event_at s k ≡ k
      by_mark true e =
          let k-zero = (at_mark s k e).0 in
          let same : at ≡ k = omega (arith, (event_inside s at here).1) in
          let two : event_at s at ≡ mark_size = subst (λ (i : ℕ). event_at s i ≡ mark_size) (sym same) (sym (behind_mark s k e)) in
          absurd (omega arith)
      by_mark false e = sym (no_mark s k e)

-- ---- ONE PIECE

pub record Partial (t : ℕ) (s : List ℕ) (at free : ℕ) (p : Piece) : Type 0 where
  pub joins : rest t s at ≡ p.bytes ++ rest p.time s p.at
  pub moves : at < length s → line_room ≤ free → at < p.at
  pub further : at ≤ p.at
  pub inside : at ≤ length s → p.at ≤ length s
  pub early : at ≤ length s → t ≤ latest_at at → p.time ≤ latest_at p.at

later : (at k : ℕ) → at ≤ k → latest_at at ≤ latest_at k
later at k h = by (leb at longest) refl (leb k longest) refl
  where
    by : (a : Bool) → leb at longest ≡ a → (b : Bool) → leb k longest ≡ b → latest_at at ≤ latest_at k
    by true p true q = omega (arith, latest_near at (leb-true at longest p), latest_near k (leb-true k longest q))
    by true p false q = omega (arith, leb-true at longest p, latest_near at (leb-true at longest p), latest_far k (leb-false k longest q))
    by false p true q = absurd (omega (arith, leb-false at longest p, leb-true k longest q))
    by false p false q = omega (arith, latest_far at (leb-false at longest p), latest_far k (leb-false k longest q))

module _ (s : List ℕ) where
  short_partial : (t at free : ℕ) → at < length s → length s ≤ longest → Partial t s at free (goes_on (length s) s (event_at s at) t free)
  short_partial t at free here short =
      let p : Piece = goes_on (length s) s (event_at s at) t free in
      let x : Splits s (length s) t (event_at s at) (goes_on (length s) s (event_at s at) t free) = goes_splits s (length s) t (event_at s at) free (omega arith) in
      let on = event_inside s at here in
      let there : event_at s p.at ≡ p.at = begun_there s at p.at here x.further in
      record {
        joins = left_text s t at here short ∙ x.joins ∙ ap (λ (l : List ℕ). p.bytes ++ l) (left p.at p.time there (leb (length s) p.at) refl);
        moves = λ h room. by_mark room (mark_at s at) refl x.further;
        further = omega (arith, x.further, on.1);
        inside = λ h. x.inside on.0;
        early = λ h e. omega (arith, x.early, on.1, latest_near at (omega arith), x.inside on.0, latest_near p.at (omega (arith, x.inside on.0)));
      }
    where
      left : (k u : ℕ) → event_at s k ≡ k → (b : Bool) → leb (length s) k ≡ b → text_from (length s) s k u ≡ rest u s k
      left k u there true e = text_end s (length s) k u (leb-true (length s) k e) ∙ sym (left_none s u k (leb-true (length s) k e))
      left k u there false e = ap (λ (i : ℕ). text_from (length s) s i u) (sym there) ∙ sym (left_text s u k (leb-false (length s) k e) short)

      by_mark : line_room ≤ free → (b : Bool) → mark_at s at ≡ b → event_at s at ≤ (goes_on (length s) s (event_at s at) t free).at → at < (goes_on (length s) s (event_at s at) t free).at
      by_mark room true e far = omega (arith, (at_mark s at e).0, behind_mark s at e)
      by_mark room false e far =
          subst (λ (i : ℕ). at < (goes_on (length s) s i t free).at) (no_mark s at e) (goes_moves s (length s) t at free (omega arith) here room)

  -- from a place and a time on, in any room: what is left is what the piece writes, and then what is left from its place and time on
  pub one_piece : (t at free : ℕ) → Partial t s at free (piece_of s at t free)
  unfolding piece_of
  one_piece t at free = by_end (leb (length s) at) refl
    where
      by_size : at < length s → (b : Bool) → ltb longest (length s) ≡ b → Partial t s at free (piece_of s at t free)
      by_size here true e =
          let long = ltb-true longest (length s) e in
          let is : piece_of s at t free ≡ piece [] (length s) t = rw (lt-leb (length s) at here, e) in
          subst (Partial t s at free) (sym is) (record {
            joins = left_long s t at long ∙ sym (left_none s t (length s) (omega arith));
            moves = λ h room. h;
            further = omega arith;
            inside = λ h. omega arith;
            early = λ h k. omega (arith, later at (length s) h);
          })
      by_size here false e =
          let is : piece_of s at t free ≡ goes_on (length s) s (event_at s at) t free = rw (lt-leb (length s) at here, e) in
          subst (Partial t s at free) (sym is) (short_partial t at free here (ltb-false longest (length s) e))

      by_end : (b : Bool) → leb (length s) at ≡ b → Partial t s at free (piece_of s at t free)
      by_end true e =
          let past = leb-true (length s) at e in
          let is : piece_of s at t free ≡ piece [] at t = rw e in
          subst (Partial t s at free) (sym is) (record { joins = refl; moves = λ h room. absurd (omega arith); further = omega arith; inside = λ h. h; early = λ h k. k })
      by_end false e = by_size (leb-false (length s) at e) (ltb longest (length s)) refl

  -- ---- SEVERAL

  -- what is left is what they write, and then what is left; no time is refused, and the place is further on, by one a piece at least
  record Several (t at count : ℕ) (j : Joined) : Type 0 where
    joins : rest t s at ≡ j.bytes ++ rest j.time s j.at
    far : length s ≤ at + count → length s ≤ j.at

  abbrev Room : List ℕ → Type 0
  Room buffer = line_room ≤ length buffer

  taken : (t at : ℕ) (buffer : List ℕ) → Room buffer → t ≤ latest_at at → exports t s at buffer ≡ written (piece_of s at t (length buffer)) buffer
  unfolding exports
  taken t at buffer room early = rw (le-ltb (length buffer) line_room room, le-ltb (latest_at at) t early)

  -- one in front of others
  one_more : (t at count : ℕ) (buffer : List ℕ) (l : Left) (j : Joined) → at ≤ length s → t ≤ latest_at at → Room buffer → l ≡ written (piece_of s at t (length buffer)) buffer
      → (l.at ≤ length s → l.time ≤ latest_at l.at → Several l.time l.at count j) → Several t at (suc count) (before l j)
  unfolding written
  one_more t at count buffer l j inside early room is more =
      let p : Piece = piece_of s at t (length buffer) in
      let q : Partial t s at (length buffer) (piece_of s at t (length buffer)) = one_piece t at (length buffer) in
      let at_is : l.at ≡ p.at = ap (λ x. x.at) is in
      let time_is : l.time ≡ p.time = ap (λ x. x.time) is in
      let there : l.at ≤ length s = omega (arith, q.inside inside, at_is) in
      let soon : l.time ≤ latest_at l.at = subst₂ (λ (a b : ℕ). b ≤ latest_at a) (sym at_is) (sym time_is) (q.early inside early) in
      let behind : Several l.time l.at count j = more there soon in
      let wrote : take l.size l.buffer ≡ p.bytes = ap₂ take (ap (λ x. x.size) is) (ap (λ x. x.buffer) is) ∙ take_at p.bytes (drop (length p.bytes) buffer) (length p.bytes) refl in
      record {
        joins =
            q.joins ∙ ap₂ (λ (u i : ℕ). p.bytes ++ rest u s i) (sym time_is) (sym at_is)
            ∙ ap₂ ◌++◌ (sym wrote) behind.joins ∙ sym (append_assoc (take l.size l.buffer) j.bytes (rest j.time s j.at));
        far = λ enough. behind.far (by_end (leb (length s) at) refl enough q.moves q.further at_is);
      }
    where
      by_end : {a b : ℕ} (c : Bool) → leb (length s) at ≡ c → length s ≤ at + suc count → (at < length s → line_room ≤ length buffer → at < b) → at ≤ b → a ≡ b → length s ≤ a + count
      by_end true e enough moves further is_at = omega (arith, leb-true (length s) at e)
      by_end false e enough moves further is_at = omega (arith, moves (leb-false (length s) at e) room)

  several : (buffers : List (List ℕ)) → Each Room buffers → (t at : ℕ) → at ≤ length s → t ≤ latest_at at → Several t at (length buffers) (joined t s at buffers)
  unfolding joined
  several [] rooms t at inside early = record { joins = refl; far = λ enough. omega arith }
  several (buffer ∷ buffers) rooms t at inside early =
      let l : Left = exports t s at buffer in
      one_more t at (length buffers) buffer l (joined l.time s l.at buffers) inside early rooms.0 (taken t at buffer rooms.0 early)
      (λ there soon. several buffers rooms.1 l.time l.at there soon)

  -- ---- FROM THE START

  module _ (start : ℕ) (limit : start ≤ latest) (buffers : List (List ℕ)) (rooms : Each Room buffers) where
    abbrev all_of_them : Joined
    all_of_them = joined start s 0 buffers

    facts : Several start 0 (length buffers) all_of_them
    facts = several buffers rooms start 0 (omega arith) (omega (arith, latest_near 0 (omega arith)))

    -- what they wrote is the start of the export, and what is left is its end
    pub a_prefix : exported start s ≡ all_of_them.bytes ++ rest all_of_them.time s all_of_them.at
    a_prefix = all_left s start ∙ facts.joins

    -- once they have reached the recording's end, what they wrote is the export
    pub whole : length s ≤ all_of_them.at → all_of_them.bytes ≡ exported start s
    whole h = sym (a_prefix ∙ ap (λ (l : List ℕ). all_of_them.bytes ++ l) (left_none s all_of_them.time all_of_them.at h) ∙ append-nil all_of_them.bytes)

    -- as many as there are bytes reach it
    pub enough_pieces : length s ≤ length buffers → length s ≤ all_of_them.at
    enough_pieces h = facts.far (omega arith)
