-- PIECES JOINED ARE THE WHOLE: a piece writes the first bytes of what is left, and the rest is what is left from its place and device on; so pieces one
-- after the other, whatever room is lent to each, write the output. Each moves the place, so that as many as there are bytes are enough. Assumes
-- nothing.
use Prim.Native.Nat.{ℕ, zero, suc, ◌+◌, ◌-◌, ◌≤◌, ◌<◌}
use mathlib.Core.Bool.{Bool, true, false}
use mathlib.Core.List.{List, [], ◌∷◌, ◌++◌, append-nil, append_assoc}
use mathlib.Core.Option.{Option, none, some}
use mathlib.Core.Path.{◌≡◌, refl, sym, ap, ap₂, ◌∙◌, subst}
use native.Mathlib.Omega.{arith}
use borrow.Author.Tests.{le-leb, lt-leb, leb-true, leb-false, lt-ltb, le-ltb, ltb-true, ltb-false}
use lib.Dec.{T, leb, ltb}
use lib.ListN.{length, take, drop, length-append, length-drop}
use lib.Seq.{take_at}
use Rattle.codec.specs.Plain.{all, is_byte, zeros}
use Rattle.codec.proofs.Lists.{Each}
use Rattle.codec.proofs.Tests.{T_true, true_T}
use Rattle.machine.specs.Step.{Event}
use Rattle.layout.proofs.Calls.{Known}
use Rattle.whole.specs.Device.{Device, power_on, step}
use Rattle.memory.specs.Sizes.{box_size}
use Rattle.memory.specs.Memory.{memory, image, load, valid}
use Rattle.memory.proofs.Memory.{load_image, valid_image, ok_load, power_on_zeros}
use Rattle.memory.proofs.Reach.{step_ok, power_on_ok}
use Rattle.recording_sizes.specs.Sizes.{longest, event_room}
use Rattle.edition.specs.Edition.{rates_of, start_of, mark_at}
use Rattle.edition.proofs.Marked.{at_mark, new_start, start_inside}
use Rattle.events.specs.Events.{read_event}
use Rattle.events.proofs.Ending.{one_at_least, event_ends}
use Rattle.answers.specs.Output.{answer_bytes}
use Rattle.recording.specs.Replay.{bad_event, replies, played, output, Piece, piece, after, plays, goes_on, event_at, piece_of, Left, leaves, written, pieced}
use Rattle.recording.specs.Joined.{rest, Joined, before, joined}
use Rattle.recording.proofs.Playing.{ended_stops, full_stops, goes_turn, from_start, no_mark_here, mark_here, at_end_law}
use Rattle.playing.proofs.Turning.{edition_known}
use Rattle.recording.proofs.Lending.{event_bytes}
use Rattle.recording.proofs.Promise.{is_piece}

-- ---- the answers from a place on, as many turns as are enough

module _ (rates s : List ℕ) where
  played_end : (turns : ℕ) (d : Device) (at : ℕ) → length s ≤ at → played rates turns d s at ≡ []
  unfolding played
  played_end zero d at h = refl
  played_end (suc turns) d at h = rw (le-leb (length s) at h)

  played_on : (turns : ℕ) (d : Device) (at : ℕ) → at < length s → played rates (suc turns) d s at ≡ replies rates (read_event s at) d (λ e next. played rates turns e s next)
  unfolding played
  played_on turns d at h = rw (lt-leb (length s) at h)

  same_turns : (t u : ℕ) (d : Device) (at : ℕ) → length s ≤ at + t → length s ≤ at + u → played rates t d s at ≡ played rates u d s at
  unfolding replies
  same_turns zero u d at h k = played_end zero d at (omega arith) ∙ sym (played_end u d at (omega arith))
  same_turns (suc t) zero d at h k = played_end (suc t) d at (omega arith) ∙ sym (played_end zero d at (omega arith))
  same_turns (suc t) (suc u) d at h k = by_end (leb (length s) at) refl (λ e next far. same_turns t u e next (omega arith) (omega arith))
    where
      by_read : ((e : Device) (next : ℕ) → at < next → played rates t e s next ≡ played rates u e s next) → (x : Option (Event × ℕ)) → read_event s at ≡ x → replies rates x d (λ e next. played rates t e s next) ≡ replies rates x d (λ e next. played rates u e s next)
      by_read more none e = refl
      by_read more (some r) e =
          let ends = event_ends s at r.0 r.1 e in
          ap (λ (l : List ℕ). answer_bytes r.0 (step rates d r.0).1 ++ l) (more (step rates d r.0).0 r.1 (omega (arith, ends.0, one_at_least r.0)))

      by_end : (b : Bool) → leb (length s) at ≡ b → ((e : Device) (next : ℕ) → at < next → played rates t e s next ≡ played rates u e s next) → played rates (suc t) d s at ≡ played rates (suc u) d s at
      by_end true e more = let past = leb-true (length s) at e in played_end (suc t) d at past ∙ sym (played_end (suc u) d at past)
      by_end false e more =
          let here = leb-false (length s) at e in
          played_on t d at here ∙ by_read more (read_event s at) refl ∙ sym (played_on u d at here)

-- ---- the events of a piece

-- what the events from a place on write is what the piece writes, and then what those from its place and device on write; it goes on from the place,
-- inside the recording, and leaves a device that a memory holds
record Splits (rates s : List ℕ) (turns : ℕ) (d : Device) (at : ℕ) (p : Piece) : Type 0 where
  joins : played rates turns d s at ≡ p.bytes ++ played rates (length s) p.device s p.at
  further : at ≤ p.at
  inside : at ≤ length s → p.at ≤ length s
  sound : T (memory.ok d) → T (memory.ok p.device)

module _ (rates s : List ℕ) (known : Known rates) (bytes : T (all is_byte s)) where
  -- nothing is played
  stop_splits : (turns : ℕ) (d : Device) (at : ℕ) → length s ≤ at + turns → Splits rates s turns d at (piece [] at d)
  stop_splits turns d at enough = record {
    joins = same_turns rates s turns (length s) d at enough (omega arith);
    further = omega arith;
    inside = λ h. h;
    sound = λ t. t;
  }

  -- an event is played
  turn_splits : (turns : ℕ) (d : Device) (at free : ℕ) → at < length s → ((e : Device) (next left : ℕ) → at < next → Splits rates s turns e next (goes_on rates turns e s next left)) → (x : Option (Event × ℕ)) → read_event s at ≡ x → Splits rates s (suc turns) d at (plays rates (length s) x d free (λ e next left. goes_on rates turns e s next left))
  unfolding plays replies
  turn_splits turns d at free here more none e = record {
    joins =
        played_on rates s turns d at here ∙ ap (λ x. replies rates x d (λ f next. played rates turns f s next)) e
        ∙ sym (append-nil bad_event) ∙ ap (λ (l : List ℕ). bad_event ++ l) (sym (played_end rates s (length s) d (length s) (omega arith)));
    further = omega arith;
    inside = λ h. omega arith;
    sound = λ t. t;
  }
  turn_splits turns d at free here more (some r) e =
      let ends = event_ends s at r.0 r.1 e in
      let one = one_at_least r.0 in
      let answer : List ℕ = answer_bytes r.0 (step rates d r.0).1 in
      let d' : Device = (step rates d r.0).0 in
      let p : Piece = goes_on rates turns d' s r.1 (free - length answer) in
      let then : Splits rates s turns d' r.1 p = more d' r.1 (free - length answer) (omega (arith, ends.0)) in
      record {
        joins =
            played_on rates s turns d at here ∙ ap (λ x. replies rates x d (λ f next. played rates turns f s next)) e
            ∙ ap (λ (l : List ℕ). answer ++ l) then.joins ∙ sym (append_assoc answer p.bytes (played rates (length s) p.device s p.at));
        further = omega (arith, ends.0, then.further);
        inside = λ h. then.inside ends.1;
        sound = λ t. then.sound (step_ok rates known d r.0 t (event_bytes s at r.0 r.1 bytes e));
      }

  goes_splits : (turns : ℕ) (d : Device) (at free : ℕ) → length s ≤ at + turns → Splits rates s turns d at (goes_on rates turns d s at free)
  unfolding goes_on
  goes_splits zero d at free enough = stop_splits zero d at enough
  goes_splits (suc turns) d at free enough = by_end (leb (length s) at) refl (λ e next left far. goes_splits turns e next left (omega arith))
    where
      More : Type 0
      More = (e : Device) (next left : ℕ) → at < next → Splits rates s turns e next (goes_on rates turns e s next left)

      by_room : More → at < length s → (b : Bool) → ltb free event_room ≡ b → Splits rates s (suc turns) d at (goes_on rates (suc turns) d s at free)
      by_room more here true e = subst (Splits rates s (suc turns) d at) (sym (full_stops rates s at free (suc turns) d (ltb-true free event_room e))) (stop_splits (suc turns) d at enough)
      by_room more here false e =
          subst (Splits rates s (suc turns) d at) (sym (goes_turn rates s at free turns d here (ltb-false free event_room e))) (turn_splits turns d at free here more (read_event s at) refl)

      by_end : (b : Bool) → leb (length s) at ≡ b → More → Splits rates s (suc turns) d at (goes_on rates (suc turns) d s at free)
      by_end true e more = subst (Splits rates s (suc turns) d at) (sym (ended_stops rates s at free (suc turns) d (leb-true (length s) at e))) (stop_splits (suc turns) d at enough)
      by_end false e more = by_room more (leb-false (length s) at e) (ltb free event_room) refl

  -- where there is room, a turn moves the place
  turn_moves : (turns : ℕ) (d : Device) (at free : ℕ) → length s ≤ at + suc turns → at < length s → (x : Option (Event × ℕ)) → read_event s at ≡ x → at < (plays rates (length s) x d free (λ e next left. goes_on rates turns e s next left)).at
  unfolding plays
  turn_moves turns d at free enough here none e = here
  turn_moves turns d at free enough here (some r) e =
      let ends = event_ends s at r.0 r.1 e in
      let one = one_at_least r.0 in
      let on : length s ≤ r.1 + turns = omega (arith, ends.0) in
      omega (arith, ends.0, (goes_splits turns (step rates d r.0).0 r.1 (free - length (answer_bytes r.0 (step rates d r.0).1)) on).further)

  goes_moves : (turns : ℕ) (d : Device) (at free : ℕ) → length s ≤ at + turns → at < length s → event_room ≤ free → at < (goes_on rates turns d s at free).at
  goes_moves zero d at free enough here room = absurd (omega arith)
  goes_moves (suc turns) d at free enough here room = subst (λ (p : Piece). at < p.at) (sym (goes_turn rates s at free turns d here room)) (turn_moves turns d at free enough here (read_event s at) refl)

-- ---- where events begin, once they have

module _ (s : List ℕ) where
  not_before : (at : ℕ) → at ≤ event_at s at
  not_before at = by_mark (mark_at s at) refl
    where
      by_mark : (b : Bool) → mark_at s at ≡ b → at ≤ event_at s at
      by_mark true e = omega (arith, (at_mark s at e).0)
      by_mark false e = omega (arith, no_mark_here s at e)

  start_in : (at : ℕ) → at < length s → event_at s at ≤ length s
  start_in at h = by_mark (mark_at s at) refl
    where
      by_mark : (b : Bool) → mark_at s at ≡ b → event_at s at ≤ length s
      by_mark true e = let m = at_mark s at e in omega (arith, mark_here s at e, new_start s m.1, start_inside s)
      by_mark false e = omega (arith, no_mark_here s at e)

  begun_there : (at k : ℕ) → event_at s at ≤ k → event_at s k ≡ k
  begun_there at k h = by_mark (mark_at s k) refl
    where
      zero_at : at ≡ k → mark_at s k ≡ true → event_at s at ≡ 2
      zero_at e m = subst (λ (i : ℕ). event_at s i ≡ 2) (sym e) (mark_here s k m)

      by_mark : (b : Bool) → mark_at s k ≡ b → event_at s k ≡ k
      by_mark true e =
          let k-zero = (at_mark s k e).0 in
          let same : at ≡ k = omega (arith, not_before at) in
          absurd (omega (arith, zero_at same e))
      by_mark false e = no_mark_here s k e

  -- what is left, at the end; of one that is too long; of any other
  left_none : (d : Device) (at : ℕ) → length s ≤ at → rest d s at ≡ []
  unfolding rest
  left_none d at h = rw (le-leb (length s) at h)

  left_bad : (d : Device) (at : ℕ) → at < length s → longest < length s → rest d s at ≡ bad_event
  unfolding rest
  left_bad d at here long = rw (lt-leb (length s) at here, lt-ltb longest (length s) long)

  left_played : (d : Device) (at : ℕ) → length s ≤ longest → rest d s at ≡ played (rates_of s) (length s) d s (event_at s at)
  unfolding rest
  left_played d at short = by_end (leb (length s) at) refl
    where
      by_end : (b : Bool) → leb (length s) at ≡ b → rest d s at ≡ played (rates_of s) (length s) d s (event_at s at)
      by_end true e =
          let past = leb-true (length s) at e in
          left_none d at past ∙ sym (played_end (rates_of s) s (length s) d (event_at s at) (omega (arith, at_end_law s at past)))
      by_end false e = rw (e, le-ltb longest (length s) short)

-- ---- ONE PIECE

pub record Partial (d : Device) (s : List ℕ) (at free : ℕ) (p : Piece) : Type 0 where
  pub joins : rest d s at ≡ p.bytes ++ rest p.device s p.at
  pub moves : at < length s → event_room ≤ free → at < p.at
  pub further : at ≤ p.at
  pub inside : at ≤ length s → p.at ≤ length s
  pub sound : T (memory.ok d) → T (memory.ok p.device)

-- for a caller that begins: a memory of zeros is a box just switched on
pub zeros_valid : (m : List ℕ) → m ≡ zeros box_size → T (valid m)
zeros_valid m e = subst (λ (x : List ℕ). T (valid x)) (sym (e ∙ sym power_on_zeros)) (valid_image power_on power_on_ok)

-- for a caller's loop: the place is further on, what was written fits, and the memory is valid
pub record Went (at room place size : ℕ) (m' : List ℕ) : Type 0 where
  pub on : at < place
  pub fits : size ≤ room
  pub sound : T (valid m')

module _ (s : List ℕ) (bytes : T (all is_byte s)) where
  short_partial : (d : Device) (at free : ℕ) → at < length s → length s ≤ longest → Partial d s at free (goes_on (rates_of s) (length s) d s (event_at s at) free)
  short_partial d at free here short =
      let rates : List ℕ = rates_of s in
      let k : ℕ = event_at s at in
      let p : Piece = goes_on rates (length s) d s k free in
      let enough : length s ≤ k + length s = omega arith in
      let x : Splits rates s (length s) d k p = goes_splits rates s (edition_known s) bytes (length s) d k free enough in
      let on = not_before s at in
      let there : event_at s p.at ≡ p.at = begun_there s at p.at x.further in
      record {
        joins = left_played s d at short ∙ x.joins ∙ ap (λ (l : List ℕ). p.bytes ++ l) (ap (λ (i : ℕ). played rates (length s) p.device s i) (sym there) ∙ sym (left_played s p.device p.at short));
        moves = λ h room. by_mark d at free short h room (mark_at s at) refl x;
        further = omega (arith, x.further);
        inside = λ h. x.inside (start_in s at here);
        sound = x.sound;
      }
    where
      by_mark : (d : Device) (at free : ℕ) → length s ≤ longest → at < length s → event_room ≤ free → (b : Bool) → mark_at s at ≡ b → Splits (rates_of s) s (length s) d (event_at s at) (goes_on (rates_of s) (length s) d s (event_at s at) free) → at < (goes_on (rates_of s) (length s) d s (event_at s at) free).at
      by_mark d at free short here room true e x = omega (arith, (at_mark s at e).0, mark_here s at e, x.further)
      by_mark d at free short here room false e x =
          let is = no_mark_here s at e in
          subst (λ (i : ℕ). at < (goes_on (rates_of s) (length s) d s i free).at) (sym is) (goes_moves (rates_of s) s (edition_known s) bytes (length s) d at free (omega arith) here room)

  -- from a place on, in any room: what is left is what the piece writes, and then what is left from its place and device on
  pub one_piece : (d : Device) (at free : ℕ) → Partial d s at free (piece_of d s at free)
  unfolding piece_of
  one_piece d at free = by_end (leb (length s) at) refl
    where
      by_size : at < length s → (b : Bool) → ltb longest (length s) ≡ b → Partial d s at free (piece_of d s at free)
      by_size here true e =
          let long = ltb-true longest (length s) e in
          let is : piece_of d s at free ≡ piece bad_event (length s) d = rw (lt-leb (length s) at here, e) in
          subst (Partial d s at free) (sym is) (record {
            joins = left_bad s d at here long ∙ sym (append-nil bad_event) ∙ ap (λ (l : List ℕ). bad_event ++ l) (sym (left_none s d (length s) (omega arith)));
            moves = λ h room. h;
            further = omega arith;
            inside = λ h. omega arith;
            sound = λ t. t;
          })
      by_size here false e =
          let is : piece_of d s at free ≡ goes_on (rates_of s) (length s) d s (event_at s at) free = rw (lt-leb (length s) at here, e) in
          subst (Partial d s at free) (sym is) (short_partial d at free here (ltb-false longest (length s) e))

      by_end : (b : Bool) → leb (length s) at ≡ b → Partial d s at free (piece_of d s at free)
      by_end true e =
          let past = leb-true (length s) at e in
          let is : piece_of d s at free ≡ piece [] at d = rw e in
          subst (Partial d s at free) (sym is) (record { joins = refl; moves = λ h room. absurd (omega arith); further = omega arith; inside = λ h. h; sound = λ t. t })
      by_end false e = by_size (leb-false (length s) at e) (ltb longest (length s)) refl

  -- ---- SEVERAL

  -- what is left is what they write, and then what is left; the memory stays valid, and the place is further on, by one a piece at least
  record Several (m : List ℕ) (at count : ℕ) (j : Joined) : Type 0 where
    joins : rest (load m) s at ≡ j.bytes ++ rest (load j.memory) s j.at
    sound : T (valid j.memory)
    far : at ≤ length s → length s ≤ at + count → length s ≤ j.at

  abbrev Room : List ℕ → Type 0
  Room buffer = event_room ≤ length buffer

  -- one in front of others
  one_more : (m : List ℕ) (at count : ℕ) (buffer : List ℕ) (l : Left) (j : Joined) → T (valid m) → Room buffer → l ≡ written (piece_of (load m) s at (length buffer)) buffer → (T (valid l.memory) → Several l.memory l.at count j) → Several m at (suc count) (before l j)
  unfolding written
  one_more m at count buffer l j ok room is more =
      let p : Piece = piece_of (load m) s at (length buffer) in
      let q : Partial (load m) s at (length buffer) p = one_piece (load m) at (length buffer) in
      let ok' : T (memory.ok p.device) = q.sound (ok_load m ok) in
      let at_is : l.at ≡ p.at = ap (λ x. x.at) is in
      let memory_is : l.memory ≡ image p.device = ap (λ x. x.memory) is in
      let kept : T (valid l.memory) = subst (λ (x : List ℕ). T (valid x)) (sym memory_is) (valid_image p.device ok') in
      let then : Several l.memory l.at count j = more kept in
      let device_is : load l.memory ≡ p.device = ap load memory_is ∙ load_image p.device ok' in
      let wrote : take l.size l.buffer ≡ p.bytes = ap₂ take (ap (λ x. x.size) is) (ap (λ x. x.buffer) is) ∙ take_at p.bytes (drop (length p.bytes) buffer) (length p.bytes) refl in
      record {
        joins =
            q.joins ∙ ap₂ (λ (e : Device) (i : ℕ). p.bytes ++ rest e s i) (sym device_is) (sym at_is)
            ∙ ap₂ ◌++◌ (sym wrote) then.joins ∙ sym (append_assoc (take l.size l.buffer) j.bytes (rest (load j.memory) s j.at));
        sound = then.sound;
        far = λ h enough. then.far (omega (arith, q.inside h, at_is)) (by_end (leb (length s) at) refl enough q.moves q.further at_is);
      }
    where
      by_end : {a b : ℕ} (c : Bool) → leb (length s) at ≡ c → length s ≤ at + suc count → (at < length s → event_room ≤ length buffer → at < b) → at ≤ b → a ≡ b → length s ≤ a + count
      by_end true e enough moves further is_at = omega (arith, leb-true (length s) at e)
      by_end false e enough moves further is_at = omega (arith, moves (leb-false (length s) at e) room)

  several : (buffers : List (List ℕ)) → Each Room buffers → (m : List ℕ) (at : ℕ) → T (valid m) → Several m at (length buffers) (joined m s at buffers)
  unfolding joined
  several [] rooms m at ok = record { joins = refl; sound = ok; far = λ h enough. omega arith }
  several (buffer ∷ buffers) rooms m at ok =
      let l : Left = pieced m s at buffer in
      one_more m at (length buffers) buffer l (joined l.memory s l.at buffers) ok rooms.0
      (sym (is_piece m s at buffer (T_true (valid m) ok) rooms.0))
      (λ kept. several buffers rooms.1 l.memory l.at kept)

  -- ---- FROM POWER-ON, FROM THE START

  all_left : output s ≡ rest power_on s 0
  unfolding output
  all_left = by_size (ltb longest (length s)) refl
    where
      by_size : (b : Bool) → ltb longest (length s) ≡ b → output s ≡ rest power_on s 0
      by_size true e =
          let is : output s ≡ bad_event = rw e in
          is ∙ sym (left_bad s power_on 0 (omega (arith, ltb-true longest (length s) e)) (ltb-true longest (length s) e))
      by_size false e =
          let is : output s ≡ played (rates_of s) (length s) power_on s (start_of s) = rw e in
          is ∙ ap (λ (k : ℕ). played (rates_of s) (length s) power_on s k) (sym (from_start s)) ∙ sym (left_played s power_on 0 (ltb-false longest (length s) e))

  module _ (buffers : List (List ℕ)) (rooms : Each Room buffers) where
    abbrev all_of_them : Joined
    all_of_them = joined (image power_on) s 0 buffers

    facts : Several (image power_on) 0 (length buffers) all_of_them
    facts = several buffers rooms (image power_on) 0 (valid_image power_on power_on_ok)

    -- what they wrote is the start of the output, and what is left is its end
    pub a_prefix : output s ≡ all_of_them.bytes ++ rest (load all_of_them.memory) s all_of_them.at
    a_prefix = all_left ∙ ap (λ (d : Device). rest d s 0) (sym (load_image power_on power_on_ok)) ∙ facts.joins

    -- once they have reached the recording's end, what they wrote is the output
    pub whole : length s ≤ all_of_them.at → all_of_them.bytes ≡ output s
    whole h = sym (a_prefix ∙ ap (λ (l : List ℕ). all_of_them.bytes ++ l) (left_none s (load all_of_them.memory) all_of_them.at h) ∙ append-nil all_of_them.bytes)

    -- as many as there are bytes reach it
    pub enough_pieces : length s ≤ length buffers → length s ≤ all_of_them.at
    enough_pieces h = facts.far (omega arith) (omega arith)

    -- the memory that they leave is a device's
    pub still_valid : T (valid all_of_them.memory)
    still_valid = facts.sound

  -- ---- A CALLER'S LOOP

  module _ (m : List ℕ) (at : ℕ) (buffer : List ℕ) (more : at < length s) {c place size : ℕ} {m' buffer' : List ℕ} (e : leaves c place size m' buffer' ≡ pieced m s at buffer) (same_length : length buffer' ≡ length buffer) where
    -- on a valid memory and with room, before the recording's end
    pub goes_on_law : T (valid m) → Room buffer → Went at (length buffer) place size m'
    unfolding written
    goes_on_law ok room =
        let p : Piece = piece_of (load m) s at (length buffer) in
        let q : Partial (load m) s at (length buffer) p = one_piece (load m) at (length buffer) in
        let is : leaves c place size m' buffer' ≡ written p buffer = e ∙ sym (is_piece m s at buffer (T_true (valid m) ok) room) in
        let at_is : place ≡ p.at = ap (λ x. x.at) is in
        let size_is : size ≡ length p.bytes = ap (λ x. x.size) is in
        let buffer_is : buffer' ≡ p.bytes ++ drop (length p.bytes) buffer = ap (λ x. x.buffer) is in
        record {
          on = omega (arith, q.moves more room, at_is);
          fits = omega (arith, ap length buffer_is, length-append p.bytes (drop (length p.bytes) buffer), length-drop (length p.bytes) buffer, size_is, same_length);
          sound = subst (λ (x : List ℕ). T (valid x)) (sym (ap (λ x. x.memory) is)) (valid_image p.device (q.sound (ok_load m ok)));
        }

    -- and 0x00 says that it was one, with room
    pub done_goes_on : c ≡ 0 → Went at (length buffer) place size m'
    unfolding pieced
    done_goes_on done = by_memory (valid m) refl
      where
        by_room : valid m ≡ true → (b : Bool) → ltb (length buffer) event_room ≡ b → Went at (length buffer) place size m'
        by_room ok true f =
            let is : pieced m s at buffer ≡ leaves 0x04 at 0 m buffer = rw (ok, f) in
            absurd (omega (arith, done, ap (λ x. x.code) (e ∙ is)))
        by_room ok false f = goes_on_law (true_T (valid m) ok) (ltb-false (length buffer) event_room f)

        by_memory : (b : Bool) → valid m ≡ b → Went at (length buffer) place size m'
        by_memory true ok = by_room ok (ltb (length buffer) event_room) refl
        by_memory false ok =
            let is : pieced m s at buffer ≡ leaves 0x1A at 0 m buffer = rw ok in
            absurd (omega (arith, done, ap (λ x. x.code) (e ∙ is)))
