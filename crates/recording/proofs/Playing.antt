-- What a piece of a replay has done between two events, and how it goes on and ends. Assumes nothing.
use Rattle.std.specs.Prelude.{if◌then◌else◌}
use Prim.Native.Nat.{ℕ, zero, suc, ◌+◌, ◌-◌, ◌≤◌, ◌<◌}
use mathlib.Core.Path.{◌≡◌, refl, sym, ap, ap₂, ◌∙◌, subst}
use mathlib.Core.Bool.{Bool, true, false, ◌||◌}
use mathlib.Core.Option.{none, some}
use mathlib.Core.List.{List, [], ◌++◌, append-nil, append_assoc}
use native.Mathlib.Omega.{arith}
use borrow.Author.Tests.{le-leb, lt-leb, lt-ltb, le-ltb}
use lib.Dec.{T, leb, ltb}
use lib.ListN.{length, take, drop, length-append, length-take, length-drop}
use Rattle.machine.specs.Step.{Event, connect, call, frame, advance, close}
use Rattle.layout.specs.Reach.{Bytes}
use Rattle.layout.proofs.Calls.{Known}
use Rattle.whole.specs.Device.{Device, step}
use Rattle.memory.specs.Memory.{load, valid}
use Rattle.memory.proofs.Memory.{load_image, image_load, ok_load, valid_long, valid_image}
use Rattle.memory.proofs.Reach.{step_ok}
use Rattle.recording_sizes.specs.Sizes.{event_room}
use Rattle.edition.specs.Edition.{start_of, mark_at}
use Rattle.edition.proofs.Marked.{no_mark, at_mark, new_start, start_inside}
use Rattle.number.specs.Number.{bytes_of}
use Rattle.number.specs.Place.{Written}
use Rattle.events.specs.Events.{read_event}
use Rattle.events.proofs.Ending.{one_at_least, event_ends}
use Rattle.answers.specs.Output.{answer_bytes}
use Rattle.answers.specs.Put.{Put}
use Rattle.answers.proofs.Put.{put_number, put_length, put_then}
use Rattle.playing.specs.Step.{Answered}
use Rattle.recording.specs.Replay.{bad_event, Piece, piece, after, plays, goes_on, event_at, leaves, written}

-- ---- the events from a place on, in so much room

-- the second of two tests holds
either : {A : Type 0} (b c : Bool) (x y : A) → c ≡ true → (if b || c then x else y) ≡ x
either true c x y e = refl
either false c x y e = rw e

module _ (rates s : List ℕ) (at free : ℕ) where
  -- the recording has ended, or there is no room
  pub ended_stops : (turns : ℕ) (d : Device) → length s ≤ at → goes_on rates turns d s at free ≡ piece [] at d
  unfolding goes_on
  ended_stops zero d h = refl
  ended_stops (suc turns) d h = rw (le-leb (length s) at h)

  pub full_stops : (turns : ℕ) (d : Device) → free < event_room → goes_on rates turns d s at free ≡ piece [] at d
  unfolding goes_on
  full_stops zero d h = refl
  full_stops (suc turns) d h = either (leb (length s) at) (ltb free event_room) _ _ (lt-ltb free event_room h)

  -- else an event is played
  pub goes_turn : (turns : ℕ) (d : Device) → at < length s → event_room ≤ free → goes_on rates (suc turns) d s at free ≡ plays rates (length s) (read_event s at) d free (λ e next left. goes_on rates turns e s next left)
  unfolding goes_on
  goes_turn turns d h room = rw (lt-leb (length s) at h, le-ltb free event_room room)

-- ---- where the next event begins

module _ (s : List ℕ) where
  pub from_start : event_at s 0 ≡ start_of s
  unfolding event_at start_of mark_at
  from_start = refl

  pub no_mark_here : (at : ℕ) → mark_at s at ≡ false → event_at s at ≡ at
  unfolding event_at
  no_mark_here at e = rw e

  pub mark_here : (at : ℕ) → mark_at s at ≡ true → event_at s at ≡ 2
  unfolding event_at
  mark_here at e = rw e

  -- behind the start, it is there
  pub behind_start : (at : ℕ) → 0 < at → event_at s at ≡ at
  behind_start at h = no_mark_here at (no_mark s at h)

  -- and at the end
  pub at_end_law : (at : ℕ) → length s ≤ at → event_at s at ≡ at
  at_end_law at h = by_mark (mark_at s at) refl
    where
      by_mark : (b : Bool) → mark_at s at ≡ b → event_at s at ≡ at
      by_mark true e = let m = at_mark s at e in absurd (omega (arith, m.0, new_start s m.1, start_inside s))
      by_mark false e = no_mark_here at e

-- bytes in front of bytes in front of a piece
pub after_after : (xs ys : List ℕ) (p : Piece) → after (xs ++ ys) p ≡ after xs (after ys p)
after_after xs ys p = ap (λ (b : List ℕ). piece b p.at p.device) (append_assoc xs ys p.bytes)

-- a buffer that keeps its length had room for what was written
put_inside : {b b' xs : List ℕ} {at n : ℕ} → Put b at xs n b' → at ≤ length b → length b' ≡ length b → n ≤ length b
put_inside {b} {b'} {xs} {at} {n} p h kept =
    omega (arith, p.ends, ap length p.holds, length-append (take at b ++ xs) (drop (at + length xs) b), length-append (take at b) xs, length-take at b, length-drop (at + length xs) b)

-- ---- between two events

-- `whole` is the piece, `out₀` the output as it was, `out` as it is, with `place` bytes written; `m` is the device memory
pub record Playing (rates s out₀ : List ℕ) (whole : Piece) (m out : List ℕ) (at place : ℕ) : Type 0 where
  pub ok : T (valid m)
  pub inside : at ≤ length s
  pub moved : 0 < place → 0 < at
  pub bytes : List ℕ
  pub put : Put out₀ 0 bytes place out
  pub fits : place ≤ length out₀
  pub turns : ℕ
  pub enough : length s ≤ at + turns
  pub right : after bytes (goes_on rates turns (load m) s (event_at s at) (length out₀ - place)) ≡ whole

-- nothing is written yet
pub begun : (rates s out m : List ℕ) (at : ℕ) → T (valid m) → at ≤ length s → Playing rates s out (goes_on rates (length s) (load m) s (event_at s at) (length out)) m out at 0
begun rates s out m at ok h =
    let all : length out - 0 ≡ length out = omega arith in
    record {
      ok = ok;
      inside = h;
      moved = λ wrote. absurd (omega arith);
      bytes = [];
      put = record { ends = refl; holds = refl };
      fits = omega arith;
      turns = length s;
      enough = omega arith;
      right = ap (λ (k : ℕ). goes_on rates (length s) (load m) s (event_at s at) k) all;
    }

module _ {rates s out₀ : List ℕ} {whole : Piece} {m out : List ℕ} {at place : ℕ} (p : Playing rates s out₀ whole m out at place) where
  bytes_fit : 0 + length p.bytes ≤ length out₀
  bytes_fit = omega (arith, p.fits, p.put.ends)

  -- the output and the memory keep their lengths
  pub same_output : length out ≡ length out₀
  same_output = put_length p.put bytes_fit

  pub same_memory : (m₀ : List ℕ) → T (valid m₀) → length m ≡ length m₀
  same_memory m₀ ok = valid_long m p.ok ∙ sym (valid_long m₀ ok)

  -- nothing more is played
  over : goes_on rates p.turns (load m) s (event_at s at) (length out₀ - place) ≡ piece [] at (load m) → leaves 0x00 at place m out ≡ written whole out₀
  unfolding written
  over e =
      let is : piece p.bytes at (load m) ≡ whole = ap (λ (b : List ℕ). piece b at (load m)) (sym (append-nil p.bytes)) ∙ sym (ap (after p.bytes) e) ∙ p.right in
      let z : 0 + length p.bytes ≡ length p.bytes = omega arith in
      ap₂ (λ (n : ℕ) (b : List ℕ). leaves 0x00 at n m b) (p.put.ends ∙ z) (p.put.holds ∙ ap (λ (k : ℕ). p.bytes ++ drop k out₀) z)
      ∙ ap (λ (x : List ℕ). leaves 0x00 at (length p.bytes) x (p.bytes ++ drop (length p.bytes) out₀)) (sym (image_load m p.ok))
      ∙ ap (λ (w : Piece). written w out₀) is

  -- the recording has ended
  pub ended : length s ≤ at → leaves 0x00 at place m out ≡ written whole out₀
  ended h =
      let here = at_end_law s at h in
      over (ap (λ (k : ℕ). goes_on rates p.turns (load m) s k (length out₀ - place)) here ∙ ended_stops rates s at (length out₀ - place) p.turns (load m) h)

  -- there is no room for one event: something is written, so that the reader has moved
  pub full : 0 < place → length out₀ - place < event_room → leaves 0x00 at place m out ≡ written whole out₀
  full wrote h =
      let here = behind_start s at (p.moved wrote) in
      over (ap (λ (k : ℕ). goes_on rates p.turns (load m) s k (length out₀ - place)) here ∙ full_stops rates s at (length out₀ - place) p.turns (load m) h)

  -- the mark
  pub passes : mark_at s at ≡ true → Playing rates s out₀ whole m out 2 place
  passes e =
      let here = at_mark s at e in
      let two : 2 ≤ length s = omega (arith, new_start s here.1, start_inside s) in
      record {
        ok = p.ok;
        inside = two;
        moved = λ wrote. omega arith;
        bytes = p.bytes;
        put = p.put;
        fits = p.fits;
        turns = p.turns;
        enough = omega (arith, p.enough, here.0);
        right = ap (λ (k : ℕ). after p.bytes (goes_on rates p.turns (load m) s k (length out₀ - place))) (behind_start s 2 (omega arith) ∙ sym (mark_here s at e)) ∙ p.right;
      }

  -- an event
  module _ (event : mark_at s at ≡ false) (more : at < length s) (room : place + event_room ≤ length out₀) where
    one_turn : p.turns ≡ suc (p.turns - 1)
    one_turn = omega (arith, p.enough)

    right_here : after p.bytes (plays rates (length s) (read_event s at) (load m) (length out₀ - place) (λ e next left. goes_on rates (p.turns - 1) e s next left)) ≡ whole
    right_here =
        ap (after p.bytes) (sym (goes_turn rates s at (length out₀ - place) (p.turns - 1) (load m) more (omega arith)))
        ∙ ap₂ (λ (t k : ℕ). after p.bytes (goes_on rates t (load m) s k (length out₀ - place))) (sym one_turn) (sym (no_mark_here s at event))
        ∙ p.right

    -- a bad one
    pub stopped : read_event s at ≡ none → {out' : List ℕ} {next : ℕ} → Written out place 255 next out' → length out' ≡ length out → Playing rates s out₀ whole m out' (length s) next
    unfolding plays bad_event goes_on
    stopped r {out'} {next} w kept =
        let q = put_number out out' place 255 next w in
        record {
          ok = p.ok;
          inside = omega arith;
          moved = λ wrote. omega arith;
          bytes = p.bytes ++ bytes_of 255;
          put = put_then p.put bytes_fit q;
          fits = omega (arith, put_inside q (omega (arith, same_output, p.fits)) kept, same_output);
          turns = 0;
          enough = omega arith;
          right =
              ap₂ (λ (b : List ℕ) (k : ℕ). piece b k (load m)) (append-nil (p.bytes ++ bytes_of 255)) (at_end_law s (length s) (omega arith))
              ∙ ap (λ x. after p.bytes (plays rates (length s) x (load m) (length out₀ - place) (λ e next left. goes_on rates (p.turns - 1) e s next left))) (sym r)
              ∙ right_here;
        }

    -- a good one
    pub goes_on_law : Known rates → {e : Event} {next : ℕ} → read_event s at ≡ some (e, next) → Bytes e → {m' out' : List ℕ} {place' : ℕ} → Answered rates e m out place place' m' out' → length out' ≡ length out → Playing rates s out₀ whole m' out' next place'
    unfolding plays
    goes_on_law known {e} {next} r b {m'} {out'} {place'} a kept =
        let d : Device = load m in
        let d' : Device = (step rates d e).0 in
        let ok' = step_ok rates known d e (ok_load m p.ok) b in
        let l : load m' ≡ d' = ap load a.memory ∙ load_image d' ok' in
        let ends = event_ends s at e next r in
        let one = one_at_least e in
        let answer : List ℕ = answer_bytes e (step rates d e).1 in
        let free : length out₀ - place' ≡ length out₀ - place - length answer = omega (arith, a.written.ends) in
        record {
          ok = subst (λ (x : List ℕ). T (valid x)) (sym a.memory) (valid_image d' ok');
          inside = ends.1;
          moved = λ wrote. omega (arith, ends.0);
          bytes = p.bytes ++ answer;
          put = put_then p.put bytes_fit a.written;
          fits = omega (arith, put_inside a.written (omega (arith, same_output, p.fits)) kept, same_output);
          turns = p.turns - 1;
          enough = omega (arith, ends.0, p.enough);
          right =
              ap₂ (λ (x : Device) (k : ℕ). after (p.bytes ++ answer) (goes_on rates (p.turns - 1) x s k (length out₀ - place'))) l (behind_start s next (omega (arith, ends.0)))
              ∙ ap (λ (k : ℕ). after (p.bytes ++ answer) (goes_on rates (p.turns - 1) d' s next k)) free
              ∙ after_after p.bytes answer (goes_on rates (p.turns - 1) d' s next (length out₀ - place - length answer))
              ∙ ap (λ x. after p.bytes (plays rates (length s) x (load m) (length out₀ - place) (λ f k left. goes_on rates (p.turns - 1) f s k left))) (sym r)
              ∙ right_here;
        }
