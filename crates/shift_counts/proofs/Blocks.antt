-- What each event adds, by the channel before it: on one channel, then on the box. Assumes nothing.
use Rattle.std.specs.Prelude.{if◌then◌else◌}
use Prim.Native.Nat.{ℕ, ◌+◌, ◌*◌, ◌≤◌, ◌<◌, min}
use mathlib.Core.Path.{◌≡◌, refl, sym, ap, ◌∙◌, subst}
use mathlib.Core.Bool.{Bool, true, false, not, ◌&&◌}
use mathlib.Core.Option.{Option, none, some}
use mathlib.Core.List.{List, [], ◌∷◌, ◌++◌}
use native.Mathlib.Nat.{add-zero, zero-add}
use native.Mathlib.Omega.{arith}
use borrow.Author.Tests.{eqb-true, eq-eqb, ne_eqb, le-ltb, lt-leb}
use lib.Dec.{eqb, leb, ltb}
use lib.ListN.{length, length-replicate}
use Rattle.codec.specs.Plain.{within, zeros}
use Rattle.machine.specs.Limits.{most_to_read, record_size}
use Rattle.machine.specs.Codes.{code_of}
use Rattle.machine.specs.Message.{Rec, id_bytes}
use Rattle.machine.specs.Filter.{taken}
use Rattle.machine.specs.Channel.{Chan, closed, opened, Open, Call, disconnect, read, sent, clear, Answer, says, unless, done_with, frame_code, shorter, reading, on_read, sending, on_sent, on_clear, on_open, on_call, noted, listens, lent}
use Rattle.machine.specs.Step.{Event, connect, call, frame, advance, close}
use Rattle.machine.specs.Step as raw_step
use Rattle.machine.specs.Demands.{queue_of}
use Rattle.whole.specs.Device.{Device, chan_at, step, answer, answer_by, speaker, own_answer}
use Rattle.whole.specs.Demands.{EightChannels}
use Rattle.whole.proofs.Dispatch.{call_carried}
use Rattle.recording_sizes.specs.Sizes.{on_iso, record_on}
use Rattle.shift_places.specs.Places.{at_lost, at_read, at_cleared, at_dropped, of_report}
use Rattle.shift.specs.Numbers as numbers
use Rattle.shift.specs.Numbers.{one, held_in, open_and, fits, wanted, unwanted, lets, Counted, a_sent, a_read, a_disconnect, another, a_clear, counted_as, is_sent, read_count, is_clear2, is_disconnect, echoes}
use Rattle.shift.specs.Report.{of_four}
use Rattle.shift_cells.specs.Sums.{plus, nothing, cell}
use Rattle.shift_cells.proofs.Plus.{four_same}
use Rattle.fates.specs.Fates.{fate_by, fate_if, fate_of}
use Rattle.shift_looks.specs.Looks.{would_echo}
use Rattle.shift_counts.specs.Adds.{block, adds, on_channel, on_line_of, on_each, held_at, losing, echo_adds, frame_adds}

-- ---- what a call adds, by whether it is one on this channel

shape : Bool → Counted → Chan → Answer → List ℕ
shape g v c a =
    0 ∷ 0 ∷ 0 ∷ 0 ∷ 0
    ∷ (if g then one (echoes c a v) else 0)
    ∷ (0 + (if g then one (echoes c a v && leb most_to_read (held_in c)) else 0))
    ∷ (if g then read_count a v else 0)
    ∷ (if g then (if is_clear2 v && eqb a.code 0x00 then held_in c else 0) else 0)
    ∷ ((if g then (if is_disconnect v && eqb a.code 0x00 then held_in c else 0) else 0) + 0)
    ∷ 0 ∷ []

is_shape : (i k : ℕ) (c : Chan) (x : Call) (a : Answer) → block i c (call k x) a ≡ shape (eqb k (i + 1)) (counted_as x) c a
unfolding block shape numbers.offered numbers.width numbers.unmatched numbers.blocked numbers.passed numbers.echoed numbers.lost numbers.reads numbers.cleared numbers.dropped numbers.good numbers.of_call numbers.is_close one
is_shape i k c x a = refl

off_shape : (v : Counted) (c : Chan) (a : Answer) → shape false v c a ≡ nothing
unfolding shape
off_shape v c a = refl

another_shape : (g : Bool) (c : Chan) (a : Answer) → shape g another c a ≡ nothing
unfolding shape one echoes is_sent read_count is_clear2 is_disconnect
another_shape true c a = refl
another_shape false c a = refl

-- the answer of a channel to a call
abbrev says_to : List ℕ → ℕ → Chan → Call → Answer
says_to rates now c x = (noted (on_call rates now c x)).1

module _ (rates : List ℕ) (now : ℕ) where
  disconnect_shape : (c : Chan) → shape true a_disconnect c (says_to rates now c disconnect) ≡ held_at at_dropped c
  unfolding shape one echoes is_sent read_count is_clear2 is_disconnect held_at cell held_in queue_of noted on_call on_open done_with says
  disconnect_shape closed = refl
  disconnect_shape (opened o) =
      ap {B = List ℕ} (λ (n : ℕ). 0 ∷ 0 ∷ 0 ∷ 0 ∷ 0 ∷ 0 ∷ 0 ∷ 0 ∷ 0 ∷ n ∷ 0 ∷ []) (add-zero (length o.receiving.queue))

  clear_shape : (k : ℕ) → k ≡ 2 → (c : Chan) → shape true (a_clear k) c (says_to rates now c (clear k)) ≡ held_at at_cleared c
  unfolding shape one echoes is_sent read_count is_clear2 is_disconnect held_at cell held_in queue_of noted on_call on_open on_clear done_with says
  clear_shape k e closed = subst (λ (j : ℕ). shape true (a_clear j) closed (says_to rates now closed (clear j)) ≡ held_at at_cleared closed) (sym e) refl
  clear_shape k e (opened o) = subst (λ (j : ℕ). shape true (a_clear j) (opened o) (says_to rates now (opened o) (clear j)) ≡ held_at at_cleared (opened o)) (sym e) refl

  other_clear_shape : (g : Bool) (k : ℕ) → eqb k 2 ≡ false → (c : Chan) (a : Answer) → shape g (a_clear k) c a ≡ nothing
  unfolding shape one echoes is_sent read_count is_clear2 is_disconnect
  other_clear_shape true k e c a = rw e
  other_clear_shape false k e c a = refl

  read_count_law : (o : Open) (n m : ℕ) → m ≡ record_size * n → (on_read o n (zeros m)).1.value ≡ min n (length o.receiving.queue)
  unfolding on_read reading unless code_of shorter says
  read_count_law o n m e =
      let fits : ltb (length (zeros m)) (record_size * n) ≡ false = le-ltb (length (zeros m)) (record_size * n) (omega (arith, length-replicate {A = ℕ} m 0)) in
      rw fits (by (eqb n 0) refl)
    where
      by : (g : Bool) → eqb n 0 ≡ g → (if g then (opened o, says 0x00 0 (zeros m)) else reading o n (zeros m) (min n (length o.receiving.queue))).1.value ≡ min n (length o.receiving.queue)
      by true q = let z : n ≡ 0 = eqb-true n 0 q in omega arith
      by false q = refl

  read_shape : (n m : ℕ) → m ≡ record_size * n → (c : Chan) → shape true a_read c (says_to rates now c (read n (zeros m))) ≡ cell at_read (min n (held_in c))
  unfolding shape one echoes is_sent read_count is_clear2 is_disconnect cell held_in queue_of noted on_call on_open says
  read_shape n m e closed = let z : min n 0 ≡ 0 = omega arith in ap {B = List ℕ} (λ (k : ℕ). 0 ∷ 0 ∷ 0 ∷ 0 ∷ 0 ∷ 0 ∷ 0 ∷ k ∷ 0 ∷ 0 ∷ 0 ∷ []) (sym z)
  read_shape n m e (opened o) = ap {B = List ℕ} (λ (k : ℕ). 0 ∷ 0 ∷ 0 ∷ 0 ∷ 0 ∷ 0 ∷ 0 ∷ k ∷ 0 ∷ 0 ∷ 0 ∷ []) (read_count_law o n m e)

  sent_shape : (c : Chan) → shape true a_sent c (says_to rates now c sent) ≡ echo_adds c
  unfolding shape one echoes is_sent read_count is_clear2 is_disconnect echo_adds would_echo open_and taken cell plus held_in queue_of noted on_call on_open on_sent sending done_with lent says
  sent_shape closed = refl
  sent_shape (opened o) = by (listens o.config.flags) o.sending.flight o.config.loopback (leb most_to_read (length o.receiving.queue))
    where
      -- its code: a listener's sent is refused
      code : Bool → Option Rec → ℕ
      code l f = (if l then (opened o, says 0x01 0 []) else sending now o f).1.code

      by : (l : Bool) (f : Option Rec) (g h : Bool)
          → 0 ∷ 0 ∷ 0 ∷ 0 ∷ 0 ∷ one (eqb (code l f) 0x00 && g) ∷ (0 + one ((eqb (code l f) 0x00 && g) && h)) ∷ 0 ∷ 0 ∷ (0 + 0) ∷ 0 ∷ []
          ≡ (if not l && (taken f && g) then plus (cell 5 1) (cell at_lost (one h)) else nothing)
      by true f g h = refl
      by false none g h = refl
      by false (some r) true true = refl
      by false (some r) true false = refl
      by false (some r) false h = refl

closing : (i : ℕ) (c : Chan) (a : Answer) → block i c close a ≡ held_at at_dropped c
unfolding block held_at cell numbers.offered numbers.width numbers.unmatched numbers.blocked numbers.passed numbers.echoed numbers.lost numbers.reads numbers.cleared numbers.dropped numbers.good numbers.of_call numbers.is_close one
closing i c a = ap {B = List ℕ} (λ (n : ℕ). 0 ∷ 0 ∷ 0 ∷ 0 ∷ 0 ∷ 0 ∷ 0 ∷ 0 ∷ 0 ∷ n ∷ 0 ∷ []) (zero-add (held_in c))

-- ---- what a good frame adds

frame_shape : Bool → Chan → Bool → List ℕ → List ℕ
frame_shape t c wide bytes =
    one (t && open_and (λ o. true) c)
    ∷ one (t && open_and (λ o. not (fits o wide bytes)) c)
    ∷ one (t && open_and (λ o. fits o wide bytes && not (wanted o wide bytes)) c)
    ∷ one (t && open_and (λ o. fits o wide bytes && wanted o wide bytes && unwanted o wide bytes) c)
    ∷ one (t && open_and (λ o. lets o wide bytes) c)
    ∷ 0
    ∷ (one (t && open_and (λ o. lets o wide bytes && leb most_to_read (length o.receiving.queue)) c) + 0)
    ∷ 0 ∷ 0 ∷ 0 ∷ 0 ∷ []

is_frame : (i l w n : ℕ) (b : List ℕ) (c : Chan) (a : Answer) → block i c (frame l w n b) a ≡ frame_shape (numbers.taken i l a) c (eqb w 1) (id_bytes n ++ b)
unfolding block frame_shape numbers.offered numbers.width numbers.unmatched numbers.blocked numbers.passed numbers.echoed numbers.lost numbers.reads numbers.cleared numbers.dropped numbers.good numbers.of_call numbers.is_close
is_frame i l w n b c a = refl

not_counted : (c : Chan) (wide : Bool) (bytes : List ℕ) → frame_shape false c wide bytes ≡ nothing
unfolding frame_shape one
not_counted c wide bytes = refl

counted : (c : Chan) (wide : Bool) (bytes : List ℕ) → frame_shape true c wide bytes ≡ frame_adds wide bytes c
unfolding frame_shape frame_adds one open_and lets losing plus cell fate_of fate_if fate_by
counted closed wide bytes = refl
counted (opened o) wide bytes = by (fits o wide bytes) (wanted o wide bytes) (unwanted o wide bytes) (leb most_to_read (length o.receiving.queue))
  where
    by : (f p q h : Bool)
        → 1 ∷ one (not f) ∷ one (f && not p) ∷ one (f && p && q) ∷ one (f && p && not q) ∷ 0 ∷ (one (f && p && not q && h) + 0) ∷ 0 ∷ 0 ∷ 0 ∷ 0 ∷ []
        ≡ plus (plus (cell 0 1) (cell (fate_if f (fate_by p q)) 1)) (cell at_lost (one (eqb (fate_if f (fate_by p q)) 4 && h)))
    by false p q h = refl
    by true false q h = refl
    by true true true h = refl
    by true true false true = refl
    by true true false false = refl

-- ---- on the box

module _ (rates : List ℕ) (d : Device) (eight : EightChannels d) where
  none_adds : (e : Event) → ((i : ℕ) → i < 4 → block i (chan_at i d) e (step rates d e).1 ≡ nothing) → adds rates d e ≡ zeros of_report
  unfolding adds of_four
  none_adds e h = four_same (λ i. block i (chan_at i d) e (step rates d e).1) (λ i. nothing) h

  -- events that count nothing
  pub connect_adds : (l p f r : ℕ) → adds rates d (connect l p f r) ≡ zeros of_report
  unfolding block numbers.offered numbers.width numbers.unmatched numbers.blocked numbers.passed numbers.echoed numbers.lost numbers.reads numbers.cleared numbers.dropped numbers.good numbers.of_call numbers.is_close one
  connect_adds l p f r = none_adds (connect l p f r) (λ i h. refl)

  pub advance_adds : (t : ℕ) → adds rates d (advance t) ≡ zeros of_report
  unfolding block numbers.offered numbers.width numbers.unmatched numbers.blocked numbers.passed numbers.echoed numbers.lost numbers.reads numbers.cleared numbers.dropped numbers.good numbers.of_call numbers.is_close one
  advance_adds t = none_adds (advance t) (λ i h. refl)

  pub another_adds : (k : ℕ) (x : Call) → counted_as x ≡ another → adds rates d (call k x) ≡ zeros of_report
  another_adds k x e =
      none_adds (call k x)
      (λ i h.
      is_shape i k (chan_at i d) x (step rates d (call k x)).1
      ∙ ap (λ (v : Counted). shape (eqb k (i + 1)) v (chan_at i d) (step rates d (call k x)).1) e
      ∙ another_shape (eqb k (i + 1)) (chan_at i d) (step rates d (call k x)).1)

  -- a call, by what it adds on a channel of that number
  called : (k : ℕ) (x : Call) (f : Chan → List ℕ) → ((i : ℕ) → i < 4 → k ≡ i + 1 → (c : Chan) → shape true (counted_as x) c (says_to rates d.clock c x) ≡ f c) → adds rates d (call k x) ≡ on_channel k f d
  unfolding adds on_channel
  called k x f so =
      four_same (λ i. block i (chan_at i d) (call k x) (step rates d (call k x)).1) (λ i. if eqb k (i + 1) then f (chan_at i d) else nothing)
      (λ i h. is_shape i k (chan_at i d) x (step rates d (call k x)).1 ∙ by i h (eqb k (i + 1)) refl)
    where
      by : (i : ℕ) → i < 4 → (g : Bool) → eqb k (i + 1) ≡ g → shape g (counted_as x) (chan_at i d) (step rates d (call k x)).1 ≡ (if g then f (chan_at i d) else nothing)
      by i h true q =
          let e : k ≡ i + 1 = eqb-true k (i + 1) q in
          subst (λ (j : ℕ). shape true (counted_as x) (chan_at i d) (step rates d (call j x)).1 ≡ f (chan_at i d)) (sym e)
          (call_carried rates (λ c a. shape true (counted_as x) (chan_at i d) a ≡ f (chan_at i d)) d i x h eight (so i h e (chan_at i d)))
      by i h false q = off_shape (counted_as x) (chan_at i d) (step rates d (call k x)).1

  pub disconnect_adds : (k : ℕ) → adds rates d (call k disconnect) ≡ on_channel k (held_at at_dropped) d
  unfolding counted_as
  disconnect_adds k = called k disconnect (held_at at_dropped) (λ i h e c. disconnect_shape rates d.clock c)

  pub clear_adds : (k j : ℕ) → j ≡ 2 → adds rates d (call k (clear j)) ≡ on_channel k (held_at at_cleared) d
  unfolding counted_as
  clear_adds k j z = called k (clear j) (held_at at_cleared) (λ i h e c. clear_shape rates d.clock j z c)

  pub other_clear_adds : (k j : ℕ) → (j ≡ 2 → ⊥) → adds rates d (call k (clear j)) ≡ zeros of_report
  unfolding counted_as
  other_clear_adds k j z =
      none_adds (call k (clear j))
      (λ i h.
      is_shape i k (chan_at i d) (clear j) (step rates d (call k (clear j))).1
      ∙ other_clear_shape rates d.clock (eqb k (i + 1)) j (ne_eqb j 2 z) (chan_at i d) (step rates d (call k (clear j))).1)

  pub sent_adds : (k : ℕ) → adds rates d (call k sent) ≡ on_channel k echo_adds d
  unfolding counted_as
  sent_adds k = called k sent echo_adds (λ i h e c. sent_shape rates d.clock c)

  raw_record : (k i : ℕ) → i < 4 → k ≡ i + 1 → record_on k ≡ record_size
  unfolding record_on on_iso within
  raw_record k i h e = rw (lt-leb 5 k (omega arith))

  pub read_adds : (k n : ℕ) → adds rates d (call k (read n (zeros (record_on k * n)))) ≡ on_channel k (λ c. cell at_read (min n (held_in c))) d
  unfolding counted_as
  read_adds k n =
      called k (read n (zeros (record_on k * n))) (λ c. cell at_read (min n (held_in c)))
      (λ i h e c. read_shape rates d.clock n (record_on k * n) (ap (λ (s : ℕ). s * n) (raw_record k i h e)) c)

  pub close_adds : adds rates d close ≡ on_each (held_at at_dropped) d
  unfolding adds on_each
  close_adds = four_same (λ i. block i (chan_at i d) close (step rates d close).1) (λ i. held_at at_dropped (chan_at i d)) (λ i h. closing i (chan_at i d) (step rates d close).1)

  -- ---- a frame

  module _ (l w n : ℕ) (b : List ℕ) where
    abbrev e : Event
    e = frame l w n b

    abbrev a : Answer
    a = (step rates d e).1

    by_shape : (i : ℕ) → block i (chan_at i d) e a ≡ frame_shape (eqb l i && eqb a.code 0x00) (chan_at i d) (eqb w 1) (id_bytes n ++ b)
    unfolding numbers.taken
    by_shape i = is_frame i l w n b (chan_at i d) a

    code_is : l < 4 → a.code ≡ frame_code w n b
    unfolding step answer answer_by speaker own_answer raw_step.own_answer says code_of
    code_is h = rw (le-ltb 3 l (omega arith))

    off_line : (i : ℕ) → (l ≡ i → ⊥) → block i (chan_at i d) e a ≡ nothing
    off_line i z =
        by_shape i ∙ ap (λ (g : Bool). frame_shape (g && eqb a.code 0x00) (chan_at i d) (eqb w 1) (id_bytes n ++ b)) (ne_eqb l i z) ∙ not_counted (chan_at i d) (eqb w 1) (id_bytes n ++ b)

    pub beyond_adds : 4 ≤ l → adds rates d e ≡ zeros of_report
    beyond_adds h = none_adds e (λ i k. off_line i (λ z. omega arith))

    pub refused_adds : l < 4 → (frame_code w n b ≡ 0x00 → ⊥) → adds rates d e ≡ zeros of_report
    refused_adds h z =
        none_adds e
        (λ i k.
        by_shape i
        ∙ ap (λ (t : Bool). frame_shape (eqb l i && t) (chan_at i d) (eqb w 1) (id_bytes n ++ b)) (ap (λ (j : ℕ). eqb j 0x00) (code_is h) ∙ ne_eqb (frame_code w n b) 0x00 z)
        ∙ go (chan_at i d) (eqb l i))
      where
        go : (c : Chan) (g : Bool) → frame_shape (g && false) c (eqb w 1) (id_bytes n ++ b) ≡ nothing
        go c true = not_counted c (eqb w 1) (id_bytes n ++ b)
        go c false = not_counted c (eqb w 1) (id_bytes n ++ b)

    pub good_adds : l < 4 → frame_code w n b ≡ 0x00 → adds rates d e ≡ on_line_of l (frame_adds (eqb w 1) (id_bytes n ++ b)) d
    unfolding adds on_line_of
    good_adds h z =
        four_same (λ i. block i (chan_at i d) e a) (λ i. if eqb l i then frame_adds (eqb w 1) (id_bytes n ++ b) (chan_at i d) else nothing)
        (λ i k.
        by_shape i
        ∙ ap (λ (t : Bool). frame_shape (eqb l i && t) (chan_at i d) (eqb w 1) (id_bytes n ++ b)) (ap (λ (j : ℕ). eqb j 0x00) (code_is h) ∙ eq-eqb (frame_code w n b) 0x00 z)
        ∙ go (chan_at i d) (eqb l i))
      where
        go : (c : Chan) (g : Bool) → frame_shape (g && true) c (eqb w 1) (id_bytes n ++ b) ≡ (if g then frame_adds (eqb w 1) (id_bytes n ++ b) c else nothing)
        go c true = counted c (eqb w 1) (id_bytes n ++ b)
        go c false = not_counted c (eqb w 1) (id_bytes n ++ b)
