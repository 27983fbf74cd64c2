-- P10: the numbers balance, for any rates, box and events. Assumes nothing.
use Rattle.std.specs.Prelude.{if◌then◌else◌}
use Prim.Native.Nat.{ℕ, zero, suc, ◌+◌, ◌-◌, ◌≤◌, ◌<◌, min}
use mathlib.Core.Path.{◌≡◌, refl, sym, ap, ◌∙◌, subst}
use mathlib.Core.Bool.{Bool, true, false, not, ◌&&◌}
use mathlib.Core.Option.{Option, none, some}
use mathlib.Core.List.{List, [], ◌∷◌, ◌++◌, map}
use native.Mathlib.Omega.{arith}
use borrow.Author.Tests.{eqb-true, eq-eqb, ltb-true, ltb-false, le-ltb, lt-ltb, le-leb, lt-leb}
use lib.ListN.{length, get_or, replicate, length-append, length-drop}
use lib.Dec.{eqb, leb, ltb}
use Rattle.codec.specs.Plain.{member}
use Rattle.machine.specs.Limits.{most_to_read, most_advance}
use Rattle.machine.specs.Codes.{code_of}
use Rattle.machine.specs.Message.{Rec, id_bytes, takes, received, width_flag}
use Rattle.machine.specs.Filter.{hits, passes}
use Rattle.link.specs.Connection.{Offer, passing}
use Rattle.machine.specs.Channel.{Chan, closed, opened, Open, Call, RawCall, opens_link, sends_link, receives_link, ends_link, decides, saves, loads, disconnect, start_filter, start_flow, stop_filter, start_periodic, stop_periodic, write, read, take_next, sent, clear, get_parameter, set_parameter, last_error, get_list, set_list, on_raw, Answer, says, Outcome, lent, with_config, with_filters, with_sending, with_receiving, with_link, with_last, unless, done_with, frame_code, on_frame, heard_by, arrive, reading, on_read, on_start_filter, on_stop_filter, on_start_periodic, on_stop_periodic, on_write, on_advance, Next, next, giving, chosen, chosen_or, may_go, taking, on_take, landed, sending, on_sent, on_clear, on_get, on_set, set_to, on_get_list, on_set_list, on_raw_call, on_link_open, on_link_send, on_link_receive, on_link_end, on_decide, store_in, on_save, loaded, on_load, connect_code, is_open, on_connect, fresh, on_open, on_call, is_raw_flags, muted, notes, noted, noted_in_use}
use Rattle.machine.specs.Channel as chan
use Rattle.machine.specs.Step.{Event, connect, call, frame, advance, close, chan_step}
use Rattle.machine.specs.Step as raw_step
use Rattle.machine.specs.Demands.{queue_of}
use Rattle.machine.proofs.Refusals.{unless_case, if_case, load_case}
use Rattle.machine.specs.Store.{read_whole}
use Rattle.whole.specs.Device.{Device, Any, raw, iso, power_on, chan_at, any_at, any_step, touches, line_of, speaker, own_answer, step, run, after, answer, answer_by}
use Rattle.whole.specs.Demands.{EightChannels}
use Rattle.whole.proofs.Dispatch.{chan_moves, chan_stays, channels_kept, call_carried, any_raw}
use Rattle.whole.proofs.FromPowerOn.{eight}
use Rattle.shift.specs.Numbers.{one, held_in, open_and, taken, good, fits, wanted, unwanted, lets, Counted, a_sent, a_read, a_disconnect, another, a_clear, counted_as, of_call, is_sent, read_count, is_clear2, is_disconnect, echoes, is_close, offered, width, unmatched, blocked, passed, echoed, lost, reads, cleared, dropped, held, tally}

-- ---- THE COMPANION: offered is width, unmatched, blocked and passed

parts : (a b d : Bool) → 1 ≡ one (not a) + one (a && not b) + one (a && b && d) + one (a && b && not d)
unfolding one
parts false b d = refl
parts true false d = refl
parts true true false = refl
parts true true true = refl

-- what an event adds
Split : ℕ → Chan → Event → Answer → Type 0
Split i c e a = offered i c e a ≡ width i c e a + unmatched i c e a + blocked i c e a + passed i c e a

split : (i : ℕ) (c : Chan) (e : Event) (a : Answer) → Split i c e a
unfolding Split offered width unmatched blocked passed good one open_and lets
split i c (connect l p f r) a = refl
split i c (call k x) a = refl
split i c (frame l w n b) a = by (taken i l a) c
  where
    by : (g : Bool) (c : Chan)
        → one (g && open_and (λ o. true) c)
        ≡ one (g && open_and (λ o. not (fits o (eqb w 1) (id_bytes n ++ b))) c)
        + one (g && open_and (λ o. fits o (eqb w 1) (id_bytes n ++ b) && not (wanted o (eqb w 1) (id_bytes n ++ b))) c)
        + one (g && open_and (λ o. fits o (eqb w 1) (id_bytes n ++ b) && wanted o (eqb w 1) (id_bytes n ++ b) && unwanted o (eqb w 1) (id_bytes n ++ b)) c)
        + one (g && open_and (λ o. lets o (eqb w 1) (id_bytes n ++ b)) c)
    by false c = refl
    by true closed = refl
    by true (opened o) = parts (fits o (eqb w 1) (id_bytes n ++ b)) (wanted o (eqb w 1) (id_bytes n ++ b)) (unwanted o (eqb w 1) (id_bytes n ++ b))
split i c (advance t) a = refl
split i c close a = refl

-- THE COMPANION, for any rates, channel, device and events
pub offered_split : (rates : List ℕ) (i : ℕ) (d : Device) (es : List Event)
    → tally offered rates i d es ≡ tally width rates i d es + tally unmatched rates i d es + tally blocked rates i d es + tally passed rates i d es
unfolding tally Split
offered_split rates i d [] = refl
offered_split rates i d (e ∷ es) =
    omega (arith, split i (chan_at i d) e (step rates d e).1, offered_split rates i (step rates d e).0 es)

-- ---- THE BALANCE, on one channel

-- what a call adds on its channel, from before it to its outcome
CallEven : Chan → Counted → Outcome → Type 0
CallEven c x y =
    one (echoes c y.1 x) + held_in c
    ≡ one (echoes c y.1 x && leb most_to_read (held_in c))
    + read_count y.1 x
    + (if is_clear2 x && eqb y.1.code 0x00 then held_in c else 0)
    + (if is_disconnect x && eqb y.1.code 0x00 then held_in c else 0)
    + held_in y.0

-- on a closed channel nothing is held, read or echoed
closed_even : (x : Counted) (b : List ℕ) → CallEven closed x (closed, says 0x02 0 b)
unfolding CallEven one echoes held_in queue_of is_sent read_count is_clear2 is_disconnect says open_and
closed_even a_sent b = refl
closed_even a_read b = refl
closed_even a_disconnect b = refl
closed_even another b = refl
closed_even (a_clear k) b = by (is_clear2 (a_clear k))
  where
    by : (g : Bool) → 0 + 0 ≡ 0 + 0 + (if g && false then 0 else 0) + 0 + 0
    by true = refl
    by false = refl

-- a full queue, or not
full_not : (n : ℕ) → ltb n most_to_read ≡ true → leb most_to_read n ≡ false
full_not n h = lt-leb most_to_read n (ltb-true n most_to_read h)

full : (n : ℕ) → ltb n most_to_read ≡ false → leb most_to_read n ≡ true
full n h = le-leb most_to_read n (ltb-false n most_to_read h)

module _ (o : Open) where
  -- the queue is as long as before
  abbrev Stays : Outcome → Type 0
  Stays y = held_in y.0 ≡ held_in (opened o)

  stays_unless : (k : ℕ) (b : List ℕ) (y : Outcome) → Stays y → Stays (unless k (opened o) b y)
  stays_unless k b y h = unless_case Stays k (opened o) b y h refl

  stays_take : (b : List ℕ) → Stays (on_take o b)
  unfolding on_take taking chosen_or chosen held_in queue_of with_sending with_link giving
  stays_take b = stays_unless _ b _ (from o.sending.flight)
    where
      next_stays : (x : Option Next) → Stays (chosen o x b)
      next_stays none = refl
      next_stays (some x) = refl

      or_stays : (x : Option Offer) → Stays (chosen_or o x b)
      or_stays none = next_stays (next o.sending.periodics o.sending.written)
      or_stays (some x) = refl

      from : (f : Option Rec) → Stays (taking o f b)
      from (some r) = refl
      from none = or_stays (may_go o)

  -- a call that takes the number of a raw channel
  stays_raw : (rates : List ℕ) (x : RawCall) → Stays (on_raw_call rates o x)
  unfolding on_raw_call on_link_open on_link_send on_link_receive on_link_end on_decide on_save on_load loaded held_in queue_of with_link done_with
  stays_raw rates (opens_link a) = stays_unless _ _ _ refl
  stays_raw rates (sends_link m) = stays_unless _ _ _ refl
  stays_raw rates (receives_link b) = stays_unless _ _ _ refl
  stays_raw rates ends_link = stays_unless _ _ _ refl
  stays_raw rates (decides w i) = stays_unless _ _ _ refl
  stays_raw rates (saves b) = stays_unless _ _ _ refl
  stays_raw rates (loads s) = load_case Stays o (read_whole (store_in rates) s) refl (λ t. refl)

  -- a call that leaves the queue as long counts nothing
  another_even : (y : Outcome) → Stays y → CallEven (opened o) another y
  unfolding CallEven one echoes is_sent read_count is_clear2 is_disconnect
  another_even y h = omega arith

  -- a record arrives
  arrives : (r : Rec) → 1 + held_in (opened o) ≡ one (leb most_to_read (held_in (opened o))) + held_in (arrive o r)
  unfolding arrive held_in queue_of with_receiving one
  arrives r = by (ltb (length o.receiving.queue) most_to_read) refl
    where
      by : (g : Bool) → ltb (length o.receiving.queue) 32 ≡ g
          → 1 + length o.receiving.queue
          ≡ one (leb most_to_read (length o.receiving.queue))
          + held_in (if g then with_receiving o (o.receiving.queue ++ r ∷ []) o.receiving.lost else with_receiving o o.receiving.queue true)
      by true h = rw (full_not (length o.receiving.queue) h) (omega (arith, length-append o.receiving.queue (r ∷ [])))
      by false h = rw (full (length o.receiving.queue) h) (omega arith)

-- a sent
sent_even : (now : ℕ) (o : Open) (f : Option Rec) → CallEven (opened o) a_sent (sending now o f)
unfolding CallEven one echoes held_in queue_of is_sent read_count is_clear2 is_disconnect says open_and sending done_with landed
sent_even now o none = omega arith
sent_even now o (some r) = by o.config.loopback
  where
    by : (g : Bool)
        → one g + length o.receiving.queue
        ≡ one (g && leb most_to_read (length o.receiving.queue))
        + 0 + 0 + 0
        + held_in (if g then arrive (landed o) (received now (r.tx + 1) r.bytes) else opened (landed o))
    by true = omega (arith, arrives (landed o) (received now (r.tx + 1) r.bytes))
    by false = omega arith

-- a read
read_even : (o : Open) (n : ℕ) (b : List ℕ) → CallEven (opened o) a_read (on_read o n b)
unfolding CallEven one echoes held_in queue_of is_sent read_count is_clear2 is_disconnect says open_and on_read reading with_receiving
read_even o n b =
    let q : List Rec = o.receiving.queue in
    let m : ℕ = min n (length q) in
    unless_case (CallEven (opened o) a_read) _ (opened o) b _
    (if_case (CallEven (opened o) a_read) (eqb n 0) _ _ (omega arith) (omega (arith, length-drop (min n (length q)) q)))
    (omega arith)

-- a disconnect
disconnect_even : (o : Open) → CallEven (opened o) a_disconnect (done_with closed 0)
unfolding CallEven one echoes held_in queue_of is_sent read_count is_clear2 is_disconnect says done_with
disconnect_even o = omega arith

-- a clear
clear_even : (o : Open) (k : ℕ) → CallEven (opened o) (a_clear k) (on_clear o k)
unfolding CallEven one echoes held_in queue_of is_sent read_count is_clear2 is_disconnect says open_and on_clear with_receiving with_sending with_filters done_with
clear_even o k = by (eqb k 1) refl (eqb k 2) refl
  where
    by : (g : Bool) → eqb k 1 ≡ g → (h : Bool) → eqb k 2 ≡ h → CallEven (opened o) (a_clear k) (on_clear o k)
    by true p true q = let e : k ≡ 1 = eqb-true k 1 p in let f : k ≡ 2 = eqb-true k 2 q in absurd (omega arith)
    by true p false q = rw (p, q) (omega arith)
    by false p true q = rw (p, q) (omega arith)
    by false p false q = rw (p, q) (if_case {O = Outcome} (λ y. 0 + length o.receiving.queue ≡ 0 + 0 + 0 + 0 + held_in y.0) (eqb k 3) _ _ (omega arith)
        (if_case {O = Outcome} (λ y. 0 + length o.receiving.queue ≡ 0 + 0 + 0 + 0 + held_in y.0) (eqb k 4) _ _ (omega arith) (omega arith)))

-- every call on an open channel
open_even : (rates : List ℕ) (now : ℕ) (o : Open) (x : Call) → CallEven (opened o) (counted_as x) (on_open rates now o x)
unfolding on_open counted_as on_start_filter on_stop_filter on_start_periodic on_stop_periodic on_write on_get on_set set_to on_get_list on_set_list on_sent held_in queue_of with_filters with_sending with_config done_with
open_even rates now o disconnect = disconnect_even o
open_even rates now o (start_filter t m p) = another_even o _ (stays_unless o _ _ _ refl)
open_even rates now o (start_flow t m p f) = another_even o _ (stays_unless o _ _ _ refl)
open_even rates now o (stop_filter n) = another_even o _ (stays_unless o _ _ _ refl)
open_even rates now o (start_periodic m i) = another_even o _ (stays_unless o _ _ _ refl)
open_even rates now o (stop_periodic n) = another_even o _ (stays_unless o _ _ _ refl)
open_even rates now o (write n b) = another_even o _ (stays_unless o _ _ _ refl)
open_even rates now o (read n b) = read_even o n b
open_even rates now o (take_next b) = another_even o _ (stays_take o b)
open_even rates now o sent = sent_even now o o.sending.flight
open_even rates now o (clear k) = clear_even o k
open_even rates now o (get_parameter p) = another_even o _ refl
open_even rates now o (set_parameter p v) = another_even o _ refl
open_even rates now o last_error = another_even o _ refl
open_even rates now o (get_list ps) = another_even o _ (stays_unless o _ _ _ refl)
open_even rates now o (set_list ps) = another_even o _ (stays_unless o _ _ _ refl)
open_even rates now o (on_raw x) = another_even o _ (stays_raw o rates x)

-- a call that is refused by an open channel
mute_even : (o : Open) (x : Counted) (b : List ℕ) → CallEven (opened o) x (opened o, says 0x01 0 b)
unfolding CallEven one echoes held_in queue_of is_sent read_count is_clear2 is_disconnect says open_and
mute_even o a_sent b = omega arith
mute_even o a_read b = omega arith
mute_even o a_disconnect b = omega arith
mute_even o another b = omega arith
mute_even o (a_clear k) b = by (is_clear2 (a_clear k))
  where
    by : (g : Bool) → 0 + length o.receiving.queue ≡ 0 + 0 + (if g && false then length o.receiving.queue else 0) + 0 + length o.receiving.queue
    by true = omega arith
    by false = omega arith

-- every call
call_even : (rates : List ℕ) (now : ℕ) (c : Chan) (x : Call) → CallEven c (counted_as x) (on_call rates now c x)
unfolding on_call
call_even rates now closed x = closed_even (counted_as x) (lent x)
call_even rates now (opened o) x = if_case (CallEven (opened o) (counted_as x)) (muted o x) _ _ (mute_even o (counted_as x) (lent x)) (open_even rates now o x)

-- what is noted is no record
notes_held : (k : ℕ) (c : Chan) → held_in (notes k c) ≡ held_in c
unfolding notes held_in queue_of with_last
notes_held zero c = refl
notes_held (suc k) closed = refl
notes_held (suc k) (opened o) = refl

noted_even : (c : Chan) (x : Counted) (y : Outcome) → CallEven c x y → CallEven c x (noted y)
unfolding CallEven noted
noted_even c x y h = omega (arith, notes_held y.1.code y.0)

-- a frame
FrameEven : Chan → ℕ → ℕ → List ℕ → Chan → Type 0
FrameEven c w n b c' =
    one (eqb (frame_code w n b) 0x00 && open_and (λ o. lets o (eqb w 1) (id_bytes n ++ b)) c) + held_in c
    ≡ one (eqb (frame_code w n b) 0x00 && open_and (λ o. lets o (eqb w 1) (id_bytes n ++ b) && leb most_to_read (length o.receiving.queue)) c) + held_in c'

frame_even : (now : ℕ) (c : Chan) (w n : ℕ) (b : List ℕ) → FrameEven c w n b (on_frame now c w n b)
unfolding FrameEven one open_and held_in queue_of lets fits wanted unwanted on_frame chan.offered passes heard_by with_link
frame_even now closed w n b = by (eqb (frame_code w n b) 0x00)
  where
    by : (g : Bool) → one (g && false) + 0 ≡ one (g && false) + 0
    by g = refl
frame_even now (opened o) w n b =
    by (eqb (frame_code w n b) 0x00) (takes o.config.flags (eqb w 1)) (hits false o.filters (eqb w 1) (id_bytes n ++ b)) (hits true o.filters (eqb w 1) (id_bytes n ++ b))
  where
    o' : Open
    o' = heard_by o (eqb w 1) n b

    r : Rec
    r = received now (width_flag (eqb w 1)) (id_bytes n ++ b)

    by : (g t p q : Bool)
        → one (g && (t && p && not q)) + held_in (opened o)
        ≡ one (g && (t && p && not q && leb most_to_read (length o.receiving.queue)))
        + held_in (if g then (if t && (p && not q) then arrive o' r else opened o') else opened o)
    by false t p q = refl
    by true false p q = refl
    by true true false q = refl
    by true true true true = refl
    by true true true false = arrives o' r

-- a connect: it opens only a closed channel
connect_even : (rates : List ℕ) (c : Chan) (l p f r : ℕ) → held_in (on_connect rates c l p f r).0 ≡ held_in c
unfolding on_connect connect_code code_of held_in queue_of is_open done_with fresh unless
connect_even rates closed l p f r = by (connect_code rates p f r ((false, 0x14) ∷ []))
  where
    by : (k : ℕ) → held_in (unless k closed [] (done_with (fresh f r) (l + 1))).0 ≡ 0
    by zero = refl
    by (suc k) = refl
connect_even rates (opened o) l p f r = by (not (eqb p 5)) (not (is_raw_flags f)) (not (member r rates))
  where
    by : (g h k : Bool) → held_in (unless (if g then 0x03 else if h then 0x06 else if k then 0x19 else 0x14) (opened o) [] (done_with (fresh f r) (l + 1))).0 ≡ held_in (opened o)
    by true h k = refl
    by false true k = refl
    by false false true = refl
    by false false false = refl

advance_even : (t : ℕ) (c : Chan) → held_in (on_advance t c) ≡ held_in c
unfolding on_advance held_in queue_of with_sending with_link
advance_even t closed = refl
advance_even t (opened o) = by (leb t most_advance)
  where
    by : (g : Bool) → held_in (if g then with_sending (with_link o (passing t o.link)) (map (chan.later_slot t) o.sending.periodics) o.sending.written o.sending.flight else opened o) ≡ held_in (opened o)
    by true = refl
    by false = refl

-- ---- THE BALANCE, on the device

-- what an event adds
Even : ℕ → Chan → Event → Answer → Chan → Type 0
Even i c e a c' =
    passed i c e a + echoed i c e a + held_in c ≡ lost i c e a + reads i c e a + cleared i c e a + dropped i c e a + held_in c'

in_use_held : (y : Outcome) → held_in (noted_in_use y).0 ≡ held_in y.0
unfolding noted_in_use noted
in_use_held y = if_case (λ (x : Outcome). held_in x.0 ≡ held_in y.0) (eqb y.1.code 0x14) _ _ (notes_held y.1.code y.0) refl

module _ (rates : List ℕ) (i : ℕ) (h : i < 4) (d : Device) (w : EightChannels d) where
  abbrev StepEven : Event → Type 0
  StepEven e = Even i (chan_at i d) e (step rates d e).1 (chan_at i (step rates d e).0)

  -- the channel of a place that is a raw one's
  abbrev there : Any → Chan
  there (raw c) = c
  there (iso z) = closed

  is_there : (d' : Device) → chan_at i d' ≡ there (any_at i d')
  is_there d' = ap there (sym (any_raw i d' h))

  -- one that the event doesn't touch, and one that it does
  stays : (e : Event) → touches e i ≡ false → held_in (chan_at i (after rates d e)) ≡ held_in (chan_at i d)
  stays e t = ap held_in (is_there (after rates d e) ∙ (ap there (chan_stays rates d e i w (omega arith) t) ∙ sym (is_there d)))

  moves : (e : Event) → touches e i ≡ true → held_in (chan_at i (after rates d e)) ≡ held_in (chan_step rates d.clock (chan_at i d) e).0
  unfolding any_step
  moves e t =
      ap held_in
      (is_there (after rates d e)
      ∙ (ap there (chan_moves rates d e i w (omega arith) t) ∙ ap (λ (c : Any). there (any_step rates d.clock c e).0) (any_raw i d h)))

  here : line_of i ≡ i
  unfolding line_of
  here = rw (lt-ltb i 4 h)

  connect_step : (l p f r : ℕ) → StepEven (connect l p f r)
  unfolding Even passed echoed lost reads cleared dropped good of_call one is_close step chan_step
  connect_step l p f r = by (touches (connect l p f r) i) refl
    where
      by : (g : Bool) → touches (connect l p f r) i ≡ g → 0 + 0 + held_in (chan_at i d) ≡ 0 + 0 + 0 + 0 + (0 + 0) + held_in (chan_at i (after rates d (connect l p f r)))
      by true q = omega (arith, moves (connect l p f r) q, in_use_held (on_connect rates (chan_at i d) l p f r), connect_even rates (chan_at i d) l p f r)
      by false q = omega (arith, stays (connect l p f r) q)

  -- a call on this channel
  own : (c : Chan) (x : Call) (y : Outcome) → CallEven c (counted_as x) y → Even i c (call (i + 1) x) y.1 y.0
  unfolding Even passed echoed lost reads cleared dropped good of_call one is_close CallEven
  own c x y e = rw (eq-eqb (i + 1) (i + 1) refl) (omega arith)

  call_step : (k : ℕ) (x : Call) → StepEven (call k x)
  unfolding Even passed echoed lost reads cleared dropped good of_call one is_close step touches
  call_step k x = by (eqb k (i + 1)) refl
    where
      by : (g : Bool) → eqb k (i + 1) ≡ g → StepEven (call k x)
      by true q =
          subst (λ (m : ℕ). StepEven (call m x)) (sym (eqb-true k (i + 1) q))
          (call_carried rates (λ c a. Even i (chan_at i d) (call (i + 1) x) a c) d i x h w
          (own (chan_at i d) x (noted (on_call rates d.clock (chan_at i d) x))
          (noted_even (chan_at i d) (counted_as x) (on_call rates d.clock (chan_at i d) x) (call_even rates d.clock (chan_at i d) x))))
      by false q = rw q (omega (arith, stays (call k x) (rw q)))

  -- the answer to a frame on its line
  frame_answer : (l w n : ℕ) (b : List ℕ) → l ≡ i → (step rates d (frame l w n b)).1.code ≡ frame_code w n b
  unfolding step answer answer_by speaker own_answer raw_step.own_answer says code_of
  frame_answer l w n b e = rw (le-ltb 3 l (omega arith))

  frame_step : (l w n : ℕ) (b : List ℕ) → StepEven (frame l w n b)
  unfolding Even passed echoed lost reads cleared dropped good taken of_call one is_close step touches chan_step FrameEven
  frame_step l w n b = by (eqb l i) refl
    where
      by : (g : Bool) → eqb l i ≡ g → StepEven (frame l w n b)
      by true q =
          rw (q, frame_answer l w n b (eqb-true l i q))
          (omega (arith, moves (frame l w n b) (rw (here, q)), frame_even d.clock (chan_at i d) w n b))
      by false q = rw q (omega (arith, stays (frame l w n b) (rw (here, q))))

  -- every event
  step_even : (e : Event) → StepEven e
  unfolding Even passed echoed lost reads cleared dropped good of_call one is_close step touches chan_step held_in queue_of
  step_even (connect l p f r) = connect_step l p f r
  step_even (call k x) = call_step k x
  step_even (frame l w n b) = frame_step l w n b
  step_even (advance t) = omega (arith, moves (advance t) refl, advance_even t (chan_at i d))
  step_even close = omega (arith, moves close refl)

-- THE BALANCE, for any rates, box, raw channel and events: what came in and what was held before is what was lost, read, cleared
-- and dropped and what is held after
pub balanced : (rates : List ℕ) (i : ℕ) → i < 4 → (d : Device) → EightChannels d → (es : List Event)
    → tally passed rates i d es + tally echoed rates i d es + held_in (chan_at i d)
    ≡ tally lost rates i d es + tally reads rates i d es + tally cleared rates i d es + tally dropped rates i d es + held rates i d es
unfolding tally held run Even step
balanced rates i h d w [] = omega arith
balanced rates i h d w (e ∷ es) =
    omega (arith, step_even rates i h d w e, balanced rates i h (step rates d e).0 (channels_kept rates d e w) es)

-- from power-on nothing is held before
none_held : (n i : ℕ) → get_or (replicate n closed) i closed ≡ closed
none_held zero i = refl
none_held (suc n) zero = refl
none_held (suc n) (suc i) = none_held n i

pub balanced_report : (rates : List ℕ) (i : ℕ) → i < 4 → (es : List Event)
    → tally passed rates i power_on es + tally echoed rates i power_on es
    ≡ tally lost rates i power_on es + tally reads rates i power_on es + tally cleared rates i power_on es + tally dropped rates i power_on es
    + held rates i power_on es
unfolding held_in queue_of power_on chan_at run
balanced_report rates i h es =
    let z : held_in (chan_at i power_on) ≡ 0 = ap held_in (none_held 4 i) in
    let b : tally passed rates i power_on es + tally echoed rates i power_on es + held_in (chan_at i power_on)
    ≡ tally lost rates i power_on es + tally reads rates i power_on es + tally cleared rates i power_on es + tally dropped rates i power_on es + held rates i power_on es
    = balanced rates i h power_on (eight rates []) es in
    omega arith

-- ---- NO NUMBER IS LARGER THAN THE RUN IS LONG

one_most : (b : Bool) → one b ≤ 1
unfolding one
one_most true = omega arith
one_most false = omega arith

offered_most : (rates : List ℕ) (i : ℕ) (d : Device) (es : List Event) → tally offered rates i d es ≤ length es
unfolding tally offered
offered_most rates i d [] = omega arith
offered_most rates i d (e ∷ es) = omega (arith, one_most (good i (λ o w b. true) (chan_at i d) e (step rates d e).1), offered_most rates i (step rates d e).0 es)

-- an event is a frame or a sent, not both
came_once : (i : ℕ) (c : Chan) (e : Event) (a : Answer) → passed i c e a + echoed i c e a ≤ 1
unfolding passed echoed good of_call one
came_once i c (connect l p f r) a = omega arith
came_once i c (call k x) a = by (eqb k (i + 1)) (echoes c a (counted_as x))
  where
    by : (g h : Bool) → 0 + (if g then one h else 0) ≤ 1
    by true h = omega (arith, one_most h)
    by false h = omega arith
came_once i c (frame l w n b) a = omega (arith, one_most (taken i l a && open_and (λ o. lets o (eqb w 1) (id_bytes n ++ b)) c))
came_once i c (advance t) a = omega arith
came_once i c close a = omega arith

came_most : (rates : List ℕ) (i : ℕ) (d : Device) (es : List Event) → tally passed rates i d es + tally echoed rates i d es ≤ length es
unfolding tally
came_most rates i d [] = omega arith
came_most rates i d (e ∷ es) = omega (arith, came_once i (chan_at i d) e (step rates d e).1, came_most rates i (step rates d e).0 es)

-- from power-on each of the eleven is at most the number of events
pub record Small (rates : List ℕ) (i : ℕ) (es : List Event) : Type 0 where
  pub offered_small : tally offered rates i power_on es ≤ length es
  pub width_small : tally width rates i power_on es ≤ length es
  pub unmatched_small : tally unmatched rates i power_on es ≤ length es
  pub blocked_small : tally blocked rates i power_on es ≤ length es
  pub passed_small : tally passed rates i power_on es ≤ length es
  pub echoed_small : tally echoed rates i power_on es ≤ length es
  pub lost_small : tally lost rates i power_on es ≤ length es
  pub reads_small : tally reads rates i power_on es ≤ length es
  pub cleared_small : tally cleared rates i power_on es ≤ length es
  pub dropped_small : tally dropped rates i power_on es ≤ length es
  pub held_small : held rates i power_on es ≤ length es

pub all_small : (rates : List ℕ) (i : ℕ) → i < 4 → (es : List Event) → Small rates i es
all_small rates i h es =
    let o : tally offered rates i power_on es ≤ length es = offered_most rates i power_on es in
    let s : tally offered rates i power_on es ≡ tally width rates i power_on es + tally unmatched rates i power_on es + tally blocked rates i power_on es + tally passed rates i power_on es = offered_split rates i power_on es in
    let c : tally passed rates i power_on es + tally echoed rates i power_on es ≤ length es = came_most rates i power_on es in
    let b : tally passed rates i power_on es + tally echoed rates i power_on es
    ≡ tally lost rates i power_on es + tally reads rates i power_on es + tally cleared rates i power_on es + tally dropped rates i power_on es + held rates i power_on es
    = balanced_report rates i h es in
    omega arith
