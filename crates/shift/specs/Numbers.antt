-- P10: the eleven numbers of a raw CAN channel, each by its own definition from the channel before an event, the event and its answer; and their sums
-- over a run. Channels go by their line: channel number c is that of line c - 1. Assumes nothing.
use Rattle.std.specs.Prelude.{ℕ, ◌+◌, Bool, true, false, not, ◌&&◌, List, [], ◌∷◌, ◌++◌, length, eqb, leb, if◌then◌else◌}
use Rattle.machine.specs.Limits.{most_to_read}
use Rattle.machine.specs.Message.{id_bytes, takes}
use Rattle.machine.specs.Filter.{hits}
use Rattle.machine.specs.Channel.{Chan, closed, opened, Open, Call, disconnect, start_filter, start_flow, stop_filter, start_periodic, stop_periodic, write, read, take_next, sent, clear, get_parameter, set_parameter, last_error, get_list, set_list, on_raw, Answer}
use Rattle.machine.specs.Step.{Event, connect, call, frame, advance, close}
use Rattle.machine.specs.Demands.{queue_of}
use Rattle.whole.specs.Device.{Device, chan_at, step, run}

-- one where the test holds
unfoldable pub one : Bool → ℕ
one true = 1
one false = 0

-- the records held for reading
unfoldable pub held_in : Chan → ℕ
held_in c = length (queue_of c)

-- open, and passes the test
unfoldable pub open_and : (Open → Bool) → Chan → Bool
open_and test closed = false
open_and test (opened o) = test o

-- ---- bus frames

-- a test of an open channel and a frame, by its width and bytes
abbrev pub FrameTest : Type 0
FrameTest = Open → Bool → List ℕ → Bool

-- a frame on line i that was answered 0x00
unfoldable pub taken : ℕ → ℕ → Answer → Bool
taken i l a = eqb l i && eqb a.code 0x00

-- a frame on line i, answered 0x00 while the channel is open, that passes the test
unfoldable pub good : ℕ → FrameTest → Chan → Event → Answer → Bool
good i test c (connect l p f r) a = false
good i test c (call k x) a = false
good i test c (frame l w n b) a = taken i l a && open_and (λ o. test o (eqb w 1) (id_bytes n ++ b)) c
good i test c (advance t) a = false
good i test c close a = false

-- the connection takes its width
unfoldable pub fits : FrameTest
fits o wide bytes = takes o.config.flags wide

-- a pass filter matches; a block filter does
unfoldable pub wanted : FrameTest
wanted o wide bytes = hits false o.filters wide bytes

unfoldable pub unwanted : FrameTest
unwanted o wide bytes = hits true o.filters wide bytes

unfoldable pub lets : FrameTest
lets o w b = fits o w b && wanted o w b && not (unwanted o w b)

-- ---- calls

-- the calls that move records held for reading, and all others
pub data Counted : Type 0 where
  a_sent a_read a_disconnect another : Counted
  a_clear : (kind : ℕ) → Counted

unfoldable pub counted_as : Call → Counted
counted_as disconnect = a_disconnect
counted_as (start_filter t m p) = another
counted_as (start_flow t m p f) = another
counted_as (stop_filter n) = another
counted_as (start_periodic m i) = another
counted_as (stop_periodic n) = another
counted_as (write n b) = another
counted_as (read n b) = a_read
counted_as (take_next b) = another
counted_as sent = a_sent
counted_as (clear k) = a_clear k
counted_as (get_parameter p) = another
counted_as (set_parameter p v) = another
counted_as last_error = another
counted_as (get_list ps) = another
counted_as (set_list ps) = another
counted_as (on_raw x) = another

-- what a call on the channel of line i counts
unfoldable pub of_call : ℕ → (Counted → ℕ) → Event → ℕ
of_call i f (connect l p g r) = 0
of_call i f (call k x) = if eqb k (i + 1) then f (counted_as x) else 0
of_call i f (frame l w n b) = 0
of_call i f (advance t) = 0
of_call i f close = 0

-- the call is a sent
unfoldable pub is_sent : Counted → Bool
is_sent a_sent = true
is_sent a_read = false
is_sent a_disconnect = false
is_sent another = false
is_sent (a_clear k) = false

-- the count of a read; 0 of any other call
unfoldable pub read_count : Answer → Counted → ℕ
read_count a a_sent = 0
read_count a a_read = a.value
read_count a a_disconnect = 0
read_count a another = 0
read_count a (a_clear k) = 0

-- the call is a clear 2; a disconnect
unfoldable pub is_clear2 : Counted → Bool
is_clear2 a_sent = false
is_clear2 a_read = false
is_clear2 a_disconnect = false
is_clear2 another = false
is_clear2 (a_clear k) = eqb k 2

unfoldable pub is_disconnect : Counted → Bool
is_disconnect a_sent = false
is_disconnect a_read = false
is_disconnect a_disconnect = true
is_disconnect another = false
is_disconnect (a_clear k) = false

-- a sent that was answered 0x00 with loopback on
unfoldable pub echoes : Chan → Answer → Counted → Bool
echoes c a x = is_sent x && eqb a.code 0x00 && open_and (λ o. o.config.loopback) c

unfoldable pub is_close : Event → Bool
is_close (connect l p f r) = false
is_close (call k x) = false
is_close (frame l w n b) = false
is_close (advance t) = false
is_close close = true

-- ---- THE NUMBERS. What an event adds to each
abbrev pub Number : Type 0
Number = ℕ → Chan → Event → Answer → ℕ

-- 1: frames on its line answered 0x00 while it is open
unfoldable pub offered : Number
offered i c e a = one (good i (λ o w b. true) c e a)

-- 2: of these, of a width that the connection doesn't take
unfoldable pub width : Number
width i c e a = one (good i (λ o w b. not (fits o w b)) c e a)

-- 3: of the others, those that no pass filter matches
unfoldable pub unmatched : Number
unmatched i c e a = one (good i (λ o w b. fits o w b && not (wanted o w b)) c e a)

-- 4: those that a pass filter and a block filter match
unfoldable pub blocked : Number
blocked i c e a = one (good i (λ o w b. fits o w b && wanted o w b && unwanted o w b) c e a)

-- 5: a pass filter and no block filter
unfoldable pub passed : Number
passed i c e a = one (good i lets c e a)

-- 6: sents answered 0x00 with loopback on
unfoldable pub echoed : Number
echoed i c e a = of_call i (λ x. one (echoes c a x)) e

-- 7: frames let in and records echoed that found 32 held
unfoldable pub lost : Number
lost i c e a =
    one (good i (λ o w b. lets o w b && leb most_to_read (length o.receiving.queue)) c e a)
    + of_call i (λ x. one (echoes c a x && leb most_to_read (held_in c))) e

-- 8: the count of a read
unfoldable pub reads : Number
reads i c e a = of_call i (read_count a) e

-- 9: held at a clear 2
unfoldable pub cleared : Number
cleared i c e a = of_call i (λ x. if is_clear2 x && eqb a.code 0x00 then held_in c else 0) e

-- 10: held at a disconnect or a close
unfoldable pub dropped : Number
dropped i c e a =
    of_call i (λ x. if is_disconnect x && eqb a.code 0x00 then held_in c else 0) e + (if is_close e then held_in c else 0)

-- 11: held at the end
unfoldable pub held : List ℕ → ℕ → Device → List Event → ℕ
held rates i d es = held_in (chan_at i (run rates d es))

-- the sum of a number over a run
unfoldable pub tally : Number → List ℕ → ℕ → Device → List Event → ℕ
tally f rates i d [] = 0
tally f rates i d (e ∷ es) = f i (chan_at i d) e (step rates d e).1 + tally f rates i (step rates d e).0 es
