-- The words in which a story of one connection is told, and the stage on which it happens: a connection alone, with what is seen of it after each
-- event. What the channel does around it is said in `machine`. Every definition is open, so that a story is proved by `refl`. Assumes nothing.
use Rattle.std.specs.Prelude.{if◌then◌else◌}
use mathlib.Core.Path.{◌≡◌}
use Prim.Native.Nat.{ℕ, zero, suc, ◌+◌, ◌-◌}
use mathlib.Core.Bool.{Bool, true, false, not, ◌&&◌}
use mathlib.Core.Option.{Option, none, some}
use mathlib.Core.List.{List, [], ◌∷◌, ◌++◌, map}
use lib.ListN.{length}
use lib.Dec.{eqb, ltb}
use Rattle.link.specs.Connection.{micros, Asked, Offer, Connection, absent, opening, waits, with_wire, with_talk, with_hear, with_care, anew, exit, leave, telegrams, block_of, next_data, took_to, new_block, ours, set_up_of, offering, offer_data, offer_acknowledge, offer_on, offer_trial, offer_exit, offer, data_sent, landed_on, trial_sent, exit_sent, was_sent, tried, out_later, care_later, wire_later, link_later, exit_later, passing, replied, joined, next_block, acknowledged, breaking, broken, heard_data, answering, data_heard, told, hears, asked_fits, state_of, on_link, under_way, busy, whole, begin, fetched, ended}
use Rattle.telegram.specs.Bits.{only_if, are_bytes}
use Rattle.telegram.specs.Telegram.{opening_fits, fields_fit, opening_bytes, id_at, opening_of, read_opening, unused_time, own_connection, fits, on_wire, connection_of, read_channel, time_of}

-- ---- the stage

-- what may happen: an open, a take where nothing goes before, a sent, an advance, a narrow frame, a send, a receive, an end
pub data Event : Type 0 where
  opens : Asked → Event
  takes sents ends fetches : Event
  passes : (us : ℕ) → Event
  frame : (id : ℕ) (bytes : List ℕ) → Event
  begins : (message : List ℕ) → Event

-- what is seen: the state that is left; a telegram that is taken; that none may go; a message; that a call is refused
pub data Seen : Type 0 where
  state : ℕ → Seen
  gone : (id : ℕ) (bytes : List ℕ) → Seen
  message : (bytes : List ℕ) → Seen
  quiet refused : Seen

unfoldable pub taken : Connection → Option Offer → Connection × Seen
taken c none = (c, quiet)
taken c (some x) = (x.then', gone x.id x.bytes)

unfoldable pub leaves : Connection → Connection × Seen
leaves c = (c, state (state_of c))

unfoldable pub only_where : Bool → Connection → Connection × Seen → Connection × Seen
only_where good c x = if good then x else (c, refused)

unfoldable pub step : Connection → Event → Connection × Seen
step c (opens a) = only_where (asked_fits a && eqb (state_of c) 0) c (leaves (opening a 0 waits))
step c takes = taken c (offer c)
step c sents = leaves (was_sent c)
step c (passes us) = leaves (passing us c)
step c (frame id b) = leaves (hears c id b)
step c (begins m) = only_where (eqb (state_of c) 3 && not (busy c)) c (leaves (begin m c))
step c fetches = only_where (ltb 0 (length (whole c))) c (fetched c, message (whole c))
step c ends = leaves (ended c)

unfoldable pub run : Connection → List Event → List Seen
run c [] = []
run c (e ∷ es) = (step c e).1 ∷ run (step c e).0 es

-- ---- a story

infix 70 ◌⇒◌
abbrev pub ◌⇒◌ : Event → Seen → Event × Seen
◌⇒◌ e s = (e, s)

abbrev pub Story : Type 0
Story = List (Event × Seen)

-- what is seen from no connection on
unfoldable pub seen : List Event → List Seen
unfolding only_if are_bytes opening_fits fields_fit opening_bytes id_at opening_of read_opening unused_time own_connection fits on_wire connection_of read_channel time_of micros with_wire with_talk with_hear with_care anew exit leave telegrams block_of next_data took_to new_block ours set_up_of offering offer_data offer_acknowledge offer_on offer_trial offer_exit offer data_sent landed_on trial_sent exit_sent was_sent tried out_later care_later wire_later link_later exit_later passing replied joined next_block acknowledged breaking broken heard_data answering data_heard told hears asked_fits state_of on_link under_way busy whole begin fetched ended taken leaves only_where step run
seen es = run absent es

pub data Happens (s : Story) : Type 0 where
  as_told : seen (map (λ p. p.0) s) ≡ map (λ p. p.1) s → Happens s

-- ---- words

-- what f gives for 1, for 2 and so on to n, one after the other
abbrev pub each : {A : Type 0} → ℕ → (ℕ → List A) → List A
each zero f = []
each (suc n) f = each n f ++ f (suc n)

-- n bytes, counted up from the first
abbrev pub bytes : (first n : ℕ) → List ℕ
bytes first n = each n (λ k. (first + k - 1) ∷ [])

-- an open with own identifier 0x200, destination 0x01, RX-ID 0x300, application 0x01
abbrev pub asks_for : (block_size t1 t3 : ℕ) → Event
asks_for bs t1 t3 = opens (record { own = 0x200; destination = 0x01; rx_id = 0x300; application = 0x01; block_size = bs; t1 = t1; t3 = t3 })

-- a telegram is taken and sent, in a state that the sent leaves
abbrev pub out : (id : ℕ) → List ℕ → (left : ℕ) → Story
out id b left = takes ⇒ gone id b ∷ sents ⇒ state left ∷ []

abbrev pub still : Story
still = takes ⇒ quiet ∷ []

-- the set-up; a telegram of ours on the channel, which stands; one of the partner's; time passes
abbrev pub set_up : Story
set_up = out 0x200 (0x01 ∷ 0xC0 ∷ 0x00 ∷ 0x10 ∷ 0x00 ∷ 0x03 ∷ 0x01 ∷ []) 1

abbrev pub we : List ℕ → Story
we b = out 0x740 b 3

abbrev pub they : List ℕ → Story
they b = frame 0x300 b ⇒ state 3 ∷ []

abbrev pub wait : ℕ → Story
wait us = passes us ⇒ state 3 ∷ []

-- the disconnect telegram goes, and there is no connection
abbrev pub over : Story
over = out 0x740 (0xA8 ∷ []) 0

-- a message is asked to be sent
abbrev pub send : List ℕ → Story
send m = begins m ⇒ state 3 ∷ []

-- the positive reply with TX-ID 0x740; our connection set-up
abbrev pub reply : Event
reply = frame 0x201 (0x00 ∷ 0xD0 ∷ 0x00 ∷ 0x03 ∷ 0x40 ∷ 0x07 ∷ 0x01 ∷ [])

abbrev pub our_set_up : (block_size t1 : ℕ) → Story
our_set_up bs t1 = out 0x740 (0xA0 ∷ bs ∷ t1 ∷ 0xFF ∷ 0x00 ∷ 0xFF ∷ []) 2

-- a connection that stands: our block size and T1, their block size and T3; their T2 and T4 are not 0xFF
abbrev pub up : (ours t1 theirs t3 : ℕ) → Story
up ours t1 theirs t3 =
    asks_for ours t1 0x00 ⇒ state 1 ∷ set_up ++ reply ⇒ state 2 ∷ our_set_up ours t1 ++ they (0xA1 ∷ theirs ∷ 0x8A ∷ 0x12 ∷ t3 ∷ 0x34 ∷ [])
