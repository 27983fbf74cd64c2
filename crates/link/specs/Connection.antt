-- A TP2.0 connection as active side: request P5 by document 001 (SAE J2819, 5.1.3 to 5.2.3, tables 1 to 8). Its state, the telegram that it
-- offers, and what a sent, an advance, a received frame and a call make of it. Every timer is kept as the microseconds left of it, so nothing
-- grows without end. Nothing here can name a channel. Assumes nothing.
use Rattle.std.specs.Prelude.{ℕ, zero, suc, ◌+◌, ◌*◌, ◌-◌, ◌/◌, ◌%◌, min, Bool, true, false, not, ◌&&◌, ◌||◌, List, [], ◌∷◌, ◌++◌, length, take, drop, eqb, leb, ltb, if◌then◌else◌}
use Rattle.std.proofs.Math.Option.{Option, none, some}
use Rattle.telegram.specs.Telegram.{Opening, set_up, positive, negative, opening_fits, opening_bytes, read_opening, Telegram, data_telegram, acknowledge, connection, test, break_off, disconnection, own_connection, fits, on_wire, read_channel, time_of}

-- ---- tables 1 and 7: T_E, T_Wait, T_CTa in microseconds; the repeats of an opening telegram, of one that asks, of telegrams asked for again in a
-- block, of an unanswered test. And the longest message
abbrev pub t_e : ℕ
t_e = 100000

abbrev pub t_wait : ℕ
t_wait = 100000

abbrev pub t_test : ℕ
t_test = 1000000

abbrev pub mntc : ℕ
mntc = 10

abbrev pub mnt : ℕ
mnt = 2

abbrev pub mntb : ℕ
mntb = 5

abbrev pub mnct : ℕ
mnct = 5

abbrev pub longest : ℕ
longest = 512

-- the microseconds of a time byte, which is in units of 0.1 ms
unfoldable pub micros : ℕ → ℕ
micros b = 100 * time_of b

-- ---- the state
-- what an open asks for: the fields of the set-up and of the connection set-up
pub record Asked : Type 0 where
  pub own : ℕ
  pub destination : ℕ
  pub rx_id : ℕ
  pub application : ℕ
  pub block_size : ℕ
  pub t1 : ℕ
  pub t3 : ℕ

-- an opening telegram waits to be taken, is in flight, or was sent, and T_E runs
pub data Trial : Type 0 where
  waits : Trial
  flies : Trial
  runs : (left : ℕ) → Trial

-- a message under way: its bytes from the block's first telegram on, how many telegrams of the block are taken, the repeats on T1, and how often
-- telegrams of the block were asked for again. A break leaves no bytes, and the one empty telegram that is then sent
pub record Block : Type 0 where
  pub rest : List ℕ
  pub taken : ℕ
  pub repeats : ℕ
  pub again : ℕ

-- no message; its telegrams are sent; one that asks was sent, and T1 runs (nothing is left where T1 never ends)
pub data Out : Type 0 where
  idle : Out
  sends : Block → Out
  asks : Block → (left : ℕ) → Out

-- what is sent: what is left of T_Wait, and the SN of the block's first telegram or of the next message's
pub record Talk : Type 0 where
  pub hold : ℕ
  pub sn : ℕ
  pub out : Out

-- what is received: the SN expected, the bytes so far or of the complete message, and whether an acknowledge waits, ready or not
pub record Hear : Type 0 where
  pub expected : ℕ
  pub bytes : List ℕ
  pub complete : Bool
  pub acknowledges : Option Bool

-- the connection test: whether a connection acknowledge waits, whether a test waits, the tests unanswered (1 with the first that goes out, then
-- 1 more at each end of T_CTa), and what is left of T_CTa, 0 where it doesn't run
pub record Care : Type 0 where
  pub answers : Bool
  pub tests : Bool
  pub unanswered : ℕ
  pub left : ℕ

-- which telegram of a standing connection is in flight
pub data Kind : Type 0 where
  its_data its_test its_other : Kind

-- none is in flight, and so much is left of T3; or one is
pub data Wire : Type 0 where
  spaced : (left : ℕ) → Wire
  carries : Kind → Wire

-- a standing connection: the smaller block size and the partner's T3 byte
pub record Link : Type 0 where
  pub block : ℕ
  pub pace : ℕ
  pub wire : Wire
  pub talk : Talk
  pub hear : Hear
  pub care : Care

-- a disconnect telegram waits, with so much left of T3; waits behind an earlier telegram in flight, after which T3 runs; is in flight
pub data Exit : Type 0 where
  due_in : (left : ℕ) → Exit
  due_behind : (t3 : ℕ) → Exit
  goes : Exit

pub data Connection : Type 0 where
  absent : Connection
  opening : Asked → (repeats : ℕ) → Trial → Connection
  connecting : Asked → (txId repeats : ℕ) → Trial → Connection
  standing : Asked → (txId : ℕ) → Link → Connection
  leaving : (txId : ℕ) → Exit → Connection

-- a standing connection with one part replaced
unfoldable pub with_wire : Link → Wire → Link
with_wire l w = record { block = l.block; pace = l.pace; wire = w; talk = l.talk; hear = l.hear; care = l.care }

unfoldable pub with_talk : Link → Talk → Link
with_talk l t = record { block = l.block; pace = l.pace; wire = l.wire; talk = t; hear = l.hear; care = l.care }

unfoldable pub with_hear : Link → Hear → Link
with_hear l h = record { block = l.block; pace = l.pace; wire = l.wire; talk = l.talk; hear = h; care = l.care }

unfoldable pub with_care : Link → Care → Link
with_care l c = record { block = l.block; pace = l.pace; wire = l.wire; talk = l.talk; hear = l.hear; care = c }

-- "5.2.2": everything anew, with the block size and the T3 of the acknowledge; T_CTa runs
unfoldable pub anew : Asked → ℕ → ℕ → Link
anew a block_size t3 =
    record {
      block = min a.block_size block_size;
      pace = t3;
      wire = spaced 0;
      talk = record { hold = 0; sn = 0; out = idle };
      hear = record { expected = 0; bytes = []; complete = false; acknowledges = none };
      care = record { answers = false; tests = false; unanswered = 0; left = t_test };
    }

-- LEAVING. What was to be sent is dropped; a disconnect telegram waits
unfoldable pub exit : ℕ → Wire → Exit
exit pace (spaced left) = due_in left
exit pace (carries k) = due_behind pace

unfoldable pub leave : ℕ → Link → Connection
leave tx l = leaving tx (exit l.pace l.wire)

-- ---- data telegrams
-- the telegrams of these bytes, seven in each; of no bytes one, which is empty
unfoldable pub telegrams : List ℕ → ℕ
telegrams rest = if eqb (length rest) 0 then 1 else (length rest + 6) / 7

-- the telegrams of a block: as many as the block size, or as there are. Its last one asks
unfoldable pub block_of : ℕ → List ℕ → ℕ
block_of block rest = min block (telegrams rest)

-- the next one of the block
unfoldable pub next_data : ℕ → ℕ → Block → Telegram
next_data block sn b =
    data_telegram (eqb (b.taken + 1) (block_of block b.rest)) (eqb (b.taken + 1) (telegrams b.rest)) ((sn + b.taken) % 16)
    (take 7 (drop (7 * b.taken) b.rest))

-- the block with so many of its telegrams taken; a message's first block, and the next one
unfoldable pub took_to : ℕ → Block → Block
took_to n b = record { rest = b.rest; taken = n; repeats = b.repeats; again = b.again }

unfoldable pub new_block : List ℕ → Block
new_block rest = record { rest = rest; taken = 0; repeats = 0; again = 0 }

-- ---- THE TELEGRAM THAT MAY BE TAKEN, and the connection once it is in flight
pub record Offer : Type 0 where
  pub id : ℕ
  pub bytes : List ℕ
  pub then' : Connection

-- our own values: T2 and T4 are 0xFF always
unfoldable pub ours : Bool → Asked → Telegram
ours ack a = own_connection ack a.block_size a.t1 a.t3

unfoldable pub set_up_of : Asked → Opening
set_up_of a = set_up a.destination a.rx_id a.application

-- on the channel
unfoldable pub offering : ℕ → Telegram → Connection → Option Offer
offering tx t c = some (record { id = tx; bytes = on_wire t; then' = c })

-- data, where T_Wait is over
unfoldable pub offer_data : Asked → ℕ → Link → Out → Option Offer
offer_data a tx l idle = none
offer_data a tx l (asks b left) = none
offer_data a tx l (sends b) =
    let t : Talk = l.talk in
    if eqb t.hold 0
    then offering tx (next_data l.block t.sn b)
    (standing a tx (with_talk (with_wire l (carries its_data)) (record { hold = 0; sn = t.sn; out = sends (took_to (b.taken + 1) b) })))
    else none

-- an acknowledge, which carries the SN expected now
unfoldable pub offer_acknowledge : Asked → ℕ → Link → Option Bool → Option Offer
offer_acknowledge a tx l none = offer_data a tx l l.talk.out
offer_acknowledge a tx l (some ready) =
    let h : Hear = l.hear in
    offering tx (acknowledge ready h.expected)
    (standing a tx (with_hear (with_wire l (carries its_other)) (record { expected = h.expected; bytes = h.bytes; complete = h.complete; acknowledges = none })))

-- Table 6: connection acknowledge, test, acknowledge, data; none while T3 runs
unfoldable pub offer_on : Asked → ℕ → Link → Wire → Option Offer
offer_on a tx l (carries k) = none
offer_on a tx l (spaced (suc left)) = none
offer_on a tx l (spaced zero) =
    let c : Care = l.care in
    if c.answers
    then offering tx (ours true a)
    (standing a tx (with_care (with_wire l (carries its_other)) (record { answers = false; tests = c.tests; unanswered = c.unanswered; left = c.left })))
    else if c.tests
    then offering tx test
    (standing a tx (with_care (with_wire l (carries its_test)) (record { answers = false; tests = false; unanswered = c.unanswered; left = c.left })))
    else offer_acknowledge a tx l l.hear.acknowledges

-- an opening telegram, where it waits
unfoldable pub offer_trial : Trial → Offer → Option Offer
offer_trial waits x = some x
offer_trial flies x = none
offer_trial (runs left) x = none

unfoldable pub offer_exit : ℕ → Exit → Option Offer
offer_exit tx (due_in zero) = offering tx disconnection (leaving tx goes)
offer_exit tx (due_in (suc left)) = none
offer_exit tx (due_behind t3) = none
offer_exit tx goes = none

unfoldable pub offer : Connection → Option Offer
offer absent = none
offer (opening a n s) = offer_trial s (record { id = a.own; bytes = opening_bytes (set_up_of a); then' = opening a n flies })
offer (connecting a tx n s) = offer_trial s (record { id = tx; bytes = on_wire (ours false a); then' = connecting a tx n flies })
offer (standing a tx l) = offer_on a tx l l.wire
offer (leaving tx e) = offer_exit tx e

-- ---- SENT. Timers count from here; where what was sent is none of its telegrams, nothing happens
-- a data telegram: T1 runs where it is the block's last
unfoldable pub data_sent : ℕ → ℕ → Out → Out
data_sent t1 block idle = idle
data_sent t1 block (asks b left) = asks b left
data_sent t1 block (sends b) =
    if eqb b.taken (block_of block b.rest) then asks b (if eqb t1 0xFF then 0 else micros t1) else sends b

unfoldable pub landed_on : Asked → Link → Wire → Link
landed_on a l (spaced left) = l
landed_on a l (carries its_other) = with_wire l (spaced (micros l.pace))
landed_on a l (carries its_test) =
    let c : Care = l.care in
    with_care (with_wire l (spaced (micros l.pace)))
    (record { answers = c.answers; tests = c.tests; unanswered = if eqb c.unanswered 0 then 1 else c.unanswered; left = t_test })
landed_on a l (carries its_data) =
    let t : Talk = l.talk in
    with_talk (with_wire l (spaced (micros l.pace))) (record { hold = t.hold; sn = t.sn; out = data_sent a.t1 l.block t.out })

unfoldable pub trial_sent : Trial → Trial
trial_sent waits = waits
trial_sent flies = runs t_e
trial_sent (runs left) = runs left

unfoldable pub exit_sent : ℕ → Exit → Connection
exit_sent tx (due_in left) = leaving tx (due_in left)
exit_sent tx (due_behind t3) = leaving tx (due_in (micros t3))
exit_sent tx goes = absent

unfoldable pub was_sent : Connection → Connection
was_sent absent = absent
was_sent (opening a n s) = opening a n (trial_sent s)
was_sent (connecting a tx n s) = connecting a tx n (trial_sent s)
was_sent (standing a tx l) = standing a tx (landed_on a l l.wire)
was_sent (leaving tx e) = exit_sent tx e

-- ---- t MICROSECONDS LATER. A timer is over where t reaches what is left of it
-- an opening telegram: when T_E is over it waits again, up to ten times, then the connection is given up
unfoldable pub tried : ℕ → ℕ → Trial → (ℕ → Trial → Connection) → Connection → Connection
tried t n waits on over = on n waits
tried t n flies on over = on n flies
tried t n (runs left) on over = if ltb t left then on n (runs (left - t)) else if leb mntc n then over else on (n + 1) waits

-- a message: when T1 is over the telegram that asked is sent again, up to twice; none where that is past
unfoldable pub out_later : ℕ → ℕ → Out → Option Out
out_later t1 t idle = some idle
out_later t1 t (sends b) = some (sends b)
out_later t1 t (asks b left) =
    if eqb t1 0xFF || ltb t left then some (asks b (left - t))
    else if leb mnt b.repeats then none
    else some (sends (record { rest = b.rest; taken = b.taken - 1; repeats = b.repeats + 1; again = b.again }))

-- the test: when T_CTa is over one waits, and where the last one is unanswered one more is; none where that is past
unfoldable pub care_later : ℕ → Care → Option Care
care_later t c =
    if eqb c.left 0 || ltb t c.left
    then some (record { answers = c.answers; tests = c.tests; unanswered = c.unanswered; left = c.left - t })
    else if ltb mnct c.unanswered then none
    else some (record { answers = c.answers; tests = true; unanswered = if eqb c.unanswered 0 then 0 else c.unanswered + 1; left = 0 })

unfoldable pub wire_later : ℕ → Wire → Wire
wire_later t (spaced left) = spaced (left - t)
wire_later t (carries k) = carries k

unfoldable pub link_later : Asked → ℕ → ℕ → Link → Option Out → Option Care → Connection
link_later a tx t l none c = leave tx (with_wire l (wire_later t l.wire))
link_later a tx t l (some o) none = leave tx (with_wire l (wire_later t l.wire))
link_later a tx t l (some o) (some c) =
    standing a tx
    (with_care (with_talk (with_wire l (wire_later t l.wire)) (record { hold = l.talk.hold - t; sn = l.talk.sn; out = o })) c)

unfoldable pub exit_later : ℕ → Exit → Exit
exit_later t (due_in left) = due_in (left - t)
exit_later t (due_behind t3) = due_behind t3
exit_later t goes = goes

unfoldable pub passing : ℕ → Connection → Connection
passing t absent = absent
passing t (opening a n s) = tried t n s (opening a) absent
passing t (connecting a tx n s) = tried t n s (connecting a tx) (leaving tx (due_in 0))
passing t (standing a tx l) = link_later a tx t l (out_later a.t1 t l.talk.out) (care_later t l.care)
passing t (leaving tx e) = leaving tx (exit_later t e)

-- ---- A NARROW FRAME OF THE LINE. What can't be taken apart, doesn't fit or isn't awaited is ignored
-- a reply to the set-up: its destination is the lower byte of our identifier, and a positive one has our RX-ID and application
unfoldable pub replied : Asked → ℕ → Trial → Option Opening → Connection
replied a n s none = opening a n s
replied a n s (some (set_up d rx app)) = opening a n s
replied a n s (some (positive d tx rx app)) =
    if eqb d (a.own % 256) && eqb tx a.rx_id && eqb app a.application then connecting a rx 0 waits else opening a n s
replied a n s (some (negative d kind rest)) = if eqb d (a.own % 256) then absent else opening a n s

-- while connecting: a connection acknowledge or a disconnect
unfoldable pub joined : Asked → ℕ → ℕ → Trial → Option Telegram → Connection
joined a tx n s none = connecting a tx n s
joined a tx n s (some (data_telegram asking last sn b)) = connecting a tx n s
joined a tx n s (some (acknowledge ready sn)) = connecting a tx n s
joined a tx n s (some (connection true bs t1 t2 t3 t4)) = standing a tx (anew a bs t3)
joined a tx n s (some (connection false bs t1 t2 t3 t4)) = connecting a tx n s
joined a tx n s (some test) = connecting a tx n s
joined a tx n s (some break_off) = connecting a tx n s
joined a tx n s (some disconnection) = absent

-- an acknowledge where one is awaited. SN plus 1 of the telegram that asked: the next block, or the message's end. An SN of the block: from there
-- again, five times. Not ready: T_Wait runs
unfoldable pub next_block : Block → Out
next_block b = if leb (length b.rest) (7 * b.taken) then idle else sends (new_block (drop (7 * b.taken) b.rest))

unfoldable pub acknowledged : Asked → ℕ → Link → Out → Bool → ℕ → Connection
acknowledged a tx l idle ready sn = standing a tx l
acknowledged a tx l (sends b) ready sn = standing a tx l
acknowledged a tx l (asks b left) ready sn =
    let t : Talk = l.talk in
    let hold : ℕ = if ready then t.hold else t_wait in
    let at : ℕ = (sn + 16 - t.sn) % 16 in
    if eqb at b.taken then standing a tx (with_talk l (record { hold = hold; sn = sn; out = next_block b }))
    else if not (ltb at b.taken) then standing a tx l
    else if leb mntb b.again then leave tx l
    else standing a tx
    (with_talk l (record { hold = hold; sn = t.sn; out = sends (record { rest = b.rest; taken = at; repeats = 0; again = b.again + 1 }) }))

-- a break, where a telegram of the message is not yet taken: one empty telegram takes the place of the rest
unfoldable pub breaking : Talk → Block → Talk
breaking t b =
    if ltb b.taken (telegrams b.rest) then record { hold = t.hold; sn = (t.sn + b.taken) % 16; out = sends (new_block []) } else t

unfoldable pub broken : Talk → Out → Talk
broken t idle = t
broken t (sends b) = breaking t b
broken t (asks b left) = breaking t b

-- data: not taken while a complete message waits; another SN than that expected is answered by it; 513 bytes end the connection; a last telegram
-- completes the message, if it has bytes
unfoldable pub heard_data : Hear → Bool → Bool → List ℕ → Hear
heard_data h asking last b =
    record {
      expected = (h.expected + 1) % 16;
      bytes = h.bytes ++ b;
      complete = last && ltb 0 (length (h.bytes ++ b));
      acknowledges = if asking then some true else h.acknowledges;
    }

unfoldable pub answering : Hear → Bool → Hear
answering h ready = record { expected = h.expected; bytes = h.bytes; complete = h.complete; acknowledges = some ready }

unfoldable pub data_heard : Asked → ℕ → Link → Bool → Bool → ℕ → List ℕ → Connection
data_heard a tx l asking last sn b =
    let h : Hear = l.hear in
    if h.complete then standing a tx (if asking then with_hear l (answering h false) else l)
    else if not (eqb sn h.expected) then standing a tx (with_hear l (answering h true))
    else if ltb longest (length h.bytes + length b) then leave tx l
    else standing a tx (with_hear l (heard_data h asking last b))

unfoldable pub told : Asked → ℕ → Link → Option Telegram → Connection
told a tx l none = standing a tx l
told a tx l (some (data_telegram asking last sn b)) = data_heard a tx l asking last sn b
told a tx l (some (acknowledge ready sn)) = acknowledged a tx l l.talk.out ready sn
told a tx l (some (connection false bs t1 t2 t3 t4)) = standing a tx l
told a tx l (some (connection true bs t1 t2 t3 t4)) =
    standing a tx (with_care l (record { answers = l.care.answers; tests = l.care.tests; unanswered = 0; left = l.care.left }))
told a tx l (some test) =
    standing a tx (with_care l (record { answers = true; tests = false; unanswered = l.care.unanswered; left = t_test }))
told a tx l (some break_off) = standing a tx (with_talk l (broken l.talk l.talk.out))
told a tx l (some disconnection) = absent

unfoldable pub hears : Connection → ℕ → List ℕ → Connection
hears absent id b = absent
hears (opening a n s) id b = if eqb id (0x200 + a.destination) then replied a n s (read_opening id b) else opening a n s
hears (connecting a tx n s) id b = if eqb id a.rx_id then joined a tx n s (read_channel b) else connecting a tx n s
hears (standing a tx l) id b = if eqb id a.rx_id then told a tx l (read_channel b) else standing a tx l
hears (leaving tx e) id b = leaving tx e

-- ---- THE CALLS
-- the fields are those of the telegrams that will carry them
unfoldable pub asked_fits : Asked → Bool
asked_fits a = opening_fits a.own (set_up_of a) && fits (ours false a)

-- its state: 0 none, 1 opening, 2 connecting, 3 standing, 4 leaving
unfoldable pub state_of : Connection → ℕ
state_of absent = 0
state_of (opening a n s) = 1
state_of (connecting a tx n s) = 2
state_of (standing a tx l) = 3
state_of (leaving tx e) = 4

-- what a standing connection gives, else what is said for the others
unfoldable pub on_link : {A : Type 0} → A → (Asked → ℕ → Link → A) → Connection → A
on_link other f absent = other
on_link other f (opening a n s) = other
on_link other f (connecting a tx n s) = other
on_link other f (standing a tx l) = f a tx l
on_link other f (leaving tx e) = other

-- a message is under way; the complete message that waits, [] where none does
unfoldable pub under_way : Out → Bool
under_way idle = false
under_way (sends b) = true
under_way (asks b left) = true

unfoldable pub busy : Connection → Bool
busy = on_link false (λ a tx l. under_way l.talk.out)

unfoldable pub whole : Connection → List ℕ
whole = on_link [] (λ a tx l. if l.hear.complete then l.hear.bytes else [])

-- a message to send; the complete message fetched
unfoldable pub begin : List ℕ → Connection → Connection
begin m c =
    on_link c (λ a tx l. standing a tx (with_talk l (record { hold = l.talk.hold; sn = l.talk.sn; out = sends (new_block m) }))) c

unfoldable pub fetched : Connection → Connection
fetched c =
    on_link c
    (λ a tx l. standing a tx (with_hear l (record { expected = l.hear.expected; bytes = []; complete = false; acknowledges = l.hear.acknowledges })))
    c

-- the end: while it opens no channel stands, so no telegram goes out
unfoldable pub ended : Connection → Connection
ended absent = absent
ended (opening a n s) = absent
ended (connecting a tx n s) = leaving tx (due_in 0)
ended (standing a tx l) = leave tx l
ended (leaving tx e) = leaving tx e
