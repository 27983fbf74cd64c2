-- The TP2.0 connection in its part of a channel's region: how its state lies in bytes, and what each field may be. What plays no part in a state is zeros.
-- Assumes nothing.
use Rattle.std.specs.Prelude.{ℕ, zero, suc, ◌+◌, Bool, true, false, not, ◌&&◌, ◌||◌, List, [], length, eqb, leb, ltb, if◌then◌else◌}
use Rattle.std.proofs.Math.Option.{Option, none, some}
use Rattle.codec.specs.Plain.{within}
use Rattle.codec.specs.Code.{Code, byte, word32, both, both_on, via, such, mark, present, text}
use Rattle.link.specs.Connection.{t_e, t_wait, t_test, mntc, mnt, mntb, mnct, longest, micros, Asked, asked_fits, Trial, waits, flies, runs, Block, block_of, Out, idle, sends, asks, Talk, Hear, Care, its_data, its_test, its_other, Wire, spaced, carries, Link, Exit, due_in, due_behind, goes, Connection, absent, opening, connecting, standing, leaving}

-- ---- what was asked for
abbrev pub asked_parts : Asked → ℕ × (ℕ × (ℕ × (ℕ × (ℕ × (ℕ × ℕ)))))
asked_parts a = (a.own, (a.rx_id, (a.destination, (a.application, (a.block_size, (a.t1, a.t3))))))

abbrev pub asked_back : ℕ × (ℕ × (ℕ × (ℕ × (ℕ × (ℕ × ℕ))))) → Asked
asked_back p =
    record {
      own = p.0;
      rx_id = p.1.0;
      destination = p.1.1.0;
      application = p.1.1.1.0;
      block_size = p.1.1.1.1.0;
      t1 = p.1.1.1.1.1.0;
      t3 = p.1.1.1.1.1.1;
    }

unfoldable pub asked : Code Asked
asked = such asked_fits (via asked_parts asked_back (both word32 (both word32 (both byte (both byte (both byte (both byte byte)))))))

-- ---- a byte that says which, and a number with it
abbrev pub Which : Code (ℕ × ℕ)
Which = both byte word32

-- an opening telegram: 0 waits, 1 is in flight, 2 T_E runs
abbrev pub trial_parts : Trial → ℕ × ℕ
trial_parts waits = (0, 0)
trial_parts flies = (1, 0)
trial_parts (runs left) = (2, left)

abbrev pub trial_of : ℕ → ℕ → Trial
trial_of zero left = waits
trial_of (suc zero) left = flies
trial_of (suc (suc k)) left = runs left

abbrev pub trial_fits : ℕ → ℕ → Bool
trial_fits zero left = eqb left 0
trial_fits (suc zero) left = eqb left 0
trial_fits (suc (suc zero)) left = within 1 t_e left
trial_fits (suc (suc (suc k))) left = false

unfoldable pub trial : Code Trial
trial = via trial_parts (λ p. trial_of p.0 p.1) (such (λ p. trial_fits p.0 p.1) Which)

-- with its repeats before it
unfoldable pub trials : Code (ℕ × Trial)
trials = both (such (λ n. leb n mntc) byte) trial

-- a disconnect telegram: 0 waits, with so much left of T3; 1 waits behind another telegram, T3's byte; 2 is in flight
abbrev pub exit_parts : Exit → ℕ × ℕ
exit_parts (due_in left) = (0, left)
exit_parts (due_behind t3) = (1, t3)
exit_parts goes = (2, 0)

abbrev pub exit_of : ℕ → ℕ → Exit
exit_of zero n = due_in n
exit_of (suc zero) n = due_behind n
exit_of (suc (suc k)) n = goes

-- the longest time of a time byte is 6.3 s
abbrev pub exit_fits : ℕ → ℕ → Bool
exit_fits zero n = leb n 6300000
exit_fits (suc zero) n = leb n 255
exit_fits (suc (suc zero)) n = eqb n 0
exit_fits (suc (suc (suc k))) n = false

unfoldable pub leaves : Code Exit
leaves = via exit_parts (λ p. exit_of p.0 p.1) (such (λ p. exit_fits p.0 p.1) Which)

-- the line: 0 nothing of it in flight, with so much left of T3; 1 data, 2 a test, 3 another telegram of it in flight
abbrev pub wire_parts : Wire → ℕ × ℕ
wire_parts (spaced left) = (0, left)
wire_parts (carries its_data) = (1, 0)
wire_parts (carries its_test) = (2, 0)
wire_parts (carries its_other) = (3, 0)

abbrev pub wire_of : ℕ → ℕ → Wire
wire_of zero left = spaced left
wire_of (suc zero) left = carries its_data
wire_of (suc (suc zero)) left = carries its_test
wire_of (suc (suc (suc k))) left = carries its_other

abbrev pub wire_fits : ℕ → ℕ → Bool
wire_fits zero left = true
wire_fits (suc zero) left = eqb left 0
wire_fits (suc (suc zero)) left = eqb left 0
wire_fits (suc (suc (suc zero))) left = eqb left 0
wire_fits (suc (suc (suc (suc k)))) left = false

unfoldable pub wire : Code Wire
wire = via wire_parts (λ p. wire_of p.0 p.1) (such (λ p. wire_fits p.0 p.1) Which)

-- ---- what is sent: 0 no message, 1 its telegrams are sent, 2 T1 runs
abbrev pub block_parts : Block → ℕ × (ℕ × (ℕ × List ℕ))
block_parts b = (b.taken, (b.repeats, (b.again, b.rest)))

abbrev pub block_back : ℕ × (ℕ × (ℕ × List ℕ)) → Block
block_back p = record { taken = p.0; repeats = p.1.0; again = p.1.1.0; rest = p.1.1.1 }

unfoldable pub block : Code Block
block = via block_parts block_back (both byte (both byte (both byte (text longest))))

unfoldable pub no_block : Block → Bool
no_block b = eqb b.taken 0 && eqb b.repeats 0 && eqb b.again 0 && eqb (length b.rest) 0

abbrev pub out_parts : Out → ℕ × (ℕ × Block)
out_parts idle = (0, (0, record { rest = []; taken = 0; repeats = 0; again = 0 }))
out_parts (sends b) = (1, (0, b))
out_parts (asks b left) = (2, (left, b))

abbrev pub out_of : ℕ → ℕ → Block → Out
out_of zero left b = idle
out_of (suc zero) left b = sends b
out_of (suc (suc k)) left b = asks b left

abbrev pub out_fits : ℕ → ℕ → Block → Bool
out_fits zero left b = eqb left 0 && no_block b
out_fits (suc zero) left b = eqb left 0
out_fits (suc (suc zero)) left b = true
out_fits (suc (suc (suc k))) left b = false

unfoldable pub out : Code Out
out = via out_parts (λ p. out_of p.0 p.1.0 p.1.1) (such (λ p. out_fits p.0 p.1.0 p.1.1) (both byte (both word32 block)))

abbrev pub talk_parts : Talk → ℕ × (ℕ × Out)
talk_parts t = (t.hold, (t.sn, t.out))

abbrev pub talk_back : ℕ × (ℕ × Out) → Talk
talk_back p = record { hold = p.0; sn = p.1.0; out = p.1.1 }

unfoldable pub talk : Code Talk
talk = via talk_parts talk_back (both word32 (both byte out))

-- ---- what is received; an acknowledge: 0 none, 1 not ready, 2 ready
abbrev pub ack_parts : Option Bool → ℕ
ack_parts none = 0
ack_parts (some false) = 1
ack_parts (some true) = 2

abbrev pub ack_of : ℕ → Option Bool
ack_of zero = none
ack_of (suc zero) = some false
ack_of (suc (suc k)) = some true

unfoldable pub ack : Code (Option Bool)
ack = via ack_parts ack_of (such (λ n. leb n 2) byte)

abbrev pub hear_parts : Hear → ℕ × (Option Bool × (Bool × List ℕ))
hear_parts h = (h.expected, (h.acknowledges, (h.complete, h.bytes)))

abbrev pub hear_back : ℕ × (Option Bool × (Bool × List ℕ)) → Hear
hear_back p = record { expected = p.0; acknowledges = p.1.0; complete = p.1.1.0; bytes = p.1.1.1 }

unfoldable pub hear : Code Hear
hear = via hear_parts hear_back (both byte (both ack (both mark (text longest))))

-- ---- the connection test
abbrev pub care_parts : Care → Bool × (Bool × (ℕ × ℕ))
care_parts c = (c.answers, (c.tests, (c.unanswered, c.left)))

abbrev pub care_back : Bool × (Bool × (ℕ × ℕ)) → Care
care_back p = record { answers = p.0; tests = p.1.0; unanswered = p.1.1.0; left = p.1.1.1 }

unfoldable pub care : Code Care
care = via care_parts care_back (both mark (both mark (both byte word32)))

-- ---- a standing connection
abbrev pub link_parts : Link → ℕ × (ℕ × (Wire × (Care × (Talk × Hear))))
link_parts l = (l.block, (l.pace, (l.wire, (l.care, (l.talk, l.hear)))))

abbrev pub link_back : ℕ × (ℕ × (Wire × (Care × (Talk × Hear)))) → Link
link_back p =
    record { block = p.0; pace = p.1.0; wire = p.1.1.0; care = p.1.1.1.0; talk = p.1.1.1.1.0; hear = p.1.1.1.1.1 }

unfoldable pub link : Code Link
link = via link_parts link_back (both byte (both byte (both wire (both care (both talk hear)))))

-- ---- the connection: its state, what was asked for, the TX-ID, the opening telegram, the standing connection, the disconnect telegram. The state
-- says which of them are there
abbrev pub Parts : Type 0
Parts = ℕ × (Option Asked × (Option ℕ × (Option (ℕ × Trial) × (Option Exit × Option Link))))

abbrev pub connection_parts : Connection → Parts
connection_parts absent = (0, (none, (none, (none, (none, none)))))
connection_parts (opening a n s) = (1, (some a, (none, (some (n, s), (none, none)))))
connection_parts (connecting a tx n s) = (2, (some a, (some tx, (some (n, s), (none, none)))))
connection_parts (standing a tx l) = (3, (some a, (some tx, (none, (none, some l)))))
connection_parts (leaving tx e) = (4, (none, (some tx, (none, (some e, none)))))

abbrev pub trying : Asked → Option ℕ → ℕ × Trial → Connection
trying a none s = opening a s.0 s.1
trying a (some tx) s = connecting a tx s.0 s.1

abbrev pub linked : Asked → Option ℕ → Option Link → Connection
linked a none l = absent
linked a (some tx) none = absent
linked a (some tx) (some l) = standing a tx l

abbrev pub exiting : Option ℕ → Option Exit → Connection
exiting none e = absent
exiting (some tx) none = absent
exiting (some tx) (some e) = leaving tx e

abbrev pub joining : Option Asked → Option ℕ → Option (ℕ × Trial) → Option Exit → Option Link → Connection
joining none tx s e l = exiting tx e
joining (some a) tx none e l = linked a tx l
joining (some a) tx (some s) e l = trying a tx s

abbrev pub connection_back : Parts → Connection
connection_back p = joining p.1.0 p.1.1.0 p.1.1.1.0 p.1.1.1.1.0 p.1.1.1.1.1

unfoldable pub after : ℕ → Code (Option Asked × (Option ℕ × (Option (ℕ × Trial) × (Option Exit × Option Link))))
after k =
    both (present (within 1 3 k) asked)
    (both (present (within 2 4 k) word32) (both (present (within 1 2 k) trials) (both (present (eqb k 4) leaves) (present (eqb k 3) link))))

-- ---- limits that look at more than one field
abbrev pub is_data : Wire → Bool
is_data (spaced left) = false
is_data (carries its_data) = true
is_data (carries its_test) = false
is_data (carries its_other) = false

abbrev pub is_test : Wire → Bool
is_test (spaced left) = false
is_test (carries its_data) = false
is_test (carries its_test) = true
is_test (carries its_other) = false

-- what is left of T3 is at most T3
abbrev pub space_fits : ℕ → Wire → Bool
space_fits pace (spaced left) = leb left (micros pace)
space_fits pace (carries k) = true

-- the repeats; how many telegrams of the block can be taken; what is left of T1
unfoldable pub repeats_fit : Block → Bool
repeats_fit b = leb b.repeats mnt && leb b.again mntb

unfoldable pub t1_fits : ℕ → ℕ → Bool
t1_fits t1 left = if eqb t1 0xFF then eqb left 0 else leb left (micros t1) && (ltb 0 left || eqb (micros t1) 0)

abbrev pub out_in : ℕ → ℕ → Bool → Out → Bool
out_in t1 size flying idle = not flying
out_in t1 size flying (sends b) =
    repeats_fit b && (if flying then leb b.taken (block_of size b.rest) else ltb b.taken (block_of size b.rest))
out_in t1 size flying (asks b left) = repeats_fit b && not flying && eqb b.taken (block_of size b.rest) && t1_fits t1 left

unfoldable pub link_fits : Asked → Link → Bool
link_fits a l =
    within 1 a.block_size l.block
    && space_fits l.pace l.wire
    && leb l.talk.hold t_wait
    && leb l.talk.sn 15
    && out_in a.t1 l.block (is_data l.wire) l.talk.out
    && leb l.hear.expected 15
    && (not l.hear.complete || ltb 0 (length l.hear.bytes))
    && ltb l.care.unanswered (mnct + 2)
    && leb l.care.left t_test
    && (ltb 0 l.care.left || (l.care.tests || is_test l.wire))

-- the TX-ID is narrow
unfoldable pub connection_fits : Connection → Bool
connection_fits absent = true
connection_fits (opening a n s) = true
connection_fits (connecting a tx n s) = leb tx 0x7FF
connection_fits (standing a tx l) = leb tx 0x7FF && link_fits a l
connection_fits (leaving tx e) = leb tx 0x7FF

unfoldable pub connection_part : Code Connection
connection_part = such connection_fits (via connection_parts connection_back (both_on (λ k. k) (such (λ k. leb k 4) byte) after))
