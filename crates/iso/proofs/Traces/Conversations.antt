-- Worked traces of one ISO 15765 channel: both conversations, both directions, and filters that go meanwhile. Assumes nothing.
use mathlib.Core.Path.{refl}
use mathlib.Core.List.{[], ◌∷◌, ◌++◌}
use Rattle.machine.specs.Channel.{says, stop_filter, write, read, sent, clear}
use Rattle.machine.specs.Step.{connect, call, frame, advance}
use Rattle.iso.proofs.Traces.Words.{◌⇒◌, answered, Happens, as_told, done, gives, room, lent6, got6, told6, talk, took, took_none, count}

-- two conversations at once: flow frames first, that of filter 1 before that of filter 2; a single frame goes though its conversation receives; one
-- transmission at a time, with receptions beside it
pub two_conversations : Happens
    (connect 0 6 0 500000 ⇒ gives 5
    ∷ talk 5 0 0x641 0x241 ⇒ gives 1
    ∷ talk 5 0 0x642 0x242 ⇒ gives 2
    ∷ frame 0 0 0x642 (0x10 ∷ 8 ∷ count 17 6) ⇒ done
    ∷ frame 0 0 0x641 (0x10 ∷ 8 ∷ count 1 6) ⇒ done
    ∷ call 5 (write 1 (lent6 0 0x241 (0xAA ∷ []))) ⇒ gives 1
    ∷ took 0x241 (0x30 ∷ 0 ∷ 0 ∷ [])
    ∷ call 5 sent ⇒ done
    ∷ took 0x242 (0x30 ∷ 0 ∷ 0 ∷ [])
    ∷ call 5 sent ⇒ done
    ∷ took 0x241 (1 ∷ 0xAA ∷ [])
    ∷ call 5 sent ⇒ done
    ∷ frame 0 0 0x642 (0x21 ∷ 0x17 ∷ 0x18 ∷ []) ⇒ done
    ∷ frame 0 0 0x641 (0x21 ∷ 7 ∷ 8 ∷ []) ⇒ done
    ∷ call 5 (read 5 (room 2680)) ⇒ says 0x00 5 (told6 2 0 0x642 ++ told6 2 0 0x641 ++ told6 9 0 0x241 ++ got6 0 0 0x642 (count 17 8) ++ got6 0 0 0x641 (count 1 8))
    ∷ call 5 (write 2 (lent6 0 0x241 (count 1 8) ++ lent6 0 0x242 (0xBB ∷ []))) ⇒ gives 2
    ∷ took 0x241 (0x10 ∷ 8 ∷ count 1 6)
    ∷ call 5 sent ⇒ done
    ∷ took_none
    ∷ frame 0 0 0x641 (0x30 ∷ 0 ∷ 0 ∷ []) ⇒ done
    ∷ frame 0 0 0x642 (0x10 ∷ 8 ∷ count 17 6) ⇒ done
    ∷ took 0x242 (0x30 ∷ 0 ∷ 0 ∷ [])
    ∷ call 5 sent ⇒ done
    ∷ took 0x241 (0x21 ∷ 7 ∷ 8 ∷ [])
    ∷ call 5 sent ⇒ done
    ∷ took 0x242 (1 ∷ 0xBB ∷ [])
    ∷ call 5 sent ⇒ done
    ∷ frame 0 0 0x642 (0x21 ∷ 0x17 ∷ 0x18 ∷ []) ⇒ done
    ∷ call 5 (read 4 (room 2144)) ⇒ says 0x00 4 (told6 2 0 0x642 ++ told6 9 0 0x241 ++ told6 9 0 0x242 ++ got6 0 0 0x642 (count 17 8))
    ∷ [])
unfolding answered
two_conversations = as_told refl

-- while it sends a conversation hears flow frames alone; a message waits until its conversation has received
pub half_duplex : Happens
    (connect 0 6 0 500000 ⇒ gives 5
    ∷ talk 5 0 0x641 0x241 ⇒ gives 1
    ∷ call 5 (write 1 (lent6 0 0x241 (count 1 8))) ⇒ gives 1
    ∷ took 0x241 (0x10 ∷ 8 ∷ count 1 6)
    ∷ frame 0 0 0x641 (0x10 ∷ 8 ∷ count 1 6) ⇒ done
    ∷ frame 0 0 0x641 (1 ∷ 0x55 ∷ []) ⇒ done
    ∷ call 5 sent ⇒ done
    ∷ frame 0 0 0x641 (1 ∷ 0x55 ∷ []) ⇒ done
    ∷ frame 0 0 0x641 (0x1F ∷ 0xFF ∷ count 1 6) ⇒ done
    ∷ took_none
    ∷ frame 0 0 0x641 (0x30 ∷ 0 ∷ 0 ∷ []) ⇒ done
    ∷ took 0x241 (0x21 ∷ 7 ∷ 8 ∷ [])
    ∷ call 5 sent ⇒ done
    ∷ call 5 (read 2 (room 1072)) ⇒ says 0x09 1 (told6 9 0 0x241 ++ room 536)
    ∷ call 5 (write 1 (lent6 0 0x241 (count 1 8))) ⇒ gives 1
    ∷ frame 0 0 0x641 (0x10 ∷ 8 ∷ count 1 6) ⇒ done
    ∷ took 0x241 (0x30 ∷ 0 ∷ 0 ∷ [])
    ∷ call 5 sent ⇒ done
    ∷ took_none
    ∷ frame 0 0 0x641 (0x21 ∷ 7 ∷ 8 ∷ []) ⇒ done
    ∷ took 0x241 (0x10 ∷ 8 ∷ count 1 6)
    ∷ call 5 (read 3 (room 1608)) ⇒ says 0x09 2 (told6 2 0 0x641 ++ got6 0 0 0x641 (count 1 8) ++ room 536)
    ∷ [])
unfolding answered
half_duplex = as_told refl

-- the other conversation is not touched; stop filter drops the transmission, without TxDone, though its last frame is in flight; the next message waits
-- until its own conversation has received, and goes out there
pub stopped_sending : Happens
    (connect 0 6 0 500000 ⇒ gives 5
    ∷ talk 5 0 0x641 0x241 ⇒ gives 1
    ∷ talk 5 0 0x642 0x242 ⇒ gives 2
    ∷ call 5 (write 2 (lent6 0 0x241 (count 1 8) ++ lent6 0 0x242 (count 1 8))) ⇒ gives 2
    ∷ took 0x241 (0x10 ∷ 8 ∷ count 1 6)
    ∷ frame 0 0 0x642 (0x01 ∷ 0x66 ∷ []) ⇒ done
    ∷ frame 0 0 0x642 (0x10 ∷ 8 ∷ count 1 6) ⇒ done
    ∷ call 5 sent ⇒ done
    ∷ took 0x242 (0x30 ∷ 0 ∷ 0 ∷ [])
    ∷ call 5 sent ⇒ done
    ∷ frame 0 0 0x641 (0x30 ∷ 0 ∷ 0 ∷ []) ⇒ done
    ∷ took 0x241 (0x21 ∷ 7 ∷ 8 ∷ [])
    ∷ call 5 (stop_filter 1) ⇒ done
    ∷ call 5 sent ⇒ done
    ∷ took_none
    ∷ frame 0 0 0x642 (0x21 ∷ 7 ∷ 8 ∷ []) ⇒ done
    ∷ took 0x242 (0x10 ∷ 8 ∷ count 1 6)
    ∷ call 5 sent ⇒ done
    ∷ frame 0 0 0x642 (0x30 ∷ 0 ∷ 0 ∷ []) ⇒ done
    ∷ took 0x242 (0x21 ∷ 7 ∷ 8 ∷ [])
    ∷ call 5 sent ⇒ done
    ∷ call 5 (read 5 (room 2680)) ⇒ says 0x09 4 (got6 0 0 0x642 (0x66 ∷ []) ++ told6 2 0 0x642 ++ got6 0 0 0x642 (count 1 8) ++ told6 9 0 0x242 ++ room 536)
    ∷ [])
unfolding answered
stopped_sending = as_told refl

-- a conversation ends with its filter: stop filter drops a reception with its go-on, clear 4 a transmission whose first frame is in flight
pub filter_stopped : Happens
    (connect 0 6 0 500000 ⇒ gives 5
    ∷ talk 5 0 0x641 0x241 ⇒ gives 1
    ∷ frame 0 0 0x641 (0x10 ∷ 8 ∷ count 1 6) ⇒ done
    ∷ call 5 (stop_filter 1) ⇒ done
    ∷ took_none
    ∷ talk 5 0 0x641 0x241 ⇒ gives 1
    ∷ frame 0 0 0x641 (0x21 ∷ 7 ∷ 8 ∷ []) ⇒ done
    ∷ call 5 (write 1 (lent6 0 0x241 (count 1 8))) ⇒ gives 1
    ∷ took 0x241 (0x10 ∷ 8 ∷ count 1 6)
    ∷ call 5 (clear 4) ⇒ done
    ∷ took 0x241 (0x10 ∷ 8 ∷ count 1 6)
    ∷ call 5 sent ⇒ done
    ∷ talk 5 0 0x641 0x241 ⇒ gives 1
    ∷ frame 0 0 0x641 (0x30 ∷ 0 ∷ 0 ∷ []) ⇒ done
    ∷ took_none
    ∷ call 5 (read 2 (room 1072)) ⇒ says 0x09 1 (told6 2 0 0x641 ++ room 536)
    ∷ [])
unfolding answered
filter_stopped = as_told refl

-- a filter that goes after the write: its message waits at the head, those behind it wait too, until a filter matches
pub waits_at_the_head : Happens
    (connect 0 6 0 500000 ⇒ gives 5
    ∷ talk 5 0 0x641 0x241 ⇒ gives 1
    ∷ call 5 (write 2 (lent6 0 0x241 (count 1 8) ++ lent6 0 0x242 (1 ∷ []))) ⇒ gives 2
    ∷ call 5 (stop_filter 1) ⇒ done
    ∷ took_none
    ∷ talk 5 0 0x642 0x242 ⇒ gives 1
    ∷ took_none
    ∷ talk 5 0 0x643 0x241 ⇒ gives 2
    ∷ took 0x241 (0x10 ∷ 8 ∷ count 1 6)
    ∷ [])
unfolding answered
waits_at_the_head = as_told refl

-- after stop filter and after clear 4 a frame in flight belongs to nothing, also where a new conversation takes the place; a single frame's still
-- gives its TxDone
pub owner_gone : Happens
    (connect 0 6 0 500000 ⇒ gives 5
    ∷ talk 5 0 0x641 0x241 ⇒ gives 1
    ∷ frame 0 0 0x641 (0x10 ∷ 0x08 ∷ count 1 6) ⇒ done
    ∷ took 0x241 (0x30 ∷ 0 ∷ 0 ∷ [])
    ∷ call 5 (stop_filter 1) ⇒ done
    ∷ talk 5 0 0x642 0x242 ⇒ gives 1
    ∷ frame 0 0 0x642 (0x10 ∷ 0x08 ∷ count 1 6) ⇒ done
    ∷ advance 600000 ⇒ done
    ∷ call 5 sent ⇒ done
    ∷ advance 400000 ⇒ done
    ∷ frame 0 0 0x642 (0x21 ∷ 7 ∷ 8 ∷ []) ⇒ done
    ∷ frame 0 0 0x642 (0x10 ∷ 0x08 ∷ count 1 6) ⇒ done
    ∷ took 0x242 (0x30 ∷ 0 ∷ 0 ∷ [])
    ∷ call 5 (clear 4) ⇒ done
    ∷ talk 5 0 0x643 0x243 ⇒ gives 1
    ∷ frame 0 0 0x643 (0x10 ∷ 0x08 ∷ count 1 6) ⇒ done
    ∷ advance 600000 ⇒ done
    ∷ call 5 sent ⇒ done
    ∷ advance 400000 ⇒ done
    ∷ frame 0 0 0x643 (0x21 ∷ 7 ∷ 8 ∷ []) ⇒ done
    ∷ call 5 (write 1 (lent6 0 0x243 (1 ∷ []))) ⇒ gives 1
    ∷ took 0x243 (1 ∷ 1 ∷ [])
    ∷ call 5 (clear 4) ⇒ done
    ∷ call 5 sent ⇒ done
    ∷ call 5 (read 5 (room 2680))
    ⇒ says 0x00 5 (told6 2 0 0x641 ++ told6 2 0 0x642 ++ told6 2 1000000 0x642 ++ told6 2 1000000 0x643 ++ told6 9 2000000 0x243)
    ∷ [])
unfolding answered
owner_gone = as_told refl
