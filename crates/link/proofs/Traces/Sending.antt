-- Worked stories of request P5, sending: blocks, acknowledges, T1, not ready, T3, breaks. Assumes nothing.
use mathlib.Core.Path.{refl}
use Prim.Native.Nat.{◌+◌, ◌*◌, ◌-◌}
use mathlib.Core.List.{[], ◌∷◌, ◌++◌}
use Rattle.link.proofs.Traces.Words.{opens, takes, sents, ends, passes, frame, begins, state, gone, refused, ◌⇒◌, seen, Happens, as_told, each, bytes, still, we, they, wait, over, send, up}

-- ours 3, theirs 2: blocks of 2; the SN runs on from message to message; a send is refused until the last acknowledge
pub blocks : Happens
    (up 3 0x8A 2 0x00
    ++ send (bytes 1 29)
    ++ we (0x20 ∷ bytes 1 7)
    ++ we (0x01 ∷ bytes 8 7)
    ++ still
    ++ they (0xB2 ∷ [])
    ++ we (0x22 ∷ bytes 15 7)
    ++ we (0x03 ∷ bytes 22 7)
    ++ they (0xB4 ∷ [])
    ++ we (0x14 ∷ 29 ∷ [])
    ++ begins (0x31 ∷ []) ⇒ refused
    ∷ they (0xB5 ∷ [])
    ++ send (0x31 ∷ [])
    ++ we (0x15 ∷ 0x31 ∷ []))
unfolding seen
blocks = as_told refl

-- the SN goes from 15 to 0, and so does the acknowledge of 15
pub around : Happens
    (up 15 0x8A 15 0x00
    ++ send (bytes 1 105)
    ++ each 14 (λ k. we ((0x20 + k - 1) ∷ bytes (7 * k - 6) 7))
    ++ we (0x1E ∷ bytes 99 7)
    ++ they (0xBF ∷ [])
    ++ send (bytes 1 8)
    ++ we (0x2F ∷ bytes 1 7)
    ++ we (0x10 ∷ 8 ∷ [])
    ++ they (0xB1 ∷ [])
    ++ send (0x31 ∷ [])
    ++ we (0x11 ∷ 0x31 ∷ []))
unfolding seen
around = as_told refl

-- T1: three in all, then a disconnect
pub unacknowledged : Happens
    (up 15 0x8A 15 0x00
    ++ send (0x3E ∷ [])
    ++ each 2 (λ k. we (0x10 ∷ 0x3E ∷ []) ++ wait 99999 ++ still ++ wait 1)
    ++ we (0x10 ∷ 0x3E ∷ [])
    ++ wait 99999
    ++ passes 1 ⇒ state 4
    ∷ begins (0x3E ∷ []) ⇒ refused
    ∷ over)
unfolding seen
unacknowledged = as_told refl

-- it counts from the sent, not from the take; a fitting acknowledge before the sent is ignored; a late one is taken
pub from_the_sent : Happens
    (up 15 0x8A 15 0x00
    ++ send (0x3E ∷ [])
    ++ takes ⇒ gone 0x740 (0x10 ∷ 0x3E ∷ [])
    ∷ they (0xB1 ∷ [])
    ++ wait 99999
    ++ sents ⇒ state 3
    ∷ wait 99999
    ++ still
    ++ begins (0x31 ∷ []) ⇒ refused
    ∷ they (0xB1 ∷ [])
    ++ send (0x31 ∷ [])
    ++ we (0x11 ∷ 0x31 ∷ []))
unfolding seen
from_the_sent = as_told refl

-- with T1 0xFF nothing is repeated; with a count of 0 it ends at the next advance, also one of 0
pub never_and_at_once : Happens
    (up 15 0xFF 15 0x00
    ++ send (0x3E ∷ [])
    ++ we (0x10 ∷ 0x3E ∷ [])
    ++ wait 900000
    ++ still
    ++ begins (0x3E ∷ []) ⇒ refused
    ∷ frame 0x300 (0xA8 ∷ []) ⇒ state 0
    ∷ up 15 0x40 15 0x00
    ++ send (0x31 ∷ [])
    ++ each 2 (λ k. we (0x10 ∷ 0x31 ∷ []) ++ still ++ wait 0)
    ++ we (0x10 ∷ 0x31 ∷ [])
    ++ passes 0 ⇒ state 4
    ∷ over)
unfolding seen
never_and_at_once = as_told refl

-- not ready, and from an earlier telegram again; another SN is ignored; five times within a block, the sixth is answered by a disconnect
pub not_ready : Happens
    (up 15 0xFF 2 0x00
    ++ send (bytes 1 29)
    ++ we (0x20 ∷ bytes 1 7)
    ++ we (0x01 ∷ bytes 8 7)
    ++ they (0x91 ∷ [])
    ++ wait 99999
    ++ still
    ++ wait 1
    ++ we (0x01 ∷ bytes 8 7)
    ++ they (0x92 ∷ [])
    ++ still
    ++ wait 100000
    ++ we (0x22 ∷ bytes 15 7)
    ++ we (0x03 ∷ bytes 22 7)
    ++ each 5 (λ k. they (0xB2 ∷ []) ++ we (0x22 ∷ bytes 15 7) ++ we (0x03 ∷ bytes 22 7))
    ++ they (0xB9 ∷ [])
    ++ still
    ++ frame 0x300 (0xB2 ∷ []) ⇒ state 4
    ∷ over)
unfolding seen
not_ready = as_told refl

-- a repeat on T1 is of the telegram that asked; an acknowledge that asks again sets these repeats back
pub repeats_anew : Happens
    (up 15 0x8A 2 0x00
    ++ send (bytes 1 14)
    ++ we (0x20 ∷ bytes 1 7)
    ++ each 2 (λ k. we (0x11 ∷ bytes 8 7) ++ wait 100000)
    ++ we (0x11 ∷ bytes 8 7)
    ++ they (0xB0 ∷ [])
    ++ we (0x20 ∷ bytes 1 7)
    ++ each 2 (λ k. we (0x11 ∷ bytes 8 7) ++ wait 100000)
    ++ we (0x11 ∷ bytes 8 7)
    ++ passes 100000 ⇒ state 4
    ∷ over)
unfolding seen
repeats_anew = as_told refl

-- their block size 1 and not ready after each of ten telegrams: all ten go out; after 1,000 ms a test goes before data
pub paced : Happens
    (up 15 0xFF 1 0x00
    ++ send (bytes 0 71)
    ++ each 10 (λ k. we ((k - 1) ∷ bytes (7 * (k - 1)) 7) ++ they ((0x90 + k) ∷ []) ++ still ++ wait 100000)
    ++ we (0xA3 ∷ [])
    ++ we (0x1A ∷ 70 ∷ []))
unfolding seen
paced = as_told refl

-- at a message's end not ready delays the next one's first telegram
pub held_over : Happens
    (up 15 0xFF 15 0x00
    ++ send (0x31 ∷ [])
    ++ we (0x10 ∷ 0x31 ∷ [])
    ++ they (0x91 ∷ [])
    ++ wait 40000
    ++ send (0x32 ∷ [])
    ++ wait 59999
    ++ still
    ++ wait 1
    ++ we (0x11 ∷ 0x32 ∷ []))
unfolding seen
held_over = as_told refl

-- T3 of 5 ms between telegrams, the partner's and not ours; of 0xFF 6.3 s
pub spacing : Happens
    (up 15 0x8A 15 0x32
    ++ send (bytes 1 14)
    ++ we (0x20 ∷ bytes 1 7)
    ++ still
    ++ wait 4999
    ++ still
    ++ wait 1
    ++ we (0x11 ∷ bytes 8 7)
    ++ frame 0x300 (0xA8 ∷ []) ⇒ state 0
    ∷ up 15 0xFF 15 0xFF
    ++ send (0x31 ∷ [])
    ++ we (0x10 ∷ 0x31 ∷ [])
    ++ they (0xB1 ∷ [])
    ++ send (0x32 ∷ [])
    ++ each 6 (λ k. wait 1000000 ++ still)
    ++ wait 299999
    ++ still
    ++ wait 1
    ++ we (0xA3 ∷ []))
unfolding seen
spacing = as_told refl

-- a break after the first of five telegrams: one empty telegram, and the message is over; a break while one flies; with nothing under way, or with
-- all out, it is ignored
pub breaks : Happens
    (up 15 0x8A 15 0x00
    ++ send (bytes 1 29)
    ++ we (0x20 ∷ bytes 1 7)
    ++ they (0xA4 ∷ [])
    ++ we (0x11 ∷ [])
    ++ they (0xA4 ∷ [])
    ++ still
    ++ they (0xB2 ∷ [])
    ++ they (0xA4 ∷ [])
    ++ still
    ++ send (bytes 1 29)
    ++ takes ⇒ gone 0x740 (0x22 ∷ bytes 1 7)
    ∷ they (0xA4 ∷ [])
    ++ sents ⇒ state 3
    ∷ we (0x13 ∷ [])
    ++ they (0xB4 ∷ [])
    ++ send (0x31 ∷ [])
    ++ we (0x14 ∷ 0x31 ∷ [])
    ++ they (0xA4 ∷ [])
    ++ begins (0x31 ∷ []) ⇒ refused
    ∷ they (0xB5 ∷ [])
    ++ send (0x31 ∷ []))
unfolding seen
breaks = as_told refl
