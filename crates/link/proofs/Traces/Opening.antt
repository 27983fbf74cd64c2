-- Worked stories of request P5, the opening: set-ups, replies, connection set-ups, what is ignored. Assumes nothing.
use mathlib.Core.Path.{refl}
use mathlib.Core.List.{[], ◌∷◌, ◌++◌}
use Rattle.link.proofs.Traces.Words.{opens, takes, sents, ends, fetches, passes, frame, begins, state, gone, quiet, refused, ◌⇒◌, seen, Happens, as_told, each, asks_for, out, still, set_up, we, they, wait, over, send, reply, our_set_up, up}

-- the set-up, the reply, the connection set-up and its acknowledge
pub opened : Happens
    (asks_for 15 0x8A 0x00 ⇒ state 1
    ∷ asks_for 15 0x8A 0x00 ⇒ refused
    ∷ set_up
    ++ still
    ++ reply ⇒ state 2
    ∷ our_set_up 15 0x8A
    ++ begins (1 ∷ []) ⇒ refused
    ∷ they (0xA1 ∷ 0x0F ∷ 0x8A ∷ 0xFF ∷ 0x00 ∷ 0xFF ∷ [])
    ++ fetches ⇒ refused
    ∷ still)
unfolding seen
opened = as_told refl

-- eleven set-ups at 100 ms, then none
pub eleven_set_ups : Happens
    (asks_for 15 0x8A 0x00 ⇒ state 1
    ∷ each 10 (λ k. set_up ++ still ++ passes 99999 ⇒ state 1 ∷ still ++ passes 1 ⇒ state 1 ∷ [])
    ++ set_up
    ++ passes 99999 ⇒ state 1
    ∷ passes 1 ⇒ state 0
    ∷ still
    ++ ends ⇒ state 0
    ∷ [])
unfolding seen
eleven_set_ups = as_told refl

-- a telegram that waits lets no timer run
pub waiting_set_up : Happens
    (asks_for 15 0x8A 0x00 ⇒ state 1
    ∷ passes 1000000 ⇒ state 1
    ∷ takes ⇒ gone 0x200 (0x01 ∷ 0xC0 ∷ 0x00 ∷ 0x10 ∷ 0x00 ∷ 0x03 ∷ 0x01 ∷ [])
    ∷ passes 1000000 ⇒ state 1
    ∷ still
    ++ sents ⇒ state 1
    ∷ passes 99999 ⇒ state 1
    ∷ still
    ++ passes 1 ⇒ state 1
    ∷ set_up)
unfolding seen
waiting_set_up = as_told refl

-- replies that don't fit are ignored: another module's, to another identifier, another RX-ID, another application; a negative one ends it at once
pub replies : Happens
    (asks_for 15 0x8A 0x00 ⇒ state 1
    ∷ set_up
    ++ frame 0x202 (0x00 ∷ 0xD0 ∷ 0x00 ∷ 0x03 ∷ 0x40 ∷ 0x07 ∷ 0x01 ∷ []) ⇒ state 1
    ∷ frame 0x201 (0x01 ∷ 0xD0 ∷ 0x00 ∷ 0x03 ∷ 0x40 ∷ 0x07 ∷ 0x01 ∷ []) ⇒ state 1
    ∷ frame 0x201 (0x00 ∷ 0xD0 ∷ 0x01 ∷ 0x03 ∷ 0x40 ∷ 0x07 ∷ 0x01 ∷ []) ⇒ state 1
    ∷ frame 0x201 (0x00 ∷ 0xD0 ∷ 0x00 ∷ 0x03 ∷ 0x40 ∷ 0x07 ∷ 0x10 ∷ []) ⇒ state 1
    ∷ frame 0x201 (0x01 ∷ 0xD6 ∷ 0 ∷ 0 ∷ 0 ∷ 0 ∷ 0 ∷ []) ⇒ state 1
    ∷ frame 0x201 (0x00 ∷ 0xD9 ∷ 0 ∷ 0 ∷ 0 ∷ 0 ∷ 0 ∷ []) ⇒ state 1
    ∷ frame 0x300 (0xA8 ∷ []) ⇒ state 1
    ∷ frame 0x201 (0x00 ∷ 0xD7 ∷ 0 ∷ 0 ∷ 0 ∷ 0 ∷ 0 ∷ []) ⇒ state 0
    ∷ asks_for 15 0x8A 0x00 ⇒ state 1
    ∷ frame 0x201 (0x00 ∷ 0xD6 ∷ 0 ∷ 0 ∷ 0 ∷ 0 ∷ 0 ∷ []) ⇒ state 0
    ∷ asks_for 15 0x8A 0x00 ⇒ state 1
    ∷ frame 0x201 (0x00 ∷ 0xD8 ∷ 1 ∷ 2 ∷ 3 ∷ 4 ∷ 5 ∷ []) ⇒ state 0
    ∷ [])
unfolding seen
replies = as_told refl

-- eleven connection set-ups, then a disconnect; an end while it opens is gone without a telegram, one while it connects leaves one
pub eleven_connection_set_ups : Happens
    (asks_for 15 0x8A 0x00 ⇒ state 1
    ∷ ends ⇒ state 0
    ∷ still
    ++ asks_for 15 0x8A 0x00 ⇒ state 1
    ∷ set_up
    ++ reply ⇒ state 2
    ∷ each 10 (λ k. our_set_up 15 0x8A ++ still ++ passes 99999 ⇒ state 2 ∷ still ++ passes 1 ⇒ state 2 ∷ [])
    ++ our_set_up 15 0x8A
    ++ passes 100000 ⇒ state 4
    ∷ asks_for 15 0x8A 0x00 ⇒ refused
    ∷ over
    ++ asks_for 15 0x8A 0x00 ⇒ state 1
    ∷ reply ⇒ state 2
    ∷ ends ⇒ state 4
    ∷ over)
unfolding seen
eleven_connection_set_ups = as_told refl

-- while it connects: other telegrams, other identifiers are ignored, a disconnect ends it
pub connecting : Happens
    (asks_for 15 0x8A 0x00 ⇒ state 1
    ∷ set_up
    ++ reply ⇒ state 2
    ∷ our_set_up 15 0x8A
    ++ reply ⇒ state 2
    ∷ frame 0x300 (0xA0 ∷ 0x0F ∷ 0x8A ∷ 0xFF ∷ 0x00 ∷ 0xFF ∷ []) ⇒ state 2
    ∷ frame 0x300 (0xA1 ∷ 0x00 ∷ 0x8A ∷ 0xFF ∷ 0x00 ∷ 0xFF ∷ []) ⇒ state 2
    ∷ frame 0x301 (0xA1 ∷ 0x0F ∷ 0x8A ∷ 0xFF ∷ 0x00 ∷ 0xFF ∷ []) ⇒ state 2
    ∷ frame 0x300 (0x10 ∷ 0x01 ∷ []) ⇒ state 2
    ∷ frame 0x300 (0xB1 ∷ []) ⇒ state 2
    ∷ frame 0x300 (0xA3 ∷ []) ⇒ state 2
    ∷ frame 0x300 (0xA4 ∷ []) ⇒ state 2
    ∷ still
    ++ frame 0x300 (0xA8 ∷ []) ⇒ state 0
    ∷ [])
unfolding seen
connecting = as_told refl

-- a reply while the set-up flies, an acknowledge while the connection set-up flies: their sents mean nothing, and T3 doesn't run yet
pub answered_in_flight : Happens
    (asks_for 15 0x8A 0x00 ⇒ state 1
    ∷ takes ⇒ gone 0x200 (0x01 ∷ 0xC0 ∷ 0x00 ∷ 0x10 ∷ 0x00 ∷ 0x03 ∷ 0x01 ∷ [])
    ∷ reply ⇒ state 2
    ∷ sents ⇒ state 2
    ∷ passes 100000 ⇒ state 2
    ∷ takes ⇒ gone 0x740 (0xA0 ∷ 0x0F ∷ 0x8A ∷ 0xFF ∷ 0x00 ∷ 0xFF ∷ [])
    ∷ they (0xA1 ∷ 0x0F ∷ 0x8A ∷ 0xFF ∷ 0x32 ∷ 0xFF ∷ [])
    ++ sents ⇒ state 3
    ∷ send (0x31 ∷ [])
    ++ we (0x10 ∷ 0x31 ∷ []))
unfolding seen
answered_in_flight = as_told refl
