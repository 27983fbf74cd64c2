-- Worked stories of request P5: the connection test, and how a connection ends. Assumes nothing.
use mathlib.Core.Path.{refl}
use mathlib.Core.List.{[], ◌∷◌, ◌++◌}
use Rattle.link.proofs.Traces.Words.{takes, sents, ends, fetches, passes, frame, begins, state, gone, refused, quiet, ◌⇒◌, seen, Happens, as_told, each, bytes, asks_for, set_up, still, we, they, wait, over, send, up}

-- six unanswered, at the seventh end a disconnect
pub unanswered : Happens
    (up 15 0x8A 15 0x00
    ++ each 6 (λ k. wait 999999 ++ still ++ wait 1 ++ we (0xA3 ∷ []))
    ++ wait 999999
    ++ passes 1 ⇒ state 4
    ∷ over)
unfolding seen
unanswered = as_told refl

-- one answered: the count begins anew; the partner's is answered with our own values, starts the time anew and withdraws one of ours that waits
pub answered : Happens
    (up 15 0x8A 15 0x00
    ++ wait 1000000
    ++ we (0xA3 ∷ [])
    ++ they (0xA1 ∷ 0x0F ∷ 0x8A ∷ 0x12 ∷ 0x00 ∷ 0x34 ∷ [])
    ++ wait 999999
    ++ still
    ++ they (0xA3 ∷ [])
    ++ we (0xA1 ∷ 0x0F ∷ 0x8A ∷ 0xFF ∷ 0x00 ∷ 0xFF ∷ [])
    ++ wait 1
    ++ still
    ++ wait 999999
    ++ they (0xA3 ∷ [])
    ++ we (0xA1 ∷ 0x0F ∷ 0x8A ∷ 0xFF ∷ 0x00 ∷ 0xFF ∷ [])
    ++ still
    ++ each 6 (λ k. wait 1000000 ++ we (0xA3 ∷ []))
    ++ passes 1000000 ⇒ state 4
    ∷ over)
unfolding seen
answered = as_told refl

-- a test that waits lets its time not run; data doesn't start it anew
pub beside_data : Happens
    (up 15 0xFF 15 0x00
    ++ wait 500000
    ++ send (0x31 ∷ [])
    ++ we (0x10 ∷ 0x31 ∷ [])
    ++ they (0xB1 ∷ [])
    ++ wait 500000
    ++ wait 1000000
    ++ wait 1000000
    ++ we (0xA3 ∷ [])
    ++ wait 999999
    ++ still)
unfolding seen
beside_data = as_told refl

-- an end behind a telegram in flight: T3 runs from its sent, then the disconnect goes; whatever comes is ignored
pub ended_in_flight : Happens
    (up 15 0x8A 15 0x32
    ++ send (0x31 ∷ [])
    ++ takes ⇒ gone 0x740 (0x10 ∷ 0x31 ∷ [])
    ∷ ends ⇒ state 4
    ∷ ends ⇒ state 4
    ∷ passes 5000 ⇒ state 4
    ∷ still
    ++ frame 0x300 (0xB1 ∷ []) ⇒ state 4
    ∷ frame 0x300 (0xA8 ∷ []) ⇒ state 4
    ∷ sents ⇒ state 4
    ∷ passes 4999 ⇒ state 4
    ∷ still
    ++ passes 1 ⇒ state 4
    ∷ begins (0x31 ∷ []) ⇒ refused
    ∷ takes ⇒ gone 0x740 (0xA8 ∷ [])
    ∷ asks_for 15 0x8A 0x00 ⇒ refused
    ∷ passes 1000000 ⇒ state 4
    ∷ sents ⇒ state 0
    ∷ [])
unfolding seen
ended_in_flight = as_told refl

-- what is left of T3 is waited for before the disconnect
pub ended_spaced : Happens
    (up 15 0x8A 15 0x32 ++ send (0x31 ∷ []) ++ we (0x10 ∷ 0x31 ∷ []) ++ wait 2000 ++ ends ⇒ state 4 ∷ passes 2999 ⇒ state 4 ∷ still ++ passes 1 ⇒ state 4 ∷ over)
unfolding seen
ended_spaced = as_told refl

-- a disconnect received: over at once, a complete message too; the sent of what is in flight means nothing to the next connection
pub disconnected : Happens
    (up 15 0x8A 15 0x32
    ++ they (0x10 ∷ 0x55 ∷ [])
    ++ send (0x31 ∷ [])
    ++ we (0xB1 ∷ [])
    ++ wait 5000
    ++ takes ⇒ gone 0x740 (0x10 ∷ 0x31 ∷ [])
    ∷ frame 0x300 (0xA8 ∷ []) ⇒ state 0
    ∷ fetches ⇒ refused
    ∷ asks_for 15 0x8A 0x00 ⇒ state 1
    ∷ sents ⇒ state 1
    ∷ passes 100000 ⇒ state 1
    ∷ set_up
    ++ passes 99999 ⇒ state 1
    ∷ still
    ++ passes 1 ⇒ state 1
    ∷ set_up)
unfolding seen
disconnected = as_told refl

-- ignored on a standing connection: what can't be taken apart, a connection set-up, other identifiers
pub ignored : Happens
    (up 15 0x8A 15 0x00
    ++ they []
    ++ they (0xA0 ∷ 0x0F ∷ 0x8A ∷ 0xFF ∷ 0x00 ∷ 0xFF ∷ [])
    ++ they (0xA2 ∷ [])
    ++ they (0xA8 ∷ 0x00 ∷ [])
    ++ frame 0x740 (0xA8 ∷ []) ⇒ state 3
    ∷ frame 0x201 (0x00 ∷ 0xD6 ∷ 0 ∷ 0 ∷ 0 ∷ 0 ∷ 0 ∷ []) ⇒ state 3
    ∷ still)
unfolding seen
ignored = as_told refl
