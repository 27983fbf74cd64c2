-- Worked stories of request P5, receiving: data, acknowledges, the longest message. Assumes nothing.
use mathlib.Core.Path.{refl}
use Prim.Native.Nat.{◌+◌, ◌*◌, ◌-◌, ◌%◌}
use mathlib.Core.List.{[], ◌∷◌, ◌++◌}
use Rattle.link.proofs.Traces.Words.{takes, sents, fetches, passes, frame, state, gone, message, refused, ◌⇒◌, Story, seen, Happens, as_told, each, bytes, still, we, they, wait, over, send, up}

-- another SN is answered by the expected one; a complete message that wasn't fetched is answered not ready; no bytes are no message
pub receiving : Happens
    (up 15 0x8A 15 0x00
    ++ they (0x25 ∷ 0x01 ∷ [])
    ++ we (0xB0 ∷ [])
    ++ they (0x20 ∷ bytes 1 7)
    ++ still
    ++ fetches ⇒ refused
    ∷ they (0x11 ∷ 8 ∷ [])
    ++ we (0xB2 ∷ [])
    ++ they (0x12 ∷ 0x99 ∷ [])
    ++ we (0x92 ∷ [])
    ++ they (0x22 ∷ 0x99 ∷ [])
    ++ still
    ++ fetches ⇒ message (bytes 1 8)
    ∷ fetches ⇒ refused
    ∷ they (0x12 ∷ 0x99 ∷ [])
    ++ we (0xB3 ∷ [])
    ++ fetches ⇒ message (0x99 ∷ [])
    ∷ they (0x13 ∷ [])
    ++ we (0xB4 ∷ [])
    ++ fetches ⇒ refused
    ∷ [])
unfolding seen
receiving = as_told refl

-- one acknowledge waits at most, with the SN of the moment it is taken; a later cause decides ready or not
pub one_waits : Happens
    (up 15 0x8A 15 0x00
    ++ they (0x00 ∷ 0x01 ∷ [])
    ++ they (0x11 ∷ 0x02 ∷ [])
    ++ we (0xB2 ∷ [])
    ++ still
    ++ they (0x02 ∷ 0x03 ∷ [])
    ++ we (0x92 ∷ [])
    ++ fetches ⇒ message (1 ∷ 2 ∷ [])
    ∷ they (0x12 ∷ 0x03 ∷ [])
    ++ they (0x03 ∷ 0x04 ∷ [])
    ++ we (0x93 ∷ []))
unfolding seen
one_waits = as_told refl

-- the SN expected goes from 15 to 0
pub around : Happens
    (up 15 0x8A 15 0x00
    ++ each 15 (λ k. they ((0x20 + k - 1) ∷ k ∷ []))
    ++ they (0x0F ∷ 16 ∷ [])
    ++ we (0xB0 ∷ [])
    ++ they (0x10 ∷ 17 ∷ [])
    ++ we (0xB1 ∷ [])
    ++ fetches ⇒ message (bytes 1 17)
    ∷ [])
unfolding seen
around = as_told refl

-- 512 bytes are a message; the telegram that would make 513 ends the connection, without an acknowledge
abbrev seventy_three : Story
seventy_three = each 73 (λ k. they ((0x20 + (k - 1) % 16) ∷ bytes 1 7))

pub longest_received : Happens
    (up 15 0x8A 15 0x00 ++ seventy_three ++ they (0x19 ∷ 0xAB ∷ []) ++ we (0xBA ∷ []) ++ fetches ⇒ message (each 73 (λ k. bytes 1 7) ++ 0xAB ∷ []) ∷ [])
unfolding seen
longest_received = as_told refl

pub too_long : Happens
    (up 15 0x8A 15 0x00 ++ seventy_three ++ frame 0x300 (0x19 ∷ 0xAB ∷ 0xCD ∷ []) ⇒ state 4 ∷ fetches ⇒ refused ∷ over)
unfolding seen
too_long = as_told refl

-- both ways at once: an acknowledge goes before data
pub both_ways : Happens
    (up 15 0x8A 15 0x00
    ++ send (bytes 1 8)
    ++ we (0x20 ∷ bytes 1 7)
    ++ they (0x10 ∷ 0x55 ∷ [])
    ++ we (0xB1 ∷ [])
    ++ we (0x11 ∷ 8 ∷ [])
    ++ they (0xB2 ∷ [])
    ++ fetches ⇒ message (0x55 ∷ [])
    ∷ send (1 ∷ []))
unfolding seen
both_ways = as_told refl
