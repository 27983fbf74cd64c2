-- TP2.0 connections in the whole box: which numbers their calls take, one a line beside another, and beside an ISO 15765 channel of the same line. 0x300 is
-- the identifier on which a connection's partner sends, 0x740 ours. Assumes nothing.
use Prim.Native.Nat.{ℕ, ◌+◌}
use mathlib.Core.Path.{refl}
use mathlib.Core.List.{List, [], ◌∷◌, ◌++◌}
use Rattle.link.specs.Connection.{Asked}
use Rattle.machine.specs.Channel.{says, Call, disconnect, stop_filter, read, take_next, sent, last_error, link_open, link_send, link_receive, link_end, decide, save_setup, load_setup}
use Rattle.machine.specs.Step.{connect, call, frame, advance, close}
use Rattle.whole.proofs.Traces.Words.{◌⇒◌, Story, answered, Happens, as_told, done, gives, code, room, message, got, everything, message6, told6, talk}

-- open with own identifier 0x200, destination 0x01, RX-ID 0x300, application 0x01
abbrev opens : Call
opens = link_open (record { own = 0x200; destination = 0x01; rx_id = 0x300; application = 0x01; block_size = 15; t1 = 0x8A; t3 = 0x00 })

-- a frame of this identifier and these bytes is taken on a channel, and sent; nothing may be taken
abbrev out : (channel id : ℕ) (bytes : List ℕ) → Story
out k id b = call k (take_next (room 36)) ⇒ says 0x00 0 (message 0 id b) ∷ call k sent ⇒ done ∷ []

abbrev quiet : (channel : ℕ) → Story
quiet k = call k (take_next (room 36)) ⇒ says 0x10 0 (room 36) ∷ []

-- the connection of a line comes to stand
abbrev stands : (line : ℕ) → Story
stands l =
    call (l + 1) opens ⇒ done
    ∷ out (l + 1) 0x200 (0x01 ∷ 0xC0 ∷ 0x00 ∷ 0x10 ∷ 0x00 ∷ 0x03 ∷ 0x01 ∷ [])
    ++ frame l 0 0x201 (0x00 ∷ 0xD0 ∷ 0x00 ∷ 0x03 ∷ 0x40 ∷ 0x07 ∷ 0x01 ∷ []) ⇒ done
    ∷ out (l + 1) 0x740 (0xA0 ∷ 0x0F ∷ 0x8A ∷ 0xFF ∷ 0x00 ∷ 0xFF ∷ [])
    ++ frame l 0 0x300 (0xA1 ∷ 0x0F ∷ 0x8A ∷ 0xFF ∷ 0x00 ∷ 0xFF ∷ []) ⇒ done
    ∷ []

-- their calls take the number of a raw channel: any other names none, also that of an open ISO 15765 channel, which keeps not even the code
pub numbers : Happens
    (connect 0 6 0 500000 ⇒ gives 5
    ∷ connect 3 6 0 500000 ⇒ gives 8
    ∷ connect 3 5 0 500000 ⇒ gives 4
    ∷ call 5 (stop_filter 1) ⇒ code 0x16
    ∷ call 5 opens ⇒ code 0x02
    ∷ call 5 (link_send (0x3E ∷ [])) ⇒ code 0x02
    ∷ call 5 (link_receive (room 512)) ⇒ says 0x02 0 (room 512)
    ∷ call 5 link_end ⇒ code 0x02
    ∷ call 5 (decide 0 1) ⇒ code 0x02
    ∷ call 5 (save_setup (room 12)) ⇒ says 0x02 0 (room 12)
    ∷ call 5 (load_setup (0x01 ∷ 0x00 ∷ 0x00 ∷ 0xA0 ∷ 0xC2 ∷ 0x1E ∷ 0x00 ∷ [])) ⇒ code 0x02
    ∷ call 5 last_error ⇒ gives 0x16
    ∷ call 8 opens ⇒ code 0x02
    ∷ call 8 last_error ⇒ gives 0
    ∷ call 6 opens ⇒ code 0x02
    ∷ call 1 opens ⇒ code 0x02
    ∷ call 1 link_end ⇒ code 0x02
    ∷ call 0 opens ⇒ code 0x02
    ∷ call 9 (link_receive (room 3)) ⇒ says 0x02 0 (room 3)
    ∷ call 257 link_end ⇒ code 0x02
    ∷ call 257 (decide 0 1) ⇒ code 0x02
    ∷ call 257 (save_setup (room 12)) ⇒ says 0x02 0 (room 12)
    ∷ call 4 opens ⇒ done
    ∷ call 4 opens ⇒ code 0x14
    ∷ call 4 last_error ⇒ gives 0x14
    ∷ call 8 last_error ⇒ gives 0
    ∷ [])
unfolding answered
numbers = as_told refl

-- one frame of line 0 reaches its raw channel's filters, its connection and a conversation of its ISO 15765 channel; nothing reaches line 1. What goes on
-- on one line leaves the connection of the other as it is
pub beside_each_other : Happens
    (connect 0 5 0 500000 ⇒ gives 1
    ∷ connect 1 5 0 500000 ⇒ gives 2
    ∷ connect 0 6 0 500000 ⇒ gives 5
    ∷ stands 0
    ++ stands 1
    ++ call 1 (everything 1 0) ⇒ gives 1
    ∷ call 2 (everything 1 0) ⇒ gives 1
    ∷ talk 5 0 0x300 0x241 ⇒ gives 1
    ∷ frame 0 0 0x300 (0x10 ∷ 8 ∷ 1 ∷ 2 ∷ 3 ∷ 4 ∷ 5 ∷ 6 ∷ []) ⇒ done
    ∷ call 1 (read 1 (room 36)) ⇒ says 0x00 1 (got 0 0 0x300 (0x10 ∷ 8 ∷ 1 ∷ 2 ∷ 3 ∷ 4 ∷ 5 ∷ 6 ∷ []))
    ∷ call 5 (read 1 (room 536)) ⇒ says 0x00 1 (told6 2 0 0x300)
    ∷ call 1 (link_receive (room 512)) ⇒ says 0x00 7 (8 ∷ 1 ∷ 2 ∷ 3 ∷ 4 ∷ 5 ∷ 6 ∷ room 505)
    ∷ call 2 (read 1 (room 36)) ⇒ says 0x10 0 (room 36)
    ∷ call 2 (link_receive (room 512)) ⇒ says 0x10 0 (room 512)
    ∷ quiet 2
    ++ out 1 0x740 (0xB1 ∷ [])
    ++ call 5 (take_next (room 536)) ⇒ says 0x00 0 (message6 0 0x241 (0x30 ∷ 0 ∷ 0 ∷ []))
    ∷ call 2 (link_send (0x3E ∷ [])) ⇒ done
    ∷ call 1 link_end ⇒ done
    ∷ out 1 0x740 (0xA8 ∷ [])
    ++ call 1 (link_send (0x3E ∷ [])) ⇒ code 0x07
    ∷ out 2 0x740 (0x10 ∷ 0x3E ∷ [])
    ++ call 1 disconnect ⇒ done
    ∷ call 5 disconnect ⇒ done
    ∷ frame 0 0 0x300 (0xB1 ∷ []) ⇒ done
    ∷ call 2 (link_send (0x3F ∷ [])) ⇒ code 0x11
    ∷ frame 1 0 0x300 (0xB1 ∷ []) ⇒ done
    ∷ call 2 (link_send (0x3F ∷ [])) ⇒ done
    ∷ connect 0 5 0 500000 ⇒ gives 1
    ∷ call 1 (link_receive (room 512)) ⇒ says 0x07 0 (room 512)
    ∷ call 2 disconnect ⇒ done
    ∷ call 1 opens ⇒ done
    ∷ call 2 link_end ⇒ code 0x02
    ∷ close ⇒ done
    ∷ call 1 link_end ⇒ code 0x02
    ∷ [])
unfolding answered
beside_each_other = as_told refl
