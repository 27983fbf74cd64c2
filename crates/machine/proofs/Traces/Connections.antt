-- Worked traces of request P5: a TP2.0 connection in its channel, with the codes of its calls, its place among periodics and written records, filters,
-- loopback, flight and last codes. The connection's own stories stand in `link`. Assumes nothing.
use mathlib.Core.Path.{refl}
use Prim.Native.Nat.{ℕ, ◌+◌, ◌*◌, ◌-◌, ◌%◌}
use mathlib.Core.List.{List, [], ◌∷◌, ◌++◌}
use Rattle.link.specs.Connection.{Asked}
use Rattle.machine.specs.Channel.{says, Call, disconnect, start_periodic, write, read, take_next, sent, clear, set_parameter, last_error, link_open, link_send, link_receive, link_end}
use Rattle.machine.specs.Step.{connect, call, frame, advance, close}
use Rattle.machine.proofs.Traces.Words.{◌⇒◌, Story, answered, Happens, as_told, done, gives, code, room, message, got, everything, each}

-- ---- words
-- open with own identifier 0x200, destination 0x01, RX-ID 0x300, application 0x01
abbrev opens : (block_size t1 t3 : ℕ) → Call
opens bs t1 t3 = link_open (record { own = 0x200; destination = 0x01; rx_id = 0x300; application = 0x01; block_size = bs; t1 = t1; t3 = t3 })

-- a frame of this identifier and these bytes is taken, and sent; nothing may be taken
abbrev out : ℕ → List ℕ → Story
out id b = call 1 (take_next (room 36)) ⇒ says 0x00 0 (message 0 id b) ∷ call 1 sent ⇒ done ∷ []

abbrev quiet : Story
quiet = call 1 (take_next (room 36)) ⇒ says 0x10 0 (room 36) ∷ []

-- a telegram of ours on the channel; one of the partner's; time passes
abbrev we : List ℕ → Story
we b = out 0x740 b

abbrev they : List ℕ → Story
they b = frame 0 0 0x300 b ⇒ done ∷ []

abbrev wait : ℕ → Story
wait us = advance us ⇒ done ∷ []

abbrev set_up : Story
set_up = out 0x200 (0x01 ∷ 0xC0 ∷ 0x00 ∷ 0x10 ∷ 0x00 ∷ 0x03 ∷ 0x01 ∷ [])

-- a connection that stands, on a channel of these flags: our block size and T1, their block size and T3; their T2 and T4 are not 0xFF
abbrev up_on : (flags ours t1 theirs t3 : ℕ) → Story
up_on flags ours t1 theirs t3 =
    connect 0 5 flags 500000 ⇒ gives 1
    ∷ call 1 (opens ours t1 0x00) ⇒ done
    ∷ set_up
    ++ frame 0 0 0x201 (0x00 ∷ 0xD0 ∷ 0x00 ∷ 0x03 ∷ 0x40 ∷ 0x07 ∷ 0x01 ∷ []) ⇒ done
    ∷ we (0xA0 ∷ ours ∷ t1 ∷ 0xFF ∷ 0x00 ∷ 0xFF ∷ [])
    ++ they (0xA1 ∷ theirs ∷ 0x8A ∷ 0x12 ∷ t3 ∷ 0x34 ∷ [])

abbrev up : (ours t1 theirs t3 : ℕ) → Story
up = up_on 0

-- n bytes, counted up from the first
abbrev bytes : (first n : ℕ) → List ℕ
bytes first n = each n (λ k. (first + k - 1) ∷ [])

abbrev nothing_yet : Story
nothing_yet = call 1 (link_receive (room 512)) ⇒ says 0x10 0 (room 512) ∷ []

abbrev no_connection : Story
no_connection = call 1 link_end ⇒ code 0x07 ∷ []

-- ---- opening
-- the set-up, the reply, the connection set-up and its acknowledge: a receive tells that the connection stands
pub opened : Happens
    (connect 0 5 0 500000 ⇒ gives 1
    ∷ call 1 (opens 15 0x8A 0x00) ⇒ done
    ∷ call 1 (link_receive (room 512)) ⇒ says 0x07 0 (room 512)
    ∷ set_up
    ++ quiet
    ++ frame 0 0 0x201 (0x00 ∷ 0xD0 ∷ 0x00 ∷ 0x03 ∷ 0x40 ∷ 0x07 ∷ 0x01 ∷ []) ⇒ done
    ∷ we (0xA0 ∷ 0x0F ∷ 0x8A ∷ 0xFF ∷ 0x00 ∷ 0xFF ∷ [])
    ++ call 1 (link_send (1 ∷ [])) ⇒ code 0x07
    ∷ they (0xA1 ∷ 0x0F ∷ 0x8A ∷ 0xFF ∷ 0x00 ∷ 0xFF ∷ [])
    ++ nothing_yet)
unfolding answered
opened = as_told refl

-- ---- sending
-- T3 of 5 ms between telegrams; written records pass meanwhile, pending periodics go first
pub spacing : Happens
    (up 15 0x8A 15 0x32
    ++ call 1 (link_send (bytes 1 14)) ⇒ done
    ∷ call 1 (write 1 (message 0 0x123 [])) ⇒ gives 1
    ∷ call 1 (start_periodic (message 0 0x111 []) 65535) ⇒ gives 1
    ∷ out 0x111 []
    ++ we (0x20 ∷ bytes 1 7)
    ++ out 0x123 []
    ++ quiet
    ++ wait 4999
    ++ quiet
    ++ wait 1
    ++ we (0x11 ∷ bytes 8 7))
unfolding answered
spacing = as_told refl

-- ---- receiving
pub receiving : Happens
    (up 15 0x8A 15 0x00
    ++ they (0x25 ∷ 0x01 ∷ [])
    ++ we (0xB0 ∷ [])
    ++ they (0x20 ∷ bytes 1 7)
    ++ quiet
    ++ they (0x11 ∷ 8 ∷ [])
    ++ we (0xB2 ∷ [])
    ++ they (0x12 ∷ 0x99 ∷ [])
    ++ we (0x92 ∷ [])
    ++ call 1 (link_receive (room 511)) ⇒ says 0x04 0 (room 511)
    ∷ call 1 (link_receive (room 513)) ⇒ says 0x00 8 (bytes 1 8 ++ room 505)
    ∷ nothing_yet
    ++ they (0x12 ∷ 0x99 ∷ [])
    ++ we (0xB3 ∷ [])
    ++ call 1 (link_receive (room 512)) ⇒ says 0x00 1 (0x99 ∷ room 511)
    ∷ they (0x13 ∷ [])
    ++ we (0xB4 ∷ [])
    ++ nothing_yet)
unfolding answered
receiving = as_told refl

-- ---- the codes, the filters, loopback and the end
pub codes : Happens
    (connect 0 5 0x100 500000 ⇒ gives 1
    ∷ connect 1 5 0x900 500000 ⇒ gives 2
    ∷ call 5 (opens 15 0x8A 0) ⇒ code 0x02
    ∷ call 3 link_end ⇒ code 0x02
    ∷ call 1 (opens 15 0x8A 0) ⇒ code 0x0A
    ∷ call 1 (link_send (1 ∷ [])) ⇒ code 0x0A
    ∷ call 1 (link_receive (room 511)) ⇒ says 0x04 0 (room 511)
    ∷ call 1 (link_receive (room 512)) ⇒ says 0x0A 0 (room 512)
    ∷ call 1 link_end ⇒ code 0x0A
    ∷ call 2 (opens 0 0x8A 0) ⇒ code 0x0A
    ∷ call 2 (opens 16 0x8A 0) ⇒ code 0x0A
    ∷ call 2 (opens 15 256 0) ⇒ code 0x0A
    ∷ call 2 (link_send []) ⇒ code 0x07
    ∷ call 2 (opens 15 255 255) ⇒ done
    ∷ call 2 (opens 16 255 255) ⇒ code 0x0A
    ∷ call 2 (opens 15 255 255) ⇒ code 0x14
    ∷ call 2 link_end ⇒ done
    ∷ call 2 link_end ⇒ code 0x07
    ∷ call 1 disconnect ⇒ done
    ∷ up 15 0x8A 15 0x00
    ++ call 1 (link_send []) ⇒ code 0x0A
    ∷ call 1 (link_send (room 513)) ⇒ code 0x0A
    ∷ call 1 (link_send (room 512)) ⇒ done
    ∷ call 1 (link_send []) ⇒ code 0x0A
    ∷ call 1 (link_send (1 ∷ [])) ⇒ code 0x11
    ∷ [])
unfolding answered
codes = as_told refl

pub beside : Happens
    (up 15 0x8A 15 0x00
    ++ call 1 (set_parameter 3 1) ⇒ done
    ∷ call 1 (everything 1 0) ⇒ gives 1
    ∷ call 1 (link_send (0x31 ∷ [])) ⇒ done
    ∷ call 1 (clear 1) ⇒ done
    ∷ call 1 (take_next (room 36)) ⇒ says 0x00 0 (message 0 0x740 (0x10 ∷ 0x31 ∷ []))
    ∷ call 1 link_end ⇒ done
    ∷ call 1 link_end ⇒ code 0x07
    ∷ call 1 sent ⇒ done
    ∷ they (0xB1 ∷ [])
    ++ we (0xA8 ∷ [])
    ++ no_connection
    ++ call 1 (read 4 (room 144)) ⇒ says 0x09 3 (got 1 0 0x740 (0x10 ∷ 0x31 ∷ []) ++ got 0 0 0x300 (0xB1 ∷ []) ++ got 1 0 0x740 (0xA8 ∷ []) ++ room 36)
    ∷ call 1 disconnect ⇒ done
    ∷ up 15 0x8A 15 0x00
    ++ they (0xA8 ∷ [])
    ++ no_connection)
unfolding answered
beside = as_told refl

-- a wide frame never belongs to a connection
pub wide_frames : Happens
    (up_on 0x800 15 0x8A 15 0x00
    ++ frame 0 1 0x300 (0xA8 ∷ []) ⇒ done
    ∷ nothing_yet)
unfolding answered
wide_frames = as_told refl

-- ---- telegrams in flight when the connection steps on
-- a telegram is taken, or taken again
abbrev still_flying : List ℕ → Story
still_flying b = call 1 (take_next (room 36)) ⇒ says 0x00 0 (message 0 0x740 b) ∷ []

-- an end behind a telegram in flight: T3 runs from its sent, then the disconnect goes; a disconnect received leaves the flight, whose sent means
-- nothing to the next connection
pub ended_in_flight : Happens
    (up 15 0x8A 15 0x32
    ++ call 1 (link_send (0x31 ∷ [])) ⇒ done
    ∷ still_flying (0x10 ∷ 0x31 ∷ [])
    ++ call 1 link_end ⇒ done
    ∷ wait 5000
    ++ still_flying (0x10 ∷ 0x31 ∷ [])
    ++ call 1 sent ⇒ done
    ∷ wait 4999
    ++ quiet
    ++ wait 1
    ++ still_flying (0xA8 ∷ [])
    ++ call 1 (opens 15 0x8A 0x00) ⇒ code 0x14
    ∷ call 1 sent ⇒ done
    ∷ call 1 disconnect ⇒ done
    ∷ up 15 0x8A 15 0x32
    ++ call 1 (link_send (0x31 ∷ [])) ⇒ done
    ∷ still_flying (0x10 ∷ 0x31 ∷ [])
    ++ they (0xA8 ∷ [])
    ++ call 1 (opens 15 0x8A 0x00) ⇒ done
    ∷ still_flying (0x10 ∷ 0x31 ∷ [])
    ++ call 1 sent ⇒ done
    ∷ wait 100000
    ++ set_up
    ++ wait 99999
    ++ quiet
    ++ wait 1
    ++ set_up)
unfolding answered
ended_in_flight = as_told refl

-- ---- beside the rest of the channel
-- what the connection receives is offered to the filters too; a bad frame reaches neither
pub offered_too : Happens
    (up 15 0x8A 15 0x00
    ++ call 1 (everything 1 0) ⇒ gives 1
    ∷ they (0x10 ∷ 0x41 ∷ [])
    ++ frame 0 2 0x300 (0xA8 ∷ []) ⇒ code 0x0A
    ∷ frame 0 0 0x300 (0xA8 ∷ bytes 1 8) ⇒ code 0x0A
    ∷ call 1 (read 2 (room 72)) ⇒ says 0x09 1 (got 0 0 0x300 (0x10 ∷ 0x41 ∷ []) ++ room 36)
    ∷ call 1 (link_receive (room 512)) ⇒ says 0x00 1 (0x41 ∷ room 511)
    ∷ we (0xB1 ∷ []))
unfolding answered
offered_too = as_told refl

-- a refused advance ends no timer
pub refused_advance : Happens
    (up 15 0x8A 15 0x00
    ++ advance 1000001 ⇒ code 0x0B
    ∷ quiet
    ++ wait 999999
    ++ advance 0xFFFF_FFFF ⇒ code 0x0B
    ∷ quiet
    ++ wait 1
    ++ we (0xA3 ∷ []))
unfolding answered
refused_advance = as_told refl

-- what went wrong last: the codes of its calls are kept; what the bus does to it keeps none
pub last_codes : Happens
    (connect 0 5 0 500000 ⇒ gives 1
    ∷ no_connection
    ++ call 1 last_error ⇒ gives 0x07
    ∷ call 1 (opens 15 0x8A 0x00) ⇒ done
    ∷ call 1 last_error ⇒ gives 0x07
    ∷ call 1 (opens 15 0x8A 0x00) ⇒ code 0x14
    ∷ call 1 last_error ⇒ gives 0x14
    ∷ call 1 (opens 16 0x8A 0x00) ⇒ code 0x0A
    ∷ call 1 last_error ⇒ gives 0x0A
    ∷ call 1 disconnect ⇒ done
    ∷ up 15 0x8A 15 0x00
    ++ call 1 last_error ⇒ gives 0
    ∷ nothing_yet
    ++ call 1 last_error ⇒ gives 0x10
    ∷ call 1 (link_receive (room 511)) ⇒ says 0x04 0 (room 511)
    ∷ call 1 last_error ⇒ gives 0x04
    ∷ call 1 (link_send (0x31 ∷ [])) ⇒ done
    ∷ call 1 (link_send (0x31 ∷ [])) ⇒ code 0x11
    ∷ each 3 (λ k. we (0x10 ∷ 0x31 ∷ []) ++ wait 100000)
    ++ we (0xA8 ∷ [])
    ++ they (0xA8 ∷ [])
    ++ call 1 last_error ⇒ gives 0x11
    ∷ call 1 (link_send (0x31 ∷ [])) ⇒ code 0x07
    ∷ call 1 last_error ⇒ gives 0x07
    ∷ [])
unfolding answered
last_codes = as_told refl

-- disconnect and close take the connection along without a telegram, and the next connect begins with none
pub connected_anew : Happens
    (up 15 0x8A 15 0x00
    ++ call 1 (link_send (bytes 1 29)) ⇒ done
    ∷ still_flying (0x20 ∷ bytes 1 7)
    ++ call 1 disconnect ⇒ done
    ∷ call 1 link_end ⇒ code 0x02
    ∷ call 1 (link_receive (room 512)) ⇒ says 0x02 0 (room 512)
    ∷ connect 0 5 0 500000 ⇒ gives 1
    ∷ call 1 sent ⇒ code 0x07
    ∷ quiet
    ++ they (0x10 ∷ 0x41 ∷ [])
    ++ wait 1000000
    ++ quiet
    ++ call 1 (link_receive (room 512)) ⇒ says 0x07 0 (room 512)
    ∷ no_connection
    ++ close ⇒ done
    ∷ up 15 0x8A 15 0x00
    ++ close ⇒ done
    ∷ connect 0 5 0 500000 ⇒ gives 1
    ∷ no_connection
    ++ call 1 (opens 15 0x8A 0x00) ⇒ done
    ∷ set_up)
unfolding answered
connected_anew = as_told refl
