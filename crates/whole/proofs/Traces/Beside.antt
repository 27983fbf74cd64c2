-- Two channels on one line, and eight in one box. 0x641 is the partner's identifier, 0x241 ours. Assumes nothing.
use mathlib.Core.Path.{refl}
use mathlib.Core.List.{[], ◌∷◌, ◌++◌}
use Rattle.machine.specs.Channel.{says, disconnect, start_flow, stop_filter, write, read, take_next, sent, get_parameter, set_parameter, last_error}
use Rattle.machine.specs.Step.{connect, call, frame, advance, close}
use Rattle.whole.proofs.Traces.Words.{◌⇒◌, answered, Happens, as_told, done, gives, code, room, message, got, everything, message6, got6, told6, talk}

-- example 1 of the readings: both channels of line 0, each its own rate; the second connect 0x14; the order of connect's codes; lines and protocols
pub connects : Happens
    (connect 0 6 0 500000 ⇒ gives 5
    ∷ connect 0 5 0x100 250000 ⇒ gives 1
    ∷ connect 0 6 0 500000 ⇒ code 0x14
    ∷ call 5 (get_parameter 1) ⇒ gives 500000
    ∷ call 1 (get_parameter 1) ⇒ gives 250000
    ∷ call 5 (set_parameter 1 250000) ⇒ done
    ∷ call 1 (set_parameter 3 1) ⇒ done
    ∷ call 5 (get_parameter 3) ⇒ gives 0
    ∷ call 5 (get_parameter 0x1E) ⇒ code 0x01
    ∷ connect 9 7 1 1 ⇒ code 0x03
    ∷ connect 9 6 1 1 ⇒ code 0x06
    ∷ connect 9 6 0 1 ⇒ code 0x19
    ∷ connect 4 6 0 500000 ⇒ code 0x13
    ∷ connect 4 5 0 500000 ⇒ code 0x13
    ∷ connect 0 262 0 500000 ⇒ code 0x03
    ∷ connect 3 6 0x900 125000 ⇒ gives 8
    ∷ connect 1 6 0x800 125000 ⇒ gives 6
    ∷ connect 2 6 0x100 250000 ⇒ gives 7
    ∷ call 9 sent ⇒ code 0x02
    ∷ call 0 sent ⇒ code 0x02
    ∷ call 261 sent ⇒ code 0x02
    ∷ call 8 sent ⇒ code 0x07
    ∷ call 4 sent ⇒ code 0x02
    ∷ call 8 disconnect ⇒ done
    ∷ call 8 sent ⇒ code 0x02
    ∷ call 7 sent ⇒ code 0x07
    ∷ close ⇒ done
    ∷ call 5 sent ⇒ code 0x02
    ∷ call 1 sent ⇒ code 0x02
    ∷ connect 0 6 0 500000 ⇒ gives 5
    ∷ [])
unfolding answered
connects = as_told refl

-- a frame goes to both channels of its line and to no other; each decides alone, and what one sends the other doesn't receive
pub hears : Happens
    (connect 0 6 0 500000 ⇒ gives 5
    ∷ connect 0 5 0 500000 ⇒ gives 1
    ∷ connect 1 6 0 500000 ⇒ gives 6
    ∷ talk 5 0 0x641 0x241 ⇒ gives 1
    ∷ talk 6 0 0x641 0x241 ⇒ gives 1
    ∷ call 1 (everything 1 0) ⇒ gives 1
    ∷ advance 7 ⇒ done
    ∷ frame 0 0 0x641 (0x02 ∷ 0x50 ∷ 0x03 ∷ []) ⇒ done
    ∷ frame 0 0 0x700 (0x02 ∷ 0x50 ∷ 0x03 ∷ []) ⇒ done
    ∷ frame 4 0 0x641 (0x01 ∷ 0x50 ∷ []) ⇒ code 0x13
    ∷ call 5 (read 2 (room 1072)) ⇒ says 0x09 1 (got6 0 7 0x641 (0x50 ∷ 0x03 ∷ []) ++ room 536)
    ∷ call 1 (read 2 (room 72)) ⇒ says 0x00 2 (got 0 7 0x641 (0x02 ∷ 0x50 ∷ 0x03 ∷ []) ++ got 0 7 0x700 (0x02 ∷ 0x50 ∷ 0x03 ∷ []))
    ∷ call 6 (read 1 (room 536)) ⇒ says 0x10 0 (room 536)
    ∷ call 1 (set_parameter 3 1) ⇒ done
    ∷ call 5 (write 1 (message6 0 0x241 (7 ∷ []))) ⇒ gives 1
    ∷ call 1 (take_next (room 36)) ⇒ says 0x10 0 (room 36)
    ∷ call 5 (take_next (room 536)) ⇒ says 0x00 0 (message6 0 0x241 (1 ∷ 7 ∷ []))
    ∷ call 1 sent ⇒ code 0x07
    ∷ call 5 sent ⇒ done
    ∷ call 1 (read 1 (room 36)) ⇒ says 0x10 0 (room 36)
    ∷ call 5 (read 1 (room 536)) ⇒ says 0x00 1 (told6 9 7 0x241)
    ∷ [])
unfolding answered
hears = as_told refl

-- a transfer of one channel goes on while its neighbours come and go; time passes for all
pub goes_on : Happens
    (connect 0 6 0 500000 ⇒ gives 5
    ∷ connect 0 5 0 500000 ⇒ gives 1
    ∷ connect 1 6 0 500000 ⇒ gives 6
    ∷ talk 5 0 0x641 0x241 ⇒ gives 1
    ∷ frame 0 0 0x641 (0x10 ∷ 0x08 ∷ 1 ∷ 2 ∷ 3 ∷ 4 ∷ 5 ∷ 6 ∷ []) ⇒ done
    ∷ call 1 disconnect ⇒ done
    ∷ call 6 disconnect ⇒ done
    ∷ advance 999999 ⇒ done
    ∷ frame 0 0 0x641 (0x21 ∷ 7 ∷ 8 ∷ []) ⇒ done
    ∷ call 5 (read 2 (room 1072)) ⇒ says 0x00 2 (told6 2 0 0x641 ++ got6 0 999999 0x641 (1 ∷ 2 ∷ 3 ∷ 4 ∷ 5 ∷ 6 ∷ 7 ∷ 8 ∷ []))
    ∷ [])
unfolding answered
goes_on = as_told refl

-- what went wrong last stays with its channel; a connect in use is kept by the channel of its line and protocol
pub last_codes : Happens
    (connect 0 6 0 500000 ⇒ gives 5
    ∷ connect 0 5 0 500000 ⇒ gives 1
    ∷ call 5 (stop_filter 1) ⇒ code 0x16
    ∷ call 1 last_error ⇒ gives 0
    ∷ call 5 last_error ⇒ gives 0x16
    ∷ connect 0 5 0 500000 ⇒ code 0x14
    ∷ call 5 last_error ⇒ gives 0x16
    ∷ call 1 last_error ⇒ gives 0x14
    ∷ connect 0 6 0 500000 ⇒ code 0x14
    ∷ call 5 last_error ⇒ gives 0x14
    ∷ connect 0 6 1 500000 ⇒ code 0x06
    ∷ call 5 last_error ⇒ gives 0x14
    ∷ call 1 (start_flow 3 (message 0 0 []) (message 0 0 []) []) ⇒ code 0x16
    ∷ call 1 last_error ⇒ gives 0x16
    ∷ [])
unfolding answered
last_codes = as_told refl
