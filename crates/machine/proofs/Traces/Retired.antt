-- Worked traces of request P12 ("125,000 is retired"): the box of now, with its two rates, from power-on and on a device that still holds the old
-- one; and the same calls with the scope's three. Assumes nothing.
use mathlib.Core.Path.{refl}
use mathlib.Core.List.{List, [], ◌∷◌, ◌++◌}
use Rattle.machine.specs.Channel.{says, disconnect, write, read, take_next, sent, get_parameter, set_parameter}
use Rattle.machine.specs.Step.{Event, connect, call, frame, close}
use Rattle.machine.proofs.Traces.Words.{◌⇒◌, answered, Happens, HappensNow, as_told, as_told_now, done, gives, code, room, message, got, everything}

-- "Connect answers 0x19 and set answers 0x05 for it", each in its place of the order; a refused one changes nothing
pub retired : HappensNow []
    (connect 9 6 1 125000 ⇒ code 0x03
    ∷ connect 9 5 1 125000 ⇒ code 0x06
    ∷ connect 9 5 0 125000 ⇒ code 0x19
    ∷ connect 0 5 0 125000 ⇒ code 0x19
    ∷ call 1 (get_parameter 1) ⇒ code 0x02
    ∷ connect 0 5 0 250000 ⇒ gives 1
    ∷ connect 0 5 0 125000 ⇒ code 0x19
    ∷ connect 0 5 0 500000 ⇒ code 0x14
    ∷ call 2 (set_parameter 1 125000) ⇒ code 0x02
    ∷ call 1 (set_parameter 1 125000) ⇒ code 0x05
    ∷ call 1 (get_parameter 1) ⇒ gives 250000
    ∷ call 1 (set_parameter 1 500000) ⇒ done
    ∷ call 1 (set_parameter 1 125000) ⇒ code 0x05
    ∷ call 1 (get_parameter 1) ⇒ gives 500000
    ∷ call 1 (set_parameter 2 125000) ⇒ code 0x01
    ∷ call 1 (set_parameter 3 1) ⇒ done
    ∷ [])
unfolding answered
retired = as_told_now refl

-- channels 1 and 2 opened with the old rate, while it was taken
abbrev opened : List Event
opened = connect 0 5 0 125000 ∷ connect 1 5 0 125000 ∷ []

-- "the channel runs until disconnect": get gives the old rate, filters, traffic and loopback are as ever, set takes the other two and not the
-- old one, not even where it is still in force; after a disconnect, a close or a set it does not come back
pub runs_on : HappensNow opened
    (call 1 (get_parameter 1) ⇒ gives 125000
    ∷ call 1 (set_parameter 1 125000) ⇒ code 0x05
    ∷ connect 0 5 0 500000 ⇒ code 0x14
    ∷ call 1 (everything 1 0) ⇒ gives 1
    ∷ call 1 (set_parameter 3 1) ⇒ done
    ∷ call 1 (write 1 (message 0 0x7E0 [])) ⇒ gives 1
    ∷ call 1 (take_next (room 36)) ⇒ says 0x00 0 (message 0 0x7E0 [])
    ∷ call 1 sent ⇒ done
    ∷ frame 0 0 0x7E8 [] ⇒ done
    ∷ call 1 (read 2 (room 72)) ⇒ says 0x00 2 (got 1 0 0x7E0 [] ++ got 0 0 0x7E8 [])
    ∷ call 1 (get_parameter 1) ⇒ gives 125000
    ∷ call 1 (set_parameter 1 250000) ⇒ done
    ∷ call 1 (set_parameter 1 125000) ⇒ code 0x05
    ∷ call 1 (get_parameter 1) ⇒ gives 250000
    ∷ call 1 disconnect ⇒ done
    ∷ connect 0 5 0 125000 ⇒ code 0x19
    ∷ call 2 (get_parameter 1) ⇒ gives 125000
    ∷ call 2 (set_parameter 1 500000) ⇒ done
    ∷ close ⇒ done
    ∷ connect 1 5 0 125000 ⇒ code 0x19
    ∷ [])
unfolding answered
runs_on = as_told_now refl

-- "one without keeps 125,000 for ever": with the three rates connect and set take it
pub kept : Happens
    (connect 0 5 0 125000 ⇒ gives 1
    ∷ call 1 (set_parameter 1 250000) ⇒ done
    ∷ call 1 (set_parameter 1 125000) ⇒ done
    ∷ call 1 (get_parameter 1) ⇒ gives 125000
    ∷ call 1 disconnect ⇒ done
    ∷ connect 0 5 0 125000 ⇒ gives 1
    ∷ [])
unfolding answered
kept = as_told refl
