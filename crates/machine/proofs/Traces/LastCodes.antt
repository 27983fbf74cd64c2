-- Worked traces of request P7: what went wrong last, per channel. Assumes nothing.
use mathlib.Core.Path.{refl}
use Prim.Native.Nat.{◌+◌, ◌-◌}
use mathlib.Core.List.{[], ◌∷◌, ◌++◌}
use lib.ListN.{replicate}
use Rattle.machine.specs.Channel.{says, disconnect, stop_filter, write, read, take_next, sent, clear, get_parameter, set_parameter, last_error}
use Rattle.machine.specs.Step.{connect, call, frame, advance, close}
use Rattle.machine.proofs.Traces.Words.{◌⇒◌, answered, Happens, as_told, done, gives, code, room, message, got, everything, each}

-- 0 after connect; a code other than 0x00 is kept, and 0x00 doesn't reset it; asking changes nothing, however often
pub kept : Happens
    (connect 0 5 0 500000 ⇒ gives 1
    ∷ call 1 last_error ⇒ gives 0
    ∷ call 1 (read 1 (room 36)) ⇒ says 0x10 0 (room 36)
    ∷ call 1 last_error ⇒ gives 0x10
    ∷ call 1 last_error ⇒ gives 0x10
    ∷ call 1 (read 0 (room 36)) ⇒ says 0x00 0 (room 36)
    ∷ call 1 (set_parameter 3 1) ⇒ done
    ∷ call 1 last_error ⇒ gives 0x10
    ∷ call 1 sent ⇒ code 0x07
    ∷ call 1 last_error ⇒ gives 0x07
    ∷ call 1 (get_parameter 2) ⇒ code 0x01
    ∷ call 1 last_error ⇒ gives 0x01
    ∷ call 1 (set_parameter 3 2) ⇒ code 0x05
    ∷ call 1 last_error ⇒ gives 0x05
    ∷ call 1 (clear 5) ⇒ code 0x0F
    ∷ call 1 last_error ⇒ gives 0x0F
    ∷ [])
unfolding answered
kept = as_told refl

-- bus frames and advances don't count, refused or not; nor does a connect that is refused with another code than 0x14, nor a call that names no open
-- channel, and asking there is 0x02
pub not_counted : Happens
    (connect 0 5 0 500000 ⇒ gives 1
    ∷ call 1 (stop_filter 1) ⇒ code 0x16
    ∷ frame 9 0 1 [] ⇒ code 0x13
    ∷ frame 0 2 1 [] ⇒ code 0x0A
    ∷ frame 0 0 1 [] ⇒ done
    ∷ advance 2000000 ⇒ code 0x0B
    ∷ advance 5 ⇒ done
    ∷ connect 0 6 0 500000 ⇒ code 0x03
    ∷ connect 0 5 1 500000 ⇒ code 0x06
    ∷ connect 0 5 0 1 ⇒ code 0x19
    ∷ connect 4 5 0 500000 ⇒ code 0x13
    ∷ call 2 (read 1 (room 36)) ⇒ says 0x02 0 (room 36)
    ∷ call 0 sent ⇒ code 0x02
    ∷ call 5 sent ⇒ code 0x02
    ∷ call 1 last_error ⇒ gives 0x16
    ∷ call 2 last_error ⇒ code 0x02
    ∷ call 0 last_error ⇒ code 0x02
    ∷ call 257 last_error ⇒ code 0x02
    ∷ [])
unfolding answered
not_counted = as_told refl

-- a connect of a channel in use is kept by that channel; results are kept too: a write with a count, a read of fewer than asked; a short buffer is
pub results : Happens
    (connect 0 5 0 500000 ⇒ gives 1
    ∷ connect 0 5 0x800 250000 ⇒ code 0x14
    ∷ call 1 last_error ⇒ gives 0x14
    ∷ call 1 (write 17 (each 17 (λ n. message 0 n []))) ⇒ says 0x11 16 []
    ∷ call 1 last_error ⇒ gives 0x11
    ∷ call 1 (take_next (room 35)) ⇒ says 0x04 0 (room 35)
    ∷ call 1 last_error ⇒ gives 0x04
    ∷ call 1 (everything 1 0) ⇒ gives 1
    ∷ frame 0 0 0x7E8 [] ⇒ done
    ∷ call 1 (read 2 (room 72)) ⇒ says 0x09 1 (got 0 0 0x7E8 [] ++ room 36)
    ∷ call 1 last_error ⇒ gives 0x09
    ∷ [])
unfolding answered
results = as_told refl

-- each channel its own; disconnect and close take it along, and the next connect begins with 0
pub ended : Happens
    (connect 0 5 0 500000 ⇒ gives 1
    ∷ connect 1 5 0 500000 ⇒ gives 2
    ∷ call 1 sent ⇒ code 0x07
    ∷ call 2 (clear 0) ⇒ code 0x0F
    ∷ call 1 last_error ⇒ gives 0x07
    ∷ call 2 last_error ⇒ gives 0x0F
    ∷ call 1 disconnect ⇒ done
    ∷ call 1 last_error ⇒ code 0x02
    ∷ connect 0 5 0 500000 ⇒ gives 1
    ∷ call 1 last_error ⇒ gives 0
    ∷ call 2 last_error ⇒ gives 0x0F
    ∷ close ⇒ done
    ∷ connect 1 5 0 500000 ⇒ gives 2
    ∷ call 2 last_error ⇒ gives 0
    ∷ [])
unfolding answered
ended = as_told refl
