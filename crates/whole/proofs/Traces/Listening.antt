-- Worked traces of request P14 on the whole box: the listeners' flag with either protocol, and a listener beside an ISO 15765 channel of its line. Assumes
-- nothing.
use mathlib.Core.Path.{refl}
use mathlib.Core.List.{[], ◌∷◌}
use Rattle.machine.specs.Channel.{write, sent, last_error}
use Rattle.machine.specs.Step.{connect, call}
use Rattle.whole.proofs.Traces.Words.{◌⇒◌, answered, Happens, as_told, done, gives, code}

-- the readings' example 2: with protocol 6 the flag is 0x06, behind 0x03 and before 0x19, alone or beside others; on raw CAN it is good
pub with_protocol6 : Happens
    (connect 0 6 0x1000_0000 500000 ⇒ code 0x06
    ∷ connect 0 5 0x1000_0900 500000 ⇒ gives 1
    ∷ connect 0 6 0x1000_0900 1 ⇒ code 0x06
    ∷ connect 9 6 0x1000_0100 1 ⇒ code 0x06
    ∷ connect 0 7 0x1000_0000 1 ⇒ code 0x03
    ∷ connect 0 6 0x900 1 ⇒ code 0x19
    ∷ connect 0 6 0x900 500000 ⇒ gives 5
    ∷ [])
unfolding answered
with_protocol6 = as_told refl

-- the two channels of a line: what the listener refuses the other does, and each keeps its own last code
pub beside_iso : Happens
    (connect 0 5 0x1000_0000 500000 ⇒ gives 1
    ∷ connect 0 6 0 500000 ⇒ gives 5
    ∷ call 1 (write 0 []) ⇒ code 0x01
    ∷ call 5 (write 0 []) ⇒ done
    ∷ call 1 sent ⇒ code 0x01
    ∷ call 5 sent ⇒ code 0x07
    ∷ call 1 last_error ⇒ gives 0x01
    ∷ call 5 last_error ⇒ gives 0x07
    ∷ [])
unfolding answered
beside_iso = as_told refl
