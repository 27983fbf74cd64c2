-- Worked traces of request P9, decided on the identifier alone: the codes, and a width that the connection doesn't take. What the filters answer is
-- shown for all of them (`exactly`), since no trace can try every data. Assumes nothing.
use mathlib.Core.Path.{refl}
use Prim.Native.Nat.{◌+◌, ◌-◌}
use mathlib.Core.List.{[], ◌∷◌, ◌++◌}
use Rattle.machine.specs.Channel.{says, last_error, disconnect, decide}
use Rattle.machine.specs.Step.{connect, call, frame, advance, close}
use Rattle.machine.proofs.Traces.Words.{◌⇒◌, answered, Happens, as_told, done, gives, code, everything}

-- a closed channel; a width mark over 1, an identifier out of range; a refusal is the channel's last code, an answer is not; a width that the
-- connection doesn't take is dropped, whatever the filters say
pub codes : Happens
    (call 1 (decide 0 1) ⇒ code 0x02
    ∷ connect 0 5 0 500000 ⇒ gives 1
    ∷ connect 1 5 0x100 500000 ⇒ gives 2
    ∷ call 1 (everything 1 0) ⇒ gives 1
    ∷ call 2 (everything 1 0x100) ⇒ gives 1
    ∷ call 1 (decide 2 1) ⇒ code 0x0A
    ∷ call 1 last_error ⇒ gives 0x0A
    ∷ call 2 last_error ⇒ gives 0
    ∷ call 1 (decide 0 0x800) ⇒ code 0x0A
    ∷ call 2 (decide 1 0x20000000) ⇒ code 0x0A
    ∷ call 2 (decide 0 0x800) ⇒ code 0x0A
    ∷ call 1 (decide 1 1) ⇒ gives 0
    ∷ call 1 (decide 1 0x1FFFFFFF) ⇒ gives 0
    ∷ call 2 (decide 0 0x7FF) ⇒ gives 0
    ∷ call 2 (decide 0 0) ⇒ gives 0
    ∷ call 1 last_error ⇒ gives 0x0A
    ∷ call 1 disconnect ⇒ done
    ∷ call 1 (decide 1 1) ⇒ code 0x02
    ∷ [])
unfolding answered
codes = as_told refl
