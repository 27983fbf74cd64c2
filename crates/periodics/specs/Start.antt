-- The tests of a start. Assumes nothing.
use Rattle.std.specs.Prelude.{ℕ, not, List, [], ◌∷◌, eqb}
use Rattle.codec.specs.Plain.{within}
use Rattle.machine.specs.Codes.{code_of}
use Rattle.machine.specs.Message.{message_code}
use Rattle.machine.specs.Limits.{least_interval, most_interval}
use Rattle.machine.specs.Channel.{shorter}

-- the tests of a start that look at no place, in their order: the lent record, the interval, the message
unfoldable pub start_code : ℕ → List ℕ → ℕ → ℕ
start_code flags message interval =
    code_of
    ((shorter message 1, 0x04)
    ∷ (not (within least_interval most_interval interval), 0x0B)
    ∷ (not (eqb (message_code flags message) 0), message_code flags message)
    ∷ [])
