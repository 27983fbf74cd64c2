-- A message to send on any channel: the checks, by its protocol and the sizes that it may have, and the bytes of its clean record. Assumes nothing.
use Rattle.std.specs.Prelude.{ℕ, not, List, [], ◌∷◌, ◌++◌, length, eqb, ltb}
use Rattle.codec.specs.Plain.{within}
use Rattle.machine.specs.Codes.{code_of}
use Rattle.machine.specs.Message.{takes, id_of, id_limit, protocol_of, size_of, wide_of, data_of, clean}
use Rattle.records.specs.Cell.{numbers, padded}

unfoldable pub code_within : (protocol least most flags : ℕ) → List ℕ → ℕ
code_within protocol least most flags m =
    code_of
    ((not (eqb (protocol_of m) protocol), 0x15)
    ∷ (not (within least most (size_of m)), 0x0A)
    ∷ (not (takes flags (wide_of m)), 0x0A)
    ∷ (ltb (id_limit (wide_of m)) (id_of (data_of m)), 0x0A)
    ∷ [])

-- six numbers, then n bytes: the data and zeros
unfoldable pub clean_bytes : (protocol n : ℕ) → List ℕ → List ℕ
clean_bytes protocol n m =
    numbers protocol 0 (clean m).tx 0 (length (data_of m)) (length (data_of m)) ++ padded n (data_of m)
