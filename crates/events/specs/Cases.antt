-- Worked examples of events whose records go by the channel that they name, as a table. The proof that they hold is in proofs/Cases. Assumes nothing.
use Rattle.std.specs.Prelude.{ℕ, List, [], ◌∷◌, ◌++◌, map, ◌≡◌, replicate}
use Rattle.std.specs.Prelude.{Some, None}
use Rattle.std.proofs.Math.Option.{Option, none, some}
use Rattle.codec.specs.Plain.{zeros}
use Rattle.machine.specs.Channel.{start_filter, start_flow, start_periodic, write, read, take_next}
use Rattle.machine.specs.Step as machine
use Rattle.machine.specs.Step.{call}
use Rattle.events.specs.Events.{read_event}
use Rattle.events.specs.Values.{said_by, read_values}
use Rattle.events.specs.Found.{Found, found_of}
use Rattle.events.specs.declared.Giving.TheVariants.{StartFilter, StartFlow, StartPeriodic}
use Rattle.events.specs.declared.Event.{Event}
use Rattle.events.specs.declared.Event.TheVariants.{Number, Write, Read, Take}

-- a recording, what the reader answers at its start, and what that stands for
pub record Case : Type 0 where
  pub bytes : List ℕ
  pub found : Found
  pub means : Option (machine.Event × ℕ)

abbrev pub good : List ℕ → Event → machine.Event → ℕ → Case
good b e m next = record { bytes = b; found = Some (e, next); means = some (m, next) }

abbrev pub bad : List ℕ → Case
bad b = record { bytes = b; found = None; means = none }

-- a raw record and an ISO 15765 record, of one byte again and again
abbrev pub short : ℕ → List ℕ
short b = replicate 36 b

abbrev pub long : ℕ → List ℕ
long b = replicate 536 b

-- a start of a filter on channel 1 with type 3; on channel 5 with type 1, without its flow, and with records of 36 bytes; a periodic on channels 4, 5,
-- 8 and 9, and one on channel 5 with a record of 36 bytes; a write on channels 0 and 8, and one of 65 records; a read of two on channels 4 and 8; a
-- take on channels 5 and 9
abbrev pub table : List Case
table =
    good (6 ∷ 1 ∷ 3 ∷ short 1 ++ short 2) (Number (StartFilter 1 3 3 39 75)) (call 1 (start_filter 3 (short 1) (short 2))) 75
    ∷ good (6 ∷ 5 ∷ 1 ∷ long 1 ++ (long 2 ++ long 3)) (Number (StartFlow 5 1 3 539 1075 1611)) (call 5 (start_flow 1 (long 1) (long 2) (long 3))) 1611
    ∷ bad (6 ∷ 5 ∷ 3 ∷ long 1 ++ long 2)
    ∷ bad (6 ∷ 5 ∷ 3 ∷ short 1 ++ (short 2 ++ short 3))
    ∷ good (8 ∷ 4 ∷ short 1 ++ (9 ∷ [])) (Number (StartPeriodic 4 2 38 9)) (call 4 (start_periodic (short 1) 9)) 39
    ∷ good (8 ∷ 5 ∷ long 1 ++ (9 ∷ [])) (Number (StartPeriodic 5 2 538 9)) (call 5 (start_periodic (long 1) 9)) 539
    ∷ good (8 ∷ 8 ∷ long 1 ++ (9 ∷ [])) (Number (StartPeriodic 8 2 538 9)) (call 8 (start_periodic (long 1) 9)) 539
    ∷ good (8 ∷ 9 ∷ short 1 ++ (9 ∷ [])) (Number (StartPeriodic 9 2 38 9)) (call 9 (start_periodic (short 1) 9)) 39
    ∷ bad (8 ∷ 5 ∷ short 1 ++ (9 ∷ []))
    ∷ good (10 ∷ 0 ∷ 1 ∷ short 1) (Write 0 1 3 39) (call 0 (write 1 (short 1))) 39
    ∷ good (10 ∷ 8 ∷ 1 ∷ long 1) (Write 8 1 3 539) (call 8 (write 1 (long 1))) 539
    ∷ bad (10 ∷ 8 ∷ 65 ∷ [])
    ∷ good (11 ∷ 4 ∷ 2 ∷ []) (Read 4 2) (call 4 (read 2 (zeros 72))) 3
    ∷ good (11 ∷ 8 ∷ 2 ∷ []) (Read 8 2) (call 8 (read 2 (zeros 1072))) 3
    ∷ good (12 ∷ 5 ∷ []) (Take 5) (call 5 (take_next (zeros 536))) 2
    ∷ good (12 ∷ 9 ∷ []) (Take 9) (call 9 (take_next (zeros 36))) 2
    ∷ []

-- each recording begins with the event that the table says, the reader's answer stands for it, and has its values
pub record CasesHold : Type 0 where
  pub read_so : map (λ (c : Case). read_event c.bytes 0) table ≡ map (λ (c : Case). c.means) table
  pub found_so : map (λ (c : Case). found_of c.bytes c.found) table ≡ map (λ (c : Case). c.means) table
  pub said_so : map (λ (c : Case). said_by c.found) table ≡ map (λ (c : Case). read_values c.bytes 0) table
