-- Worked examples of bad recordings, as a table. The proof that they hold is in proofs/Cases. Assumes nothing.
use Rattle.std.specs.Prelude.{ℕ, List, [], ◌∷◌, map, ◌≡◌}
use Rattle.codec.specs.Plain.{zeros}
use Rattle.fault.specs.declared.Fault.{Fault}
use Rattle.fault.specs.Fault.{cut_short, not_shortest, too_large, over_most, unknown, misplaced, other_edition, fault, nothing, fault_in}

-- a recording, and what is wrong with it
pub record Case : Type 0 where
  pub bytes : List ℕ
  pub told : Fault

abbrev pub case : List ℕ → Fault → Case
case b f = record { bytes = b; told = f }

-- nothing; the whole example of the scope; an event 17 after it; a close in two bytes; a connect that is cut short in its
-- rate, within a number and before one; a rate of 2 ^ 32; a read of 65; a frame with one byte of two; a close and a filter without its records;
-- the mark alone, before the whole example, and before a close and a byte 18; the mark twice, and behind a close; editions 0, 1, 3 and 300; event 0
-- without a number, with 2 in two bytes, and in two bytes itself; a start of a filter on channel 4, on channel 5 without its flow, with all but its
-- last byte, and whole; a periodic on channel 8 with a record of 36 bytes, one on channel 9; a write of one record on channel 8, and a byte too few of it
abbrev pub table : List Case
table =
    case [] nothing
    ∷ case (1 ∷ 0 ∷ 5 ∷ 0 ∷ 0xA0 ∷ 0xC2 ∷ 0x1E ∷ 11 ∷ 1 ∷ 1 ∷ []) nothing
    ∷ case (1 ∷ 0 ∷ 5 ∷ 0 ∷ 0xA0 ∷ 0xC2 ∷ 0x1E ∷ 11 ∷ 1 ∷ 1 ∷ 17 ∷ []) (fault unknown 3 10 10)
    ∷ case (3 ∷ 0x83 ∷ 0 ∷ []) (fault not_shortest 2 1 1)
    ∷ case (1 ∷ 0 ∷ 5 ∷ 0 ∷ 0xA0 ∷ []) (fault cut_short 1 0 4)
    ∷ case (1 ∷ 0 ∷ 5 ∷ 0 ∷ []) (fault cut_short 1 0 4)
    ∷ case (1 ∷ 0 ∷ 5 ∷ 0 ∷ 0x80 ∷ 0x80 ∷ 0x80 ∷ 0x80 ∷ 0x10 ∷ []) (fault too_large 1 0 4)
    ∷ case (11 ∷ 1 ∷ 65 ∷ []) (fault over_most 1 0 2)
    ∷ case (5 ∷ 0 ∷ 0 ∷ 1 ∷ 2 ∷ 9 ∷ []) (fault cut_short 1 0 5)
    ∷ case (3 ∷ 6 ∷ 1 ∷ 1 ∷ []) (fault cut_short 2 1 4)
    ∷ case (0 ∷ 2 ∷ []) nothing
    ∷ case (0 ∷ 2 ∷ 1 ∷ 0 ∷ 5 ∷ 0 ∷ 0xA0 ∷ 0xC2 ∷ 0x1E ∷ 11 ∷ 1 ∷ 1 ∷ []) nothing
    ∷ case (0 ∷ 2 ∷ 3 ∷ 18 ∷ []) (fault unknown 2 3 3)
    ∷ case (0 ∷ 2 ∷ 0 ∷ 2 ∷ []) (fault misplaced 1 2 2)
    ∷ case (3 ∷ 0 ∷ 2 ∷ []) (fault misplaced 2 1 1)
    ∷ case (0 ∷ 0 ∷ []) (fault other_edition 1 0 1)
    ∷ case (0 ∷ 1 ∷ 3 ∷ []) (fault other_edition 1 0 1)
    ∷ case (0 ∷ 3 ∷ []) (fault other_edition 1 0 1)
    ∷ case (0 ∷ 0xAC ∷ 2 ∷ []) (fault other_edition 1 0 1)
    ∷ case (0 ∷ []) (fault cut_short 1 0 1)
    ∷ case (0 ∷ 0x82 ∷ 0 ∷ []) (fault not_shortest 1 0 1)
    ∷ case (0x80 ∷ 0 ∷ 2 ∷ []) (fault not_shortest 1 0 0)
    ∷ case (6 ∷ 4 ∷ 3 ∷ zeros 72) nothing
    ∷ case (6 ∷ 5 ∷ 3 ∷ zeros 1072) (fault cut_short 1 0 1075)
    ∷ case (6 ∷ 5 ∷ 3 ∷ zeros 1607) (fault cut_short 1 0 1075)
    ∷ case (6 ∷ 5 ∷ 3 ∷ zeros 1608) nothing
    ∷ case (8 ∷ 8 ∷ zeros 37) (fault cut_short 1 0 2)
    ∷ case (8 ∷ 9 ∷ zeros 37) nothing
    ∷ case (10 ∷ 8 ∷ 1 ∷ zeros 536) nothing
    ∷ case (10 ∷ 8 ∷ 1 ∷ zeros 535) (fault cut_short 1 0 3)
    ∷ []

-- each is told as the table says
abbrev pub CasesHold : Type 0
CasesHold = map (λ (c : Case). fault_in c.bytes) table ≡ map (λ (c : Case). c.told) table
