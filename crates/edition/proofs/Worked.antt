-- Worked beginnings of recordings: which have the mark, the rates that they take, and where their events begin. Assumes nothing.
use Prim.Native.Nat.{ℕ}
use mathlib.Core.List.{List, [], ◌∷◌, map}
use mathlib.Core.Path.{◌≡◌, refl}
use Rattle.machine.specs.Codes.{three_rates, two_rates}
use Rattle.edition.specs.Edition.{marked, rates_of, start_of}

-- the rates and the start of a recording
abbrev begins : List ℕ → List ℕ × ℕ
begins recording = (rates_of recording, start_of recording)

-- the mark alone, before a close, and twice; nothing, a byte alone, a close; editions 0, 1, 3 and 300; the mark after a close, and in longer forms
pub worked :
    map begins
    ((0 ∷ 2 ∷ [])
    ∷ (0 ∷ 2 ∷ 3 ∷ [])
    ∷ (0 ∷ 2 ∷ 0 ∷ 2 ∷ [])
    ∷ []
    ∷ (0 ∷ [])
    ∷ (2 ∷ [])
    ∷ (3 ∷ [])
    ∷ (0 ∷ 0 ∷ [])
    ∷ (0 ∷ 1 ∷ 3 ∷ [])
    ∷ (0 ∷ 3 ∷ [])
    ∷ (0 ∷ 0xAC ∷ 2 ∷ [])
    ∷ (3 ∷ 0 ∷ 2 ∷ [])
    ∷ (0 ∷ 0x82 ∷ 0 ∷ [])
    ∷ (0x80 ∷ 0 ∷ 2 ∷ [])
    ∷ [])
    ≡ (two_rates, 2) ∷ (two_rates, 2) ∷ (two_rates, 2) ∷ (three_rates, 0) ∷ (three_rates, 0) ∷ (three_rates, 0) ∷ (three_rates, 0) ∷ (three_rates, 0) ∷ (three_rates, 0)
    ∷ (three_rates, 0) ∷ (three_rates, 0) ∷ (three_rates, 0) ∷ (three_rates, 0) ∷ (three_rates, 0) ∷ []
unfolding marked rates_of start_of
worked = refl
