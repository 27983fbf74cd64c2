-- Worked traces of lists of parameters: pairs in order, the first refused one ends the list, at most 16 pairs. Assumes nothing.
use mathlib.Core.Path.{refl}
use mathlib.Core.List.{[], ◌∷◌}
use lib.ListN.{replicate}
use Rattle.machine.specs.Channel.{says, flat, get_parameter, last_error, get_list, set_list}
use Rattle.machine.specs.Step.{connect, call}
use Rattle.machine.proofs.Traces.Words.{◌⇒◌, answered, Happens, as_told, done, gives, code}

-- the readings' examples, one after the other: what a set leaves that a pair ended, a get that a pair ended, a bad value, a parameter twice, none
pub ended : Happens
    (connect 0 5 0 500000 ⇒ gives 1
    ∷ call 1 (set_list ((3, 1) ∷ (1, 250000) ∷ (9, 0) ∷ (3, 0) ∷ [])) ⇒ code 0x01
    ∷ call 1 (get_parameter 3) ⇒ gives 1
    ∷ call 1 (get_parameter 1) ⇒ gives 250000
    ∷ call 1 (get_list ((3, 77) ∷ (9, 78) ∷ (1, 79) ∷ [])) ⇒ says 0x01 0 (flat ((3, 1) ∷ (9, 78) ∷ (1, 79) ∷ []))
    ∷ call 1 (set_list ((1, 250000) ∷ (3, 2) ∷ (1, 500000) ∷ [])) ⇒ code 0x05
    ∷ call 1 (get_list ((1, 0) ∷ (3, 0) ∷ [])) ⇒ says 0x00 0 (flat ((1, 250000) ∷ (3, 1) ∷ []))
    ∷ call 1 (set_list ((3, 0) ∷ (3, 1) ∷ [])) ⇒ done
    ∷ call 1 (get_parameter 3) ⇒ gives 1
    ∷ call 1 (set_list ((3, 1) ∷ (3, 0) ∷ [])) ⇒ done
    ∷ call 1 (get_parameter 3) ⇒ gives 0
    ∷ call 1 (set_list []) ⇒ done
    ∷ call 1 (get_list []) ⇒ done
    ∷ call 1 (set_list ((2, 1) ∷ (3, 1) ∷ [])) ⇒ code 0x01
    ∷ call 1 (get_list ((259, 7) ∷ (3, 8) ∷ [])) ⇒ says 0x01 0 (flat ((259, 7) ∷ (3, 8) ∷ []))
    ∷ call 1 (get_parameter 3) ⇒ gives 0
    ∷ [])
unfolding answered
ended = as_told refl

-- "0 to 16, more giving 0x04": behind 0x02, before any pair; of 17 pairs none is set and none written
pub too_many : Happens
    (connect 0 5 0 500000 ⇒ gives 1
    ∷ call 1 (set_list (replicate 17 (3, 1))) ⇒ code 0x04
    ∷ call 1 (get_parameter 3) ⇒ gives 0
    ∷ call 1 (set_list (replicate 17 (9, 9))) ⇒ code 0x04
    ∷ call 1 (get_list (replicate 17 (1, 6))) ⇒ says 0x04 0 (flat (replicate 17 (1, 6)))
    ∷ call 1 (set_list (replicate 16 (3, 1))) ⇒ done
    ∷ call 1 (get_list (replicate 16 (3, 6))) ⇒ says 0x00 0 (flat (replicate 16 (3, 1)))
    ∷ call 2 (set_list (replicate 17 (3, 1))) ⇒ code 0x02
    ∷ call 2 (get_list (replicate 17 (1, 6))) ⇒ says 0x02 0 (flat (replicate 17 (1, 6)))
    ∷ call 2 (set_list []) ⇒ code 0x02
    ∷ call 5 (get_list ((1, 6) ∷ [])) ⇒ says 0x02 0 (flat ((1, 6) ∷ []))
    ∷ [])
unfolding answered
too_many = as_told refl

-- a list is one call with one code: the last code is the list's, and a list that is done leaves it
pub one_code : Happens
    (connect 0 5 0 500000 ⇒ gives 1
    ∷ call 1 (set_list ((3, 1) ∷ (1, 250000) ∷ [])) ⇒ done
    ∷ call 1 last_error ⇒ gives 0
    ∷ call 1 (set_list ((3, 0) ∷ (3, 2) ∷ (9, 0) ∷ [])) ⇒ code 0x05
    ∷ call 1 last_error ⇒ gives 0x05
    ∷ call 1 (get_list ((3, 6) ∷ (9, 6) ∷ [])) ⇒ says 0x01 0 (flat ((3, 0) ∷ (9, 6) ∷ []))
    ∷ call 1 last_error ⇒ gives 0x01
    ∷ call 1 (set_list (replicate 17 (3, 1))) ⇒ code 0x04
    ∷ call 1 (get_list ((3, 6) ∷ [])) ⇒ says 0x00 0 (flat ((3, 0) ∷ []))
    ∷ call 1 last_error ⇒ gives 0x04
    ∷ [])
unfolding answered
one_code = as_told refl
