-- Worked traces of one ISO 15765 channel: connect, configuration, lists, buffers, clear, and what went wrong last. Assumes nothing.
use mathlib.Core.Path.{refl}
use mathlib.Core.List.{[], ◌∷◌, ◌++◌}
use lib.ListN.{replicate}
use Rattle.machine.specs.Channel.{says, disconnect, start_filter, start_flow, stop_filter, start_periodic, stop_periodic, write, read, take_next, sent, clear, get_parameter, set_parameter, last_error, get_list, set_list, flat}
use Rattle.machine.specs.Step.{connect, call, frame, advance, close}
use Rattle.iso.proofs.Traces.Words.{◌⇒◌, answered, Happens, as_told, HappensNow, as_told_now, done, gives, code, room, raw536, message6, lent6, got6, told6, talk, took, took_none, count}

-- example 1, as far as it is this channel's: the tests of a connect in order, the listeners' flag among the bad ones, its own rate, parameters, disconnect and close
pub connecting : Happens
    (call 5 sent ⇒ code 0x02
    ∷ connect 0 7 1 1 ⇒ code 0x03
    ∷ connect 0 262 0 500000 ⇒ code 0x03
    ∷ connect 0 6 1 1 ⇒ code 0x06
    ∷ connect 0 6 0x1000_0000 500000 ⇒ code 0x06
    ∷ connect 0 6 0x1000_0900 1 ⇒ code 0x06
    ∷ connect 0 6 0 1 ⇒ code 0x19
    ∷ connect 0 6 0 500000 ⇒ gives 5
    ∷ connect 0 6 0 1 ⇒ code 0x19
    ∷ connect 0 6 0x800 250000 ⇒ code 0x14
    ∷ call 5 (get_parameter 1) ⇒ gives 500000
    ∷ call 5 (get_parameter 0x1E) ⇒ code 0x01
    ∷ call 5 (set_parameter 0x1F 1) ⇒ code 0x01
    ∷ call 5 (set_parameter 1 125000) ⇒ done
    ∷ call 5 (set_parameter 1 125001) ⇒ code 0x05
    ∷ call 5 (get_parameter 1) ⇒ gives 125000
    ∷ call 5 (set_parameter 3 1) ⇒ done
    ∷ call 5 (set_parameter 3 2) ⇒ code 0x05
    ∷ call 5 (get_parameter 3) ⇒ gives 1
    ∷ call 5 disconnect ⇒ done
    ∷ call 5 disconnect ⇒ code 0x02
    ∷ connect 3 6 0x900 125000 ⇒ gives 8
    ∷ call 8 (get_parameter 3) ⇒ gives 0
    ∷ close ⇒ done
    ∷ call 8 sent ⇒ code 0x02
    ∷ [])
unfolding answered
connecting = as_told refl

-- with the two rates of now 125,000 is refused
pub retired : HappensNow
    (connect 0 6 0 125000 ⇒ code 0x19
    ∷ connect 0 6 0x100 250000 ⇒ gives 5
    ∷ call 5 (set_parameter 1 125000) ⇒ code 0x05
    ∷ call 5 (get_parameter 1) ⇒ gives 250000
    ∷ [])
unfolding answered
retired = as_told_now refl

-- a channel that is not open, whatever is lent
pub closed : Happens
    (call 5 (read 2 (room 3)) ⇒ says 0x02 0 (room 3)
    ∷ call 5 (take_next []) ⇒ code 0x02
    ∷ call 6 (start_flow 1 [] [] []) ⇒ code 0x02
    ∷ call 7 (write 2 (room 1)) ⇒ code 0x02
    ∷ call 8 (start_periodic [] 1) ⇒ code 0x02
    ∷ call 5 last_error ⇒ code 0x02
    ∷ call 5 (get_list ((1, 6) ∷ [])) ⇒ says 0x02 0 (flat ((1, 6) ∷ []))
    ∷ frame 0 0 0x641 (0x01 ∷ 0x50 ∷ []) ⇒ done
    ∷ advance 1000000 ⇒ done
    ∷ close ⇒ done
    ∷ [])
unfolding answered
closed = as_told refl

-- 536 bytes a record, before anything else is looked at; a longer buffer keeps its other bytes; a read of none
pub short_buffers : Happens
    (connect 0 6 0 500000 ⇒ gives 5
    ∷ call 5 (start_flow 1 (room 535) (room 536) (room 536)) ⇒ code 0x04
    ∷ call 5 (start_flow 1 (room 536) (room 535) (room 536)) ⇒ code 0x04
    ∷ call 5 (start_flow 1 (room 536) (room 536) (room 535)) ⇒ code 0x04
    ∷ call 5 (start_filter 1 (room 536) (room 536)) ⇒ code 0x04
    ∷ call 5 (start_periodic (room 535) 1) ⇒ code 0x04
    ∷ call 5 (write 2 (lent6 0 0x241 (1 ∷ []) ++ room 535)) ⇒ code 0x04
    ∷ call 5 (take_next (room 535)) ⇒ says 0x04 0 (room 535)
    ∷ call 5 (read 2 (room 1071)) ⇒ says 0x04 0 (room 1071)
    ∷ call 5 (read 0 (room 1)) ⇒ says 0x00 0 (room 1)
    ∷ call 5 (read 1 (room 536)) ⇒ says 0x10 0 (room 536)
    ∷ call 5 (write 0 []) ⇒ done
    ∷ call 5 (write 1 (lent6 0 0x241 (1 ∷ []) ++ room 3)) ⇒ gives 1
    ∷ call 5 (take_next (room 537)) ⇒ says 0x00 0 (message6 0 0x241 (1 ∷ 1 ∷ []) ++ room 1)
    ∷ call 5 sent ⇒ done
    ∷ call 5 (read 1 (room 538)) ⇒ says 0x00 1 (told6 9 0 0x241 ++ room 2)
    ∷ [])
unfolding answered
short_buffers = as_told refl

-- clear 1, 2 and 3 leave a reception and its go-on, clear 1 the flight, clear 2 what is written; no periodics here
pub clear_kinds : Happens
    (connect 0 6 0 500000 ⇒ gives 5
    ∷ talk 5 0 0x641 0x241 ⇒ gives 1
    ∷ frame 0 0 0x641 (0x10 ∷ 8 ∷ count 1 6) ⇒ done
    ∷ call 5 (write 2 (lent6 0 0x241 (1 ∷ []) ++ lent6 0 0x241 (2 ∷ []))) ⇒ gives 2
    ∷ call 5 (clear 2) ⇒ done
    ∷ call 5 (clear 3) ⇒ done
    ∷ call 5 (clear 0) ⇒ code 0x0F
    ∷ call 5 (clear 5) ⇒ code 0x0F
    ∷ call 5 (clear 257) ⇒ code 0x0F
    ∷ took 0x241 (0x30 ∷ 0 ∷ 0 ∷ [])
    ∷ call 5 sent ⇒ done
    ∷ took 0x241 (1 ∷ 1 ∷ [])
    ∷ call 5 (clear 1) ⇒ done
    ∷ took 0x241 (1 ∷ 1 ∷ [])
    ∷ call 5 sent ⇒ done
    ∷ took_none
    ∷ frame 0 0 0x641 (0x21 ∷ 7 ∷ 8 ∷ []) ⇒ done
    ∷ call 5 (read 3 (room 1608)) ⇒ says 0x09 2 (told6 9 0 0x241 ++ got6 0 0 0x641 (count 1 8) ++ room 536)
    ∷ call 5 (start_periodic (lent6 0 0x241 (1 ∷ [])) 5) ⇒ code 0x01
    ∷ call 5 (start_periodic (room 536) 1) ⇒ code 0x01
    ∷ call 5 (stop_periodic 1) ⇒ code 0x0D
    ∷ call 5 (stop_periodic 0) ⇒ code 0x0D
    ∷ [])
unfolding answered
clear_kinds = as_told refl

-- what went wrong last: 0 after connect; kept over a 0x00 and over being asked for; frames, advances and other refused connects don't count
pub last_kept : Happens
    (connect 0 6 0 500000 ⇒ gives 5
    ∷ call 5 last_error ⇒ gives 0
    ∷ call 5 (start_periodic (room 536) 1) ⇒ code 0x01
    ∷ call 5 last_error ⇒ gives 0x01
    ∷ call 5 (stop_periodic 1) ⇒ code 0x0D
    ∷ call 5 (clear 3) ⇒ done
    ∷ frame 0 2 0x641 [] ⇒ code 0x0A
    ∷ frame 0 0 0x641 [] ⇒ done
    ∷ advance 1000001 ⇒ code 0x0B
    ∷ advance 1000000 ⇒ done
    ∷ connect 0 6 1 500000 ⇒ code 0x06
    ∷ connect 0 6 0 1 ⇒ code 0x19
    ∷ call 5 last_error ⇒ gives 0x0D
    ∷ call 5 last_error ⇒ gives 0x0D
    ∷ connect 0 6 0 500000 ⇒ code 0x14
    ∷ call 5 last_error ⇒ gives 0x14
    ∷ call 5 disconnect ⇒ done
    ∷ call 5 last_error ⇒ code 0x02
    ∷ connect 0 6 0 500000 ⇒ gives 5
    ∷ call 5 last_error ⇒ gives 0
    ∷ [])
unfolding answered
last_kept = as_told refl

-- every other code of a call is kept, results too: a write with a count, a read of fewer than asked
pub last_codes : Happens
    (connect 0 6 0 500000 ⇒ gives 5
    ∷ call 5 (write 1 (lent6 0 0x241 (count 1 8))) ⇒ code 0x17
    ∷ call 5 last_error ⇒ gives 0x17
    ∷ talk 5 0 0x641 0x241 ⇒ gives 1
    ∷ talk 5 0 0x641 0x242 ⇒ code 0x18
    ∷ call 5 last_error ⇒ gives 0x18
    ∷ call 5 (write 2 (lent6 0 0x241 (1 ∷ []) ++ raw536 5 0 0 0 5 5 [])) ⇒ says 0x15 1 []
    ∷ call 5 last_error ⇒ gives 0x15
    ∷ call 5 (take_next (room 535)) ⇒ says 0x04 0 (room 535)
    ∷ call 5 last_error ⇒ gives 0x04
    ∷ took 0x241 (1 ∷ 1 ∷ [])
    ∷ call 5 sent ⇒ done
    ∷ call 5 sent ⇒ code 0x07
    ∷ call 5 last_error ⇒ gives 0x07
    ∷ took_none
    ∷ call 5 last_error ⇒ gives 0x10
    ∷ call 5 (read 2 (room 1072)) ⇒ says 0x09 1 (told6 9 0 0x241 ++ room 536)
    ∷ call 5 last_error ⇒ gives 0x09
    ∷ call 5 (stop_filter 2) ⇒ code 0x16
    ∷ call 5 last_error ⇒ gives 0x16
    ∷ [])
unfolding answered
last_codes = as_told refl

-- lists of parameters: in order, up to the first refused pair, whose code is the list's; at most 16 pairs
pub lists : Happens
    (connect 0 6 0 500000 ⇒ gives 5
    ∷ call 5 (set_list ((3, 1) ∷ (1, 250000) ∷ (9, 0) ∷ (3, 0) ∷ [])) ⇒ code 0x01
    ∷ call 5 last_error ⇒ gives 0x01
    ∷ call 5 (get_list ((3, 77) ∷ (9, 78) ∷ (1, 79) ∷ [])) ⇒ says 0x01 0 (flat ((3, 1) ∷ (9, 78) ∷ (1, 79) ∷ []))
    ∷ call 5 (set_list ((1, 500000) ∷ (3, 2) ∷ (3, 0) ∷ [])) ⇒ code 0x05
    ∷ call 5 (get_list ((1, 0) ∷ (3, 0) ∷ [])) ⇒ says 0x00 0 (flat ((1, 500000) ∷ (3, 1) ∷ []))
    ∷ call 5 last_error ⇒ gives 0x05
    ∷ call 5 (set_list ((3, 1) ∷ (3, 0) ∷ [])) ⇒ done
    ∷ call 5 (get_parameter 3) ⇒ gives 0
    ∷ call 5 (set_list []) ⇒ done
    ∷ call 5 (get_list []) ⇒ done
    ∷ call 5 (set_list (replicate 17 (3, 1))) ⇒ code 0x04
    ∷ call 5 (get_list (replicate 17 (3, 6))) ⇒ says 0x04 0 (flat (replicate 17 (3, 6)))
    ∷ call 5 (get_parameter 3) ⇒ gives 0
    ∷ call 5 (set_list (replicate 16 (3, 1))) ⇒ done
    ∷ call 5 (get_list (replicate 16 (3, 6))) ⇒ says 0x00 0 (flat (replicate 16 (3, 1)))
    ∷ [])
unfolding answered
lists = as_told refl
