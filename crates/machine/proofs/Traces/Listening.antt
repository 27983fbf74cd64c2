-- Worked traces of request P14: listeners, with the readings' examples 1 and 3, what they hear, their stores, and flags that are none's. Assumes nothing.
use mathlib.Core.Path.{refl}
use Prim.Native.Nat.{ℕ}
use mathlib.Core.List.{List, [], ◌∷◌, ◌++◌}
use Rattle.machine.specs.Channel.{says, Call, disconnect, start_periodic, stop_periodic, write, read, take_next, sent, clear, get_parameter, set_parameter, last_error, get_list, set_list, link_open, link_send, link_receive, link_end, save_setup, load_setup}
use Rattle.machine.specs.Step.{connect, call, frame, advance}
use Rattle.machine.proofs.Traces.Words.{◌⇒◌, answered, Happens, as_told, done, gives, code, room, message, got, everything}

-- example 1: connect, write of 0, take, sent, read, clear 1, stop periodic, set loopback, connect again
pub first_example : Happens
    (connect 0 5 0x1000_0000 500000 ⇒ gives 1
    ∷ call 1 (write 0 []) ⇒ code 0x01
    ∷ call 1 (take_next (room 36)) ⇒ says 0x01 0 (room 36)
    ∷ call 1 sent ⇒ code 0x01
    ∷ call 1 (read 1 (room 36)) ⇒ says 0x10 0 (room 36)
    ∷ call 1 (clear 1) ⇒ done
    ∷ call 1 (stop_periodic 1) ⇒ code 0x0D
    ∷ call 1 (set_parameter 3 1) ⇒ done
    ∷ connect 0 5 0 500000 ⇒ code 0x14
    ∷ [])
unfolding answered
first_example = as_told refl

-- example 3: a take with no room is 0x01 on a listener, 0x02 on a closed channel, 0x04 on another; so are the other calls that speak out, and 0x01 is
-- the last code
abbrev opens : Call
opens = link_open (record { own = 0x200; destination = 0x01; rx_id = 0x300; application = 0x01; block_size = 15; t1 = 0; t3 = 0 })

pub third_example : Happens
    (connect 0 5 0x1000_0000 500000 ⇒ gives 1
    ∷ connect 2 5 0 500000 ⇒ gives 3
    ∷ call 1 (take_next []) ⇒ code 0x01
    ∷ call 2 (take_next []) ⇒ code 0x02
    ∷ call 3 (take_next []) ⇒ code 0x04
    ∷ call 1 (write 1 []) ⇒ code 0x01
    ∷ call 3 (write 1 []) ⇒ code 0x04
    ∷ call 1 (start_periodic [] 1) ⇒ code 0x01
    ∷ call 2 (start_periodic [] 1) ⇒ code 0x02
    ∷ call 3 (start_periodic [] 1) ⇒ code 0x04
    ∷ call 1 (start_periodic (message 0 0x7DF (0x01 ∷ [])) 100) ⇒ code 0x01
    ∷ call 2 sent ⇒ code 0x02
    ∷ call 1 (link_receive []) ⇒ code 0x01
    ∷ call 3 (link_receive []) ⇒ code 0x04
    ∷ call 1 opens ⇒ code 0x01
    ∷ call 1 (link_send (0x10 ∷ [])) ⇒ code 0x01
    ∷ call 1 link_end ⇒ code 0x01
    ∷ call 3 link_end ⇒ code 0x07
    ∷ call 2 link_end ⇒ code 0x02
    ∷ call 1 last_error ⇒ gives 0x01
    ∷ call 3 last_error ⇒ gives 0x07
    ∷ call 1 disconnect ⇒ done
    ∷ call 1 (take_next []) ⇒ code 0x02
    ∷ connect 0 5 0 500000 ⇒ gives 1
    ∷ call 1 (write 0 []) ⇒ done
    ∷ [])
unfolding answered
third_example = as_told refl

-- all else is as before: the flag alone takes narrow frames, beside the others the widths that they take; filters, parameters, clears; time passes
pub hears : Happens
    (connect 0 5 0x1000_0000 500000 ⇒ gives 1
    ∷ connect 1 5 0x1000_0100 500000 ⇒ gives 2
    ∷ connect 2 5 0x1000_0900 250000 ⇒ gives 3
    ∷ call 1 (everything 1 0x100) ⇒ code 0x0A
    ∷ call 1 (everything 1 0) ⇒ gives 1
    ∷ call 2 (everything 1 0) ⇒ code 0x0A
    ∷ call 2 (everything 1 0x100) ⇒ gives 1
    ∷ call 3 (everything 1 0) ⇒ gives 1
    ∷ call 3 (everything 1 0x100) ⇒ gives 2
    ∷ frame 0 0 0x7E8 (0x41 ∷ []) ⇒ done
    ∷ frame 0 1 0x7E8 [] ⇒ done
    ∷ advance 7 ⇒ done
    ∷ frame 1 1 0x18DA00F1 [] ⇒ done
    ∷ frame 2 0 0x7E9 [] ⇒ done
    ∷ call 1 (read 2 (room 72)) ⇒ says 0x09 1 (got 0 0 0x7E8 (0x41 ∷ []) ++ room 36)
    ∷ call 2 (read 1 (room 36)) ⇒ says 0x00 1 (got 0x100 7 0x18DA00F1 [])
    ∷ call 3 (read 1 (room 36)) ⇒ says 0x00 1 (got 0 7 0x7E9 [])
    ∷ call 1 (set_list ((3, 1) ∷ (1, 250000) ∷ [])) ⇒ done
    ∷ call 1 (get_list ((1, 0) ∷ (3, 0) ∷ [])) ⇒ says 0x00 0 (1 ∷ 250000 ∷ 3 ∷ 1 ∷ [])
    ∷ call 1 (clear 2) ⇒ done
    ∷ call 1 (clear 3) ⇒ done
    ∷ call 1 (clear 4) ⇒ done
    ∷ call 1 last_error ⇒ gives 0x09
    ∷ [])
unfolding answered
hears = as_told refl

-- its store has its flag, and loads on a listener of the same flags alone; one with a periodic on none
abbrev quiet : List ℕ
quiet = 0x02 ∷ 0x80 ∷ 0x80 ∷ 0x80 ∷ 0x80 ∷ 0x01 ∷ 0x00 ∷ 0x00 ∷ 0xA0 ∷ 0xC2 ∷ 0x1E ∷ 0x00 ∷ []

abbrev speaking : List ℕ
speaking = 0x02 ∷ 0x80 ∷ 0x80 ∷ 0x80 ∷ 0x80 ∷ 0x01 ∷ 0x00 ∷ 0x01 ∷ 0x01 ∷ message 0 0x7DF (0x01 ∷ []) ++ 0x64 ∷ 0xA0 ∷ 0xC2 ∷ 0x1E ∷ 0x00 ∷ []

abbrev ordinary : List ℕ
ordinary = 0x02 ∷ 0x00 ∷ 0x00 ∷ 0x01 ∷ 0x01 ∷ message 0 0x7DF (0x01 ∷ []) ++ 0x64 ∷ 0xA0 ∷ 0xC2 ∷ 0x1E ∷ 0x00 ∷ []

pub its_store : Happens
    (connect 0 5 0x1000_0000 500000 ⇒ gives 1
    ∷ connect 1 5 0 500000 ⇒ gives 2
    ∷ connect 2 5 0x1000_0800 500000 ⇒ gives 3
    ∷ call 1 (save_setup (room 12)) ⇒ says 0x00 12 quiet
    ∷ call 1 (load_setup quiet) ⇒ done
    ∷ call 2 (load_setup quiet) ⇒ code 0x0A
    ∷ call 3 (load_setup quiet) ⇒ code 0x0A
    ∷ call 1 (load_setup speaking) ⇒ code 0x0A
    ∷ call 1 (load_setup ordinary) ⇒ code 0x0A
    ∷ call 2 (load_setup ordinary) ⇒ done
    ∷ call 2 (take_next (room 36)) ⇒ says 0x00 0 (message 0 0x7DF (0x01 ∷ []))
    ∷ [])
unfolding answered
its_store = as_told refl

-- any bit but the three is 0x06, before 0x19 and 0x14
pub other_bits : Happens
    (connect 0 5 0x1000_0900 250000 ⇒ gives 1
    ∷ connect 1 5 0x1000_0001 500000 ⇒ code 0x06
    ∷ connect 1 5 0x2000_0000 500000 ⇒ code 0x06
    ∷ connect 1 5 0x3000_0000 500000 ⇒ code 0x06
    ∷ connect 1 5 0x0800_0000 1 ⇒ code 0x06
    ∷ connect 1 5 0x1000_0800 1 ⇒ code 0x19
    ∷ connect 4 5 0x1000_0800 500000 ⇒ code 0x13
    ∷ connect 0 5 0x1000_0800 500000 ⇒ code 0x14
    ∷ connect 1 4 0x1000_0000 500000 ⇒ code 0x03
    ∷ connect 3 5 0x1000_0800 500000 ⇒ gives 4
    ∷ [])
unfolding answered
other_bits = as_told refl
