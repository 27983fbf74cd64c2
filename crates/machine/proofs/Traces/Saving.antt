-- Worked traces of request P13, saved set-ups: the codes, what a load replaces and what it leaves, and stores that are bad. Assumes nothing.
use mathlib.Core.Path.{refl}
use Prim.Native.Nat.{ℕ}
use mathlib.Core.List.{List, [], ◌∷◌, ◌++◌}
use Rattle.machine.specs.Channel.{says, start_filter, stop_filter, start_periodic, write, read, take_next, sent, get_parameter, set_parameter, last_error, save_setup, load_setup}
use Rattle.machine.specs.Step.{connect, call, frame, advance}
use Rattle.machine.proofs.Traces.Words.{◌⇒◌, answered, Happens, as_told, done, gives, code, room, raw, got, message, everything}

-- the stores of the first two examples
abbrev first : List ℕ
first = 0x02 ∷ 0x00 ∷ 0x00 ∷ 0x00 ∷ 0xA0 ∷ 0xC2 ∷ 0x1E ∷ 0x00 ∷ []

abbrev old : List ℕ
old = 0x01 ∷ 0x00 ∷ 0x00 ∷ 0xA0 ∷ 0xC2 ∷ 0x1E ∷ 0x00 ∷ []

abbrev second : List ℕ
second = 0x02 ∷ 0x80 ∷ 0x12 ∷ 0x00 ∷ 0x00 ∷ 0x90 ∷ 0xA1 ∷ 0x0F ∷ 0x00 ∷ []

-- nothing set: eight bytes with flags 0, nine with both; bytes beyond stay; a byte less of room is refused, and the room stays
pub nothing_set : Happens
    (call 1 (save_setup (room 8)) ⇒ says 0x02 0 (room 8)
    ∷ connect 0 5 0 500000 ⇒ gives 1
    ∷ connect 1 5 0x900 250000 ⇒ gives 2
    ∷ call 1 (save_setup (room 8)) ⇒ says 0x00 8 first
    ∷ call 1 (save_setup (room 10)) ⇒ says 0x00 8 (first ++ room 2)
    ∷ call 1 last_error ⇒ gives 0
    ∷ call 1 (save_setup (room 7)) ⇒ says 0x04 0 (room 7)
    ∷ call 1 last_error ⇒ gives 0x04
    ∷ call 2 (save_setup (room 9)) ⇒ says 0x00 9 second
    ∷ call 5 (save_setup (room 9)) ⇒ says 0x02 0 (room 9)
    ∷ [])
unfolding answered
nothing_set = as_told refl

-- bad stores: a byte behind, a byte less, version 3, other flags, loopback 2, a rate that set refuses, a number not in shortest form, a count over 10.
-- 0x0A is the last code, and a good load leaves it
pub bad_stores : Happens
    (call 1 (load_setup first) ⇒ code 0x02
    ∷ connect 0 5 0 250000 ⇒ gives 1
    ∷ connect 1 5 0x800 250000 ⇒ gives 2
    ∷ call 1 (load_setup (first ++ 0x00 ∷ [])) ⇒ code 0x0A
    ∷ call 1 (load_setup (0x02 ∷ 0x00 ∷ 0x00 ∷ 0x00 ∷ 0xA0 ∷ 0xC2 ∷ 0x1E ∷ [])) ⇒ code 0x0A
    ∷ call 1 (load_setup (0x03 ∷ 0x00 ∷ 0x00 ∷ 0x00 ∷ 0xA0 ∷ 0xC2 ∷ 0x1E ∷ 0x00 ∷ [])) ⇒ code 0x0A
    ∷ call 1 (load_setup (0x02 ∷ 0x01 ∷ 0x00 ∷ 0x00 ∷ 0xA0 ∷ 0xC2 ∷ 0x1E ∷ 0x00 ∷ [])) ⇒ code 0x0A
    ∷ call 1 (load_setup (0x02 ∷ 0x00 ∷ 0x00 ∷ 0x00 ∷ 0xA0 ∷ 0xC2 ∷ 0x1E ∷ 0x02 ∷ [])) ⇒ code 0x0A
    ∷ call 1 (load_setup (0x02 ∷ 0x00 ∷ 0x00 ∷ 0x00 ∷ 0x01 ∷ 0x00 ∷ [])) ⇒ code 0x0A
    ∷ call 1 (load_setup (0x02 ∷ 0x80 ∷ 0x00 ∷ 0x00 ∷ 0x00 ∷ 0xA0 ∷ 0xC2 ∷ 0x1E ∷ 0x00 ∷ [])) ⇒ code 0x0A
    ∷ call 1 (load_setup (0x02 ∷ 0x00 ∷ 0x0B ∷ 0x00 ∷ 0xA0 ∷ 0xC2 ∷ 0x1E ∷ 0x00 ∷ [])) ⇒ code 0x0A
    ∷ call 1 (load_setup []) ⇒ code 0x0A
    ∷ call 1 (get_parameter 1) ⇒ gives 250000
    ∷ call 1 last_error ⇒ gives 0x0A
    ∷ call 1 (load_setup first) ⇒ done
    ∷ call 1 last_error ⇒ gives 0x0A
    ∷ call 1 (get_parameter 1) ⇒ gives 500000
    ∷ call 1 (set_parameter 1 125000) ⇒ done
    ∷ call 1 (load_setup old) ⇒ done
    ∷ call 1 (get_parameter 1) ⇒ gives 500000
    ∷ call 2 (load_setup old) ⇒ code 0x0A
    ∷ call 2 (load_setup first) ⇒ code 0x0A
    ∷ call 2 (load_setup second) ⇒ code 0x0A
    ∷ [])
unfolding answered
bad_stores = as_told refl

-- a block filter of number 2 and a periodic: 120 bytes
abbrev asked : List ℕ
asked = message 0 0x7DF (0x02 ∷ 0x01 ∷ 0x0D ∷ [])

abbrev all4 : List ℕ
all4 = raw 5 0 0 0 4 4 (0xFF ∷ 0xFF ∷ 0xFF ∷ 0xFF ∷ [])

abbrev id4 : List ℕ
id4 = raw 5 0 0 0 4 4 (0x00 ∷ 0x00 ∷ 0x07 ∷ 0xE8 ∷ [])

abbrev third : ℕ → ℕ → List ℕ
third n loopback =
    0x02 ∷ 0x00 ∷ 0x01 ∷ n ∷ 0x02 ∷ (all4 ++ id4 ++ 0x01 ∷ 0x01 ∷ (asked ++ 0x64 ∷ 0xA0 ∷ 0xC2 ∷ 0x1E ∷ loopback ∷ []))

-- saved on channel 1, loaded on channel 2, which had filters 1 and 3: afterwards only filter 2, and the periodic is pending at once and due 100 ms
-- from now; on channel 3, which takes both widths, it is refused and its filters stay. A second load leaves what is in flight
pub saved_and_loaded : Happens
    (connect 0 5 0 500000 ⇒ gives 1
    ∷ connect 1 5 0 250000 ⇒ gives 2
    ∷ connect 2 5 0x800 500000 ⇒ gives 3
    ∷ call 1 (everything 1 0) ⇒ gives 1
    ∷ call 1 (start_filter 2 all4 id4) ⇒ gives 2
    ∷ call 1 (stop_filter 1) ⇒ done
    ∷ call 1 (start_periodic asked 100) ⇒ gives 1
    ∷ call 1 (take_next (room 36)) ⇒ says 0x00 0 asked
    ∷ call 1 sent ⇒ done
    ∷ call 1 (set_parameter 3 1) ⇒ done
    ∷ advance 30000 ⇒ done
    ∷ call 1 (save_setup (room 120)) ⇒ says 0x00 120 (third 2 1)
    ∷ call 1 (save_setup (room 119)) ⇒ says 0x04 0 (room 119)
    ∷ call 2 (everything 1 0) ⇒ gives 1
    ∷ call 2 (everything 1 0) ⇒ gives 2
    ∷ call 2 (everything 1 0) ⇒ gives 3
    ∷ call 2 (stop_filter 2) ⇒ done
    ∷ call 3 (everything 1 0) ⇒ gives 1
    ∷ call 2 (load_setup (third 0 1)) ⇒ code 0x0A
    ∷ call 2 (load_setup (third 11 1)) ⇒ code 0x0A
    ∷ call 2 (load_setup (third 2 2)) ⇒ code 0x0A
    ∷ call 2 (load_setup (third 2 1)) ⇒ done
    ∷ call 3 (load_setup (third 2 1)) ⇒ code 0x0A
    ∷ call 3 (stop_filter 1) ⇒ done
    ∷ call 2 (stop_filter 1) ⇒ code 0x16
    ∷ call 2 (stop_filter 3) ⇒ code 0x16
    ∷ call 2 (get_parameter 1) ⇒ gives 500000
    ∷ call 2 (get_parameter 3) ⇒ gives 1
    ∷ call 2 (save_setup (room 120)) ⇒ says 0x00 120 (third 2 1)
    ∷ call 2 (take_next (room 36)) ⇒ says 0x00 0 asked
    ∷ call 2 (load_setup (third 2 0)) ⇒ done
    ∷ call 2 sent ⇒ done
    ∷ call 2 (take_next (room 36)) ⇒ says 0x00 0 asked
    ∷ call 2 sent ⇒ done
    ∷ advance 99999 ⇒ done
    ∷ call 2 (take_next (room 36)) ⇒ says 0x10 0 (room 36)
    ∷ advance 1 ⇒ done
    ∷ call 2 (take_next (room 36)) ⇒ says 0x00 0 asked
    ∷ call 2 (stop_filter 2) ⇒ done
    ∷ [])
unfolding answered
saved_and_loaded = as_told refl

-- records that aren't clean, and what starting would refuse: TxFlags with another bit, extra index, a byte behind the data, type 3, an interval of 4,
-- a filter twice under one number, two in falling order
abbrev filters : List ℕ → List ℕ
filters body = 0x02 ∷ 0x00 ∷ (body ++ 0x00 ∷ 0xA0 ∷ 0xC2 ∷ 0x1E ∷ 0x00 ∷ [])

abbrev one : (type tx extra : ℕ) (mask : List ℕ) → List ℕ
one type tx extra mask = type ∷ (raw 5 0 tx 0 4 extra mask ++ raw 5 0 tx 0 4 extra (0x00 ∷ 0x00 ∷ 0x07 ∷ 0xE8 ∷ []))

abbrev mask4 : List ℕ
mask4 = 0xFF ∷ 0xFF ∷ 0xFF ∷ 0xFF ∷ []

pub not_clean : Happens
    (connect 0 5 0 500000 ⇒ gives 1
    ∷ call 1 (load_setup (filters (0x01 ∷ 0x04 ∷ one 1 0 4 mask4))) ⇒ done
    ∷ call 1 (load_setup (filters (0x01 ∷ 0x04 ∷ one 1 1 4 mask4))) ⇒ code 0x0A
    ∷ call 1 (load_setup (filters (0x01 ∷ 0x04 ∷ one 1 0x100 4 mask4))) ⇒ code 0x0A
    ∷ call 1 (load_setup (filters (0x01 ∷ 0x04 ∷ one 1 0 5 mask4))) ⇒ code 0x0A
    ∷ call 1 (load_setup (filters (0x01 ∷ 0x04 ∷ one 1 0 4 (mask4 ++ 0x01 ∷ [])))) ⇒ code 0x0A
    ∷ call 1 (load_setup (filters (0x01 ∷ 0x04 ∷ one 3 0 4 mask4))) ⇒ code 0x0A
    ∷ call 1 (load_setup (filters (0x02 ∷ 0x04 ∷ (one 1 0 4 mask4 ++ 0x05 ∷ one 2 0 4 mask4)))) ⇒ done
    ∷ call 1 (load_setup (filters (0x02 ∷ 0x04 ∷ (one 1 0 4 mask4 ++ 0x04 ∷ one 2 0 4 mask4)))) ⇒ code 0x0A
    ∷ call 1 (load_setup (filters (0x02 ∷ 0x05 ∷ (one 1 0 4 mask4 ++ 0x04 ∷ one 2 0 4 mask4)))) ⇒ code 0x0A
    ∷ call 1 (stop_filter 4) ⇒ done
    ∷ call 1 (stop_filter 5) ⇒ done
    ∷ call 1 (load_setup (0x01 ∷ 0x00 ∷ 0x01 ∷ 0x0A ∷ (asked ++ 0x05 ∷ 0xA0 ∷ 0xC2 ∷ 0x1E ∷ 0x00 ∷ []))) ⇒ done
    ∷ call 1 (load_setup (0x01 ∷ 0x00 ∷ 0x01 ∷ 0x0A ∷ (asked ++ 0x04 ∷ 0xA0 ∷ 0xC2 ∷ 0x1E ∷ 0x00 ∷ []))) ⇒ code 0x0A
    ∷ call 1 (take_next (room 36)) ⇒ says 0x00 0 asked
    ∷ [])
unfolding answered
not_clean = as_told refl

-- a load leaves the queue, the written records and what is in flight
pub load_keeps : Happens
    (connect 0 5 0 250000 ⇒ gives 1
    ∷ call 1 (everything 1 0) ⇒ gives 1
    ∷ frame 0 0 0x7E8 [] ⇒ done
    ∷ call 1 (write 2 (message 0 0x7E0 [] ++ message 0 0x7E1 [])) ⇒ gives 2
    ∷ call 1 (take_next (room 36)) ⇒ says 0x00 0 (message 0 0x7E0 [])
    ∷ call 1 (load_setup first) ⇒ done
    ∷ frame 0 0 0x7E9 [] ⇒ done
    ∷ call 1 (read 2 (room 72)) ⇒ says 0x09 1 (got 0 0 0x7E8 [] ++ room 36)
    ∷ call 1 (take_next (room 36)) ⇒ says 0x00 0 (message 0 0x7E0 [])
    ∷ call 1 sent ⇒ done
    ∷ call 1 (take_next (room 36)) ⇒ says 0x00 0 (message 0 0x7E1 [])
    ∷ [])
unfolding answered
load_keeps = as_told refl
