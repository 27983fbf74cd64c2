-- Worked traces of one ISO 15765 channel: what it hears. 0x641 is the partner's identifier, 0x241 ours. Assumes nothing.
use mathlib.Core.Path.{◌≡◌, refl}
use Prim.Native.Nat.{◌+◌, ◌*◌}
use mathlib.Core.List.{[], ◌∷◌, ◌++◌, map}
use Rattle.machine.specs.Channel.{says, read, sent, clear}
use Rattle.machine.specs.Step.{connect, call, frame, advance}
use Rattle.iso.specs.Iso.{number_after}
use Rattle.iso.proofs.Traces.Words.{◌⇒◌, answered, Happens, as_told, done, gives, code, room, each, got6, told6, talk, took, took_none, count}

-- single frames: what stands behind the length is padding; length 0, 8 and more, and short ones are ignored; other identifiers and widths are nothing
-- to the channel; without a filter nothing is received
pub singles : Happens
    (connect 0 6 0 500000 ⇒ gives 5
    ∷ frame 0 0 0x641 (1 ∷ 1 ∷ []) ⇒ done
    ∷ talk 5 0 0x641 0x241 ⇒ gives 1
    ∷ frame 0 0 0x641 (3 ∷ 1 ∷ 2 ∷ 3 ∷ []) ⇒ done
    ∷ frame 0 0 0x641 (7 ∷ count 1 7) ⇒ done
    ∷ frame 0 0 0x641 (2 ∷ 0xAA ∷ 0xBB ∷ 0xCC ∷ 0xDD ∷ 0xEE ∷ 0xFF ∷ 0 ∷ []) ⇒ done
    ∷ frame 0 0 0x642 (1 ∷ 1 ∷ []) ⇒ done
    ∷ frame 0 0 0x241 (1 ∷ 1 ∷ []) ⇒ done
    ∷ frame 0 1 0x641 (1 ∷ 1 ∷ []) ⇒ done
    ∷ frame 0 0 0x641 (0 ∷ 0x50 ∷ []) ⇒ done
    ∷ frame 0 0 0x641 (8 ∷ count 1 7) ⇒ done
    ∷ frame 0 0 0x641 (3 ∷ 1 ∷ 2 ∷ []) ⇒ done
    ∷ frame 0 0 0x641 [] ⇒ done
    ∷ frame 0 0 0x641 (0x41 ∷ 1 ∷ 2 ∷ []) ⇒ done
    ∷ frame 0 0 0x641 (0x30 ∷ 0 ∷ 0 ∷ []) ⇒ done
    ∷ frame 0 0 0x641 (1 ∷ count 1 8) ⇒ code 0x0A
    ∷ frame 0 0 0x800 (1 ∷ 1 ∷ []) ⇒ code 0x0A
    ∷ frame 0 2 0x641 (1 ∷ 1 ∷ []) ⇒ code 0x0A
    ∷ advance 7 ⇒ done
    ∷ frame 0 0 0x641 (1 ∷ 9 ∷ []) ⇒ done
    ∷ call 5 (read 5 (room 2680)) ⇒ says 0x09 4 (got6 0 0 0x641 (1 ∷ 2 ∷ 3 ∷ []) ++ got6 0 0 0x641 (count 1 7) ++ got6 0 0 0x641 (0xAA ∷ 0xBB ∷ []) ++ got6 0 7 0x641 (9 ∷ []) ++ room 536)
    ∷ took_none
    ∷ [])
unfolding answered
singles = as_told refl

-- example 3: RxStart first, the go-on, the message at its last frame, padding cut; the last frame again is ignored
pub segmented : Happens
    (connect 0 6 0 500000 ⇒ gives 5
    ∷ talk 5 0 0x641 0x241 ⇒ gives 1
    ∷ advance 5 ⇒ done
    ∷ frame 0 0 0x641 (0x10 ∷ 0x0E ∷ count 1 6) ⇒ done
    ∷ call 5 (read 2 (room 1072)) ⇒ says 0x09 1 (told6 2 5 0x641 ++ room 536)
    ∷ took 0x241 (0x30 ∷ 0 ∷ 0 ∷ [])
    ∷ frame 0 0 0x641 (0x21 ∷ count 7 7) ⇒ done
    ∷ call 5 (read 1 (room 536)) ⇒ says 0x10 0 (room 536)
    ∷ advance 1 ⇒ done
    ∷ frame 0 0 0x641 (0x22 ∷ 0x0E ∷ 0xAA ∷ 0xAA ∷ []) ⇒ done
    ∷ frame 0 0 0x641 (0x22 ∷ 0x0E ∷ 0xAA ∷ 0xAA ∷ []) ⇒ done
    ∷ call 5 (read 2 (room 1072)) ⇒ says 0x09 1 (got6 0 6 0x641 (count 1 14) ++ room 536)
    ∷ call 5 sent ⇒ done
    ∷ took_none
    ∷ call 5 (read 1 (room 536)) ⇒ says 0x10 0 (room 536)
    ∷ [])
unfolding answered
segmented = as_told refl

-- a partner that is quicker than the driver: its frames are received before the go-on was taken, which still waits
pub quick_partner : Happens
    (connect 0 6 0 500000 ⇒ gives 5
    ∷ talk 5 0 0x641 0x241 ⇒ gives 1
    ∷ frame 0 0 0x641 (0x10 ∷ 0x0E ∷ count 1 6) ⇒ done
    ∷ frame 0 0 0x641 (0x21 ∷ count 7 7) ⇒ done
    ∷ took 0x241 (0x30 ∷ 0 ∷ 0 ∷ [])
    ∷ call 5 sent ⇒ done
    ∷ frame 0 0 0x641 (0x22 ∷ 0x0E ∷ []) ⇒ done
    ∷ call 5 (read 2 (room 1072)) ⇒ says 0x00 2 (told6 2 0 0x641 ++ got6 0 0 0x641 (count 1 14))
    ∷ [])
unfolding answered
quick_partner = as_told refl

-- the number after 6 + 7 k bytes: 1, 2, .. 15, 0, 1; and after 6 + 71 * 7 of 508 it is 8
pub numbers : map number_after (6 ∷ 13 ∷ 97 ∷ 104 ∷ 111 ∷ 118 ∷ (6 + 71 * 7) ∷ []) ≡ 1 ∷ 2 ∷ 14 ∷ 15 ∷ 0 ∷ 1 ∷ 8 ∷ []
unfolding number_after
numbers = refl

-- sequence 15 then 0: a reception of 125 bytes, 17 consecutive frames, before its go-on was taken
pub fifteen_then_zero : Happens
    (connect 0 6 0 500000 ⇒ gives 5
    ∷ talk 5 0 0x641 0x241 ⇒ gives 1
    ∷ frame 0 0 0x641 (0x10 ∷ 0x7D ∷ count 1 6) ⇒ done
    ∷ each 15 (λ k. frame 0 0 0x641 ((0x20 + k) ∷ count (k * 7) 7) ⇒ done ∷ [])
    ++ frame 0 0 0x641 (0x20 ∷ count 112 7) ⇒ done
    ∷ frame 0 0 0x641 (0x21 ∷ count 119 7) ⇒ done
    ∷ took_none
    ∷ call 5 (read 2 (room 1072)) ⇒ says 0x00 2 (told6 2 0 0x641 ++ got6 0 0 0x641 (count 1 125))
    ∷ [])
unfolding answered
fifteen_then_zero = as_told refl

-- example 4: a first frame of 509 is answered by overflow, without RxStart, and of 508 by go-on; of 4,095 it replaces a reception whose go-on flies
pub overflow : Happens
    (connect 0 6 0 500000 ⇒ gives 5
    ∷ talk 5 0 0x641 0x241 ⇒ gives 1
    ∷ frame 0 0 0x641 (0x11 ∷ 0xFD ∷ count 1 6) ⇒ done
    ∷ call 5 (read 1 (room 536)) ⇒ says 0x10 0 (room 536)
    ∷ took 0x241 (0x32 ∷ 0 ∷ 0 ∷ [])
    ∷ call 5 sent ⇒ done
    ∷ took_none
    ∷ frame 0 0 0x641 (0x11 ∷ 0xFC ∷ count 1 6) ⇒ done
    ∷ took 0x241 (0x30 ∷ 0 ∷ 0 ∷ [])
    ∷ frame 0 0 0x641 (0x1F ∷ 0xFF ∷ count 1 6) ⇒ done
    ∷ call 5 sent ⇒ done
    ∷ took 0x241 (0x32 ∷ 0 ∷ 0 ∷ [])
    ∷ frame 0 0 0x641 (0x21 ∷ count 7 7) ⇒ done
    ∷ call 5 sent ⇒ done
    ∷ call 5 (read 2 (room 1072)) ⇒ says 0x09 1 (told6 2 0 0x641 ++ room 536)
    ∷ [])
unfolding answered
overflow = as_told refl

-- an overflow stays until taken, whatever single and consecutive frames come; a new first frame puts its own answer in the place
pub overflow_stays : Happens
    (connect 0 6 0 500000 ⇒ gives 5
    ∷ talk 5 0 0x641 0x241 ⇒ gives 1
    ∷ frame 0 0 0x641 (0x1F ∷ 0xFF ∷ count 1 6) ⇒ done
    ∷ frame 0 0 0x641 (0x01 ∷ 0x55 ∷ []) ⇒ done
    ∷ frame 0 0 0x641 (0x21 ∷ count 7 7) ⇒ done
    ∷ frame 0 0 0x641 (0x30 ∷ 0 ∷ 0 ∷ []) ⇒ done
    ∷ advance 1000000 ⇒ done
    ∷ took 0x241 (0x32 ∷ 0 ∷ 0 ∷ [])
    ∷ call 5 sent ⇒ done
    ∷ frame 0 0 0x641 (0x1F ∷ 0xFF ∷ count 1 6) ⇒ done
    ∷ frame 0 0 0x641 (0x10 ∷ 0x08 ∷ count 1 6) ⇒ done
    ∷ took 0x241 (0x30 ∷ 0 ∷ 0 ∷ [])
    ∷ call 5 (read 1 (room 536)) ⇒ says 0x00 1 (got6 0 0 0x641 (0x55 ∷ []))
    ∷ [])
unfolding answered
overflow_stays = as_told refl

-- example 5: the second of a reception, at 1,000,000 and at 999,999, from its first frame, the sent of its go-on and each good frame; a refused
-- advance is no time
pub second : Happens
    (connect 0 6 0 500000 ⇒ gives 5
    ∷ talk 5 0 0x641 0x241 ⇒ gives 1
    ∷ frame 0 0 0x641 (0x10 ∷ 0x0E ∷ count 1 6) ⇒ done
    ∷ advance 999999 ⇒ done
    ∷ took 0x241 (0x30 ∷ 0 ∷ 0 ∷ [])
    ∷ call 5 sent ⇒ done
    ∷ advance 999999 ⇒ done
    ∷ frame 0 0 0x641 (0x21 ∷ count 7 7) ⇒ done
    ∷ advance 1000000 ⇒ done
    ∷ frame 0 0 0x641 (0x22 ∷ 0x0E ∷ []) ⇒ done
    ∷ call 5 (read 2 (room 1072)) ⇒ says 0x09 1 (told6 2 0 0x641 ++ room 536)
    ∷ frame 0 0 0x641 (0x10 ∷ 0x0E ∷ count 1 6) ⇒ done
    ∷ advance 999999 ⇒ done
    ∷ took 0x241 (0x30 ∷ 0 ∷ 0 ∷ [])
    ∷ call 5 sent ⇒ done
    ∷ advance 999999 ⇒ done
    ∷ frame 0 0 0x641 (0x21 ∷ count 7 7) ⇒ done
    ∷ took_none
    ∷ advance 999999 ⇒ done
    ∷ advance 1000001 ⇒ code 0x0B
    ∷ frame 0 0 0x641 (0x22 ∷ 0x0E ∷ []) ⇒ done
    ∷ call 5 (read 2 (room 1072)) ⇒ says 0x00 2 (told6 2 2999998 0x641 ++ got6 0 5999995 0x641 (count 1 14))
    ∷ frame 0 0 0x641 (0x10 ∷ 0x0E ∷ count 1 6) ⇒ done
    ∷ advance 500000 ⇒ done
    ∷ advance 500000 ⇒ done
    ∷ took_none
    ∷ [])
unfolding answered
second = as_told refl

-- neither the take of the go-on nor an ignored frame starts it anew; the sent of a go-on whose reception was dropped starts nothing
pub second_runs_on : Happens
    (connect 0 6 0 500000 ⇒ gives 5
    ∷ talk 5 0 0x641 0x241 ⇒ gives 1
    ∷ frame 0 0 0x641 (0x10 ∷ 0x0E ∷ count 1 6) ⇒ done
    ∷ advance 600000 ⇒ done
    ∷ took 0x241 (0x30 ∷ 0 ∷ 0 ∷ [])
    ∷ advance 400000 ⇒ done
    ∷ call 5 sent ⇒ done
    ∷ frame 0 0 0x641 (0x21 ∷ count 7 7) ⇒ done
    ∷ frame 0 0 0x641 (0x22 ∷ 0x0E ∷ []) ⇒ done
    ∷ frame 0 0 0x641 (0x10 ∷ 0x08 ∷ count 1 6) ⇒ done
    ∷ advance 600000 ⇒ done
    ∷ frame 0 0 0x641 (0x21 ∷ 7 ∷ []) ⇒ done
    ∷ frame 0 0 0x641 (0x30 ∷ 0 ∷ 0 ∷ []) ⇒ done
    ∷ frame 0 0 0x641 (0x10 ∷ 0x07 ∷ count 1 6) ⇒ done
    ∷ advance 400000 ⇒ done
    ∷ frame 0 0 0x641 (0x21 ∷ 7 ∷ 8 ∷ []) ⇒ done
    ∷ took_none
    ∷ call 5 (read 3 (room 1608)) ⇒ says 0x09 2 (told6 2 0 0x641 ++ told6 2 1000000 0x641 ++ room 536)
    ∷ [])
unfolding answered
second_runs_on = as_told refl

-- a new first frame replaces: the old go-on in flight belongs to nothing, a second one follows. A wrong number drops, and so does a single frame, which
-- is received: the go-on is withdrawn
pub replaced : Happens
    (connect 0 6 0 500000 ⇒ gives 5
    ∷ talk 5 0 0x641 0x241 ⇒ gives 1
    ∷ frame 0 0 0x641 (0x10 ∷ 0x0E ∷ count 1 6) ⇒ done
    ∷ took 0x241 (0x30 ∷ 0 ∷ 0 ∷ [])
    ∷ frame 0 0 0x641 (0x10 ∷ 0x08 ∷ count 11 6) ⇒ done
    ∷ call 5 sent ⇒ done
    ∷ took 0x241 (0x30 ∷ 0 ∷ 0 ∷ [])
    ∷ frame 0 0 0x641 (0x21 ∷ 17 ∷ 18 ∷ []) ⇒ done
    ∷ call 5 (read 4 (room 2144)) ⇒ says 0x09 3 (told6 2 0 0x641 ++ told6 2 0 0x641 ++ got6 0 0 0x641 (count 11 8) ++ room 536)
    ∷ call 5 sent ⇒ done
    ∷ frame 0 0 0x641 (0x10 ∷ 0x0E ∷ count 1 6) ⇒ done
    ∷ frame 0 0 0x641 (0x22 ∷ count 7 7) ⇒ done
    ∷ took_none
    ∷ frame 0 0 0x641 (0x21 ∷ count 7 7) ⇒ done
    ∷ frame 0 0 0x641 (0x22 ∷ 0x0E ∷ []) ⇒ done
    ∷ frame 0 0 0x641 (0x10 ∷ 0x08 ∷ count 1 6) ⇒ done
    ∷ frame 0 0 0x641 (0x01 ∷ 0x55 ∷ []) ⇒ done
    ∷ took_none
    ∷ frame 0 0 0x641 (0x21 ∷ 7 ∷ 8 ∷ []) ⇒ done
    ∷ call 5 (read 4 (room 2144)) ⇒ says 0x09 3 (told6 2 0 0x641 ++ told6 2 0 0x641 ++ got6 0 0 0x641 (0x55 ∷ []) ++ room 536)
    ∷ [])
unfolding answered
replaced = as_told refl

-- the sent of a go-on whose reception was replaced starts nothing: the new one's second runs on, and it is dropped
pub replaced_runs_on : Happens
    (connect 0 6 0 500000 ⇒ gives 5
    ∷ talk 5 0 0x641 0x241 ⇒ gives 1
    ∷ frame 0 0 0x641 (0x10 ∷ 0x08 ∷ count 1 6) ⇒ done
    ∷ took 0x241 (0x30 ∷ 0 ∷ 0 ∷ [])
    ∷ frame 0 0 0x641 (0x10 ∷ 0x08 ∷ count 1 6) ⇒ done
    ∷ advance 600000 ⇒ done
    ∷ call 5 sent ⇒ done
    ∷ advance 400000 ⇒ done
    ∷ frame 0 0 0x641 (0x21 ∷ 7 ∷ 8 ∷ []) ⇒ done
    ∷ took_none
    ∷ call 5 (read 3 (room 1608)) ⇒ says 0x09 2 (told6 2 0 0x641 ++ told6 2 0 0x641 ++ room 536)
    ∷ [])
unfolding answered
replaced_runs_on = as_told refl

-- ignored, and an unfinished reception stays: first frames of seven bytes or of length 7, a consecutive frame with too few bytes, whatever its number
pub short_frames : Happens
    (connect 0 6 0 500000 ⇒ gives 5
    ∷ talk 5 0 0x641 0x241 ⇒ gives 1
    ∷ frame 0 0 0x641 (0x10 ∷ 0x08 ∷ count 1 5) ⇒ done
    ∷ frame 0 0 0x641 (0x10 ∷ 0x07 ∷ count 1 6) ⇒ done
    ∷ took_none
    ∷ frame 0 0 0x641 (0x10 ∷ 0x0E ∷ count 1 6) ⇒ done
    ∷ frame 0 0 0x641 (0x10 ∷ 0x08 ∷ count 1 5) ⇒ done
    ∷ frame 0 0 0x641 (0x10 ∷ 0x00 ∷ count 1 6) ⇒ done
    ∷ frame 0 0 0x641 (0x22 ∷ count 7 6) ⇒ done
    ∷ frame 0 0 0x641 (0x03 ∷ 1 ∷ 2 ∷ []) ⇒ done
    ∷ frame 0 0 0x641 (0x21 ∷ count 7 7) ⇒ done
    ∷ frame 0 0 0x641 (0x2F ∷ []) ⇒ done
    ∷ frame 0 0 0x641 (0x22 ∷ 14 ∷ []) ⇒ done
    ∷ call 5 (read 3 (room 1608)) ⇒ says 0x09 2 (told6 2 0 0x641 ++ got6 0 0 0x641 (count 1 14) ++ room 536)
    ∷ [])
unfolding answered
short_frames = as_told refl

-- eight records are held, each further one is lost and sets the mark. A lost RxStart does not stop its reception
pub lost_ninth : Happens
    (connect 0 6 0 500000 ⇒ gives 5
    ∷ talk 5 0 0x641 0x241 ⇒ gives 1
    ∷ each 8 (λ k. frame 0 0 0x641 (1 ∷ k ∷ []) ⇒ done ∷ [])
    ++ frame 0 0 0x641 (0x10 ∷ 8 ∷ count 1 6) ⇒ done
    ∷ took 0x241 (0x30 ∷ 0 ∷ 0 ∷ [])
    ∷ call 5 sent ⇒ done
    ∷ call 5 (read 1 (room 536)) ⇒ says 0x12 1 (got6 0 0 0x641 (1 ∷ []))
    ∷ frame 0 0 0x641 (0x21 ∷ 7 ∷ 8 ∷ []) ⇒ done
    ∷ frame 0 0 0x641 (1 ∷ 0x99 ∷ []) ⇒ done
    ∷ call 5 (read 0 []) ⇒ done
    ∷ call 5 (read 9 (room 4824)) ⇒ says 0x12 8 (each 7 (λ k. got6 0 0 0x641 ((k + 1) ∷ [])) ++ got6 0 0 0x641 (count 1 8) ++ room 536)
    ∷ call 5 (read 1 (room 536)) ⇒ says 0x10 0 (room 536)
    ∷ each 9 (λ k. frame 0 0 0x641 (1 ∷ k ∷ []) ⇒ done ∷ [])
    ++ call 5 (clear 2) ⇒ done
    ∷ call 5 (read 1 (room 536)) ⇒ says 0x10 0 (room 536)
    ∷ [])
unfolding answered
lost_ninth = as_told refl
