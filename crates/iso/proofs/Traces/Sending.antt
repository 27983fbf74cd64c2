-- Worked traces of one ISO 15765 channel: what it sends. 0x641 is the partner's identifier, 0x241 ours. Assumes nothing.
use mathlib.Core.Path.{◌≡◌, refl}
use Prim.Native.Nat.{◌+◌, ◌*◌, ◌%◌, ◌-◌}
use mathlib.Core.List.{[], ◌∷◌, ◌++◌, map}
use lib.ListN.{replicate}
use Rattle.machine.specs.Channel.{says, write, read, sent, clear, set_parameter}
use Rattle.machine.specs.Step.{connect, call, frame, advance}
use Rattle.codec.specs.Plain.{within}
use Rattle.iso.specs.Iso.{gap_of}
use Rattle.iso.proofs.Traces.Words.{◌⇒◌, answered, Happens, as_told, done, gives, code, room, each, raw536, lent6, got6, told6, talk, took, took_none, count, wheel}

-- example 8: a bad message, by its first fault, with the count of those before it; a message under way is no longer held
pub write_codes : Happens
    (connect 0 6 0 500000 ⇒ gives 5
    ∷ call 5 (write 1 (raw536 5 0 0 0 513 0 [])) ⇒ code 0x15
    ∷ call 5 (write 1 (lent6 0 0x242 [])) ⇒ code 0x0A
    ∷ call 5 (write 1 (raw536 6 0 0 0 513 0 (0 ∷ 0 ∷ 2 ∷ 0x41 ∷ []))) ⇒ code 0x0A
    ∷ call 5 (write 1 (lent6 0x100 0x241 (replicate 16 0))) ⇒ code 0x0A
    ∷ call 5 (write 1 (lent6 0 0x800 (replicate 8 0))) ⇒ code 0x0A
    ∷ call 5 (write 1 (lent6 0 0x242 (count 1 7))) ⇒ gives 1
    ∷ call 5 (write 1 (lent6 0 0x242 (count 1 8))) ⇒ code 0x17
    ∷ talk 5 0 0x641 0x241 ⇒ gives 1
    ∷ call 5 (write 1 (lent6 0 0x641 (count 1 8))) ⇒ code 0x17
    ∷ call 5 (write 4 (each 4 (λ k. lent6 0 0x241 (count 1 8)))) ⇒ says 0x11 3 []
    ∷ call 5 (write 1 (lent6 0 0x242 (count 1 8))) ⇒ code 0x17
    ∷ call 5 (write 1 (lent6 0 0x242 [])) ⇒ code 0x0A
    ∷ call 5 (write 1 (lent6 0 0x242 (1 ∷ []))) ⇒ code 0x11
    ∷ took 0x242 (7 ∷ count 1 7)
    ∷ call 5 (write 2 (lent6 0 0x241 (replicate 508 0) ++ lent6 0 0x241 (1 ∷ []))) ⇒ says 0x11 1 []
    ∷ call 5 (clear 1) ⇒ done
    ∷ call 5 (write 2 (lent6 0 0x242 (1 ∷ []) ++ lent6 0 0x242 (count 1 8))) ⇒ says 0x17 1 []
    ∷ [])
unfolding answered
write_codes = as_told refl

-- single frames need no filter and may go to any identifier; unpadded; nothing but protocol, width, size and data of a record is looked at. TxDone,
-- and with loopback the message behind it
pub singles : Happens
    (connect 0 6 0 500000 ⇒ gives 5
    ∷ call 5 (write 1 (raw536 6 9 0x40 9 6 9 (0 ∷ 0 ∷ 7 ∷ 0xDF ∷ 1 ∷ 2 ∷ 3 ∷ []))) ⇒ gives 1
    ∷ took 0x7DF (2 ∷ 1 ∷ 2 ∷ [])
    ∷ took 0x7DF (2 ∷ 1 ∷ 2 ∷ [])
    ∷ advance 3 ⇒ done
    ∷ call 5 sent ⇒ done
    ∷ call 5 sent ⇒ code 0x07
    ∷ took_none
    ∷ call 5 (read 2 (room 1072)) ⇒ says 0x09 1 (told6 9 3 0x7DF ++ room 536)
    ∷ call 5 (write 1 (lent6 0 0x241 (count 1 7))) ⇒ gives 1
    ∷ took 0x241 (7 ∷ count 1 7)
    ∷ call 5 (set_parameter 3 1) ⇒ done
    ∷ call 5 sent ⇒ done
    ∷ call 5 (read 3 (room 1608)) ⇒ says 0x09 2 (told6 9 3 0x241 ++ got6 1 3 0x241 (count 1 7) ++ room 536)
    ∷ [])
unfolding answered
singles = as_told refl

-- example 2: a flow frame before the sent of the first frame is ignored; TxDone at the sent of the last frame and not before, with loopback the
-- whole message behind it
pub segmented : Happens
    (connect 0 6 0 500000 ⇒ gives 5
    ∷ talk 5 0 0x641 0x241 ⇒ gives 1
    ∷ call 5 (write 1 (lent6 0 0x241 (count 1 17))) ⇒ gives 1
    ∷ took 0x241 (0x10 ∷ 0x11 ∷ count 1 6)
    ∷ frame 0 0 0x641 (0x30 ∷ 0x00 ∷ 0x00 ∷ []) ⇒ done
    ∷ call 5 sent ⇒ done
    ∷ took_none
    ∷ frame 0 0 0x641 (0x30 ∷ 0x00 ∷ 0x00 ∷ []) ⇒ done
    ∷ took 0x241 (0x21 ∷ count 7 7)
    ∷ took 0x241 (0x21 ∷ count 7 7)
    ∷ call 5 sent ⇒ done
    ∷ call 5 (read 1 (room 536)) ⇒ says 0x10 0 (room 536)
    ∷ took 0x241 (0x22 ∷ count 14 4)
    ∷ call 5 (set_parameter 3 1) ⇒ done
    ∷ call 5 (read 1 (room 536)) ⇒ says 0x10 0 (room 536)
    ∷ advance 9 ⇒ done
    ∷ call 5 sent ⇒ done
    ∷ call 5 (read 3 (room 1608)) ⇒ says 0x09 2 (told6 9 9 0x241 ++ got6 1 9 0x241 (count 1 17) ++ room 536)
    ∷ took_none
    ∷ [])
unfolding answered
segmented = as_told refl

-- example 4: the first frame of the longest message; how all its frames go out is a theorem
pub longest : Happens
    (connect 0 6 0 500000 ⇒ gives 5
    ∷ talk 5 0 0x641 0x241 ⇒ gives 1
    ∷ call 5 (write 1 (lent6 0 0x241 (wheel 0 508))) ⇒ gives 1
    ∷ took 0x241 (0x11 ∷ 0xFC ∷ wheel 0 6)
    ∷ call 5 sent ⇒ done
    ∷ frame 0 0 0x641 (0x30 ∷ 0 ∷ 0 ∷ []) ⇒ done
    ∷ each 17 (λ k. took 0x241 ((0x20 + k % 16) ∷ wheel (7 * k - 1) 7) ∷ call 5 sent ⇒ done ∷ [])
    ++ took 0x241 (0x22 ∷ wheel 125 7)
    ∷ [])
unfolding answered
longest = as_told refl

-- STmin: 0, 5 ms, 127 ms, then 0x80 and 0xF0 as the longest, 100 µs, 900 µs, 0xFA and 0xFF as the longest
pub gaps : map gap_of (0x00 ∷ 0x05 ∷ 0x7F ∷ 0x80 ∷ 0xF0 ∷ 0xF1 ∷ 0xF9 ∷ 0xFA ∷ 0xFF ∷ [])
    ≡ 0 ∷ 5000 ∷ 127000 ∷ 127000 ∷ 127000 ∷ 100 ∷ 900 ∷ 127000 ∷ 127000 ∷ []
unfolding gap_of within
gaps = refl

-- example 6: block size 2, STmin 5 ms, then neither; what waits for a take never times out
pub blocks : Happens
    (connect 0 6 0 500000 ⇒ gives 5
    ∷ talk 5 0 0x641 0x241 ⇒ gives 1
    ∷ call 5 (write 2 (lent6 0 0x241 (count 1 41) ++ lent6 0 0x242 (1 ∷ []))) ⇒ gives 2
    ∷ took 0x241 (0x10 ∷ 0x29 ∷ count 1 6)
    ∷ call 5 sent ⇒ done
    ∷ frame 0 0 0x641 (0x30 ∷ 0x02 ∷ 0x05 ∷ []) ⇒ done
    ∷ took 0x241 (0x21 ∷ count 7 7)
    ∷ call 5 sent ⇒ done
    ∷ advance 4999 ⇒ done
    ∷ took_none
    ∷ advance 1 ⇒ done
    ∷ took 0x241 (0x22 ∷ count 14 7)
    ∷ call 5 sent ⇒ done
    ∷ advance 999999 ⇒ done
    ∷ took_none
    ∷ frame 0 0 0x641 (0x30 ∷ 0x00 ∷ 0x00 ∷ []) ⇒ done
    ∷ advance 1000000 ⇒ done
    ∷ took 0x241 (0x23 ∷ count 21 7)
    ∷ call 5 sent ⇒ done
    ∷ took 0x241 (0x24 ∷ count 28 7)
    ∷ advance 1000000 ⇒ done
    ∷ call 5 sent ⇒ done
    ∷ took 0x241 (0x25 ∷ count 35 7)
    ∷ call 5 sent ⇒ done
    ∷ took 0x242 (1 ∷ 1 ∷ [])
    ∷ call 5 (read 2 (room 1072)) ⇒ says 0x09 1 (told6 9 3004999 0x241 ++ room 536)
    ∷ [])
unfolding answered
blocks = as_told refl

-- block size 1; STmin counts from the sent, and not before the first frame of a block; that of the latest go-on counts
pub separation : Happens
    (connect 0 6 0 500000 ⇒ gives 5
    ∷ talk 5 0 0x641 0x241 ⇒ gives 1
    ∷ call 5 (write 1 (lent6 0 0x241 (replicate 34 0))) ⇒ gives 1
    ∷ took 0x241 (0x10 ∷ 0x22 ∷ replicate 6 0)
    ∷ call 5 sent ⇒ done
    ∷ frame 0 0 0x641 (0x30 ∷ 1 ∷ 5 ∷ []) ⇒ done
    ∷ took 0x241 (0x21 ∷ replicate 7 0)
    ∷ call 5 sent ⇒ done
    ∷ took_none
    ∷ frame 0 0 0x641 (0x30 ∷ 0 ∷ 0xF1 ∷ []) ⇒ done
    ∷ took 0x241 (0x22 ∷ replicate 7 0)
    ∷ advance 4000 ⇒ done
    ∷ call 5 sent ⇒ done
    ∷ took_none
    ∷ advance 99 ⇒ done
    ∷ took_none
    ∷ advance 1 ⇒ done
    ∷ took 0x241 (0x23 ∷ replicate 7 0)
    ∷ call 5 sent ⇒ done
    ∷ advance 100 ⇒ done
    ∷ took 0x241 (0x24 ∷ replicate 7 0)
    ∷ call 5 sent ⇒ done
    ∷ call 5 (read 2 (room 1072)) ⇒ says 0x09 1 (told6 9 4200 0x241 ++ room 536)
    ∷ [])
unfolding answered
separation = as_told refl

-- the transmission's second, at 999,999 and 1,000,000, from the sent of the first frame; a wait starts it anew; overflow and unknown statuses end it.
-- A dropped transmission has no TxDone
pub sending_second : Happens
    (connect 0 6 0 500000 ⇒ gives 5
    ∷ talk 5 0 0x641 0x241 ⇒ gives 1
    ∷ call 5 (write 3 (lent6 0 0x241 (count 1 8) ++ lent6 0 0x241 (count 1 9) ++ lent6 0 0x241 (count 1 10))) ⇒ gives 3
    ∷ took 0x241 (0x10 ∷ 8 ∷ count 1 6)
    ∷ advance 1000000 ⇒ done
    ∷ call 5 sent ⇒ done
    ∷ advance 999999 ⇒ done
    ∷ frame 0 0 0x641 (0x31 ∷ 0 ∷ 0 ∷ []) ⇒ done
    ∷ advance 999999 ⇒ done
    ∷ took_none
    ∷ advance 1 ⇒ done
    ∷ frame 0 0 0x641 (0x30 ∷ 0 ∷ 0 ∷ []) ⇒ done
    ∷ took 0x241 (0x10 ∷ 9 ∷ count 1 6)
    ∷ call 5 sent ⇒ done
    ∷ frame 0 0 0x641 (0x32 ∷ 0 ∷ 0 ∷ []) ⇒ done
    ∷ frame 0 0 0x641 (0x30 ∷ 0 ∷ 0 ∷ []) ⇒ done
    ∷ took 0x241 (0x10 ∷ 10 ∷ count 1 6)
    ∷ call 5 sent ⇒ done
    ∷ frame 0 0 0x641 (0x33 ∷ 0 ∷ 0 ∷ []) ⇒ done
    ∷ frame 0 0 0x641 (0x30 ∷ 0 ∷ 0 ∷ []) ⇒ done
    ∷ took_none
    ∷ call 5 (read 1 (room 536)) ⇒ says 0x10 0 (room 536)
    ∷ [])
unfolding answered
sending_second = as_told refl

-- the second of a block's last frame; a flow frame of two bytes is ignored, and bytes after the third play no part
pub flow_frames : Happens
    (connect 0 6 0 500000 ⇒ gives 5
    ∷ talk 5 0 0x641 0x241 ⇒ gives 1
    ∷ call 5 (write 1 (lent6 0 0x241 (count 1 20))) ⇒ gives 1
    ∷ took 0x241 (0x10 ∷ 20 ∷ count 1 6)
    ∷ call 5 sent ⇒ done
    ∷ advance 600000 ⇒ done
    ∷ frame 0 0 0x641 (0x30 ∷ 0x00 ∷ []) ⇒ done
    ∷ frame 0 0 0x641 (0x32 ∷ 0x00 ∷ []) ⇒ done
    ∷ took_none
    ∷ frame 0 0 0x641 (0x30 ∷ 0x01 ∷ 0x00 ∷ 0xAA ∷ []) ⇒ done
    ∷ took 0x241 (0x21 ∷ count 7 7)
    ∷ frame 0 0 0x641 (0x32 ∷ 0x00 ∷ 0x00 ∷ []) ⇒ done
    ∷ call 5 sent ⇒ done
    ∷ advance 600000 ⇒ done
    ∷ advance 399999 ⇒ done
    ∷ frame 0 0 0x641 (0x30 ∷ 0x01 ∷ 0x00 ∷ []) ⇒ done
    ∷ took 0x241 (0x22 ∷ count 14 7)
    ∷ call 5 sent ⇒ done
    ∷ call 5 (read 2 (room 1072)) ⇒ says 0x09 1 (told6 9 1599999 0x241 ++ room 536)
    ∷ [])
unfolding answered
flow_frames = as_told refl

-- TxDone finds the last place of the queue, and its loopback none
pub lost_loopback : Happens
    (connect 0 6 0 500000 ⇒ gives 5
    ∷ talk 5 0 0x641 0x241 ⇒ gives 1
    ∷ call 5 (set_parameter 3 1) ⇒ done
    ∷ call 5 (write 1 (lent6 0 0x241 (1 ∷ []))) ⇒ gives 1
    ∷ took 0x241 (1 ∷ 1 ∷ [])
    ∷ each 7 (λ k. frame 0 0 0x641 (1 ∷ k ∷ []) ⇒ done ∷ [])
    ++ call 5 sent ⇒ done
    ∷ call 5 (read 8 (room 4288)) ⇒ says 0x12 8 (each 7 (λ k. got6 0 0 0x641 (k ∷ [])) ++ told6 9 0 0x241)
    ∷ [])
unfolding answered
lost_loopback = as_told refl
