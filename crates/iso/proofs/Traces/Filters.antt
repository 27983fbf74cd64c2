-- Worked traces of one ISO 15765 channel: flow-control filters, their codes, identifiers and widths. Assumes nothing.
use mathlib.Core.Path.{refl}
use mathlib.Core.List.{[], ◌∷◌, ◌++◌}
use lib.ListN.{replicate}
use Rattle.machine.specs.Channel.{says, start_flow, stop_filter, write, read, take_next, sent, clear, set_parameter}
use Rattle.machine.specs.Step.{connect, call, frame}
use Rattle.iso.proofs.Traces.Words.{◌⇒◌, answered, Happens, as_told, done, gives, code, room, raw536, message6, lent6, got6, told6, talk, took, took_none, count}

-- a bad filter, by its first fault: type, protocol of mask, pattern and flow, then sizes, mask, TxFlags, width and range
pub filter_codes : Happens
    (connect 0 6 0 500000 ⇒ gives 5
    ∷ call 5 (start_flow 4 (raw536 5 0 0x100 0 4 0 (replicate 4 255)) (lent6 0x100 0x641 []) (lent6 0x100 0x241 [])) ⇒ code 0x16
    ∷ call 5 (start_flow 1 (room 536) (room 536) (room 536)) ⇒ code 0x16
    ∷ call 5 (start_flow 2 (room 536) (room 536) (room 536)) ⇒ code 0x16
    ∷ call 5 (start_flow 259 (room 536) (room 536) (room 536)) ⇒ code 0x16
    ∷ call 5 (start_flow 3 (raw536 5 0 0 0 9 0 []) (lent6 0 0x641 []) (lent6 0 0x241 [])) ⇒ code 0x15
    ∷ call 5 (start_flow 3 (lent6 0 0xFFFF_FFFF []) (raw536 5 0 0 0 4 0 (0 ∷ 0 ∷ 6 ∷ 0x41 ∷ [])) (lent6 1 0x241 [])) ⇒ code 0x15
    ∷ call 5 (start_flow 3 (lent6 0 0xFFFF_FFFF []) (lent6 0 0x641 []) (raw536 5 0 1 0 4 0 (0 ∷ 0 ∷ 2 ∷ 0x41 ∷ []))) ⇒ code 0x15
    ∷ call 5 (start_flow 3 (lent6 0 0xFFFF_FFFF []) (lent6 0 0x641 []) (lent6 1 0x241 [])) ⇒ code 0x0A
    ∷ call 5 (start_flow 3 (lent6 1 0xFFFF_FFFF []) (lent6 0 0x641 []) (lent6 0 0x241 [])) ⇒ code 0x0A
    ∷ call 5 (start_flow 3 (lent6 0 0xFFFF_FFFE []) (lent6 0 0x641 []) (lent6 0 0x241 [])) ⇒ code 0x0A
    ∷ call 5 (start_flow 3 (lent6 0 0xE3FF_FFFF []) (lent6 0 0x641 []) (lent6 0 0x241 [])) ⇒ code 0x0A
    ∷ call 5 (start_flow 3 (lent6 0 0xFFFF_FFFF (0xFF ∷ [])) (lent6 0 0x641 (0 ∷ [])) (lent6 0 0x241 (0 ∷ []))) ⇒ code 0x0A
    ∷ call 5 (start_flow 3 (lent6 0 0xFFFF_FFFF []) (lent6 0 0x641 []) (lent6 0 0x241 (0 ∷ []))) ⇒ code 0x0A
    ∷ call 5 (start_flow 3 (lent6 0 0xFFFF_FFFF []) (raw536 6 0 0 0 3 0 (0 ∷ 0 ∷ 6 ∷ 0x41 ∷ [])) (lent6 0 0x241 [])) ⇒ code 0x0A
    ∷ talk 5 0x100 0x641 0x241 ⇒ code 0x0A
    ∷ talk 5 0 0x800 0x242 ⇒ code 0x0A
    ∷ talk 5 0 0x642 0x800 ⇒ code 0x0A
    ∷ call 5 (start_flow 3 (raw536 6 7 0x40 8 4 9 (replicate 5 255)) (raw536 6 7 0x40 8 4 9 (0 ∷ 0 ∷ 7 ∷ 0xFF ∷ 1 ∷ [])) (lent6 0x40 0x241 [])) ⇒ gives 1
    ∷ [])
unfolding answered
filter_codes = as_told refl

-- example 7: an identifier of another filter, on either side, is 0x18, also for a third filter, which else is 0x0C; numbers 1 and 2, the smallest free
pub filter_unique : Happens
    (connect 0 6 0 500000 ⇒ gives 5
    ∷ talk 5 0 0x641 0x241 ⇒ gives 1
    ∷ talk 5 0 0x641 0x242 ⇒ code 0x18
    ∷ talk 5 0 0x642 0x241 ⇒ code 0x18
    ∷ talk 5 0 0x241 0x242 ⇒ code 0x18
    ∷ talk 5 0 0x642 0x641 ⇒ code 0x18
    ∷ talk 5 0 0x641 0x800 ⇒ code 0x0A
    ∷ talk 5 0 0x642 0x242 ⇒ gives 2
    ∷ talk 5 0 0x643 0x243 ⇒ code 0x0C
    ∷ talk 5 0 0x643 0x242 ⇒ code 0x18
    ∷ call 5 (stop_filter 0) ⇒ code 0x16
    ∷ call 5 (stop_filter 3) ⇒ code 0x16
    ∷ call 5 (stop_filter 1) ⇒ done
    ∷ call 5 (stop_filter 1) ⇒ code 0x16
    ∷ talk 5 0 0x643 0x242 ⇒ code 0x18
    ∷ talk 5 0 0x643 0x243 ⇒ gives 1
    ∷ call 5 (clear 4) ⇒ done
    ∷ call 5 (stop_filter 2) ⇒ code 0x16
    ∷ talk 5 0 0x642 0x242 ⇒ gives 1
    ∷ [])
unfolding answered
filter_unique = as_told refl

-- pattern equal to flow: first frames are ignored, too long ones as well; single frames are received and segmented messages sent
pub functional : Happens
    (connect 0 6 0 500000 ⇒ gives 5
    ∷ talk 5 0 0x7DF 0x7DF ⇒ gives 1
    ∷ frame 0 0 0x7DF (0x10 ∷ 0x0E ∷ count 1 6) ⇒ done
    ∷ took_none
    ∷ frame 0 0 0x7DF (0x1F ∷ 0xFF ∷ count 1 6) ⇒ done
    ∷ took_none
    ∷ frame 0 0 0x7DF (0x01 ∷ 0x55 ∷ []) ⇒ done
    ∷ call 5 (write 1 (lent6 0 0x7DF (count 1 8))) ⇒ gives 1
    ∷ took 0x7DF (0x10 ∷ 8 ∷ count 1 6)
    ∷ call 5 (read 2 (room 1072)) ⇒ says 0x09 1 (got6 0 0 0x7DF (0x55 ∷ []) ++ room 536)
    ∷ [])
unfolding answered
functional = as_told refl

-- narrow and wide identifiers are two, for filters, for frames and for written messages
pub two_widths : Happens
    (connect 0 6 0x800 500000 ⇒ gives 5
    ∷ talk 5 0 0x641 0x241 ⇒ gives 1
    ∷ call 5 (write 1 (lent6 0x100 0x241 (count 1 8))) ⇒ code 0x17
    ∷ talk 5 0x100 0x641 0x241 ⇒ gives 2
    ∷ call 5 (write 1 (lent6 0x100 0x241 (count 1 8))) ⇒ gives 1
    ∷ call 5 (take_next (room 536)) ⇒ says 0x00 0 (message6 0x100 0x241 (0x10 ∷ 8 ∷ count 1 6))
    ∷ frame 0 0 0x641 (0x01 ∷ 0x55 ∷ []) ⇒ done
    ∷ frame 0 1 0x641 (0x01 ∷ 0x66 ∷ []) ⇒ done
    ∷ call 5 (read 2 (room 1072)) ⇒ says 0x09 1 (got6 0 0 0x641 (0x55 ∷ []) ++ room 536)
    ∷ [])
unfolding answered
two_widths = as_told refl

-- wide identifiers on line 2: both ways, with loopback
pub wide : Happens
    (connect 2 6 0x100 500000 ⇒ gives 7
    ∷ talk 7 0 0x641 0x241 ⇒ code 0x0A
    ∷ talk 7 0x100 0x2000_0000 0x241 ⇒ code 0x0A
    ∷ talk 7 0x100 0x18DA_F110 0x18DA_10F1 ⇒ gives 1
    ∷ call 7 (set_parameter 3 1) ⇒ done
    ∷ frame 2 1 0x18DA_F110 (0x10 ∷ 8 ∷ count 1 6) ⇒ done
    ∷ call 7 (take_next (room 536)) ⇒ says 0x00 0 (message6 0x100 0x18DA_10F1 (0x30 ∷ 0 ∷ 0 ∷ []))
    ∷ call 7 sent ⇒ done
    ∷ frame 2 1 0x18DA_F110 (0x21 ∷ 7 ∷ 8 ∷ []) ⇒ done
    ∷ call 7 (write 1 (lent6 0x100 0x18DA_10F1 (count 1 8))) ⇒ gives 1
    ∷ call 7 (take_next (room 536)) ⇒ says 0x00 0 (message6 0x100 0x18DA_10F1 (0x10 ∷ 8 ∷ count 1 6))
    ∷ call 7 sent ⇒ done
    ∷ frame 2 1 0x18DA_F110 (0x30 ∷ 0 ∷ 0 ∷ []) ⇒ done
    ∷ call 7 (take_next (room 536)) ⇒ says 0x00 0 (message6 0x100 0x18DA_10F1 (0x21 ∷ 7 ∷ 8 ∷ []))
    ∷ call 7 sent ⇒ done
    ∷ call 7 (read 4 (room 2144)) ⇒ says 0x00 4 (told6 0x102 0 0x18DA_F110 ++ got6 0x100 0 0x18DA_F110 (count 1 8) ++ told6 0x109 0 0x18DA_10F1 ++ got6 0x101 0 0x18DA_10F1 (count 1 8))
    ∷ [])
unfolding answered
wide = as_told refl
