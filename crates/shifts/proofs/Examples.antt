-- Worked shifts, each as it was made with its answers, the order in which it is served, and what is no arrangement. Assumes nothing.
use mathlib.Core.Path.{◌≡◌, refl, ap}
use Prim.Native.Nat.{ℕ}
use mathlib.Core.List.{List, [], ◌∷◌, map, head-eq_of_cons-eq}
use native.Mathlib.Omega.{arith}
use lib.ListN.{get_or}
use lib.Dec.{lit<}
use Rattle.codec.specs.Plain.{within, all_below}
use Rattle.machine.specs.Channel.{says, read, sent, get_parameter, set_parameter, stop_filter, last_error, ends_link, on_raw}
use Rattle.machine.specs.Step.{Event, connect, call, frame, advance, close}
use Rattle.whole.specs.Demands.{names, concerns}
use Rattle.whole.proofs.Traces.Words.{◌⇒◌, Story, answered, done, gives, code, room}
use Rattle.shifts.specs.Shifts.{Numbered, numbered_from, numbered, keep, of_channel, nobodys, naming_none, is_cut, Arrangement, served_from, served, whole_from, whole_shift}

-- the numbers of a sequence in the order in which its stretches are served
unfoldable pub served_numbers : List Event → List ℕ
unfolding within all_below names concerns numbered_from numbered keep of_channel nobodys naming_none is_cut served_from served whole_from whole_shift
served_numbers es = map (λ c. c.0) (whole_shift es)

-- a story told in another order
abbrev pub in_order : List ℕ → Story → Story
in_order order s = map (λ n. get_or s n (close ⇒ done)) order

-- as it was made the story gets the answers told; served, it has this order, and each event gets the same answer
pub data Served (s : Story) (order : List ℕ) : Type 0 where
  served_so : answered (map (λ p. p.0) s) ≡ map (λ p. p.1) s → served_numbers (map (λ p. p.0) s) ≡ order
      → answered (map (λ p. p.0) (in_order order s)) ≡ map (λ p. p.1) (in_order order s) → Served s order

-- example 4 of the readings: a stretch on two channels, and a call naming none
pub stretch_of_five : Served
    (connect 1 5 0 250000 ⇒ gives 2
    ∷ connect 0 5 0 500000 ⇒ gives 1
    ∷ call 2 (read 1 (room 36)) ⇒ says 0x10 0 (room 36)
    ∷ call 1 (get_parameter 1) ⇒ gives 500000
    ∷ call 9 (read 1 (room 36)) ⇒ says 0x02 0 (room 36)
    ∷ [])
    (1 ∷ 3 ∷ 0 ∷ 2 ∷ 4 ∷ [])
unfolding served_numbers answered
stretch_of_five = served_so refl refl refl

-- all eight channels; what names none comes last: a line that isn't there, numbers 0 and 9, a number of P5's calls that is no raw channel's
pub eight_channels : Served
    (connect 4 5 0 500000 ⇒ code 0x13
    ∷ call 0 sent ⇒ code 0x02
    ∷ connect 3 6 0 500000 ⇒ gives 8
    ∷ connect 0 6 0 500000 ⇒ gives 5
    ∷ call 5 (on_raw ends_link) ⇒ code 0x02
    ∷ connect 3 5 0 500000 ⇒ gives 4
    ∷ connect 1 6 0 500000 ⇒ gives 6
    ∷ call 8 sent ⇒ code 0x07
    ∷ connect 2 5 0 500000 ⇒ gives 3
    ∷ connect 2 6 0 500000 ⇒ gives 7
    ∷ connect 2 5 0 500000 ⇒ code 0x14
    ∷ connect 1 5 0 500000 ⇒ gives 2
    ∷ call 8 last_error ⇒ gives 0x07
    ∷ connect 0 5 0 500000 ⇒ gives 1
    ∷ call 9 sent ⇒ code 0x02
    ∷ connect 0 7 0 500000 ⇒ code 0x03
    ∷ [])
    (13 ∷ 11 ∷ 8 ∷ 10 ∷ 5 ∷ 3 ∷ 6 ∷ 9 ∷ 2 ∷ 7 ∷ 12 ∷ 0 ∷ 1 ∷ 4 ∷ 14 ∷ 15 ∷ [])
unfolding served_numbers answered
eight_channels = served_so refl refl refl

-- cut at a frame, an advance and a close, also where they are refused: what stands behind a cut stays behind it
pub three_cuts : Served
    (connect 1 5 0 500000 ⇒ gives 2
    ∷ connect 0 5 0 500000 ⇒ gives 1
    ∷ frame 0 0 0x7DF [] ⇒ done
    ∷ call 2 (set_parameter 3 1) ⇒ done
    ∷ call 9 sent ⇒ code 0x02
    ∷ call 1 (stop_filter 1) ⇒ code 0x16
    ∷ advance 1000001 ⇒ code 0x0B
    ∷ call 2 (get_parameter 3) ⇒ gives 1
    ∷ call 1 last_error ⇒ gives 0x16
    ∷ close ⇒ done
    ∷ call 2 sent ⇒ code 0x02
    ∷ call 1 sent ⇒ code 0x02
    ∷ [])
    (1 ∷ 0 ∷ 2 ∷ 5 ∷ 3 ∷ 4 ∷ 6 ∷ 8 ∷ 7 ∷ 9 ∷ 11 ∷ 10 ∷ [])
unfolding served_numbers answered
three_cuts = served_so refl refl refl

-- ---- example 5 of the readings: the read before the connect of its channel is no arrangement

abbrev pub two : List Numbered
two = (0, connect 1 5 0 250000) ∷ (1, call 2 (read 1 (room 36))) ∷ []

abbrev pub turned : List Numbered
turned = (1, call 2 (read 1 (room 36))) ∷ (0, connect 1 5 0 250000) ∷ []

pub not_before_its_connect : Arrangement two turned → ⊥
unfolding within names concerns keep of_channel
not_before_its_connect a =
    let q : ◌≡◌ {A = ℕ} 1 0 = ap (λ (c : Numbered). c.0) (head-eq_of_cons-eq (a.order 1 (lit< tt))) in omega arith
