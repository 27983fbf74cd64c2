-- DEMAND 3, WHOLE SHIFTS (02, P14), from any device and from power-on, for any set of rates. A stretch that stands behind others begins on the device
-- that those have left, and the sequence up to its end is a sequence; so what is said of whole sequences is said of the end of each stretch.
-- Assumes nothing.
use Prim.Native.Nat.{ℕ, zero, suc, ◌+◌, ◌<◌}
use mathlib.Core.Path.{◌≡◌, refl, sym, ap, ◌∙◌}
use mathlib.Core.Option.{some}
use mathlib.Core.List.{List, [], ◌∷◌}
use native.Mathlib.Omega.{arith}
use borrow.Author.Tests.{eq-eqb, ne_eqb}
use lib.ListN.{length, get_or}
use Rattle.machine.specs.Channel.{Answer}
use Rattle.machine.specs.Step.{Event}
use Rattle.whole.specs.Device.{Device, power_on, step, run, answers}
use Rattle.whole.specs.Demands.{EightChannels}
use Rattle.whole.proofs.FromPowerOn.{eight}
use Rattle.shifts.specs.Shifts.{Numbered, numbered_from, numbered, events, Stretch, Arrangement, Rearranged, served, whole_shift, to_number, answer_to, SameEnd}
use Rattle.shifts.proofs.Answers.{same_end}
use Rattle.shifts.proofs.Served.{served_arranged, numbers_once, rearranged_arranged, whole_served}

-- ---- what the numbers say

-- a numbered sequence is the sequence
pub events_numbered : (es : List Event) (k : ℕ) → events (numbered_from k es) ≡ es
unfolding events numbered_from
events_numbered [] k = refl
events_numbered (e ∷ es) k = ap (λ (l : List Event). e ∷ l) (events_numbered es (suc k))

-- of one answer for each event as it was made, number n is the answer at place n
at_place : (es : List Event) (rs : List Answer) (k n m : ℕ) (none : Answer) → m ≡ k + n → length rs ≡ length es → n < length es
    → to_number m (numbered_from k es) rs ≡ some (get_or rs n none)
unfolding to_number numbered_from
at_place [] rs k n m none q h l = absurd (omega arith)
at_place (e ∷ es) [] k n m none q h l = absurd (omega arith)
at_place (e ∷ es) (r ∷ rs) k zero m none q h l = rw (eq-eqb k m (omega arith)) refl
at_place (e ∷ es) (r ∷ rs) k (suc n) m none q h l =
    rw (ne_eqb k m (λ x. omega arith)) (at_place es rs (suc k) n m none (omega arith) (omega arith) (omega arith))

one_each : (rates : List ℕ) (es : List Event) (d : Device) → length (answers rates d es) ≡ length es
unfolding answers
one_each rates [] d = refl
one_each rates (e ∷ es) d = ap suc (one_each rates es (step rates d e).0)

module _ (rates : List ℕ) where
  -- THE NUMBERS ARE PLACES: made as it was, a sequence gets the answers of the sequence, each event the one at its number
  pub answer_as_made : (d : Device) (es : List Event) (n : ℕ) (none : Answer) → n < length es → answer_to rates d (numbered es) n ≡ some (get_or (answers rates d es) n none)
  unfolding answer_to numbered
  answer_as_made d es n none l =
      ap (λ (x : List Event). to_number n (numbered_from 0 es) (answers rates d x)) (events_numbered es 0)
      ∙ at_place es (answers rates d es) 0 n n none (omega arith) (one_each rates es d) l

  -- ---- from any device

  module _ (d : Device) (w : EightChannels d) where
    both : (cs zs ws : List Numbered) → Arrangement cs zs → Arrangement cs ws → SameEnd rates d zs ws
    both cs zs ws a b =
        let x = same_end rates d w cs zs a in
        let y = same_end rates d w cs ws b in
        record { device = x.device ∙ sym y.device; answer = λ n. x.answer n ∙ sym (y.answer n) }

    -- A STRETCH: every arrangement that keeps each channel's own order ends in the state reached by serving channel 1 wholly, then 2, and so on, calls
    -- naming none last, with the same answer to each call
    pub stretch_served : (es : List Event) (zs : List Numbered) → Stretch (numbered es) → Arrangement (numbered es) zs → SameEnd rates d zs (served (numbered es))
    unfolding numbered
    stretch_served es zs s a = both (numbered es) zs (served (numbered es)) a (served_arranged (numbered es) s (numbers_once es 0))

    -- A SEQUENCE: every one whose stretches are arranged so ends as if each stretch had been served so, with the same answer to each event
    pub whole_shift_law : (es : List Event) (zs : List Numbered) → Rearranged (numbered es) zs → SameEnd rates d zs (whole_shift es)
    whole_shift_law es zs r = both (numbered es) zs (whole_shift es) (rearranged_arranged r) (rearranged_arranged (whole_served es))

    -- as it was made, too
    pub whole_shift_made : (es : List Event) → SameEnd rates d (numbered es) (whole_shift es)
    whole_shift_made es = both (numbered es) (numbered es) (whole_shift es) (record { each = λ n. refl; order = λ i h. refl }) (rearranged_arranged (whole_served es))

    -- and any two of them alike
    pub shifts_alike : (es : List Event) (zs ws : List Numbered) → Rearranged (numbered es) zs → Rearranged (numbered es) ws → SameEnd rates d zs ws
    shifts_alike es zs ws r s = both (numbered es) zs ws (rearranged_arranged r) (rearranged_arranged s)

  -- ---- from power-on

  pub whole_shift_from_power_on : (es : List Event) (zs : List Numbered) → Rearranged (numbered es) zs → SameEnd rates power_on zs (whole_shift es)
  unfolding run
  whole_shift_from_power_on = whole_shift_law power_on (eight rates [])
