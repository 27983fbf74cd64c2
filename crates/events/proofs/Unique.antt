-- ANY TWO ANSWERS THAT MEET THE READER'S PROMISE ARE EQUAL: an event's number and values say which case it is. Assumes nothing.
use Rattle.std.specs.Prelude.{if◌then◌else◌}
use Prim.Native.Nat.{ℕ}
use mathlib.Core.List.{List, [], ◌∷◌}
use mathlib.Core.Option.{Option, none, some}
use Rattle.std.specs.Prelude.{Some, None}
use mathlib.Core.Path.{◌≡◌, refl, sym, ap, ◌∙◌}
use lib.Dec.{eqb}
use lib.ListN.{length, get_or}
use Rattle.codec.specs.Settled.{Settled}
use Rattle.events.specs.Found.{Found, ReadsEvent}
use Rattle.events.specs.Values.{said_by}
use Rattle.events.specs.declared.Plain.TheVariants as plain
use Rattle.events.specs.declared.Giving.TheVariants as giving
use Rattle.events.specs.declared.Event.{Event}
use Rattle.events.specs.declared.Event.TheVariants as event

-- the two starts of a filter, by how many values there are
abbrev started : ℕ → (ℕ → ℕ) → Event
started n v =
    if eqb n 6 then event.Number (giving.StartFilter (v 0) (v 1) (v 2) (v 3) (v 5)) else event.Number (giving.StartFlow (v 0) (v 1) (v 2) (v 3) (v 5) (v 7))

-- the cases of the events 0 to 16, of which 0 is none, by how many values there are and by those
abbrev cases : List (ℕ → (ℕ → ℕ) → Event)
cases =
    (λ n v. event.Code plain.Close)
    ∷ (λ n v. event.Number (giving.Connect (v 0) (v 1) (v 2) (v 3)))
    ∷ (λ n v. event.Code (plain.Disconnect (v 0)))
    ∷ (λ n v. event.Code plain.Close)
    ∷ (λ n v. event.Code (plain.Advance (v 0)))
    ∷ (λ n v. event.Code (plain.Frame (v 0) (v 1) (v 2) (v 4) (v 5)))
    ∷ started
    ∷ (λ n v. event.Code (plain.StopFilter (v 0) (v 1)))
    ∷ (λ n v. event.Number (giving.StartPeriodic (v 0) (v 1) (v 2) (v 3)))
    ∷ (λ n v. event.Code (plain.StopPeriodic (v 0) (v 1)))
    ∷ (λ n v. event.Write (v 0) (v 1) (v 2) (v 3))
    ∷ (λ n v. event.Read (v 0) (v 1))
    ∷ (λ n v. event.Take (v 0))
    ∷ (λ n v. event.Code (plain.Sent (v 0)))
    ∷ (λ n v. event.Code (plain.Clear (v 0) (v 1)))
    ∷ (λ n v. event.Number (giving.Get (v 0) (v 1)))
    ∷ (λ n v. event.Code (plain.Set (v 0) (v 1) (v 2)))
    ∷ []

back : Option ((ℕ × List ℕ) × ℕ) → Found
back none = None
back (some x) = Some (get_or cases x.0.0 (λ n v. event.Code plain.Close) (length x.0.1) (λ i. get_or x.0.1 i 0), x.1)

back_said : (r : Found) → back (said_by r) ≡ r
unfolding back
back_said None = refl
back_said (Some ((event.Code (plain.Disconnect c)), next)) = refl
back_said (Some ((event.Code plain.Close), next)) = refl
back_said (Some ((event.Code (plain.Advance t)), next)) = refl
back_said (Some ((event.Code (plain.Frame l w i f e)), next)) = refl
back_said (Some ((event.Code (plain.StopFilter c n)), next)) = refl
back_said (Some ((event.Code (plain.StopPeriodic c n)), next)) = refl
back_said (Some ((event.Code (plain.Sent c)), next)) = refl
back_said (Some ((event.Code (plain.Clear c k)), next)) = refl
back_said (Some ((event.Code (plain.Set c p v)), next)) = refl
back_said (Some ((event.Number (giving.Connect l p f r)), next)) = refl
back_said (Some ((event.Number (giving.StartFilter c k m p e)), next)) = refl
back_said (Some ((event.Number (giving.StartFlow c k m p f e)), next)) = refl
back_said (Some ((event.Number (giving.StartPeriodic c f e i)), next)) = refl
back_said (Some ((event.Number (giving.Get c p)), next)) = refl
back_said (Some ((event.Write c n f e), next)) = refl
back_said (Some ((event.Read c n), next)) = refl
back_said (Some ((event.Take c), next)) = refl

pub event_settled : (recording : List ℕ) (at : ℕ) → Settled (ReadsEvent recording at)
event_settled recording at x y p q = sym (back_said x) ∙ ap back (p.says ∙ sym q.says) ∙ back_said y
