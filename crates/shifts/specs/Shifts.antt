-- WHOLE SHIFTS (02, P14): a sequence cut at its bus frames, advances and closes, and the arrangements of each stretch that keep each channel's own
-- order. Every event carries the number that it has in the sequence as it was made, and is known by it wherever it comes to stand. Channels go by
-- their place: place i is channel number i + 1. Assumes nothing.
use Rattle.std.specs.Prelude.{ℕ, zero, suc, ◌<◌, ◌≡◌, Bool, true, false, not, List, [], ◌∷◌, ◌++◌, T, eqb, if◌then◌else◌}
use Rattle.std.proofs.Math.Option.{Option, none, some}
use Rattle.codec.specs.Plain.{all, all_below}
use Rattle.machine.specs.Channel.{Answer}
use Rattle.machine.specs.Step.{Event, connect, call, frame, advance, close}
use Rattle.whole.specs.Device.{Device, channels, run, answers}
use Rattle.whole.specs.Demands.{concerns}

-- ---- numbered events

abbrev pub Numbered : Type 0
Numbered = ℕ × Event

-- n, n + 1, and so on
unfoldable pub numbered_from : ℕ → List Event → List Numbered
numbered_from n [] = []
numbered_from n (e ∷ es) = (n, e) ∷ numbered_from (suc n) es

-- the events of a sequence, each with its number in it
unfoldable pub numbered : List Event → List Numbered
numbered es = numbered_from 0 es

-- the events without their numbers
unfoldable pub events : List Numbered → List Event
events [] = []
events (c ∷ cs) = c.1 ∷ events cs

-- those that pass a test, in their order
unfoldable pub keep : (Numbered → Bool) → List Numbered → List Numbered
keep p [] = []
keep p (c ∷ cs) = if p c then c ∷ keep p cs else keep p cs

-- those with the number n
unfoldable pub with_number : ℕ → List Numbered → List Numbered
with_number n cs = keep (λ c. eqb c.0 n) cs

-- those of channel i: a call or a connect concerns the channel that it names and no other
unfoldable pub of_channel : ℕ → List Numbered → List Numbered
of_channel i cs = keep (λ c. concerns i c.1) cs

-- the event concerns none of the eight channels: a call or a connect that names none
unfoldable pub nobodys : Event → Bool
nobodys e = all_below channels (λ i. not (concerns i e))

unfoldable pub naming_none : List Numbered → List Numbered
naming_none cs = keep (λ c. nobodys c.1) cs

-- ---- stretches

-- bus frames, advances and closes cut a sequence
unfoldable pub is_cut : Event → Bool
is_cut (connect l p f r) = false
is_cut (call k x) = false
is_cut (frame l w n b) = true
is_cut (advance t) = true
is_cut close = true

-- a stretch has no cut in it
abbrev pub Stretch : List Numbered → Type 0
Stretch cs = T (all (λ c. not (is_cut c.1)) cs)

-- ---- arrangements

-- AN ARRANGEMENT: each number stands for the same event as before, with all its arguments and lent bytes, and as often; each channel's events stand in
-- their own order. Those naming none may stand anywhere
pub record Arrangement (cs zs : List Numbered) : Type 0 where
  pub each : (n : ℕ) → with_number n zs ≡ with_number n cs
  pub order : (i : ℕ) → i < channels → of_channel i zs ≡ of_channel i cs

-- each stretch arranged anew; the cuts stay where they are
pub data Rearranged : List Numbered → List Numbered → Type 0 where
  stretch : (cs zs : List Numbered) → Stretch cs → Arrangement cs zs → Rearranged cs zs
  cut : (cs zs : List Numbered) (c : Numbered) (cs' zs' : List Numbered) → Stretch cs → Arrangement cs zs → T (is_cut c.1) → Rearranged cs' zs'
      → Rearranged (cs ++ c ∷ cs') (zs ++ c ∷ zs')

-- ---- serving channel after channel

-- n channels from place i on, each served wholly, then those that name none
unfoldable pub served_from : ℕ → ℕ → List Numbered → List Numbered
served_from zero i cs = naming_none cs
served_from (suc n) i cs = of_channel i cs ++ served_from n (suc i) cs

-- channel 1 wholly, then 2, and so on to 8, calls naming none last
unfoldable pub served : List Numbered → List Numbered
served cs = served_from channels 0 cs

-- each stretch served; s is the stretch so far
unfoldable pub whole_from : List Numbered → List Numbered → List Numbered
whole_from s [] = served s
whole_from s (c ∷ cs) = if is_cut c.1 then served s ++ c ∷ whole_from [] cs else whole_from (s ++ c ∷ []) cs

unfoldable pub whole_shift : List Event → List Numbered
whole_shift es = whole_from [] (numbered es)

-- ---- the answer to each event

-- of one answer for each event, the one to the event with number n
unfoldable pub to_number : ℕ → List Numbered → List Answer → Option Answer
to_number n [] rs = none
to_number n (c ∷ cs) [] = none
to_number n (c ∷ cs) (r ∷ rs) = if eqb c.0 n then some r else to_number n cs rs

-- what the event with number n is answered where they are made in this order
unfoldable pub answer_to : List ℕ → Device → List Numbered → ℕ → Option Answer
answer_to rates d cs n = to_number n cs (answers rates d (events cs))

-- WHOLE SHIFT. Both orders end in the same device, the whole of it, and each event gets the same answer: its code, its value and every lent byte
pub record SameEnd (rates : List ℕ) (d : Device) (zs ws : List Numbered) : Type 0 where
  pub device : run rates d (events zs) ≡ run rates d (events ws)
  pub answer : (n : ℕ) → answer_to rates d zs n ≡ answer_to rates d ws n
