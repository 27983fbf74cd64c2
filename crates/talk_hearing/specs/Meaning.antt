-- What becomes of a conversation and what it tells, by what a frame means to it. Assumes nothing.
use Rattle.std.specs.Prelude.{ℕ, ◌+◌, ◌≤◌, ◌<◌, ◌≡◌, Bool, List, [], ◌++◌, length, take, drop, eqb}
use Rattle.iso.specs.Limits.{most_payload, in_first, in_next}
use Rattle.iso.specs.Iso.{Talk, idle, refuses, Heard, becomes, rx_start, arrived}
use Rattle.iso_layout.specs.Region.{transfer_parts}
use Rattle.talk_head.specs.declared.Head.{Head}
use Rattle.talk_head.specs.Headed.{head_parts, headed}
use Rattle.talk_hearing.specs.declared.Means.{Means}
use Rattle.talk_hearing.specs.declared.Means.TheVariants.{Nothing, Single, Instead, Start, Refuse, Drop, More, Last, Flow}

-- at the clock t, of a conversation that holds the payload p, with the frame b
unfoldable pub meant : Means → ℕ → Talk → List ℕ → List ℕ → Heard
meant Nothing t c p b = becomes c.transfer []
meant (Single n) t c p b = becomes c.transfer (arrived t c (take n (drop 1 b)))
meant (Instead n) t c p b = becomes idle (arrived t c (take n (drop 1 b)))
meant (Start h) t c p b = becomes (headed h (take in_first (drop 2 b))) (rx_start t c)
meant Refuse t c p b = becomes refuses []
meant Drop t c p b = becomes idle []
meant (More h) t c p b = becomes (headed h (p ++ take in_next (drop 1 b))) []
meant (Last n) t c p b = becomes idle (arrived t c (p ++ take n (drop 1 b)))
meant (Flow h) t c p b = becomes (headed h p) []

-- a conversation whose transfer has the head h and the payload p
pub record Conversing (c : Talk) (h : Head) (p : List ℕ) (held : ℕ) (same : Bool) : Type 0 where
  pub transfer : c.transfer ≡ headed h p
  pub holds : length p ≡ held
  pub alike : eqb c.pattern c.flow ≡ same

-- m is what f says of every such conversation
abbrev pub Meant : Means → Head → ℕ → Bool → List ℕ → (ℕ → Talk → Heard) → Type 0
Meant m h held same b f = (t : ℕ) (c : Talk) (p : List ℕ) → Conversing c h p held same → f t c ≡ meant m t c p b

-- a head that its transfer gives again, whatever the payload: what plays no part is zero
abbrev pub Plain : Head → Type 0
Plain h = (p : List ℕ) → transfer_parts (headed h p) ≡ head_parts h p

-- the frame has the bytes that it is to give, and they fit behind the payload
abbrev pub Room : Means → ℕ → List ℕ → Type 0
Room Nothing held b = Unit {0}
Room (Single n) held b = n < length b
Room (Instead n) held b = n < length b
Room (Start h) held b = Plain h × (2 + in_first ≤ length b)
Room Refuse held b = Unit {0}
Room Drop held b = Unit {0}
Room (More h) held b = Plain h × (1 + in_next ≤ length b) × (held + in_next ≤ most_payload)
Room (Last n) held b = (n < length b) × (held + n ≤ most_payload)
Room (Flow h) held b = Plain h

-- it holds no more than a payload, and while it receives no more than the length that it awaits
pub record Sized (h : Head) (held : ℕ) : Type 0 where
  pub most : held ≤ most_payload
  pub part : h.kind ≡ 2 → held ≤ h.n
  pub whole : h.kind ≡ 2 → h.n ≤ most_payload
