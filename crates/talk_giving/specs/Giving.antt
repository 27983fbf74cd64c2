-- What a conversation's place gives to be sent, and what it holds afterwards; the heads of transfers whose frame was taken. Assumes nothing.
use Rattle.std.specs.Prelude.{◌≡◌, ℕ, ◌+◌, Bool, false, ◌&&◌, ◌||◌, List, [], take, T, eqb, if◌then◌else◌}
use Rattle.std.proofs.Math.Option.{Option, none, some}
use Rattle.codec.specs.Code.{slot}
use Rattle.iso.specs.Limits.{in_next}
use Rattle.iso.specs.Iso.{Talk, Given, turned}
use Rattle.iso_layout.specs.Region.{talk_cell}
use Rattle.talk_head.specs.declared.Head.{Head}
use Rattle.framing.specs.Data.{carried}

-- ---- by the head of its transfer: whether a flow frame waits, its status, and the transfer without it
unfoldable pub flow_waits : Head → Bool
flow_waits h = eqb h.kind 1 || eqb h.kind 2 && h.waits

unfoldable pub flow_status : Head → ℕ
flow_status h = if eqb h.kind 1 then 2 else 0

unfoldable pub flow_taken : Head → Head
flow_taken h =
    if eqb h.kind 1 then record { kind = 0; n = 0; time = 0; left = 0; gap = 0; waits = false }
    else record { kind = h.kind; n = h.n; time = h.time; left = h.left; gap = h.gap; waits = false }

-- whether STmin is over, and the transmission whose next frame flies
unfoldable pub next_due : Head → Bool
next_due h = eqb h.kind 6 && eqb h.time 0

unfoldable pub next_taken : Head → Head
next_taken h = record { kind = 5; n = h.n + in_next; time = 0; left = h.left; gap = h.gap; waits = false }

-- ---- a conversation's place, on a connection of some flags
pub record Placed (t : List ℕ) : Type 0 where
  pub flags : ℕ
  pub valid : T ((slot (talk_cell flags)).valid t)

-- the data of what it gives by a rule, and what it holds then
unfoldable pub data_of : Option Given → List ℕ
data_of none = []
data_of (some g) = carried g.frame

unfoldable pub after : Talk → Option Given → Talk
after c none = c
after c (some g) = turned c g.transfer

unfoldable pub given_by : (Talk → Option Given) → Option Talk → List ℕ
given_by f none = []
given_by f (some c) = data_of (f c)

unfoldable pub left_by : (Talk → Option Given) → Option Talk → Option Talk
left_by f none = none
left_by f (some c) = some (after c (f c))

-- n bytes of d are the data of what the place t gives, and u is the place then
abbrev pub Gave : (Talk → Option Given) → ℕ → List ℕ → List ℕ → List ℕ → Type 0
Gave f n d t u =
    (flags : ℕ)
    → T ((slot (talk_cell flags)).valid t)
    → (take n d ≡ given_by f ((slot (talk_cell flags)).get t)) × (u ≡ (slot (talk_cell flags)).put (left_by f ((slot (talk_cell flags)).get t)))
