-- A head once the frame of its transfer was sent; the message that a conversation's place holds whole. Assumes nothing.
use Rattle.std.specs.Prelude.{ℕ, ◌-◌, Bool, false, List, [], ◌∷◌, get_or, eqb, leb, if◌then◌else◌}
use Rattle.codec.specs.Word.{word_at}
use Rattle.machine.specs.Message.{Rec}
use Rattle.iso.specs.Iso.{framed}
use Rattle.iso_layout.specs.Sizes.{flow_in}
use Rattle.talk_head.specs.Headed.{payload_at}
use Rattle.talk_head.specs.declared.Head.{Head}
use Rattle.talk_times.specs.Timed.{idle_head}

-- it awaits a flow frame from now on
unfoldable pub awaiting : ℕ → Head
awaiting n = record { kind = 4; n = n; time = 0; left = 0; gap = 0; waits = false }

-- a consecutive frame was sent: of all bytes, of the last frame of a block, of another
unfoldable pub advanced : Head → ℕ → Head
advanced h size =
    if leb size h.n then idle_head
    else if eqb h.left 1 then awaiting h.n
    else record { kind = 6; n = h.n; time = h.gap; left = h.left - 1; gap = h.gap; waits = false }

-- ---- in the bytes of a conversation's place

unfoldable pub wide_at : List ℕ → Bool
wide_at t = eqb 1 (get_or t 1 0)

unfoldable pub flow_at : List ℕ → ℕ
flow_at t = word_at flow_in t

-- the message with all of the payload, if it is one
unfoldable pub whole_if : Bool → List ℕ → List Rec
whole_if whole t = if whole then framed (wide_at t) (flow_at t) (payload_at t) ∷ [] else []
