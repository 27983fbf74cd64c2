-- Whether a conversation's place may start a message, and the head of a transmission whose first frame was taken. Assumes nothing.
use Rattle.std.specs.Prelude.{ℕ, Bool, false, ◌&&◌, List, get_or, eqb}
use Rattle.std.specs.Bool.{beq}
use Rattle.codec.specs.Word.{word_at}
use Rattle.iso.specs.Limits.{in_first}
use Rattle.iso_layout.specs.Sizes.{flow_in}
use Rattle.talk_head.specs.declared.Head.{Head}
use Rattle.talk_head.specs.Headed.{head_at}

-- it is idle, and its width and its flow identifier are the message's
unfoldable pub may_start : Bool → ℕ → List ℕ → Bool
may_start wide id t = eqb (head_at t).kind 0 && (beq wide (eqb 1 (get_or t 1 0)) && eqb id (word_at flow_in t))

unfoldable pub first_taken : Head
first_taken = record { kind = 3; n = in_first; time = 0; left = 0; gap = 0; waits = false }
