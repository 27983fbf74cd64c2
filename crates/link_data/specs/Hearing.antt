-- What data makes of what is received, by itself: none where they end the connection. That the judge's `data_heard` is this is proved in proofs/Meaning.
-- Assumes nothing.
use Rattle.std.specs.Prelude.{ℕ, ◌+◌, Bool, true, false, not, List, length, eqb, ltb, if◌then◌else◌}
use Rattle.std.proofs.Math.Option.{Option, none, some}
use Rattle.link.specs.Connection.{longest, Hear, heard_data, answering}

unfoldable pub hearing : Bool → Bool → ℕ → List ℕ → Hear → Option Hear
hearing asking last sn b h =
    if h.complete then some (if asking then answering h false else h)
    else if not (eqb sn h.expected) then some (answering h true)
    else if ltb longest (length h.bytes + length b) then none
    else some (heard_data h asking last b)
