-- A head with another time, and that of a transfer that waits for a frame. Assumes nothing.
use Rattle.std.specs.Prelude.{ℕ, ◌+◌, false, leb, if◌then◌else◌}
use Rattle.iso.specs.Limits.{second}
use Rattle.talk_head.specs.declared.Head.{Head}

unfoldable pub timed : Head → ℕ → Head
timed h time = record { kind = h.kind; n = h.n; time = time; left = h.left; gap = h.gap; waits = h.waits }

unfoldable pub idle_head : Head
idle_head = record { kind = 0; n = 0; time = 0; left = 0; gap = 0; waits = false }

-- it ends after one second
unfoldable pub ended : Head → ℕ → Head
ended h us = if leb second (h.time + us) then idle_head else timed h (h.time + us)
