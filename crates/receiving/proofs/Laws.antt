-- A record that arrives, in other words. Assumes nothing.
use mathlib.Core.Path.{◌≡◌, ap, ◌∙◌}
use Prim.Native.Nat.{ℕ}
use mathlib.Core.List.{List}
use Rattle.machine.specs.Message.{Rec}
use Rattle.layout.specs.Memory.{region}
use Rattle.queue.specs.Queue.{arrived}

-- the same record in other words arrives
pub as_record : (r r' : List ℕ) (x y : Rec) → r' ≡ region.put (arrived x (region.get r)) → x ≡ y → r' ≡ region.put (arrived y (region.get r))
as_record r r' x y h e = h ∙ ap (λ (z : Rec). region.put (arrived z (region.get r))) e
