-- A record by what varies in it. Assumes nothing.
use Rattle.std.specs.Prelude.{ℕ, List}
use Rattle.machine.specs.Message.{Rec}

unfoldable pub told : (rx tx time : ℕ) → List ℕ → Rec
told rx tx time bytes = record { rx = rx; tx = tx; time = time; bytes = bytes }
