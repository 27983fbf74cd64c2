-- The bytes of a record in two parts, as code writes them: six numbers, then data and zeros. Assumes nothing.
use Rattle.std.specs.Prelude.{ℕ, ◌-◌, List, ◌++◌, length}
use Rattle.codec.specs.Plain.{zeros}
use Rattle.codec.specs.Word.{word}

-- the six numbers: protocol, RxStatus, TxFlags, timestamp, data size, extra index
unfoldable pub numbers : (protocol rx tx time size extra : ℕ) → List ℕ
numbers protocol rx tx time size extra = word protocol ++ word rx ++ word tx ++ word time ++ word size ++ word extra

-- bytes, and zeros behind them up to n
unfoldable pub padded : ℕ → List ℕ → List ℕ
padded n b = b ++ zeros (n - length b)
