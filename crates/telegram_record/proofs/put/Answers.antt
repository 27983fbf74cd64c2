-- `telegram_record::put` meets its contract. Assumes nothing.
use Prim.Native.Nat.{◌+◌, ◌-◌}
use mathlib.Core.Path.{◌≡◌}
use native.Mathlib.Omega.{arith}
use Rattle.telegram_record.proofs.put.Goals as goal

pub returns : goal.returns
returns c =
    let at = c.args.at in
    let four : at + 4 - at ≡ 4 = omega arith in
    rw (four, c.put_word.ensures)
