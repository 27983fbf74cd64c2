-- `receiving::receive` meets its contract: RxStatus is the width flag. Assumes nothing.
use mathlib.Core.Path.{ap}
use Prim.Native.Nat.{ℕ}
use mathlib.Core.List.{List, ◌++◌}
use Rattle.machine.specs.Message.{width_flag, id_bytes, received}
use Rattle.receiving.proofs.Laws.{as_record}
use Rattle.receiving.proofs.receive.Goals as goal

pub returns : goal.returns
returns c =
    let args = c.args in
    let frame : List ℕ = id_bytes args.id ++ args.bytes.now in
    let flag = c.width_flag in
    let came = c.arrive in
    as_record args.r.now came.new.r (received args.clock flag.result frame) (received args.clock (width_flag args.wide) frame) came.ensures
    (ap (λ (rx : ℕ). received args.clock rx frame) flag.ensures)
