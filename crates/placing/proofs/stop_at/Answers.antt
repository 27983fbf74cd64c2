-- `placing::stop_at` meets its contract. Assumes nothing.
use mathlib.Core.Path.{◌≡◌, refl}
use Prim.Native.Nat.{◌+◌, ◌*◌, ◌-◌}
use native.Mathlib.Omega.{arith}
use Rattle.placing.proofs.Placed.{stop_stored}
use borrow.Author.Rules.{rules}
use Rattle.machine.specs.Limits.{record_size}
use Rattle.layout.specs.Sizes.{messages_in}
use Rattle.placing.proofs.stop_at.Goals as goal

pub returns : goal.returns
returns c =
    let i = c.args.i in
    let size : messages_in + i * record_size + record_size - (messages_in + i * record_size) ≡ record_size = omega arith in
    λ flags.
    stop_stored c.args.part.now c.requires.0 i c.requires.1 c.put_timer.new.part (messages_in + i * record_size) _ c.zero.new.d refl size flags
    c.put_timer.ensures (search rules) c.zero.ensures
