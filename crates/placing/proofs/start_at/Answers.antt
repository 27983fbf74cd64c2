-- `placing::start_at` meets its contract. Assumes nothing.
use mathlib.Core.Path.{◌≡◌, refl}
use Prim.Native.Nat.{◌+◌, ◌*◌, ◌-◌}
use native.Mathlib.Omega.{arith}
use Rattle.codec.proofs.Lists.{bytes_of_law}
use Rattle.placing.proofs.Placed.{start_stored}
use Rattle.message.proofs.Laws.{size_of_good}
use borrow.Author.Rules.{rules}
use Rattle.machine.specs.Limits.{record_size}
use Rattle.layout.specs.Sizes.{messages_in}
use Rattle.placing.proofs.start_at.Goals as goal

pub put_clean-requires : goal.put_clean-requires
put_clean-requires c =
    let s = c.requires.0 in
    let size = size_of_good s.part.flags _ s.good in
    (search rules, s.long, size.1)

pub returns : goal.returns
returns c =
    let i = c.args.i in
    let s = c.requires.0 in
    let size : messages_in + i * record_size + record_size - (messages_in + i * record_size) ≡ record_size = omega arith in
    λ flags.
    start_stored c.args.part.now s.part i c.requires.1 c.put_timer.new.part (messages_in + i * record_size) _ c.put_clean.new.cell refl size flags
    c.args.message.now c.args.interval (search rules) s.long (bytes_of_law c.args.message.now (λ k. (c.shared_slice_known-1.given k).fits)) s.good s.speaks
    c.put_timer.ensures c.put_clean.ensures
