-- `link_acknowledging::next_block` meets its contract: the message's end, or what is left of it. Assumes nothing.
use mathlib.Core.Path.{ap}
use Prim.Native.Nat.{ℕ, ◌*◌}
use Rattle.link_acknowledging.proofs.Messages.{lent, anew, ends, follows, enough}
use Rattle.link_acknowledging.proofs.next_block.Goals as goal

pub count-requires : goal.count-requires
count-requires c =
    let m = c.args.s.now in
    let p = lent m c.requires.0 c.requires.1 in (p.long, p.valid)

pub returns-then-count-done : goal.returns-then-count-done
returns-then-count-done c =
    let m = c.args.s.now in
    let n = c.count.ensures.0 in
    let d = ap (λ (k : ℕ). 7 * k) c.wide-done.ensures.0 in ends m c.requires.0 c.requires.1 c.requires.2 _ _ n d c.if-count-done.true _ c.zero.ensures

pub drop_bytes-requires : goal.drop_bytes-requires
drop_bytes-requires c =
    let m = c.args.s.now in
    let n = c.count.ensures.0 in
    let d = ap (λ (k : ℕ). 7 * k) c.wide-done.ensures.0 in
    let p = anew m c.requires.0 c.requires.1 _ c.restart.ensures in (p.long, p.valid, enough m c.requires.0 c.requires.1 c.requires.2 _ _ n d c.if-count-done.false _ c.restart.ensures)

pub returns : goal.returns
returns c =
    let m = c.args.s.now in
    let n = c.count.ensures.0 in
    let d = ap (λ (k : ℕ). 7 * k) c.wide-done.ensures.0 in follows m c.requires.0 c.requires.1 c.requires.2 _ _ n d c.if-count-done.false _ c.restart.ensures _ c.drop_bytes.ensures
