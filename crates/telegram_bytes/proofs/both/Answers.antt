-- `telegram_bytes::both` meets its contract. Assumes nothing.
use lib.ListN.{length-append}
use Rattle.telegram_types.specs.Face.{wrote, done}
use Rattle.telegram_bytes.proofs.Writes.{over_both}
use Rattle.telegram_bytes.proofs.both.Goals as goal

pub returns : goal.returns
unfolding wrote done
returns c =
    let a = c.args in
    let h = a.head.now in
    let r = a.rest.now in
    rw (over_both h r a.buf.now _ _ c.put.ensures c.put-2.ensures, length-append h r)
