-- `telegram_record::pack` meets its contract. Assumes nothing.
use mathlib.Core.Path.{◌≡◌}
use lib.ListN.{length}
use Rattle.telegram_record.proofs.Fills.{put_all}
use borrow.Author.Rules.{rules}
use Rattle.telegram_record.proofs.pack.Goals as goal

pub returns : goal.returns
returns c =
    let a = c.args in
    let five : length a.fields ≡ 5 = search rules in
    put_all a.kind a.len a.fields a.payload _ _ _ _ _ _ _ five c.put_carried.ensures c.put-a.ensures c.put.ensures c.put-b.ensures c.put-2.ensures c.put-c.ensures c.put-3.ensures
