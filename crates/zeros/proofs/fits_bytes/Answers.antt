-- `zeros::fits_bytes` meets its contract: eight bytes are enough, else what is above k bytes is nothing. Assumes nothing.
use Rattle.zeros.proofs.Tail.{whole}
use borrow.Author.Rules.{rules}
use Rattle.zeros.proofs.fits_bytes.Goals as goal

pub returns-then-k-gt7 : goal.returns-then-k-gt7
returns-then-k-gt7 c = whole c.args.x c.args.k c.if-k-gt7.true (search rules) (search rules)
