-- `zeros::eight_end` meets its contract. Assumes nothing.
use Rattle.zeros.proofs.Tail.{eight_end_law}
use lib.Dec.{eqb}
use Prim.Native.Nat.{◌+◌, ◌*◌, ◌/◌, ◌^◌}
use mathlib.Core.Path.{◌∙◌}
use Rattle.zeros.proofs.eight_end.Goals as goal

pub returns : goal.returns
returns c = let a = c.word_at.ensures in
    let b = c.word_at-2.ensures in
    c.fits_bytes.ensures ∙ (λ j. eqb ((a.0 j + 0x1_0000_0000 * b.0 j) / 2 ^ (8 * c.args.k)) 0)
    ∙ eight_end_law c.args.s.now a.1 c.args.at c.args.k c.requires.0
