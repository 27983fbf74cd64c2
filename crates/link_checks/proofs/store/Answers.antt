use mathlib.Core.Path.{◌∙◌}
use Prim.Native.Nat.{◌+◌, ◌-◌}
use lib.ListN.{length}
use native.Mathlib.Omega.{arith}
use Rattle.link_checks.proofs.Texts.{store_over, store_good}
use Rattle.link_checks.proofs.store.Goals as goal

pub returns-then-n-gt-MOST_BYTES : goal.returns-then-n-gt-MOST_BYTES
returns-then-n-gt-MOST_BYTES c = store_over c.args.s.now c.requires c.word_at-n.ensures.1 (omega (arith, c.word_at-n.ensures.0))

pub returns : goal.returns
returns c =
    let m = c.args.s.now in
    let w = c.word_at-n.ensures in
    let n = c.word_at-n.result in
    c.all_zero.ensures ∙ store_good m c.requires w.1 n (length m - (4 + n)) w.0 (omega arith) (omega arith)
