-- `link_acknowledging::cut` meets its contract: no message, all taken, or one empty telegram. Assumes nothing.
use mathlib.Core.Path.{sym, subst}
use mathlib.Core.List.{[]}
use Prim.Native.Nat.{ℕ, ◌≤◌, ◌<◌}
use Rattle.link_layout.specs.Connection.{out}
use Rattle.link_layout.proofs.Turning.{made, refused}
use Rattle.link_acknowledging.proofs.Messages.{lent, nothing_sent, all_taken, is_cut, refilled}
use Rattle.link_acknowledging.proofs.cut.Goals as goal

pub returns-then-s-eq0 : goal.returns-then-s-eq0
returns-then-s-eq0 c =
    let m = c.args.s.now in
    refused out _ m (nothing_sent m c.requires.0 c.requires.1 c.if-s-eq0.true)

pub count-held-requires : goal.count-held-requires
count-held-requires c =
    let m = c.args.s.now in
    let p = lent m c.requires.0 c.requires.1 in (p.long, p.valid)

pub returns-then-telegrams-wide : goal.returns-then-telegrams-wide
returns-then-telegrams-wide c =
    let m = c.args.s.now in
    refused out _ m (all_taken m c.requires.0 c.requires.1 _ (c.telegrams.ensures.0 _ (sym c.count-held.ensures.0)) (subst (λ (n : ℕ). c.telegrams.result ≤ n) c.wide.ensures.0 c.if-telegrams-wide.true))

pub returns : goal.returns
returns c =
    let m = c.args.s.now in
    made out _ m _ _ (is_cut m c.requires.0 c.requires.1 _ (c.telegrams.ensures.0 _ (sym c.count-held.ensures.0)) c.if-s-eq0.false (subst (λ (n : ℕ). n < c.telegrams.result) c.wide.ensures.0 c.if-telegrams-wide.false))
    (refilled m c.requires.0 c.requires.1 _ c.restart.ensures _ [] c.clear.ensures)
