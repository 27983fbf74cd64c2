-- `log_input::whole_lines` meets its contract. The invariant: the bytes before a place were looked at. Assumes nothing.
use Prim.Native.Nat.{ℕ, ◌+◌}
use mathlib.Core.Path.{sym, subst₂}
use mathlib.Core.List.{List}
use mathlib.Core.Logic.{⊎_elim}
use native.Mathlib.Omega.{arith}
use Rattle.log_input.proofs.Cutting.{Looked, none_looked, at_newline, at_another, all_looked}
use Rattle.log_input.proofs.whole_lines.Goals as goal

pub loop-i-preserved : goal.loop-i-preserved
loop-i-preserved c =
    let l = c.loop-i in
    let log : List ℕ = c.args.log.now in
    ⊎_elim
    (λ w. subst₂ (λ (e n : ℕ). Looked log e n (l.i + 1)) (sym w.end-is) (sym w.line-is) (at_newline l.invariant c.loop-i-test.true w.if-log-i-eq-NEWLINE.true))
    (λ w. subst₂ (λ (e n : ℕ). Looked log e n (l.i + 1)) (sym w.end-is) (sym w.line-is) (at_another l.invariant c.loop-i-test.true w.if-log-i-eq-NEWLINE.false))
    c.if-log-i-eq-NEWLINE.branch-raw

pub loop-i-init : goal.loop-i-init
loop-i-init c = none_looked _

pub overflow_add-line : goal.overflow_add-line
overflow_add-line c = omega (arith, c.loop-i.invariant.few)

pub returns : goal.returns
returns c = all_looked c.loop-i.invariant c.loop-i-test.false
