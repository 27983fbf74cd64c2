-- `iso_talks::apart` meets its contract. Assumes nothing.
use Rattle.iso_talks.proofs.Links.{apart_first, apart_second, apart_is}
use lib.ListN.{get_or}
use lib.Dec.{eqb}
use Prim.Native.Nat.{ℕ}
use mathlib.Core.List.{List}
use mathlib.Core.Bool.{◌&&◌, ◌||◌, not, beq}
use mathlib.Core.Path.{◌∙◌}
use Rattle.iso_talks.proofs.apart.Goals as goal

pub returns-then-a-eq0 : goal.returns-then-a-eq0
returns-then-a-eq0 c = λ flags. apart_first flags c.args.a.now c.args.b.now c.if-a-eq0.true

pub returns-then-b-eq0 : goal.returns-then-b-eq0
returns-then-b-eq0 c = λ flags. apart_second flags c.args.a.now c.args.b.now c.if-a-eq0.false c.if-b-eq0.true

pub returns : goal.returns
returns c = let a : List ℕ = c.args.a.now in
    let b : List ℕ = c.args.b.now in
    let p = c.word_at-pattern.ensures.0 in
    let f = c.word_at-flow.ensures.0 in
    let h = c.word_at-heard.ensures.0 in
    let s = c.word_at-sent.ensures.0 in
    λ flags.
    (λ j. not (beq (eqb 1 (get_or a 1 0)) (eqb 1 (get_or b 1 0)) && ((eqb (p j) (h j) || eqb (p j) (s j)) || (eqb (f j) (h j) || eqb (f j) (s j)))))
    ∙ apart_is flags a b c.if-a-eq0.false c.if-b-eq0.false
