-- `talk_starting::start` meets its contract: read, stored, told. Assumes nothing.
use mathlib.Core.Path.{sym, ap, ◌∙◌}
use native.Mathlib.Omega.{arith}
use mathlib.Core.List.{List, []}
use Prim.Native.Nat.{ℕ}
use Rattle.iso.specs.Iso.{start_of}
use Rattle.talk_head.specs.Headed.{with_head, with_payload}
use Rattle.talk_giving.proofs.Laws.{free_gave, some_talk}
use Rattle.talk_starting.proofs.Laws.{starts_one, starts_none}
use Rattle.talk_starting.proofs.start.Goals as goal

-- src/lib.rt:63:9
pub returns-then-t-eq0 : goal.returns-then-t-eq0
returns-then-t-eq0 c =
    (λ m k ew ei eb. free_gave c.args.t.now c.requires.0 (λ c'. start_of m k c' c'.transfer) [] c.if-t-eq0.true, omega arith)

-- src/lib.rt:68:9
pub returns-then-may_start : goal.returns-then-may_start
returns-then-may_start c =
    let t = c.args.t.now in
    let b = c.args.payload.now in
    let may = c.may_start in
    let next = c.first_taken in
    let put = c.put_head in
    let set = c.set_payload in
    let first = c.first in (
      λ m k ew ei eb.
          starts_one t c.requires.0 c.if-t-eq0.false m k c.args.wide c.args.id ew ei first.result first.new.d set.new.t b eb (sym may.ensures ∙ c.if-may_start.true)
          (λ c'. (first.ensures c').0) (set.ensures ∙ ap (λ (x : List ℕ). with_payload b x) (put.ensures ∙ ap (λ y. with_head y t) next.ensures)),
      (first.ensures some_talk).1,
    )

-- src/lib.rt:58:1
pub returns : goal.returns
returns c = (
  λ m k ew ei eb. starts_none c.args.t.now c.requires.0 c.if-t-eq0.false m k c.args.wide c.args.id ew ei [] (sym c.may_start.ensures ∙ c.if-may_start.false),
  omega arith,
)
