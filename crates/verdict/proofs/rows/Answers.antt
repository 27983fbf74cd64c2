-- `verdict::rows` meets its contract. The invariant: the first f rows are those of the memory. Assumes nothing.
use mathlib.Core.Path.{◌≡◌, sym, ap, ◌∙◌}
use mathlib.Core.List.{List}
use Prim.Native.Nat.{ℕ, ◌+◌, ◌*◌, ◌-◌, ◌≤◌}
use native.Mathlib.Omega.{arith}
use lib.ListN.{length, take, drop, length-set, length-drop}
use lib.Seq.{length-take-le}
use borrow.Author.Rules.{rules}
use Rattle.machine.specs.Limits.{most_places, most_data}
use Rattle.filterwalk.specs.Columns.{listed, ten_rows}
use Rattle.filterwalk.proofs.Listed.{listed_more, listed_done}
use Rattle.verdict.proofs.rows.Goals as goal

-- twelve bytes that are lent from a place to another
row_lent : (m : List ℕ) (at f : ℕ) → take (at + f * most_data + most_data - (at + f * most_data)) (drop (at + f * most_data) m) ≡ take most_data (drop (at + f * most_data) m)
row_lent m at f =
    let e : at + f * most_data + most_data - (at + f * most_data) ≡ most_data = omega arith in
    ap (λ (k : ℕ). take k (drop (at + f * most_data) m)) e

row_long : (m : List ℕ) (at f : ℕ) → at + f * most_data + most_data ≤ length m → length (take (at + f * most_data + most_data - (at + f * most_data)) (drop (at + f * most_data) m)) ≡ most_data
row_long m at f h = ap length (row_lent m at f) ∙ length-take-le most_data (drop (at + f * most_data) m) (omega (arith, length-drop (at + f * most_data) m))

pub loop-f-init : goal.loop-f-init
unfolding listed
loop-f-init c = search rules

pub copy-requires : goal.copy-requires
copy-requires c =
    let l = c.loop-f in
    let a = c.args in
    c.copy-arg-1.given.0.1 ∙ sym (row_long a.mem.now a.at l.f (omega arith))

pub loop-f-preserved : goal.loop-f-preserved
loop-f-preserved c =
    let l = c.loop-f in
    let a = c.args in
    let m : List ℕ = a.mem.now in (
      omega arith,
      simp length-set (search rules),
      listed_more (λ k. take most_data (drop (a.at + k * most_data) m)) l.f l.out _ (omega arith) (c.copy.ensures ∙ row_lent m a.at l.f) l.invariant.2,
    )

pub returns : goal.returns
unfolding ten_rows
returns c =
    let l = c.loop-f in
    let a = c.args in
    let m : List ℕ = a.mem.now in
    let e : l.f ≡ most_places = omega arith in
    listed_done (λ k. take most_data (drop (a.at + k * most_data) m)) most_places l.out l.invariant.1 (rw e at l.invariant.2)
