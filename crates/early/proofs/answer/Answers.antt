-- `early::answer` meets its contract: ten filters that are held are ten cubes. Assumes nothing.
use mathlib.Core.Path.{◌≡◌}
use mathlib.Core.List.{List}
use Prim.Native.Nat.{ℕ}
use native.Mathlib.Omega.{arith}
use lib.ListN.{length-set}
use borrow.Author.Rules.{rules}
use Rattle.codec.proofs.Lists.{bytes_of_law}
use Rattle.machine.specs.Limits.{most_places}
use Rattle.machine.specs.Message.{id_bytes}
use Rattle.layout.specs.Memory.{filters}
use Rattle.filterwalk.specs.Columns.{listed}
use Rattle.filterwalk.proofs.Listed.{listed_more, listed_done}
use Rattle.early.specs.Cubes.{mask_at, pattern_at}
use Rattle.early.proofs.Held.{conds}
use Rattle.early.proofs.answer.Goals as goal

pub loop-f-init : goal.loop-f-init
unfolding listed
loop-f-init c = search rules

pub cube_at-one-requires : goal.cube_at-one-requires
cube_at-one-requires c = (c.requires.long, search rules)

pub loop-f-preserved : goal.loop-f-preserved
loop-f-preserved c =
    let l = c.loop-f in
    let a = c.args in
    let m : List ℕ = a.part.now in (
      omega arith,
      simp length-set (search rules),
      simp length-set (search rules),
      listed_more (mask_at m a.wide a.id) l.f l.ms c.cube_at-one.result.mask (omega arith) c.cube_at-one.ensures.0 l.invariant.3,
      listed_more (pattern_at m a.wide a.id) l.f l.ps c.cube_at-one.result.pattern (omega arith) c.cube_at-one.ensures.1 l.invariant.4,
    )

pub returns : goal.returns
returns c =
    let l = c.loop-f in
    let a = c.args in
    let m : List ℕ = a.part.now in
    let e : l.f ≡ most_places = omega arith in
    λ flags.
    c.decide.ensures ((filters flags).get m) a.wide (id_bytes a.id)
    (conds m c.requires (bytes_of_law m (λ i. (c.shared_slice_known-1.given i).fits)) a.wide a.id flags l.ms l.ps
    (listed_done (mask_at m a.wide a.id) most_places l.ms l.invariant.1 (rw e at l.invariant.3))
    (listed_done (pattern_at m a.wide a.id) most_places l.ps l.invariant.2 (rw e at l.invariant.4)))
