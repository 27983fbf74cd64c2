-- `talk_starts::put_talk` meets its contract: by what is stored over zeros. Assumes nothing.
use mathlib.Core.List.{List}
use Prim.Native.Nat.{ℕ}
use native.Mathlib.Omega.{arith}
use lib.ListN.{set, length-set}
use borrow.Rule.Slice.PartMut.{put_mid}
use Rattle.iso_layout.specs.Sizes.{pattern_in, flow_in}
use mathlib.Core.Path.{◌∙◌}
use Rattle.talk_starts.proofs.Laws.{marked, fresh_put}
use Rattle.talk_starts.proofs.put_talk.Goals as goal

-- the place with both identifiers
abbrev named : (t pattern flow : List ℕ) → List ℕ
named t pattern flow = put_mid flow_in 4 (put_mid pattern_in 4 t pattern) flow

pub bounds-t-1 : goal.bounds-t-1
bounds-t-1 c =
    omega (arith, length-set (named c.args.t.now c.put_word.new.s c.put_word-2.new.s) 0 1)

pub shape_of-t : goal.shape_of-t
shape_of-t c =
    let put : List ℕ = named c.args.t.now c.put_word.new.s c.put_word-2.new.s in
    omega (arith, length-set put 0 1, length-set (set put 0 1) 1 c.from.result)

pub returns : goal.returns
returns c =
    let a = c.args in
    λ flags. fresh_put a.t.now c.requires.1 flags a.wide a.pattern a.flow _ (c.from.ensures ∙ marked a.wide) _ _ c.put_word.ensures c.put_word-2.ensures
