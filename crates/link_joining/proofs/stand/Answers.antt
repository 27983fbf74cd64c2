use mathlib.Core.Path.{◌≡◌}
use Prim.Native.Nat.{◌+◌, min}
use native.Mathlib.Omega.{arith}
use mathlib.Core.Logic.{⊎_elim}
use lib.ListN.{get_or, length-set}
use borrow.Rule.Slice.PartMut.{put_mid}
use Rattle.link_layout.proofs.Places.{connects, connecting_asked_part}
use Rattle.link.specs.Connection.{anew}
use Rattle.link_layout.specs.Sizes.{asked_at, block_size_in, trials_at, trials_size}
use Rattle.link_layout.proofs.Asked.{block_size_is}
use Rattle.link_joining.proofs.Bytes.{stood}
use Rattle.link_joining.proofs.stand.Goals as goal

pub slice_bounds-fresh-end : goal.slice_bounds-fresh-end
slice_bounds-fresh-end c = simp length-set (omega arith)

pub shape_of-part : goal.shape_of-part
shape_of-part c =
    omega (arith, length-set (put_mid trials_at trials_size c.args.part.now c.zero.new.d) 0 3)

pub returns : goal.returns
returns c a tx n t e =
    let m = c.args.part.now in
    let own : get_or m (asked_at + block_size_in) 0 ≡ a.block_size = block_size_is m a (connecting_asked_part m c.requires a tx n t e) (connects m c.requires a tx n t e).0.asked_ok in
    let block : c.if-own-size.block ≡ min a.block_size c.args.size =
    ⊎_elim (λ w. omega (arith, own)) (λ w. omega (arith, own)) c.if-own-size.branch-raw in
    stood m c.requires a tx n t e _ c.zero.ensures (anew a c.args.size c.args.t3) _ (c.fresh.ensures a c.args.size block)
