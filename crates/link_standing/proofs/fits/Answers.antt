use mathlib.Core.Path.{◌∙◌}
use Prim.Native.Nat.{ℕ}
use mathlib.Core.Bool.{not, ◌&&◌, ◌||◌}
use lib.ListN.{get_or}
use lib.Dec.{eqb, leb, ltb}
use native.Mathlib.Omega.{arith}
use Rattle.codec.proofs.Lists.{part_long}
use Rattle.link.specs.Connection.{t_wait, t_test}
use Rattle.link_standing.proofs.Limits.{out_there, store_there, limits_flat}
use Rattle.link_standing.proofs.fits.Goals as goal

pub out_in-requires : goal.out_in-requires
out_in-requires c =
    let m = c.args.s.now in
    let t = c.word_at-left.ensures.1 in
    (part_long 19 524 m (omega (arith, c.requires.0)), out_there m c.requires.0 t c.requires.1)

pub count-requires : goal.count-requires
count-requires c =
    let m = c.args.s.now in
    let t = c.word_at-left.ensures.1 in
    (part_long 546 516 m (omega (arith, c.requires.0)), store_there m c.requires.0 t c.requires.1)

pub returns : goal.returns
returns c =
    let m = c.args.s.now in
    let t = c.word_at-left.ensures.1 in
    let w = c.word_at-left.ensures.0 in
    let n = c.count.result in
    let o = c.out_in.result in
    let k : ℕ = get_or m 2 0 in
    λ a es et.
    (λ j.
    (leb 1 (get_or m 0 0) && leb (get_or m 0 0) c.args.most) && (not (eqb k 0) || leb (c.word_at.ensures.0 j) c.micros.result) && leb (c.word_at-2.ensures.0 j) t_wait && leb (get_or m 18 0) 15 && o && leb (get_or m 543 0) 15
    && (not (eqb 1 (get_or m 545 0)) || ltb 0 n) && ltb (get_or m 9 0) 7 && leb (w j) t_test && (ltb 0 (w j) || (eqb 1 (get_or m 8 0) || eqb k 2)))
    ∙ limits_flat m c.requires.0 t a _ _ _ _ _ es et c.out_in.ensures c.count.ensures.0 c.micros.ensures.0
