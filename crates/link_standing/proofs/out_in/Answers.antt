use mathlib.Core.Path.{ap, sym, ◌∙◌}
use Prim.Native.Nat.{ℕ}
use native.Mathlib.Omega.{arith}
use Rattle.codec.proofs.Lists.{bytes_of_law}
use Rattle.stored_records.proofs.Parts.{Bytes}
use Rattle.link.specs.Connection.{block_of}
use Rattle.link_layout.specs.Connection.{t1_fits}
use Rattle.link_standing.proofs.Under.{tail_long, tail_valid, none_flies, asks_is, flies_is, waits_is}
use Rattle.link_standing.proofs.out_in.Goals as goal

pub returns-then-k-eq0 : goal.returns-then-k-eq0
returns-then-k-eq0 c =
    let m = c.args.s.now in
    let t : Bytes m = bytes_of_law m (λ i. (c.shared_slice_known-1.given i).fits) in
    none_flies m t c.requires.0 c.requires.1 c.args.t1 c.args.size c.args.flying c.if-k-eq0.true

pub count-requires : goal.count-requires
count-requires c =
    let m = c.args.s.now in
    let t : Bytes m = bytes_of_law m (λ i. (c.shared_slice_known-1.given i).fits) in
    (tail_long m t c.requires.0 c.requires.1, tail_valid m t c.requires.0 c.requires.1)

pub returns-then-k-ne1 : goal.returns-then-k-ne1
returns-then-k-ne1 c =
    let m = c.args.s.now in
    let t : Bytes m = bytes_of_law m (λ i. (c.shared_slice_known-1.given i).fits) in
    asks_is m t c.requires.0 c.requires.1 c.args.t1 c.args.size c.args.flying _ _ c.wide-taken.ensures.0 (λ x q. c.block_of-most.ensures.0 x (q ∙ sym c.count.ensures.0) ∙ ap (λ (k : ℕ). block_of k x) c.wide.ensures.0) c.if-k-eq0.false c.if-k-ne1.true _ (c.t1_fits.ensures ∙ ap (t1_fits c.args.t1) c.word_at.ensures.0)

pub returns-then-flying : goal.returns-then-flying
returns-then-flying c =
    let m = c.args.s.now in
    let t : Bytes m = bytes_of_law m (λ i. (c.shared_slice_known-1.given i).fits) in
    flies_is m t c.requires.0 c.requires.1 c.args.t1 c.args.size c.args.flying _ _ c.wide-taken.ensures.0 (λ x q. c.block_of-most.ensures.0 x (q ∙ sym c.count.ensures.0) ∙ ap (λ (k : ℕ). block_of k x) c.wide.ensures.0) (omega (arith, c.if-k-ne1.false)) c.if-flying.true

pub returns : goal.returns
returns c =
    let m = c.args.s.now in
    let t : Bytes m = bytes_of_law m (λ i. (c.shared_slice_known-1.given i).fits) in
    waits_is m t c.requires.0 c.requires.1 c.args.t1 c.args.size c.args.flying _ _ c.wide-taken.ensures.0 (λ x q. c.block_of-most.ensures.0 x (q ∙ sym c.count.ensures.0) ∙ ap (λ (k : ℕ). block_of k x) c.wide.ensures.0) (omega (arith, c.if-k-ne1.false)) c.if-flying.false
