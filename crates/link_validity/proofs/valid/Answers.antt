use mathlib.Core.Path.{◌∙◌}
use native.Mathlib.Omega.{arith}
use Rattle.codec.proofs.Lists.{bytes_of_law}
use Rattle.stored_records.proofs.Parts.{Bytes}
use Rattle.link_validity.proofs.States.{absent_flat, state_in, state_over}
use Rattle.link_validity.proofs.valid.Goals as goal

pub returns-then-k-eq0 : goal.returns-then-k-eq0
returns-then-k-eq0 c =
    let m = c.args.part.now in
    let t : Bytes m = bytes_of_law m (λ i. (c.shared_slice_known-1.given i).fits) in
    c.all_zero.ensures ∙ absent_flat m c.requires ∙ state_in m c.requires t 0 c.if-k-eq0.true (omega arith)

pub returns-then-k-eq1 : goal.returns-then-k-eq1
returns-then-k-eq1 c =
    let m = c.args.part.now in
    let t : Bytes m = bytes_of_law m (λ i. (c.shared_slice_known-1.given i).fits) in
    c.opening.ensures ∙ state_in m c.requires t 1 c.if-k-eq1.true (omega arith)

pub returns-then-k-eq2 : goal.returns-then-k-eq2
returns-then-k-eq2 c =
    let m = c.args.part.now in
    let t : Bytes m = bytes_of_law m (λ i. (c.shared_slice_known-1.given i).fits) in
    c.connecting.ensures ∙ state_in m c.requires t 2 c.if-k-eq2.true (omega arith)

pub returns-then-k-eq3 : goal.returns-then-k-eq3
returns-then-k-eq3 c =
    let m = c.args.part.now in
    let t : Bytes m = bytes_of_law m (λ i. (c.shared_slice_known-1.given i).fits) in
    c.standing.ensures ∙ state_in m c.requires t 3 c.if-k-eq3.true (omega arith)

pub returns-then-k-eq4 : goal.returns-then-k-eq4
returns-then-k-eq4 c =
    let m = c.args.part.now in
    let t : Bytes m = bytes_of_law m (λ i. (c.shared_slice_known-1.given i).fits) in
    c.leaving.ensures ∙ state_in m c.requires t 4 c.if-k-eq4.true (omega arith)

pub returns : goal.returns
returns c =
    let m = c.args.part.now in
    let t : Bytes m = bytes_of_law m (λ i. (c.shared_slice_known-1.given i).fits) in
    state_over m c.requires t (omega arith)
