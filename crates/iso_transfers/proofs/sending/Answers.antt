-- `iso_transfers::sending` meets its contract, kind by kind. Assumes nothing.
use Rattle.iso_transfers.proofs.Numbers.{no_kind}
use Rattle.iso_layout.specs.Region.{transfer_fits, kind_fits, step_of7, paced}
use Rattle.iso.specs.Limits.{least_segmented, in_first, in_next, second}
use Rattle.codec.proofs.Tests.{and_true, and_assoc}
use native.Mathlib.Omega.{arith}
use lib.ListN.{length}
use lib.Dec.{eqb, leb, ltb}
use Prim.Native.Nat.{ℕ, ◌+◌}
use mathlib.Core.Bool.{Bool, ◌&&◌, not}
use mathlib.Core.Path.{sym, ap, ◌∙◌}
use Rattle.iso_transfers.proofs.sending.Goals as goal

pub returns-then-h-eq3 : goal.returns-then-h-eq3
unfolding transfer_fits
returns-then-h-eq3 c = let h = c.args.h in
    λ b e.
    (λ j. c.still.ensures j && leb least_segmented (sym e j) && eqb h.n in_first)
    ∙ ap (λ (k : ℕ). kind_fits k h.n h.time h.left h.gap h.waits b) (sym c.if-h-eq3.true)

pub returns-then-h-eq4 : goal.returns-then-h-eq4
unfolding transfer_fits
returns-then-h-eq4 c = let h = c.args.h in
    λ b e.
    (λ j.
    eqb h.left 0 && eqb h.gap 0 && not h.waits && c.step.ensures j && ltb h.n (sym e j) && leb least_segmented (sym e j) && ltb h.time second)
    ∙ ap (λ (k : ℕ). kind_fits k h.n h.time h.left h.gap h.waits b) (sym c.if-h-eq4.true)

pub returns-then-h-eq5 : goal.returns-then-h-eq5
unfolding transfer_fits
returns-then-h-eq5 c = let h = c.args.h in
    λ b e.
    (λ j.
    c.paced.ensures j && (c.step-then-h-eq5.ensures j && leb (in_first + in_next) h.n) && ltb h.n (sym e j + in_next) && leb least_segmented (sym e j)
    && eqb h.time 0)
    ∙ ap (λ (x : Bool). x && ltb h.n (length b + in_next) && leb least_segmented (length b) && eqb h.time 0)
    (and_assoc (paced h.left h.gap h.waits) (step_of7 h.n) (leb (in_first + in_next) h.n))
    ∙ ap (λ (k : ℕ). kind_fits k h.n h.time h.left h.gap h.waits b) (sym c.if-h-eq5.true)

pub returns-then-h-eq6 : goal.returns-then-h-eq6
unfolding transfer_fits
returns-then-h-eq6 c = let h = c.args.h in
    λ b e.
    (λ j. c.paced-then-h-eq6.ensures j && c.step-then-h-eq6.ensures j && ltb h.n (sym e j) && leb least_segmented (sym e j) && leb h.time h.gap)
    ∙ sym (and_true (paced h.left h.gap h.waits && step_of7 h.n && ltb h.n (length b) && leb least_segmented (length b) && leb h.time h.gap))
    ∙ ap (λ (k : ℕ). kind_fits k h.n h.time h.left h.gap h.waits b) (sym c.if-h-eq6.true)

pub returns : goal.returns
unfolding transfer_fits
returns c = let h = c.args.h in
    λ b e. no_kind h.n h.time h.left h.gap h.waits b h.kind (omega arith)
