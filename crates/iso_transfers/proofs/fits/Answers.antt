-- `iso_transfers::fits` meets its contract: nothing under way, a reception, a transmission. Assumes nothing.
use Rattle.iso_transfers.proofs.Numbers.{resting}
use Rattle.iso_layout.specs.Region.{transfer_fits, kind_fits, step_of7}
use Rattle.iso.specs.Limits.{least_segmented, most_payload, second}
use Rattle.codec.specs.Plain.{within}
use native.Mathlib.Omega.{arith}
use lib.Dec.{eqb, ltb}
use Prim.Native.Nat.{ℕ}
use mathlib.Core.Bool.{◌&&◌}
use mathlib.Core.Path.{sym, ap, ◌∙◌}
use Rattle.iso_transfers.proofs.fits.Goals as goal

pub returns-then-h-lt2 : goal.returns-then-h-lt2
unfolding transfer_fits
returns-then-h-lt2 c = let h = c.args.h in
    λ b e.
    (λ j. c.still.ensures j && eqb h.n 0 && eqb (sym e j) 0)
    ∙ resting h.n h.time h.left h.gap h.waits b h.kind c.if-h-lt2.true

pub returns-then-h-eq2 : goal.returns-then-h-eq2
unfolding transfer_fits within
returns-then-h-eq2 c = let h = c.args.h in
    λ b e.
    (λ j.
    eqb h.left 0 && eqb h.gap 0 && within least_segmented most_payload h.n && (c.step.ensures ∙ ap step_of7 (sym e)) j && ltb (sym e j) h.n
    && ltb h.time second)
    ∙ ap (λ (k : ℕ). kind_fits k h.n h.time h.left h.gap h.waits b) (sym c.if-h-eq2.true)

pub sending-requires : goal.sending-requires
sending-requires c = omega arith

pub returns : goal.returns
returns c = c.sending.ensures
