-- `log_writer::put_data` meets its contract. The invariant: the bytes from a place on are left. Assumes nothing.
use Prim.Native.Nat.{ℕ, ◌+◌}
use mathlib.Core.List.{List, ◌++◌}
use mathlib.Core.Path.{refl, subst, ◌∙◌}
use native.Mathlib.Omega.{arith}
use lib.ListN.{get_or, drop}
use Rattle.text.specs.Text.{fixed}
use Rattle.text.proofs.Text.{fixed_long}
use Rattle.candump.specs.Line.{data_text}
use Rattle.log_writer.proofs.Writing.{Writing, begun, fits, on, all_written}
use Rattle.log_writer.proofs.Texts.{data_more, data_end}
use Rattle.log_writer.proofs.put_data.Goals as goal

pub loop-byte-init : goal.loop-byte-init
loop-byte-init c = (refl, begun _ _ _ c.requires)

pub put_fixed-place-requires : goal.put_fixed-place-requires
put_fixed-place-requires c =
    -- a byte is next
    let here : Writing c.args.out.now c.args.at (data_text c.args.bytes.now) (fixed 16 2 (get_or c.args.bytes.now c.loop-byte.byte-index 0) ++ data_text (drop (c.loop-byte.byte-index + 1) c.args.bytes.now)) c.loop-byte.place c.loop-byte.out =
    subst (λ (l : List ℕ). Writing c.args.out.now c.args.at (data_text c.args.bytes.now) l c.loop-byte.place c.loop-byte.out) (data_more c.args.bytes.now c.loop-byte.byte-index c.loop-byte-test.true) c.loop-byte.invariant.1 in
    (omega arith, omega arith, omega (arith, fixed_long 16 2 (get_or c.args.bytes.now c.loop-byte.byte-index 0), fits (fixed 16 2 (get_or c.args.bytes.now c.loop-byte.byte-index 0)) (data_text (drop (c.loop-byte.byte-index + 1) c.args.bytes.now)) here))

pub loop-byte-preserved : goal.loop-byte-preserved
loop-byte-preserved c =
    let here : Writing c.args.out.now c.args.at (data_text c.args.bytes.now) (fixed 16 2 (get_or c.args.bytes.now c.loop-byte.byte-index 0) ++ data_text (drop (c.loop-byte.byte-index + 1) c.args.bytes.now)) c.loop-byte.place c.loop-byte.out =
    subst (λ (l : List ℕ). Writing c.args.out.now c.args.at (data_text c.args.bytes.now) l c.loop-byte.place c.loop-byte.out) (data_more c.args.bytes.now c.loop-byte.byte-index c.loop-byte-test.true) c.loop-byte.invariant.1 in (
      c.put_fixed-place.auto.out ∙ c.loop-byte.invariant.0,
      on (fixed 16 2 (get_or c.args.bytes.now c.loop-byte.byte-index 0)) (data_text (drop (c.loop-byte.byte-index + 1) c.args.bytes.now)) here c.put_fixed-place.ensures,
    )

pub shape_of-out : goal.shape_of-out
shape_of-out c = c.loop-byte.invariant.0

pub returns : goal.returns
returns c =
    all_written (subst (λ (r : List ℕ). Writing c.args.out.now c.args.at (data_text c.args.bytes.now) r c.loop-byte.place c.loop-byte.out) (data_end c.args.bytes.now c.loop-byte.byte-index c.loop-byte-test.false) c.loop-byte.invariant.1)
