-- `iso_validity::flown` meets its contract. Assumes nothing.
use Rattle.iso_validity.proofs.Flights.{no_frame, five_bytes, a_frame}
use Rattle.stored_records.proofs.Parts.{rest_part}
use Rattle.codec.proofs.Lists.{bytes_of_law}
use Rattle.iso.specs.Limits.{iso_record_size}
use Rattle.iso_layout.specs.Region.{frame_cell}
use native.Mathlib.Omega.{arith}
use lib.ListN.{get_or}
use lib.Dec.{eqb, leb}
use Prim.Native.Nat.{ℕ, ◌-◌}
use mathlib.Core.List.{List}
use mathlib.Core.Bool.{◌&&◌, ◌||◌, not}
use mathlib.Core.Path.{sym, ap, ◌∙◌}
use Rattle.iso_validity.proofs.flown.Goals as goal

pub returns-then-not-frame : goal.returns-then-not-frame
returns-then-not-frame c = let f : List ℕ = c.args.f.now in
    let e = sym (ap (frame_cell c.args.flags).valid (rest_part 2 iso_record_size f c.requires)) ∙ sym c.frame.ensures ∙ c.if-not-frame.true in
    no_frame f c.requires (bytes_of_law f (λ i. (c.shared_slice_known-1.given i).fits)) c.args.flags e

pub overflow_sub-single : goal.overflow_sub-single
overflow_sub-single c = let f : List ℕ = c.args.f.now in
    let e = sym (ap (frame_cell c.args.flags).valid (rest_part 2 iso_record_size f c.requires)) ∙ sym c.frame.ensures ∙ c.if-not-frame.false in
    omega (arith, five_bytes f c.requires c.word_at-size.ensures.1 c.args.flags e, c.word_at-size.ensures.0)

pub returns : goal.returns
returns c = let f : List ℕ = c.args.f.now in
    let e = sym (ap (frame_cell c.args.flags).valid (rest_part 2 iso_record_size f c.requires)) ∙ sym c.frame.ensures ∙ c.if-not-frame.false in
    let n = c.word_at-size.ensures.0 in
    let w : ℕ = get_or f 1 0 in
    (λ j. leb w 3 && (not (eqb w 1) || ((leb 6 (n j) && leb (n j) 12) && eqb (c.wide.ensures.0 j) (n j - 5))))
    ∙ a_frame f c.requires c.word_at-size.ensures.1 c.args.flags e
