use mathlib.Core.Path.{◌≡◌, sym, ◌∙◌}
use mathlib.Core.Bool.{◌&&◌}
use lib.ListN.{take, drop}
use lib.Dec.{leb}
use native.Mathlib.Omega.{arith}
use Rattle.codec.proofs.Lists.{bytes_of_law, part_long}
use Rattle.stored_records.proofs.Parts.{Bytes}
use Rattle.link_layout.specs.Connection.{asked}
use Rattle.link_validity.proofs.States.{asked_size_is, asked_t1_is, there, not_there, is_there, link_there}
use Rattle.link_validity.proofs.standing.Goals as goal

pub returns-then-not-there : goal.returns-then-not-there
returns-then-not-there c =
    let m = c.args.part.now in
    let t : Bytes m = bytes_of_law m (λ i. (c.shared_slice_known-1.given i).fits) in
    let e : (c.asked.result && (c.all_zero.result && c.parts.result)) ≡ there m c.requires t = λ j. c.asked.ensures j && (c.all_zero.ensures j && c.parts.ensures j) in
    not_there m c.requires t (sym e ∙ c.if-not-there.true)

pub fits-requires : goal.fits-requires
fits-requires c =
    let m = c.args.part.now in
    let t : Bytes m = bytes_of_law m (λ i. (c.shared_slice_known-1.given i).fits) in
    let e : (c.asked.result && (c.all_zero.result && c.parts.result)) ≡ there m c.requires t = λ j. c.asked.ensures j && (c.all_zero.ensures j && c.parts.ensures j) in
    (part_long 29 1062 m (omega (arith, c.requires)), link_there m c.requires t (sym e ∙ c.if-not-there.false))

pub returns : goal.returns
returns c =
    let m = c.args.part.now in
    let t : Bytes m = bytes_of_law m (λ i. (c.shared_slice_known-1.given i).fits) in
    let e : (c.asked.result && (c.all_zero.result && c.parts.result)) ≡ there m c.requires t = λ j. c.asked.ensures j && (c.all_zero.ensures j && c.parts.ensures j) in
    (λ j. leb (c.word_at.ensures.0 j) 0x7FF && c.fits.ensures (asked.get (take 13 (drop 1 m))) (asked_size_is m) (asked_t1_is m) j)
    ∙ is_there m c.requires t (sym e ∙ c.if-not-there.false)
