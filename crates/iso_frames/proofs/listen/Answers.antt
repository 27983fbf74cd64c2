use mathlib.Core.Path.{refl}
use native.Mathlib.Omega.{arith}
use Rattle.codec.proofs.Lists.{bytes_of_law}
use Rattle.iso_layout.proofs.Good.{fli}
use Rattle.iso_layout.proofs.Region.{ready_of}
use Rattle.iso_frames.proofs.Listening.{can_hear, place_valid, queue_lent, lain, heard_at_law}
use borrow.Author.Rules.{rules}
use Rattle.iso_frames.proofs.listen.Goals as goal

pub hear-said-requires : goal.hear-said-requires
hear-said-requires c =
    let a = c.args in
    (can_hear a.r.now c.requires.0 a.k c.requires.1 a.wide a.id c.requires.2, c.requires.3, search rules)

pub pass-requires : goal.pass-requires
pass-requires c =
    let a = c.args in
    let e = c.hear-said.ensures in
    let q = queue_lent a.r.now c.requires.0 a.k c.requires.1 a.wide a.id c.requires.2 a.clock c.ranges.clock.fits a.bytes.now c.requires.3 (bytes_of_law a.bytes.now (λ i. (c.shared_slice_known-1.given i).fits)) _ _ _
    (e.0 (fli (ready_of a.r.now)) (place_valid a.r.now c.requires.0 a.k c.requires.1 a.wide a.id c.requires.2) a.clock) _ refl in
    (q.0, q.1, e.1, search rules)

pub disown-requires : goal.disown-requires
disown-requires c =
    let a = c.args in
    let e = c.hear-said.ensures in
    lain a.r.now c.requires.0 a.k c.requires.1 a.wide a.id c.requires.2 a.clock c.ranges.clock.fits a.bytes.now c.requires.3 (bytes_of_law a.bytes.now (λ i. (c.shared_slice_known-1.given i).fits)) _ _ _
    (e.0 (fli (ready_of a.r.now)) (place_valid a.r.now c.requires.0 a.k c.requires.1 a.wide a.id c.requires.2) a.clock) _ refl _ c.pass.ensures _ refl

pub shape_of-r : goal.shape_of-r
shape_of-r c = omega arith

pub returns : goal.returns
returns c =
    let a = c.args in
    let e = c.hear-said.ensures in
    heard_at_law a.r.now c.requires.0 a.k c.requires.1 a.wide a.id c.requires.2 a.clock c.ranges.clock.fits a.bytes.now c.requires.3 (bytes_of_law a.bytes.now (λ i. (c.shared_slice_known-1.given i).fits)) _ _ _
    (e.0 (fli (ready_of a.r.now)) (place_valid a.r.now c.requires.0 a.k c.requires.1 a.wide a.id c.requires.2) a.clock) _ refl _ c.pass.ensures _ refl _ c.disown.ensures
