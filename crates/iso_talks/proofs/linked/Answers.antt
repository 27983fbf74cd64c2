-- `iso_talks::linked` meets its contract. Assumes nothing.
use Rattle.iso_talks.proofs.Links.{owned_by_law}
use Rattle.codec.specs.Code.{slot}
use Rattle.iso_layout.specs.Region.{talk_cell, linked_talks, flies_in}
use Prim.Native.Nat.{ℕ}
use mathlib.Core.List.{List}
use mathlib.Core.Bool.{◌&&◌, ◌||◌, not}
use Rattle.iso_talks.proofs.linked.Goals as goal

pub returns : goal.returns
unfolding linked_talks flies_in
returns c = let a : List ℕ = c.args.a.now in
    let b : List ℕ = c.args.b.now in
    let f : List ℕ = c.args.f.now in
    λ flags.
    let one = c.transmits-first.ensures flags in
    let two = c.transmits-second.ensures flags in
    let u = c.airborne-one.ensures flags in
    let v = c.airborne-two.ensures flags in
    let w = c.owned.ensures flags ((slot (talk_cell flags)).get a) ((slot (talk_cell flags)).get b) u v in
    λ j.
    c.apart.ensures flags j && not (one j && two j) && w j && (not (one j && u j) || owned_by_law flags 0 f j) && (not (two j && v j) || owned_by_law flags 1 f j)
