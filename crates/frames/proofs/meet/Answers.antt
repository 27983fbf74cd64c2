-- `frames::meet` meets its contract. Assumes nothing.
use mathlib.Core.List.{List, ◌++◌}
use Prim.Native.Nat.{ℕ}
use Rattle.codec.proofs.Lists.{bytes_of_law}
use Rattle.machine.specs.Message.{id_bytes}
use Rattle.layout.proofs.Link.{link_there}
use Rattle.frames.proofs.Meeting.{wide_met, heard_open, narrow_met}
use Rattle.frames.proofs.meet.Goals as goal

pub returns-then-wide : goal.returns-then-wide
returns-then-wide c =
    let b : List ℕ = c.args.bytes.now in
    wide_met c.args.r.now c.requires.0 c.args.clock c.args.wide c.args.id b (id_bytes c.args.id ++ b) c.if-wide.true
    c.offer.ensures

pub hears-requires : goal.hears-requires
hears-requires c = link_there c.args.r.now c.requires.0

pub offer-requires-2 : goal.offer-requires-2
offer-requires-2 c =
    let b : List ℕ = c.args.bytes.now in (
      heard_open c.args.r.now c.requires.0 c.args.clock c.args.wide c.args.id b (id_bytes c.args.id ++ b) c.if-wide.false (bytes_of_law b (λ i. (c.shared_slice_known-1.given i).fits)) c.hears.ensures,
      c.requires.1,
      c.requires.2,
    )

pub returns : goal.returns
returns c =
    let b : List ℕ = c.args.bytes.now in
    narrow_met c.args.r.now c.requires.0 c.args.clock c.args.wide c.args.id b (id_bytes c.args.id ++ b) c.if-wide.false
    (bytes_of_law b (λ i. (c.shared_slice_known-1.given i).fits)) c.hears.ensures c.offer-2.ensures
