-- `iso_done::tell` meets its contract: TxDone, then the message where it comes back. Assumes nothing.
use native.Mathlib.Omega.{arith}
use Rattle.iso_queue.proofs.Laws.{count_few}
use Rattle.iso_done.proofs.Told.{still_long, still_few, alone, followed}
use Rattle.iso_done.proofs.tell.Goals as goal

pub arrive-requires : goal.arrive-requires
arrive-requires c =
    let t = c.requires.3 in
    (c.requires.0, count_few t.flags c.args.q.now c.requires.0 t.valid, omega arith)

pub arrive-requires-then-loopback : goal.arrive-requires-then-loopback
arrive-requires-then-loopback c =
    let args = c.args in
    let t = c.requires.3 in
    let done = c.arrive in (
      still_long args.clock args.tx args.id args.payload.now args.q.now c.requires.0 t.flags t.valid args.loopback t.fits done.new.q (done.ensures t.flags t.valid),
      still_few args.clock args.tx args.id args.payload.now args.q.now c.requires.0 t.flags t.valid args.loopback t.fits done.new.q (done.ensures t.flags t.valid),
      c.requires.1,
    )

pub returns-then-loopback : goal.returns-then-loopback
returns-then-loopback c =
    let args = c.args in
    let done = c.arrive in
    let back = c.arrive-then-loopback in
    λ flags v fits. followed args.clock args.tx args.id args.payload.now args.q.now c.requires.0 flags v args.loopback fits done.new.q (done.ensures flags v) c.if-loopback.true back.new.q back.ensures

pub returns-else-loopback : goal.returns-else-loopback
returns-else-loopback c =
    let args = c.args in
    let done = c.arrive in
    λ flags v fits. alone args.clock args.tx args.id args.payload.now args.q.now c.requires.0 flags v args.loopback fits done.new.q (done.ensures flags v) c.if-loopback.false
