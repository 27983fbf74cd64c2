-- `importing::take_frame` meets its contract. Assumes nothing.
use Prim.Native.Nat.{ℕ, ◌+◌, ◌-◌, ◌≤◌}
use mathlib.Core.List.{List}
use mathlib.Core.Path.{◌≡◌, ap₂}
use native.Mathlib.Omega.{arith}
use lib.ListN.{length}
use Rattle.machine.specs.Step.{frame}
use Rattle.candump.specs.Log.{event_bytes, bytes_all, advances}
use Rattle.number.proofs.Laws.{written_short}
use Rattle.log_reader.specs.Reading.{data_of}
use Rattle.log_events.specs.Data.{mark_of}
use Rattle.log_events.proofs.Sizes.{frame_is, advances_most}
use Rattle.importing.proofs.Taking.{goes_back_law, too_long, advances_fit, frame_fits, goes_on}
use Rattle.importing.proofs.take_frame.Goals as goal

pub returns-then-frame-time : goal.returns-then-frame-time
returns-then-frame-time c = goes_back_law c.args.time c.args.place c.args.out.now c.args.frame.time _ _ _ _ c.if-frame-time.true

-- the sizes of both
pub overflow_add-size : goal.overflow_add-size
overflow_add-size c =
    let size : ℕ = c.advances_size.result + c.frame_size.result in
    let size_is : size ≡ length (bytes_all (advances (c.args.frame.time - c.args.time))) + length (event_bytes (frame c.args.frame.line (mark_of c.args.frame.identifier.wide) c.args.frame.identifier.id (data_of c.args.digits.now))) =
    ap₂ (λ (a b : ℕ). a + b) c.advances_size.ensures c.frame_size.ensures in
    let small : size ≤ 100000000000000 =
    omega (
      arith,
      size_is,
      advances_most (c.args.frame.time - c.args.time),
      frame_is c.args.frame.line c.args.frame.identifier.wide c.args.frame.identifier.id (data_of c.args.digits.now) c.requires.1 c.requires.2,
      (written_short c.args.frame.identifier.id).1,
      c.requires.2,
    ) in
    record { fits = omega (arith, small) }

pub overflow_add-place : goal.overflow_add-place
overflow_add-place c =
    let size : ℕ = c.advances_size.result + c.frame_size.result in
    let size_is : size ≡ length (bytes_all (advances (c.args.frame.time - c.args.time))) + length (event_bytes (frame c.args.frame.line (mark_of c.args.frame.identifier.wide) c.args.frame.identifier.id (data_of c.args.digits.now))) =
    ap₂ (λ (a b : ℕ). a + b) c.advances_size.ensures c.frame_size.ensures in
    let small : size ≤ 100000000000000 =
    omega (
      arith,
      size_is,
      advances_most (c.args.frame.time - c.args.time),
      frame_is c.args.frame.line c.args.frame.identifier.wide c.args.frame.identifier.id (data_of c.args.digits.now) c.requires.1 c.requires.2,
      (written_short c.args.frame.identifier.id).1,
      c.requires.2,
    ) in
    record { fits = omega (arith, small, c.requires.4) }

pub returns-then-place-size : goal.returns-then-place-size
returns-then-place-size c =
    let size : ℕ = c.advances_size.result + c.frame_size.result in
    let size_is : size ≡ length (bytes_all (advances (c.args.frame.time - c.args.time))) + length (event_bytes (frame c.args.frame.line (mark_of c.args.frame.identifier.wide) c.args.frame.identifier.id (data_of c.args.digits.now))) =
    ap₂ (λ (a b : ℕ). a + b) c.advances_size.ensures c.frame_size.ensures in
    too_long c.args.time c.args.place c.args.out.now c.args.frame.time c.args.frame.line c.args.frame.identifier.wide c.args.frame.identifier.id (data_of c.args.digits.now) c.if-frame-time.false size size_is c.if-place-size.true

pub put_advances-from-requires : goal.put_advances-from-requires
put_advances-from-requires c =
    let size : ℕ = c.advances_size.result + c.frame_size.result in
    let size_is : size ≡ length (bytes_all (advances (c.args.frame.time - c.args.time))) + length (event_bytes (frame c.args.frame.line (mark_of c.args.frame.identifier.wide) c.args.frame.identifier.id (data_of c.args.digits.now))) =
    ap₂ (λ (a b : ℕ). a + b) c.advances_size.ensures c.frame_size.ensures in
    advances_fit c.args.time c.args.place c.args.out.now c.args.frame.time c.args.frame.line c.args.frame.identifier.wide c.args.frame.identifier.id (data_of c.args.digits.now) c.if-frame-time.false size size_is c.if-place-size.false c.requires.3

pub put_frame-next-requires : goal.put_frame-next-requires
put_frame-next-requires c =
    let size : ℕ = c.advances_size.result + c.frame_size.result in
    let size_is : size ≡ length (bytes_all (advances (c.args.frame.time - c.args.time))) + length (event_bytes (frame c.args.frame.line (mark_of c.args.frame.identifier.wide) c.args.frame.identifier.id (data_of c.args.digits.now))) =
    ap₂ (λ (a b : ℕ). a + b) c.advances_size.ensures c.frame_size.ensures in (
      c.requires.0,
      c.requires.2,
      frame_fits c.args.time c.args.place c.args.out.now c.args.frame.time c.args.frame.line c.args.frame.identifier.wide c.args.frame.identifier.id (data_of c.args.digits.now) c.if-frame-time.false size size_is c.if-place-size.false c.requires.3 _ _ c.put_advances-from.ensures,
    )

pub returns : goal.returns
returns c =
    let size : ℕ = c.advances_size.result + c.frame_size.result in
    let size_is : size ≡ length (bytes_all (advances (c.args.frame.time - c.args.time))) + length (event_bytes (frame c.args.frame.line (mark_of c.args.frame.identifier.wide) c.args.frame.identifier.id (data_of c.args.digits.now))) =
    ap₂ (λ (a b : ℕ). a + b) c.advances_size.ensures c.frame_size.ensures in
    goes_on c.args.time c.args.place c.args.out.now c.args.frame.time c.args.frame.line c.args.frame.identifier.wide c.args.frame.identifier.id (data_of c.args.digits.now) c.if-frame-time.false size size_is c.if-place-size.false c.requires.3 _ _ c.put_advances-from.ensures _ _ c.put_frame-next.ensures
