-- `receiving::echo` meets its contract: the frame that the record was, with RxStatus one more than TxFlags. Assumes nothing.
use mathlib.Core.List.{List, ◌++◌}
use Prim.Native.Nat.{ℕ, ◌+◌, ◌-◌, ◌≤◌}
use native.Mathlib.Omega.{arith}
use lib.ListN.{take, drop, length-take}
use Rattle.machine.specs.Limits.{data_in, most_data}
use Rattle.machine.specs.Message.{id_bytes, received}
use Rattle.layout.specs.Sizes.{number_size}
use Rattle.layout.specs.Record.{rec36}
use Rattle.receiving.proofs.Laws.{as_record}
use Rattle.receiving.proofs.Sent.{limits, echo_is}
use Rattle.receiving.proofs.echo.Goals as goal
use Rattle.receiving.proofs.echo.Goals.{After-word_at}

sized : (c : goal.After-word_at) → (4 ≤ c.word_at.result) × (c.word_at.result ≤ most_data)
sized c =
    let l = limits c.args.sent.now c.requires.1 in
    (omega (arith, c.word_at.ensures.0), omega (arith, c.word_at.ensures.0))

pub overflow_add-rx : goal.overflow_add-rx
overflow_add-rx c = omega (arith, c.word_at-rx.ensures.0, limits c.args.sent.now c.requires.1)

pub slice_bounds-arrive-count : goal.slice_bounds-arrive-count
slice_bounds-arrive-count c = omega (arith, sized (goal.at.slice_bounds-arrive-count c).After-word_at)

pub slice_bounds-arrive-start : goal.slice_bounds-arrive-start
slice_bounds-arrive-start c = omega (arith, sized (goal.at.slice_bounds-arrive-start c).After-word_at)

pub slice_bounds-arrive-end : goal.slice_bounds-arrive-end
slice_bounds-arrive-end c = omega (arith, sized (goal.at.slice_bounds-arrive-end c).After-word_at, c.requires.1.long)

pub arrive-requires : goal.arrive-requires
arrive-requires c = let size = c.word_at.result in
    (c.requires.0, omega (arith, length-take (data_in + size - (data_in + number_size)) (drop (data_in + number_size) c.args.sent.now), sized (goal.at.arrive-requires c).After-word_at))

pub returns : goal.returns
returns c =
    let args = c.args in
    let sent : List ℕ = args.sent.now in
    let tx = c.word_at-rx in
    let size = c.word_at in
    let id = c.id_at in
    let came = c.arrive in
    as_record args.r.now came.new.r (received args.clock (tx.result + 1) (id_bytes id.result ++ take (data_in + size.result - (data_in + number_size)) (drop (data_in + number_size) sent)))
    (received args.clock ((rec36.get sent).tx + 1) (rec36.get sent).bytes) came.ensures
    (echo_is sent c.requires.1 args.clock tx.result size.result id.result tx.ensures.1 tx.ensures.0 size.ensures.0 id.ensures)
