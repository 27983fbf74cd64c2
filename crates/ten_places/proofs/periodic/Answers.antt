-- `ten_places::periodic` meets its contract: an empty place, a periodic. Assumes nothing.
use Rattle.ten_places.proofs.Periodics.{periodic_empty, periodic_taken}
use Rattle.stored_records.specs.Held.{cell}
use Rattle.ten_places.specs.Place.{record_at}
use Rattle.machine.specs.Limits.{record_size, least_interval, most_interval}
use Rattle.layout.specs.Sizes.{pending_in, messages_in}
use lib.ListN.{get_or, take, drop}
use lib.Dec.{eqb, leb, ltb}
use native.Mathlib.Omega.{arith}
use Prim.Native.Nat.{ℕ, ◌+◌, ◌*◌, ◌-◌}
use mathlib.Core.List.{List}
use mathlib.Core.Bool.{true, ◌&&◌, not}
use mathlib.Core.Path.{◌≡◌, ap, ◌∙◌}
use Rattle.ten_places.proofs.periodic.Goals as goal

pub returns-then-s-a-eq0 : goal.returns-then-s-a-eq0
unfolding record_at
returns-then-s-a-eq0 c = let s : List ℕ = c.args.s.now in
    let i : ℕ = c.args.i in
    let p : ℕ = get_or s (pending_in + i) 0 in
    let w = c.word_at-interval.ensures in
    (λ j. leb p 1 && c.no_record.ensures j && (eqb (w.0 j) 0 && eqb (c.word_at-phase.ensures.0 j) 0 && not (eqb 1 p)))
    ∙ periodic_empty c.args.flags i s (omega arith) w.1 c.if-s-a-eq0.true

pub returns : goal.returns
unfolding record_at cell
returns c = let s : List ℕ = c.args.s.now in
    let i : ℕ = c.args.i in
    let p : ℕ = get_or s (pending_in + i) 0 in
    let w = c.word_at-interval.ensures in
    let k : messages_in + i * record_size + record_size - (messages_in + i * record_size) ≡ record_size = omega arith in
    let v = c.cell.ensures ∙ ap (λ (n : ℕ). (cell true c.args.flags).valid (take n (drop (messages_in + i * record_size) s))) k in
    (λ j. leb p 1 && v j && (leb least_interval (w.0 j) && leb (w.0 j) most_interval && ltb (c.word_at-phase.ensures.0 j) (1000 * w.0 j)))
    ∙ periodic_taken c.args.flags i s (omega arith) w.1 c.if-s-a-eq0.false
