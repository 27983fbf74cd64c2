-- `playing::read_into` meets its contract. What the part that is lent held before plays no part. Assumes nothing.
use Prim.Native.Nat.{ℕ, ◌*◌, ◌+◌, ◌-◌, ◌≤◌}
use mathlib.Core.Path.{◌≡◌, sym, ap, ◌∙◌}
use mathlib.Core.List.{List, []}
use native.Mathlib.Omega.{arith}
use lib.Dec.{T}
use lib.ListN.{length, length-set}
use borrow.Rule.Slice.PartMut.{mid_of}
use Rattle.machine.specs.Channel.{read}
use Rattle.machine.specs.Step.{call}
use Rattle.layout.specs.Promise.{gives}
use Rattle.memory.specs.Memory.{valid}
use Rattle.memory.specs.Promise.{outcome}
use Rattle.recording_sizes.specs.Sizes.{most, record_on, event_room}
use Rattle.playing.proofs.Answers.{records_fit, ReadInto, read_into_law}
use Rattle.playing.proofs.read_into.Goals as goal

-- a record's size and the size of the part that was lent, as the code has them, and what came back
module _ (rates m out : List ℕ) (ok : T (valid m)) (k at : ℕ) (room : at + event_room ≤ length out) (n unit : ℕ) (few : n ≤ most) (e : unit ≡ record_on k) where
  into : {c v : ℕ} {left m' : List ℕ} → gives c v left m' ≡ outcome rates m (call k (read n (mid_of (at + 2) (at + 2 + unit * n - (at + 2)) out))) → length left ≡ at + 2 + unit * n - (at + 2)
      → ReadInto rates m out k n at unit (at + 2 + unit * n - (at + 2)) c v left m'
  into {c} {v} {left} {m'} h kept =
      let all : record_on k * n ≡ unit * n = ap (λ (j : ℕ). j * n) (sym e) in
      let span : record_on k * n ≡ at + 2 + unit * n - (at + 2) = all ∙ omega arith in
      read_into_law rates m out ok k at room n unit (at + 2 + unit * n - (at + 2)) left (sym e) span few h kept

  -- the records that are given have room
  given : {c v : ℕ} {left m' : List ℕ} → ReadInto rates m out k n at unit (at + 2 + unit * n - (at + 2)) c v left m' → 2 + unit * v ≤ event_room
  given {c} {v} r = records_fit k v e (omega (arith, r.count))

pub overflow_mul-end : goal.overflow_mul-end
overflow_mul-end c = omega (arith, records_fit c.args.channel c.args.n c.record_on-unit.ensures c.requires.1)

pub overflow_add-end : goal.overflow_add-end
overflow_add-end c = omega (arith, records_fit c.args.channel c.args.n c.record_on-unit.ensures c.requires.1)

pub slice_bounds-read-count : goal.slice_bounds-read-count
slice_bounds-read-count c = omega (arith, records_fit c.args.channel c.args.n c.record_on-unit.ensures c.requires.1)

pub slice_bounds-read-start : goal.slice_bounds-read-start
slice_bounds-read-start c = omega (arith, records_fit c.args.channel c.args.n c.record_on-unit.ensures c.requires.1)

pub slice_bounds-read-end : goal.slice_bounds-read-end
slice_bounds-read-end c = omega (arith, records_fit c.args.channel c.args.n c.record_on-unit.ensures c.requires.1)

pub overflow_cast-out : goal.overflow_cast-out
overflow_cast-out c =
    let r = into [] c.args.mem.now c.args.out.now c.requires.0 c.args.channel c.args.at c.requires.2 c.args.n _ c.requires.1 c.record_on-unit.ensures (c.read-moved.ensures []) (omega arith) in
    omega (arith, r.count, c.requires.1)

pub overflow_cast-out-2 : goal.overflow_cast-out-2
overflow_cast-out-2 c = omega (arith, c.code_of.ensures.1)

pub bounds-out-at-2 : goal.bounds-out-at-2
bounds-out-at-2 c = simp length-set (omega arith)

pub overflow_mul-result : goal.overflow_mul-result
overflow_mul-result c =
    let r = into [] c.args.mem.now c.args.out.now c.requires.0 c.args.channel c.args.at c.requires.2 c.args.n _ c.requires.1 c.record_on-unit.ensures (c.read-moved.ensures []) (omega arith) in
    omega (arith, given [] c.args.mem.now c.args.out.now c.requires.0 c.args.channel c.args.at c.requires.2 c.args.n _ c.requires.1 c.record_on-unit.ensures r)

pub overflow_add-result : goal.overflow_add-result
overflow_add-result c =
    let r = into [] c.args.mem.now c.args.out.now c.requires.0 c.args.channel c.args.at c.requires.2 c.args.n _ c.requires.1 c.record_on-unit.ensures (c.read-moved.ensures []) (omega arith) in
    omega (arith, given [] c.args.mem.now c.args.out.now c.requires.0 c.args.channel c.args.at c.requires.2 c.args.n _ c.requires.1 c.record_on-unit.ensures r)

pub returns : goal.returns
returns c =
    λ rates. rw c.code_of.ensures.0 (into rates c.args.mem.now c.args.out.now c.requires.0 c.args.channel c.args.at c.requires.2 c.args.n _ c.requires.1 c.record_on-unit.ensures (c.read-moved.ensures rates) (omega arith)).answered
