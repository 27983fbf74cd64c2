-- `playing::take_into` meets its contract. What the part that is lent held before plays no part. Assumes nothing.
use Prim.Native.Nat.{ℕ, ◌+◌, ◌-◌, ◌≤◌}
use Rattle.std.specs.Prelude.{Result}
use mathlib.Core.Path.{◌≡◌, sym, ap, ◌∙◌}
use Rattle.codes.specs.Code.{code_of}
use Rattle.codes.specs.declared.Refusal.{Refusal}
use Rattle.codes.proofs.Laws.{not_done}
use mathlib.Core.List.{List, []}
use native.Mathlib.Omega.{arith}
use lib.Dec.{T}
use lib.ListN.{length}
use borrow.Rule.Slice.PartMut.{mid_of}
use Rattle.machine.specs.Channel.{take_next}
use Rattle.machine.specs.Step.{call}
use Rattle.layout.specs.Promise.{gives}
use Rattle.memory.specs.Memory.{valid}
use Rattle.memory.specs.Promise.{outcome}
use Rattle.recording_sizes.specs.Sizes.{record_on, event_room}
use Rattle.recording_sizes.proofs.Laws.{record_fits}
use Rattle.playing.proofs.Answers.{TakenInto, taken_into}
use Rattle.playing.proofs.take_into.Goals as goal

-- a record's size and the size of the part that was lent, as the code has them, and what came back
into : (rates m out : List ℕ) → T (valid m) → (k at : ℕ) → at + event_room ≤ length out → {unit : ℕ} → unit ≡ record_on k → {c : ℕ} {left m' : List ℕ}
    → gives c 0 left m' ≡ outcome rates m (call k (take_next (mid_of (at + 1) (at + 1 + unit - (at + 1)) out))) → length left ≡ at + 1 + unit - (at + 1)
    → TakenInto rates m out k at unit (at + 1 + unit - (at + 1)) c left m'
into rates m out ok k at room {unit} e {c} {left} {m'} h kept = taken_into rates m out ok k at room unit (at + 1 + unit - (at + 1)) left (sym e) (omega arith) h kept

pub overflow_add-end : goal.overflow_add-end
overflow_add-end c = omega (arith, record_fits c.args.channel c.record_on.ensures)

pub slice_bounds-take-count : goal.slice_bounds-take-count
slice_bounds-take-count c = omega (arith, record_fits c.args.channel c.record_on.ensures)

pub slice_bounds-take-start : goal.slice_bounds-take-start
slice_bounds-take-start c = omega (arith, record_fits c.args.channel c.record_on.ensures)

pub slice_bounds-take-end : goal.slice_bounds-take-end
slice_bounds-take-end c = omega (arith, record_fits c.args.channel c.record_on.ensures)

pub overflow_cast-out : goal.overflow_cast-out
overflow_cast-out c = omega (arith, c.code_of.ensures.1)

pub returns-in-Ok : goal.returns-in-Ok
returns-in-Ok c = λ rates. rw c.code_of.ensures.0 ((into rates c.args.mem.now c.args.out.now c.requires.0 c.args.channel c.args.at c.requires.1 c.record_on.ensures (c.take-answer.ensures rates) (omega arith)).done (ap (λ (r : Result (Unit {0}) Refusal). code_of r) c.in-Ok.is))

pub returns-in-Err : goal.returns-in-Err
returns-in-Err c = λ rates. rw c.code_of.ensures.0 ((into rates c.args.mem.now c.args.out.now c.requires.0 c.args.channel c.args.at c.requires.1 c.record_on.ensures (c.take-answer.ensures rates) (omega arith)).refused (λ z. not_done _ (sym (ap (λ (r : Result (Unit {0}) Refusal). code_of r) c.in-Err.is) ∙ z)))
