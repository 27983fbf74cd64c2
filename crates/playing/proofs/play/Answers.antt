-- `playing::play` meets its contract. The call, and then what it answers. Assumes nothing.
use Prim.Native.Nat.{ℕ}
use mathlib.Core.List.{List}
use mathlib.Core.Path.{◌≡◌, ap, subst}
use native.Mathlib.Omega.{arith}
use Rattle.number.specs.Number.{bytes_of}
use Rattle.events.specs.declared.Event.{Event}
use Rattle.events.specs.Found.{EventThere}
use Rattle.answers.specs.Output.{numbered, counted}
use Rattle.answers.proofs.Put.{number_fits, put_number, put_same}
use Rattle.playing.proofs.Answers.{answers, plain_bytes, giving_bytes, write_bytes}
use Rattle.playing.proofs.play.Goals as goal

-- what the event lends is in the recording, by whichever name the event goes
there : (recording : List ℕ) {e x : Event} → EventThere recording e → e ≡ x → EventThere recording x
there recording f q = subst (EventThere recording) q f

pub plain_code-answer-requires : goal.plain_code-answer-requires
plain_code-answer-requires c = (c.requires.0, there c.args.recording.now c.requires.1 c.in-Code.is)

pub put_number-requires : goal.put_number-requires
put_number-requires c = number_fits c.args.out.now c.args.at c.code_of.result (omega arith)

pub giving_answer-answer-requires : goal.giving_answer-answer-requires
giving_answer-answer-requires c = (c.requires.0, there c.args.recording.now c.requires.1 c.in-Number.is)

pub slice_bounds-write-count : goal.slice_bounds-write-count
slice_bounds-write-count c = let h = there c.args.recording.now c.requires.1 c.in-Write.is in omega arith

pub slice_bounds-write-start : goal.slice_bounds-write-start
slice_bounds-write-start c = let h = there c.args.recording.now c.requires.1 c.in-Write.is in omega arith

pub slice_bounds-write-end : goal.slice_bounds-write-end
slice_bounds-write-end c = let h = there c.args.recording.now c.requires.1 c.in-Write.is in omega arith

pub read_into-requires : goal.read_into-requires
read_into-requires c = (c.requires.0, there c.args.recording.now c.requires.1 c.in-Read.is, c.requires.2)

pub returns-in-Code : goal.returns-in-Code
returns-in-Code c =
    rw c.in-Code.is
    (answers c.args.rates.now c.args.mem.now c.requires.0 _ c.plain_code-answer.ensures (λ k v. bytes_of k) (plain_bytes c.args.recording.now c.in-Code.p)
    (put_same (ap (λ (k : ℕ). bytes_of k) c.code_of.ensures.0) (put_number _ _ _ _ _ c.put_number.ensures)))

pub returns-in-Number : goal.returns-in-Number
returns-in-Number c =
    rw c.in-Number.is
    (answers c.args.rates.now c.args.mem.now c.requires.0 _ c.giving_answer-answer.ensures numbered (giving_bytes c.args.recording.now c.in-Number.g) c.put_done.ensures)

pub returns-in-Write : goal.returns-in-Write
returns-in-Write c =
    rw c.in-Write.is
    (answers c.args.rates.now c.args.mem.now c.requires.0 _ (c.write-moved.ensures _) counted (write_bytes _ _ _) c.put_count.ensures)

pub returns-in-Read : goal.returns-in-Read
returns-in-Read c = rw c.in-Read.is (c.read_into.ensures _)

pub returns-in-Take : goal.returns-in-Take
returns-in-Take c = rw c.in-Take.is (c.take_into.ensures _)
