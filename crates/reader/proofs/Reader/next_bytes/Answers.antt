-- `reader::Reader::next_bytes` meets its contract. Assumes nothing.
use native.Mathlib.Omega.{arith}
use Rattle.reader.proofs.Reading.{ends_there, ends_cut}
use Rattle.reader.specs.Cursor.{read_off, read_by}
use Rattle.reader.proofs.Reader.next_bytes.Goals as goal

pub returns-in_err-end : goal.returns-in_err-end
unfolding read_by read_off
returns-in_err-end c =
    let r = c.args.self.now in
    rw (c.from_residual.ensures, ends_cut r.recording.now r.at c.args.size (omega (arith, c.in_err-end.ensures, c.type_inv.self)))

pub returns-then-end-self : goal.returns-then-end-self
unfolding read_by read_off
returns-then-end-self c =
    let r = c.args.self.now in
    rw (ends_cut r.recording.now r.at c.args.size (omega (arith, c.in_ok-end.ensures.1, c.if-end-self.true)))

pub returns : goal.returns
unfolding read_by read_off
returns c =
    let r = c.args.self.now in
    rw (c.in_ok-end.ensures.1, ends_there r.recording.now r.at c.args.size (omega (arith, c.in_ok-end.ensures.1, c.if-end-self.false)))
