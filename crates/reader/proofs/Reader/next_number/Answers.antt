-- `reader::Reader::next_number` meets its contract. What `number::number_at` answers is what is to be read. Assumes nothing.
use Rattle.reader.proofs.Reading.{number_good, number_bad}
use Rattle.reader.specs.Cursor.{read_off, read_by}
use Rattle.reader.proofs.Reader.next_number.Goals as goal

pub returns-in_err-found : goal.returns-in_err-found
unfolding read_by read_off
returns-in_err-found c = rw (c.from_residual.ensures, number_bad _ _ c.in_err-found.ensures)

pub returns : goal.returns
unfolding read_by read_off
returns c = rw (number_good _ _ c.in_ok-found.ensures)
