-- `log_writer::put_byte` meets its contract. Assumes nothing.
use Rattle.log_writer.proofs.Writing.{byte_put}
use Rattle.log_writer.proofs.put_byte.Goals as goal

pub returns : goal.returns
returns c = byte_put c.args.out.now c.args.at c.args.byte c.requires
