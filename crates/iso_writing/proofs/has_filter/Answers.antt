-- `iso_writing::has_filter` meets its contract: both conversations, one after the other. Assumes nothing.
use Rattle.iso_writing.proofs.Flows.{two_tests}
use Rattle.iso_writing.proofs.has_filter.Goals as goal

pub returns : goal.returns
returns c = let args = c.args in two_tests args.one args.two args.wide args.id
