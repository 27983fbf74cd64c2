-- `iso_writing::unmatched` meets its contract. Assumes nothing.
use Rattle.iso_writing.specs.Written.{talks_by}
use Rattle.iso_writing.proofs.Writing.{alone_is}
use Rattle.iso_writing.proofs.unmatched.Goals as goal

pub returns : goal.returns
returns c =
    alone_is (talks_by c.args.one c.args.two) c.args.m.now c.word_at.ensures.0 c.requires.1 c.is_wide.ensures c.id_at.ensures c.has_filter-known.ensures
