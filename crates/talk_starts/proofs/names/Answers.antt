-- `talk_starts::names` meets its contract: field by field. Assumes nothing.
use Rattle.machine.specs.Message.{protocol_of, size_of, tx_flags_of}
use Rattle.talk_starts.specs.Starts.{naming_of}
use Rattle.talk_starts.proofs.names.Goals as goal

pub returns : goal.returns
unfolding naming_of protocol_of size_of tx_flags_of
returns c =
    λ i.
    record {
      protocol = c.word_at.ensures.0 i;
      size = c.word_at-2.ensures.0 i;
      tx = c.word_at-3.ensures.0 i;
      id = c.id_at.ensures i;
    }
