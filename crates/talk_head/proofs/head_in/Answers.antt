-- `talk_head::head_in` meets its contract: field by field. Assumes nothing.
use lib.ListN.{get_or}
use Rattle.talk_head.specs.Headed.{head_at}
use Rattle.talk_head.proofs.Bytes.{eqb_sym}
use Rattle.talk_head.proofs.head_in.Goals as goal

pub returns : goal.returns
unfolding head_at
returns c =
    let t = c.args.t.now in
    λ i.
    record {
      kind = get_or t 10 0;
      n = c.word_at.ensures.0 i;
      time = c.word_at-2.ensures.0 i;
      left = c.word_at-3.ensures.0 i;
      gap = c.word_at-4.ensures.0 i;
      waits = eqb_sym (get_or t 27 0) i;
    }
