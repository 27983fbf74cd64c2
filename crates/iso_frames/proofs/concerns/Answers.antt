use Rattle.iso_frames.proofs.Bytes.{is_concerned}
use Rattle.iso_frames.proofs.concerns.Goals as goal

pub returns : goal.returns
returns c flags u = is_concerned flags c.args.t.now c.args.wide c.args.id _ c.word_at.ensures.0 u
