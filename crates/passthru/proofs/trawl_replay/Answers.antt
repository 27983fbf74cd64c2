-- `passthru::trawl_replay` meets its contract: what an answer says of a piece. Assumes nothing.
use Rattle.recording.proofs.Promise.{told_ok, told_err}
use Rattle.passthru.proofs.trawl_replay.Goals as goal

pub returns-in-Ok : goal.returns-in-Ok
returns-in-Ok c = told_ok _ c.play_on.ensures c.in-Ok.is

pub returns-in-Err : goal.returns-in-Err
returns-in-Err c = rw c.from.ensures (told_err _ c.play_on.ensures c.in-Err.is)
