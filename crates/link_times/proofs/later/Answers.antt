-- `link_times::later` meets its contract: by the state. Assumes nothing.
use Rattle.link_times.proofs.Passes.{none_passes, exit_passes, trials_lent, still, trial_ends, trial_passes}
use Rattle.link_times.proofs.later.Goals as goal

pub returns-then-state-eq-ABSENT : goal.returns-then-state-eq-ABSENT
returns-then-state-eq-ABSENT c =
    none_passes c.args.part.now c.requires c.args.us c.if-state-eq-ABSENT.true

pub returns-then-state-eq-LEAVING : goal.returns-then-state-eq-LEAVING
returns-then-state-eq-LEAVING c =
    exit_passes c.args.part.now c.requires c.args.us c.if-state-eq-LEAVING.true _ c.space_later.ensures

pub trials_later-requires : goal.trials_later-requires
trials_later-requires c =
    trials_lent c.args.part.now c.requires c.args.us c.if-state-eq-ABSENT.false c.if-state-eq-STANDING.false c.if-state-eq-LEAVING.false

pub end-requires : goal.end-requires
end-requires c =
    still c.args.part.now c.requires c.args.us c.if-state-eq-ABSENT.false c.if-state-eq-STANDING.false c.if-state-eq-LEAVING.false _ _ c.trials_later.ensures c.if-not-trials_later.true

pub returns-then-not-trials_later : goal.returns-then-not-trials_later
returns-then-not-trials_later c =
    trial_ends c.args.part.now c.requires c.args.us c.if-state-eq-ABSENT.false c.if-state-eq-STANDING.false c.if-state-eq-LEAVING.false _ _ c.trials_later.ensures c.if-not-trials_later.true _ c.end.ensures

pub returns-else-not-trials_later : goal.returns-else-not-trials_later
returns-else-not-trials_later c =
    trial_passes c.args.part.now c.requires c.args.us c.if-state-eq-ABSENT.false c.if-state-eq-STANDING.false c.if-state-eq-LEAVING.false _ _ c.trials_later.ensures c.if-not-trials_later.false
