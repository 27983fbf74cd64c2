-- `store_check::store_end` meets its contract: each part in turn. Assumes nothing.
use mathlib.Core.Path.{ap, ◌∙◌}
use borrow.Author.Rules.{rules}
use lib.ListN.{length}
use Rattle.machine.specs.Store.{slots_in}
use Rattle.machine.specs.Channel.{filter_in, periodic_in}
use Rattle.store_records.specs.Places.{place_of, after_of}
use Rattle.store_records.proofs.Parts.{There, place_good, place_bad}
use Rattle.store_check.specs.Walk.{flags_in, ends_at}
use Rattle.store_check.proofs.Slots.{ending_of}
use Rattle.store_check.proofs.Whole.{other_flags, no_filters, no_periodics, ended}
use Rattle.store_check.proofs.store_end.Goals as goal
use Rattle.store_check.proofs.store_end.Goals.{In_ok-filters, In_ok-periodics, In_ok-config}

-- what was read so far
flags_at : (c : goal.In_ok-filters) → There (flags_in c.args.flags) c.args.store.now 0 c.in_ok-filters.filters
flags_at c = place_good (flags_in _) _ _ c.in_ok-filters.ensures

filters_at : (c : goal.In_ok-periodics) → There (slots_in (filter_in c.args.flags)) c.args.store.now c.in_ok-filters.filters c.in_ok-periodics.periodics
filters_at c = place_good (slots_in (filter_in _)) _ _ (c.in_ok-periodics.ensures (λ k. after_of (filter_in c.args.flags c.args.store.now k)) (λ k r p. search rules) ∙ ending_of (filter_in _) _ _)

periodics_at : (c : goal.In_ok-config) → There (slots_in (periodic_in c.args.flags)) c.args.store.now c.in_ok-periodics.periodics c.in_ok-config.config
periodics_at c = place_good (slots_in (periodic_in _)) _ _ (c.in_ok-config.ensures (λ k. after_of (periodic_in c.args.flags c.args.store.now k)) (λ k r p. search rules) ∙ ending_of (periodic_in _) _ _)

pub returns-in_err-filters : goal.returns-in_err-filters
returns-in_err-filters c =
    ap (λ r. ends_at (length c.args.store.now) (place_of r)) c.from_residual.ensures ∙ other_flags _ _ _ (place_bad (flags_in _) _ _ c.in_err-filters.ensures)

pub returns-in_err-periodics : goal.returns-in_err-periodics
returns-in_err-periodics c =
    ap (λ r. ends_at (length c.args.store.now) (place_of r)) c.from_residual-in_err-periodics.ensures
    ∙ no_filters _ _ _ (flags_at (goal.at.returns-in_err-periodics c).In_ok-filters).is
    (place_bad (slots_in (filter_in _)) _ _ (c.in_err-periodics.ensures (λ k. after_of (filter_in c.args.flags c.args.store.now k)) (λ k r p. search rules) ∙ ending_of (filter_in _) _ _))

pub returns-in_err-config : goal.returns-in_err-config
returns-in_err-config c =
    ap (λ r. ends_at (length c.args.store.now) (place_of r)) c.from_residual-in_err-config.ensures
    ∙ no_periodics _ _ _ (flags_at (goal.at.returns-in_err-config c).In_ok-filters).is (filters_at (goal.at.returns-in_err-config c).In_ok-periodics).is
    (place_bad (slots_in (periodic_in _)) _ _ (c.in_err-config.ensures (λ k. after_of (periodic_in c.args.flags c.args.store.now k)) (λ k r p. search rules) ∙ ending_of (periodic_in _) _ _))

pub returns : goal.returns
returns c =
    ap (ends_at (length c.args.store.now)) c.config_end.ensures
    ∙ ended _ _ _ (flags_at (goal.at.returns c).In_ok-filters).is (filters_at (goal.at.returns c).In_ok-periodics).is (periodics_at (goal.at.returns c).In_ok-config).is
