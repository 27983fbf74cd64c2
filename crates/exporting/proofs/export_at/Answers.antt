-- `exporting::export_at` meets its contract. Assumes nothing.
use Prim.Native.Nat.{ℕ}
use mathlib.Core.Option.{Option}
use mathlib.Core.Path.{refl, sym, ap, subst, ◌∙◌}
use lib.ListN.{length}
use Rattle.machine.specs.Step as machine
use Rattle.events.specs.Found.{found_of, FoundThere}
use Rattle.exporting.specs.Pieces.{Reaches}
use Rattle.exporting.proofs.export_at.Goals as goal

pub returns-in_default : goal.returns-in_default
returns-in_default c =
    subst (λ (o : Option (machine.Event × ℕ)). Reaches (length c.args.recording.now) o c.args.time c.args.out.now c.args.place (length c.args.recording.now) c.args.time c.args.place c.args.out.now)
    (sym (ap (found_of c.args.recording.now) c.in_default.is) ∙ c.read_event.ensures.is)
    (refl, refl, refl, refl)

-- the event that was read
pub export_event-turn-requires : goal.export_event-turn-requires
export_event-turn-requires c =
    (subst (FoundThere c.args.recording.now) c.in-Some.is c.read_event.ensures.there, c.requires.0, c.requires.1)

pub returns : goal.returns
returns c =
    subst (λ (o : Option (machine.Event × ℕ)). Reaches (length c.args.recording.now) o c.args.time c.args.out.now c.args.place c.in-Some.next c.export_event-turn.result.time c.export_event-turn.result.place c.export_event-turn.new.out)
    (sym (ap (found_of c.args.recording.now) c.in-Some.is) ∙ c.read_event.ensures.is)
    (refl, c.export_event-turn.ensures)
