-- `exporting::export_event` meets its contract. Assumes nothing.
use Prim.Native.Nat.{ℕ}
use mathlib.Core.List.{List}
use mathlib.Core.Path.{◌≡◌, sym, subst}
use Rattle.events.specs.Found.{event_of, EventThere}
use Rattle.events.specs.declared.Event.{Event}
use Rattle.exporting.specs.Pieces.{Exports}
use Rattle.exporting.proofs.Events.{quiet_call, quiet_giving}
use Rattle.exporting.proofs.export_event.Goals as goal

-- the event by its case
as_case : (recording : List ℕ) {e q : Event} → e ≡ q → {t : ℕ} {b : List ℕ} {place time next : ℕ} {later : List ℕ} → Exports (event_of recording q) t b place time next later
    → Exports (event_of recording e) t b place time next later
as_case recording e {t} {b} {place} {time} {next} {later} x = subst (λ (p : Event). Exports (event_of recording p) t b place time next later) (sym e) x

pub export_plain-requires : goal.export_plain-requires
export_plain-requires c = (subst (EventThere c.args.recording.now) c.in-Code.is c.requires.0, c.requires.1, c.requires.2)

pub returns-in-Code : goal.returns-in-Code
returns-in-Code c = as_case c.args.recording.now c.in-Code.is c.export_plain.ensures

pub returns-in-Number : goal.returns-in-Number
returns-in-Number c = as_case c.args.recording.now c.in-Number.is (quiet_giving c.args.recording.now c.in-Number.field-0 _ _ _)

pub returns-in-Write : goal.returns-in-Write
returns-in-Write c = as_case c.args.recording.now c.in-Write.is (quiet_call _ _ _ _ _)

pub returns-in-Read : goal.returns-in-Read
returns-in-Read c = as_case c.args.recording.now c.in-Read.is (quiet_call _ _ _ _ _)

pub returns-in-Take : goal.returns-in-Take
returns-in-Take c = as_case c.args.recording.now c.in-Take.is (quiet_call _ _ _ _ _)
