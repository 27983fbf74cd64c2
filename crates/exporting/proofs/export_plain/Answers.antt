-- `exporting::export_plain` meets its contract. Assumes nothing.
use Prim.Native.Nat.{ℕ}
use mathlib.Core.List.{List}
use mathlib.Core.Path.{◌≡◌, sym, subst}
use native.Mathlib.Omega.{arith}
use Rattle.events.specs.Found.{There, plain_of, PlainThere}
use Rattle.events.specs.declared.Plain.{Plain}
use Rattle.exporting.specs.Pieces.{Exports}
use Rattle.exporting.proofs.Events.{quiet_call, quiet_close, advanced, framed}
use Rattle.exporting.proofs.export_plain.Goals as goal

-- the event by its case
as_case : (recording : List ℕ) {e q : Plain} → e ≡ q → {t : ℕ} {b : List ℕ} {place time next : ℕ} {later : List ℕ} → Exports (plain_of recording q) t b place time next later
    → Exports (plain_of recording e) t b place time next later
as_case recording e {t} {b} {place} {time} {next} {later} x = subst (λ (p : Plain). Exports (plain_of recording p) t b place time next later) (sym e) x

pub returns-in-Advance : goal.returns-in-Advance
returns-in-Advance c =
    as_case c.args.recording.now c.in-Advance.is (advanced _ _ _ _ _ c.after_advance.ensures)

pub slice_bounds-put_logged-count : goal.slice_bounds-put_logged-count
slice_bounds-put_logged-count c = let h : There c.args.recording.now c.in-Frame.from c.in-Frame.end = subst (PlainThere c.args.recording.now) c.in-Frame.is c.requires.0 in h.0

pub slice_bounds-put_logged-start : goal.slice_bounds-put_logged-start
slice_bounds-put_logged-start c = let h : There c.args.recording.now c.in-Frame.from c.in-Frame.end = subst (PlainThere c.args.recording.now) c.in-Frame.is c.requires.0 in omega (arith, h.0, h.1)

pub slice_bounds-put_logged-end : goal.slice_bounds-put_logged-end
slice_bounds-put_logged-end c = let h : There c.args.recording.now c.in-Frame.from c.in-Frame.end = subst (PlainThere c.args.recording.now) c.in-Frame.is c.requires.0 in omega (arith, h.0, h.1)

pub returns-in-Frame : goal.returns-in-Frame
returns-in-Frame c =
    as_case c.args.recording.now c.in-Frame.is (framed _ _ _ _ _ _ _ _ _ c.put_logged-next.ensures)

pub returns-in-Disconnect : goal.returns-in-Disconnect
returns-in-Disconnect c = as_case c.args.recording.now c.in-Disconnect.is (quiet_call _ _ _ _ _)

pub returns-in-Close : goal.returns-in-Close
returns-in-Close c = as_case c.args.recording.now c.in-Close.is (quiet_close _ _ _)

pub returns-in-StopFilter : goal.returns-in-StopFilter
returns-in-StopFilter c = as_case c.args.recording.now c.in-StopFilter.is (quiet_call _ _ _ _ _)

pub returns-in-StopPeriodic : goal.returns-in-StopPeriodic
returns-in-StopPeriodic c = as_case c.args.recording.now c.in-StopPeriodic.is (quiet_call _ _ _ _ _)

pub returns-in-Sent : goal.returns-in-Sent
returns-in-Sent c = as_case c.args.recording.now c.in-Sent.is (quiet_call _ _ _ _ _)

pub returns-in-Clear : goal.returns-in-Clear
returns-in-Clear c = as_case c.args.recording.now c.in-Clear.is (quiet_call _ _ _ _ _)

pub returns-in-Set : goal.returns-in-Set
returns-in-Set c = as_case c.args.recording.now c.in-Set.is (quiet_call _ _ _ _ _)
