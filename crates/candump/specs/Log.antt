-- Request P11: import and export of a candump log. Times are in microseconds. Assumes nothing.
use Rattle.std.specs.Prelude.{ℕ, zero, suc, ◌+◌, ◌-◌, ◌*◌, ◌/◌, ◌%◌, ◌≤◌, ◌≡◌, Bool, true, false, List, [], ◌∷◌, ◌++◌, map, eqb, ltb, length, replicate, if◌then◌else◌}
use Rattle.recording_sizes.specs.Sizes.{longest}
use Rattle.number.specs.Number.{bytes_of}
use Rattle.machine.specs.Limits.{most_advance}
use Rattle.machine.specs.Step.{Event, connect, call, frame, advance, close}
use Rattle.whole.specs.Device.{Device, power_on, step}
use Rattle.edition.specs.Edition.{rates_of}
use Rattle.event_list.specs.Run.{events_of}
use Rattle.candump.specs.Line.{second, Logged, line_text, Said, malformed, unknown, tells, line_in}

-- the latest start: 4,000,000,000 seconds
abbrev pub latest : ℕ
latest = 4_000_000_000 * second

-- ---- export

-- what an event with this code logs: a frame answered 0x00
unfoldable pub entry : ℕ → Event → ℕ → List Logged
entry t (connect l p f r) code = []
entry t (call k x) code = []
entry t (frame l w n b) code =
    if eqb code 0x00 then record { time = t; line = l; wide = eqb w 1; id = n; bytes = b } ∷ [] else []
entry t (advance u) code = []
entry t close code = []

-- the microseconds that it takes: those of an accepted advance
unfoldable pub lasts : Event → ℕ → ℕ
lasts (connect l p f r) code = 0
lasts (call k x) code = 0
lasts (frame l w n b) code = 0
lasts (advance u) code = if eqb code 0x00 then u else 0
lasts close code = 0

-- the frames of a run that were answered 0x00, with their times
unfoldable pub logged_in : List ℕ → ℕ → Device → List Event → List Logged
logged_in rates t d [] = []
logged_in rates t d (e ∷ es) =
    entry t e (step rates d e).1.code ++ logged_in rates (t + lasts e (step rates d e).1.code) (step rates d e).0 es

-- those of a recording
unfoldable pub log_of : ℕ → List ℕ → List Logged
log_of start recording = logged_in (rates_of recording) start power_on (events_of recording)

-- the box's clock at each of these frames
unfoldable pub clocks_in : List ℕ → Device → List Event → List ℕ
clocks_in rates d [] = []
clocks_in rates d (e ∷ es) =
    map (λ g. d.clock) (entry 0 e (step rates d e).1.code) ++ clocks_in rates (step rates d e).0 es

unfoldable pub clocks_of : List ℕ → List ℕ
clocks_of recording = clocks_in (rates_of recording) power_on (events_of recording)

abbrev pub newline : ℕ
newline = 0x0A

-- each line ends with a newline
unfoldable pub lines_text : List Logged → List ℕ
lines_text [] = []
lines_text (g ∷ gs) = line_text g ++ (newline ∷ lines_text gs)

-- THE EXPORT
unfoldable pub exported : ℕ → List ℕ → List ℕ
exported start recording = lines_text (log_of start recording)

-- ---- import

-- a line's first byte goes in front of the line that follows it
unfoldable pub glue : ℕ → List (List ℕ) → List (List ℕ)
glue c [] = (c ∷ []) ∷ []
glue c (l ∷ ls) = (c ∷ l) ∷ ls

-- the lines of a log, without their ends; the last may lack its newline
unfoldable pub lines_of : List ℕ → List (List ℕ)
lines_of [] = []
lines_of (c ∷ cs) = if eqb c newline then [] ∷ lines_of cs else glue c (lines_of cs)

-- the bytes of an advance and of a frame in a recording
unfoldable pub event_bytes : Event → List ℕ
event_bytes (connect l p f r) = []
event_bytes (call k x) = []
event_bytes (frame l w n b) = bytes_of 5 ++ (bytes_of l ++ (bytes_of w ++ (bytes_of n ++ (bytes_of (length b) ++ b))))
event_bytes (advance u) = bytes_of 4 ++ bytes_of u
event_bytes close = []

unfoldable pub bytes_all : List Event → List ℕ
bytes_all [] = []
bytes_all (e ∷ es) = event_bytes e ++ bytes_all es

-- the rest of a difference of time, where it is not 0
unfoldable pub rest : ℕ → List Event
rest zero = []
rest (suc u) = advance (suc u) ∷ []

-- a full advance
abbrev pub full : ℕ
full = most_advance

-- a difference of time: full advances first
unfoldable pub advances : ℕ → List Event
advances n = replicate (n / full) (advance full) ++ rest (n % full)

unfoldable pub frame_of : Logged → Event
frame_of g = frame g.line (if g.wide then 1 else 0) g.id g.bytes

-- what a line writes, behind one of time t
unfoldable pub line_events : ℕ → Logged → List Event
line_events t g = advances (g.time - t) ++ (frame_of g ∷ [])

-- the bytes that a recording may have
abbrev pub room : ℕ
room = longest

-- why a line stops the import; 0 where none did
abbrev pub is_malformed : ℕ
is_malformed = 1

abbrev pub is_unknown : ℕ
is_unknown = 2

abbrev pub goes_back : ℕ
goes_back = 3

abbrev pub does_not_fit : ℕ
does_not_fit = 4

-- an import: the recording, the number of the line that stopped it and why, both 0 where none did
pub record Import : Type 0 where
  pub bytes : List ℕ
  pub line : ℕ
  pub reason : ℕ

unfoldable pub whole : List ℕ → Import
whole out = record { bytes = out; line = 0; reason = 0 }

unfoldable pub stopped : List ℕ → ℕ → ℕ → Import
stopped out n reason = record { bytes = out; line = n; reason = reason }

-- the recording so far and what a line adds to it; or the line stops the import and adds nothing
unfoldable pub taking : ℕ → ℕ → List ℕ → Said → (Logged → Import) → Import
taking t n out malformed more = stopped out n is_malformed
taking t n out unknown more = stopped out n is_unknown
taking t n out (tells g) more =
    if ltb g.time t then stopped out n goes_back
    else if ltb room (length (out ++ bytes_all (line_events t g))) then stopped out n does_not_fit
    else more g

-- the lines from number n on, behind one of time t
unfoldable pub importing : ℕ → ℕ → List ℕ → List (List ℕ) → Import
importing t n out [] = whole out
importing t n out (l ∷ ls) =
    taking t n out (line_in l) (λ g. importing g.time (n + 1) (out ++ bytes_all (line_events t g)) ls)

-- THE IMPORT
unfoldable pub imported : ℕ → List ℕ → Import
imported start log = importing start 1 [] (lines_of log)

-- ---- what an import takes

-- the frames of the lines that it takes: those before the line that stops it
unfoldable pub taken_of : ℕ → List ℕ → Said → (Logged → List Logged) → List Logged
taken_of t out malformed more = []
taken_of t out unknown more = []
taken_of t out (tells g) more =
    if ltb g.time t then [] else if ltb room (length (out ++ bytes_all (line_events t g))) then [] else g ∷ more g

unfoldable pub taken : ℕ → List ℕ → List (List ℕ) → List Logged
taken t out [] = []
taken t out (l ∷ ls) = taken_of t out (line_in l) (λ g. taken g.time (out ++ bytes_all (line_events t g)) ls)

-- the import of a log is right: it fits, and it holds the frames of the lines that it took, at their times
pub record Imports (start : ℕ) (log : List ℕ) : Type 0 where
  pub fits : length (imported start log).bytes ≤ room
  pub holds : log_of start (imported start log).bytes ≡ taken start [] (lines_of log)

-- ---- THE WAY BACK

-- a recording comes back: the import of its export stops nowhere, and holds the same frames at the same times, each at the same clock of the box
pub record Returns (start : ℕ) (recording : List ℕ) : Type 0 where
  pub goes_on : (imported start (exported start recording)).line ≡ 0
  pub same : log_of start (imported start (exported start recording)).bytes ≡ log_of start recording
  pub clocks : clocks_of (imported start (exported start recording)).bytes ≡ clocks_of recording
