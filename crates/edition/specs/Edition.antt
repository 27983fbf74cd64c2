-- Request P12: "Recordings get an edition: one that begins with event 0 and the number 2 follows the new rule; one without keeps 125,000 for
-- ever." Event 0 is no event of the machine's, so that it is bad wherever else it stands. Assumes nothing.
use Rattle.std.specs.Prelude.{ℕ, Bool, ◌&&◌, false, List, eqb, ltb, length, get_or, if◌then◌else◌}
use Rattle.machine.specs.Codes.{three_rates, two_rates}

-- the event that says an edition, and the one edition that it may say
abbrev pub edition_event : ℕ
edition_event = 0

abbrev pub new_edition : ℕ
new_edition = 2

-- the bytes of the mark: each of the two numbers has one
abbrev pub mark_size : ℕ
mark_size = 2

-- THE MARK: the recording begins with event 0 and the number 2
unfoldable pub marked : List ℕ → Bool
marked recording =
    if ltb (length recording) mark_size then false else eqb (get_or recording 0 0) edition_event && eqb (get_or recording 1 0) new_edition

-- the rates that connect and set take in it
unfoldable pub rates_of : List ℕ → List ℕ
rates_of recording = if marked recording then two_rates else three_rates

-- where its events begin: behind the mark, which writes no answer
unfoldable pub start_of : List ℕ → ℕ
start_of recording = if marked recording then mark_size else 0

-- the mark begins at this place: it does at the very start alone
unfoldable pub mark_at : List ℕ → ℕ → Bool
mark_at recording at = eqb at 0 && marked recording
