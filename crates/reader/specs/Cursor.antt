-- What a reader gives, in the words of `Reads`, and where it is then. Assumes nothing.
use Rattle.std.specs.Prelude.{ℕ, ◌+◌, leb, length, if◌then◌else◌, ◌≡◌, Option, Some, None}
use Rattle.std.proofs.Math.Option as maybe
use Rattle.number.specs.Reads.{Reads}
use Rattle.reader.specs.declared.Reader.{Reader}
use Rattle.reader.specs.Reader.{moved_to}

-- what was read, and the reader behind it; or none, and the reader as it was
unfoldable pub read_off : {A : Type 0} → Reader → maybe.Option (A × ℕ) → Option A × Reader
read_off r maybe.none = (None, r)
read_off r (maybe.some x) = (Some x.0, moved_to r x.1)

-- A READER READS a part at its place
unfoldable pub read_by : {A : Type 0} → Reads A → Reader → Option A × Reader
read_by p r = read_off r (p r.recording.now r.at)

-- where so many raw bytes begin and end
unfoldable pub ends : ℕ → Reads (ℕ × ℕ)
ends size recording at =
    if leb (at + size) (length recording) then maybe.some ((at, at + size), at + size) else maybe.none

-- what was read and the place behind it; none where something was bad
unfoldable pub behind : {A : Type 0} → Option A → ℕ → Option (A × ℕ)
behind None at = None
behind (Some a) at = Some (a, at)

-- the same, in the words of `Reads`
unfoldable pub given : {A : Type 0} → Option A → ℕ → maybe.Option (A × ℕ)
given None at = maybe.none
given (Some a) at = maybe.some (a, at)

-- WHERE A READER IS LEFT: as it was where it gave nothing, and else on the same recording
abbrev pub Leaves : {A : Type 0} → Option A → Reader → Reader → Type 0
Leaves None before after = after ≡ before
Leaves (Some a) before after = after.recording.now ≡ before.recording.now

-- A READER GAVE what some parts are that lie one behind the other, and is behind them; or one of them is bad, and it is as it was
pub record Gave {A : Type 0} (p : Reads A) (before : Reader) (a : Option A) (after : Reader) : Type 0 where
  pub is : given a after.at ≡ p before.recording.now before.at
  pub left : Leaves a before after
  pub on : after.recording.now ≡ before.recording.now
