-- The data of a frame to send, behind its identifier, and a lent buffer that begins with them. Assumes nothing.
use Rattle.std.specs.Prelude.{◌≡◌, ℕ, ◌≤◌, List, take, drop}
use Rattle.machine.specs.Message.{Rec}
use Rattle.iso.specs.Limits.{id_size}
use Rattle.iso.specs.Iso.{Stage, Transmission}

-- a frame carries eight bytes at most
abbrev pub frame_room : ℕ
frame_room = 8

unfoldable pub carried : Rec → List ℕ
carried f = drop id_size f.bytes

-- the first n of the bytes d are those of the frame
abbrev pub Carries : ℕ → List ℕ → Rec → Type 0
Carries n d f = (take n d ≡ carried f) × (n ≤ frame_room)

-- a transmission of so many bytes taken
abbrev pub taken_of : List ℕ → ℕ → Stage → Transmission
taken_of p n s = record { payload = p; taken = n; stage = s }
