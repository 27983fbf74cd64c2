-- A message that was sent, as code meets it: its payload is the first so many bytes of a buffer. Assumes nothing.
use Rattle.std.specs.Prelude.{ℕ, List, [], ◌∷◌, take, if◌then◌else◌}
use Rattle.machine.specs.Message.{Rec}
use Rattle.iso_done.specs.Done.{message_of}
use Rattle.talk_message.specs.declared.Sent.{Sent}

unfoldable pub messages : Sent → List ℕ → List Rec
messages s buffer = if s.whole then message_of s.tx s.id (take s.size buffer) ∷ [] else []
