-- ANY TWO OUTCOMES ARE EQUAL, of each function here and of the reader of numbers that they call. Assumes nothing.
use Prim.Native.Nat.{ℕ}
use mathlib.Core.Bool.{Bool}
use mathlib.Core.List.{List}
use mathlib.Core.Path.{◌≡◌, sym, ◌∙◌}
use denote.Ref.{Bor}
use Rattle.std.specs.Prelude.{Option}
use Rattle.codec.specs.Settled.{Settled}
use Rattle.number.specs.declared.Number.{Number}
use Rattle.number.specs.Place.{number_at}
use Rattle.number.specs.Reads.{number}
use Rattle.reader.specs.declared.Reader.{Reader}
use Rattle.reader.specs.Reader.{reader_at, moved_to, at_end}
use Rattle.reader.specs.Cursor.{read_by, ends}

pub number_settled : (recording : List ℕ) (at : ℕ) → Settled (λ (r : Option Number). r ≡ number_at recording at)
number_settled recording at x y p q = p ∙ sym q

pub new_settled : (recording : Bor (List ℕ)) (at : ℕ) → Settled (λ (r : Reader). r ≡ reader_at recording at)
new_settled recording at x y p q = p ∙ sym q

pub next_settled : (reader : Reader) → Settled (λ (r : Option ℕ × Reader). r ≡ read_by number reader)
next_settled reader x y p q = p ∙ sym q

pub bytes_settled : (size : ℕ) (reader : Reader) → Settled (λ (r : Option (ℕ × ℕ) × Reader). r ≡ read_by (ends size) reader)
bytes_settled size reader x y p q = p ∙ sym q

pub moved_settled : (reader : Reader) (at : ℕ) → Settled (λ (r : Reader). r ≡ moved_to reader at)
moved_settled reader at x y p q = p ∙ sym q

pub end_settled : (reader : Reader) → Settled (λ (r : Bool). r ≡ at_end reader)
end_settled reader x y p q = p ∙ sym q
