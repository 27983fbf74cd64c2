-- A naming with its code in front, as it stands in a trace: a refusal has its code, and zeros for all else. Assumes nothing.
use Rattle.std.specs.Prelude.{ℕ, List, [], ◌∷◌, length, Result, Ok, Err}
use Rattle.std.proofs.Math.Option.{Option, none, some}
use Rattle.codes.specs.declared.Refusal.{Refusal}
use Rattle.codes.specs.Code.{number_of}
use Rattle.telegram.specs.Telegram.{AnyTelegram}
use Rattle.telegram_types.specs.declared.Named.{Named}
use Rattle.telegram_types.specs.Face.{numbers_of, carried_by, padded}

-- the code, the kind, the fields, and the whole payload array with the length of what is carried
pub record Line : Type 0 where
  pub code : ℕ
  pub kind : ℕ
  pub fields : List ℕ
  pub payload : List ℕ
  pub len : ℕ

-- what an answer says
unfoldable pub line : Result Named Refusal → Line
line (Ok n) = record { code = 0x00; kind = n.kind; fields = n.fields; payload = n.payload; len = n.len }
line (Err refusal) = record { code = number_of refusal; kind = 0; fields = 0 ∷ 0 ∷ 0 ∷ 0 ∷ 0 ∷ []; payload = padded []; len = 0 }

-- a telegram in numbers, with what it carries; 0x0A and zeros where there is none
unfoldable pub line_of : Option AnyTelegram → Line
line_of none = record { code = 0x0A; kind = 0; fields = 0 ∷ 0 ∷ 0 ∷ 0 ∷ 0 ∷ []; payload = padded []; len = 0 }
line_of (some t) = record { code = 0x00; kind = (numbers_of t).kind; fields = (numbers_of t).fields; payload = padded (carried_by t); len = length (carried_by t) }
