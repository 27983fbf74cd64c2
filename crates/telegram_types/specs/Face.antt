-- What the types of this crate's face say, as telegrams, and what the reader, the writer and the naming of a telegram have to answer.
-- Assumes nothing.
use Rattle.std.specs.Prelude.{ℕ, ◌+◌, ◌-◌, Bool, List, [], ◌∷◌, ◌++◌, length, take, drop, replicate, ltb, if◌then◌else◌, Result, Ok, Err}
use Rattle.std.specs.Prelude as rust
use Rattle.std.proofs.Math.Option.{Option, none, some}
use Rattle.codes.specs.declared.Refusal.{Refusal}
use Rattle.codes.specs.declared.Refusal.TheVariants.{InvalidMsg}
use Rattle.codes.specs.Code.{number_of, code_of, value_of}
use Rattle.telegram.specs.Bits.{bit_value}
use Rattle.telegram.specs.Telegram.{set_up, positive, negative, data_telegram, acknowledge, connection, test, break_off, disconnection, AnyTelegram, opening, channel, any_fits, any_bytes}
use Rattle.telegram.specs.Telegram as T
use Rattle.telegram_types.specs.declared.Opening.{Opening}
use Rattle.telegram_types.specs.declared.Opening.TheVariants.{SetUp, Positive, Negative}
use Rattle.telegram_types.specs.declared.OnChannel.{OnChannel}
use Rattle.telegram_types.specs.declared.OnChannel.TheVariants.{Data, Acknowledge, Connection, Test, Break, Disconnect}
use Rattle.telegram_types.specs.declared.Telegram.{Telegram}
use Rattle.telegram_types.specs.declared.Telegram.TheVariants.{Opening as opens, Channel as travels}
use Rattle.telegram_types.specs.declared.Answer.{Answer}
use Rattle.telegram_types.specs.declared.Numbers.{Numbers}
use Rattle.telegram_types.specs.declared.Named.{Named}

-- ---- what a case of an enum says, with the bytes that stand beside it

-- an opening telegram
unfoldable pub opening_said : Opening → List ℕ → T.Opening
opening_said (SetUp d rx app) bytes = set_up d rx app
opening_said (Positive d tx rx app) bytes = positive d tx rx app
opening_said (Negative d kind) bytes = negative d kind bytes

-- a telegram on a channel
unfoldable pub channel_said : OnChannel → List ℕ → T.Telegram
channel_said (Data asks last sn) bytes = data_telegram asks last sn bytes
channel_said (Acknowledge ready sn) bytes = acknowledge ready sn
channel_said (Connection ack bs t1 t2 t3 t4) bytes = connection ack bs t1 t2 t3 t4
channel_said Test bytes = test
channel_said Break bytes = break_off
channel_said Disconnect bytes = disconnection

-- either sort
unfoldable pub said : Telegram → List ℕ → AnyTelegram
said (opens id o) bytes = opening id (opening_said o bytes)
said (travels t) bytes = channel (channel_said t bytes)

-- what was taken, or nothing
unfoldable pub taken_said : rust.Option Telegram → List ℕ → Option AnyTelegram
taken_said (rust.Some t) bytes = some (said t bytes)
taken_said rust.None bytes = none

-- ---- the reader

-- what an answer says: the code, the telegram, and the whole payload array with the length of what it carries
pub record Told : Type 0 where
  pub code : ℕ
  pub telegram : Option AnyTelegram
  pub payload : List ℕ
  pub len : ℕ

-- the bytes that a telegram carries: the five of a negative reply, the up to seven of data
unfoldable pub carried_by : AnyTelegram → List ℕ
carried_by (opening id (set_up d rx app)) = []
carried_by (opening id (positive d tx rx app)) = []
carried_by (opening id (negative d kind rest)) = rest
carried_by (channel (data_telegram asks last sn bytes)) = bytes
carried_by (channel (acknowledge ready sn)) = []
carried_by (channel (connection ack bs t1 t2 t3 t4)) = []
carried_by (channel test) = []
carried_by (channel break_off) = []
carried_by (channel disconnection) = []

-- up to seven bytes in an array of seven, zeros after them
unfoldable pub padded : List ℕ → List ℕ
padded bytes = bytes ++ replicate (7 - length bytes) 0

-- a refusal gives its code, and carries nothing
unfoldable pub told : Result Answer Refusal → Told
told (Ok a) = record { code = 0x00; telegram = some (said a.telegram (take a.len a.payload)); payload = a.payload; len = a.len }
told (Err refusal) = record { code = number_of refusal; telegram = none; payload = padded []; len = 0 }

-- what the reader has to answer: 0x00 and the telegram, or 0x0A
unfoldable pub answering : Option AnyTelegram → Told
answering none = record { code = 0x0A; telegram = none; payload = padded []; len = 0 }
answering (some t) = record { code = 0x00; telegram = some t; payload = padded (carried_by t); len = length (carried_by t) }

-- ---- the writer

-- what a write gives: the code, the length, and the buffer as it is afterwards
pub record Wrote : Type 0 where
  pub code : ℕ
  pub len : ℕ
  pub buffer : List ℕ

unfoldable pub wrote : Result ℕ Refusal → List ℕ → Wrote
wrote w buffer = record { code = code_of w; len = value_of w; buffer = buffer }

-- a refusal leaves the buffer as it was
unfoldable pub refusal : ℕ → List ℕ → Wrote
refusal code buffer = record { code = code; len = 0; buffer = buffer }

-- the bytes at the buffer's start; all after them stays
unfoldable pub over : List ℕ → List ℕ → List ℕ
over bytes buffer = bytes ++ drop (length bytes) buffer

-- the bytes, and their number
unfoldable pub done : List ℕ → List ℕ → Wrote
done bytes buffer = record { code = 0x00; len = length bytes; buffer = over bytes buffer }

-- the bytes where the fields fit, else 0x0A
unfoldable pub written_if : Bool → List ℕ → List ℕ → Wrote
written_if fit bytes buffer = if fit then done bytes buffer else refusal 0x0A buffer

-- what the writer has to do: 0x04 for a buffer under 8 bytes, then 0x0A for fields that the tables don't allow
unfoldable pub writing : AnyTelegram → List ℕ → Wrote
writing t buffer = if ltb (length buffer) 8 then refusal 0x04 buffer else written_if (any_fits t) (any_bytes t) buffer

-- ---- the naming

-- a kind and five fields
abbrev pub kind_and_fields : (kind a b c d e : ℕ) → Numbers
kind_and_fields kind a b c d e = record { kind = kind; fields = a ∷ b ∷ c ∷ d ∷ e ∷ [] }

-- a telegram's kind is the byte that document 001 gives it, with its bits for fields at zero; then its fields, and zeros
unfoldable pub numbers_of : AnyTelegram → Numbers
numbers_of (opening id (set_up d rx app)) = kind_and_fields 0xC0 id d rx app 0
numbers_of (opening id (positive d tx rx app)) = kind_and_fields 0xD0 id d tx rx app
numbers_of (opening id (negative d kind rest)) = kind_and_fields kind id d 0 0 0
numbers_of (channel (data_telegram asks last sn bytes)) = kind_and_fields 0x00 (bit_value asks) (bit_value last) sn 0 0
numbers_of (channel (acknowledge ready sn)) = kind_and_fields 0x90 (bit_value ready) sn 0 0 0
numbers_of (channel (connection ack bs t1 t2 t3 t4)) = kind_and_fields (0xA0 + bit_value ack) bs t1 t2 t3 t4
numbers_of (channel test) = kind_and_fields 0xA3 0 0 0 0 0
numbers_of (channel break_off) = kind_and_fields 0xA4 0 0 0 0 0
numbers_of (channel disconnection) = kind_and_fields 0xA8 0 0 0 0 0

-- a telegram in numbers, with what it carries; the refusal 0x0A where there is none
unfoldable pub naming : Option AnyTelegram → Result Named Refusal
naming none = Err InvalidMsg
naming (some t) = Ok (record { kind = (numbers_of t).kind; fields = (numbers_of t).fields; payload = padded (carried_by t); len = length (carried_by t) })
