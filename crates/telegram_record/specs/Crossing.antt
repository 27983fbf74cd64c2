-- What a telegram's crossing to C gives, out of bytes into a record and out of a record into bytes. Assumes nothing.
use Rattle.std.specs.Prelude.{ℕ, List, length, ltb, if◌then◌else◌}
use Rattle.std.proofs.Math.Option.{Option, none, some}
use Rattle.telegram.specs.Telegram.{AnyTelegram, any_bytes}
use Rattle.telegram_types.specs.Face.{Wrote, over, done, refusal}
use Rattle.telegram_record.specs.Record.{record_of, telegram_in}

-- what a crossing gives: the code, the length, and the buffer as it is afterwards
abbrev pub gave : ℕ → ℕ → List ℕ → Wrote
gave code len buffer = record { code = code; len = len; buffer = buffer }

-- ---- out of bytes

-- the record over the buffer's start, or 0x0A
unfoldable pub recorded : Option AnyTelegram → List ℕ → Wrote
recorded none buffer = refusal 0x0A buffer
recorded (some t) buffer = gave 0x00 0 (over (record_of t) buffer)

-- 0x04 first, for a buffer under 32 bytes
unfoldable pub reading : Option AnyTelegram → List ℕ → Wrote
reading o buffer = if ltb (length buffer) 32 then refusal 0x04 buffer else recorded o buffer

-- ---- into bytes

-- its bytes over the buffer's start, and their number, or 0x0A
unfoldable pub unpacked : Option AnyTelegram → List ℕ → Wrote
unpacked none buffer = refusal 0x0A buffer
unpacked (some t) buffer = done (any_bytes t) buffer

-- 0x04 first, for a record under 32 bytes or a buffer under 8
unfoldable pub writing : List ℕ → List ℕ → Wrote
writing r buffer =
    if ltb (length r) 32 then refusal 0x04 buffer
    else if ltb (length buffer) 8 then refusal 0x04 buffer
    else unpacked (telegram_in r) buffer
