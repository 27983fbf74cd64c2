-- HOW A TELEGRAM CROSSES TO C: a record of 32 bytes, numbers lowest byte first. Bytes 0 to 3 the kind, 4 to 23 five fields of four bytes
-- each, 24 the number of bytes that it carries, 25 to 31 those bytes, zeros after them. Assumes nothing.
use Rattle.std.specs.Prelude.{ℕ, min, ◌&&◌, ◌||◌, List, [], ◌∷◌, ◌++◌, length, get_or, take, drop, eqb, leb, if◌then◌else◌}
use Rattle.std.specs.Prelude as rust
use Rattle.std.proofs.Math.Option.{Option, none, some}
use Rattle.codec.specs.Word.{word, word_at}
use Rattle.telegram.specs.Bits.{only_if}
use Rattle.telegram.specs.Telegram.{AnyTelegram, opening, channel, set_up, positive, negative, data_telegram, acknowledge, connection, test, break_off, disconnection, any_fits}
use Rattle.telegram_types.specs.Face.{numbers_of, carried_by, padded}

-- the four bytes of each number
unfoldable pub words : List ℕ → List ℕ
words [] = []
words (n ∷ ns) = word n ++ words ns

-- a kind, its fields, a number of bytes, and seven bytes
unfoldable pub packed : (kind : ℕ) (fields : List ℕ) (n : ℕ) (seven : List ℕ) → List ℕ
packed kind fields n seven = words (kind ∷ fields) ++ n ∷ seven

-- the record of a telegram
unfoldable pub record_of : AnyTelegram → List ℕ
record_of t = packed (numbers_of t).kind (numbers_of t).fields (length (carried_by t)) (padded (carried_by t))

-- ---- the telegram that a record says: a field that a telegram's kind doesn't have, and what stands behind the carried bytes, is no part of it

-- how many bytes it says that it carries, and they
unfoldable pub count_in : List ℕ → ℕ
count_in r = get_or r 24 0

unfoldable pub carried_in : List ℕ → List ℕ
carried_in r = take (min (count_in r) 7) (drop 25 r)

-- a number, where it is a byte
abbrev pub byte_in : ℕ → List ℕ → rust.Option ℕ
byte_in at r = if leb (word_at at r) 0xFF then rust.Some (word_at at r) else rust.None

-- each kind: its fields in their order, an identifier first
unfoldable pub set_up_in : List ℕ → AnyTelegram
set_up_in r = opening (word_at 4 r) (set_up (word_at 8 r) (word_at 12 r) (word_at 16 r))

unfoldable pub positive_in : List ℕ → AnyTelegram
positive_in r = opening (word_at 4 r) (positive (word_at 8 r) (word_at 12 r) (word_at 16 r) (word_at 20 r))

unfoldable pub negative_in : List ℕ → AnyTelegram
negative_in r = opening (word_at 4 r) (negative (word_at 8 r) (word_at 0 r) (carried_in r))

-- a flag is 0 or 1, and no more than seven bytes are carried
unfoldable pub data_in : List ℕ → Option AnyTelegram
data_in r =
    only_if (leb (word_at 4 r) 1 && (leb (word_at 8 r) 1 && leb (count_in r) 7))
    (channel (data_telegram (eqb (word_at 4 r) 1) (eqb (word_at 8 r) 1) (word_at 12 r) (carried_in r)))

unfoldable pub acknowledge_in : List ℕ → Option AnyTelegram
acknowledge_in r = only_if (leb (word_at 4 r) 1) (channel (acknowledge (eqb (word_at 4 r) 1) (word_at 8 r)))

unfoldable pub connection_in : List ℕ → AnyTelegram
connection_in r = channel (connection (eqb (word_at 0 r) 0xA1) (word_at 4 r) (word_at 8 r) (word_at 12 r) (word_at 16 r) (word_at 20 r))

unfoldable pub alone_in : (kind : ℕ) → Option AnyTelegram
alone_in kind =
    if eqb kind 0xA3 then some (channel test)
    else if eqb kind 0xA4 then some (channel break_off)
    else if eqb kind 0xA8 then some (channel disconnection)
    else none

-- by the kind: 0xC0 a set-up, 0xD0 a positive reply, 0xD6, 0xD7 and 0xD8 negative ones
unfoldable pub opening_in : List ℕ → Option AnyTelegram
opening_in r =
    if eqb (word_at 0 r) 0xC0 then some (set_up_in r)
    else if eqb (word_at 0 r) 0xD0 then some (positive_in r)
    else if eqb (word_at 0 r) 0xD6 || (eqb (word_at 0 r) 0xD7 || eqb (word_at 0 r) 0xD8) then some (negative_in r)
    else none

-- 0x00 data, 0x90 an acknowledge, 0xA0 a connection set-up and 0xA1 its acknowledge, 0xA3, 0xA4 and 0xA8 those of no fields
unfoldable pub channel_in : List ℕ → Option AnyTelegram
channel_in r =
    if eqb (word_at 0 r) 0x00 then data_in r
    else if eqb (word_at 0 r) 0x90 then acknowledge_in r
    else if eqb (word_at 0 r) 0xA0 || eqb (word_at 0 r) 0xA1 then some (connection_in r)
    else alone_in (word_at 0 r)

-- only what the tables allow
unfoldable pub kept : Option AnyTelegram → Option AnyTelegram
kept none = none
kept (some t) = only_if (any_fits t) t

-- the telegram that a record says, where it says one: opening telegrams have the kinds from 0xC0 on
unfoldable pub telegram_in : List ℕ → Option AnyTelegram
telegram_in r = kept (if leb 0xC0 (word_at 0 r) then opening_in r else channel_in r)
