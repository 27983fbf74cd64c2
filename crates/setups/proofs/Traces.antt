-- Worked stores: the examples of request P13, and of two stores every cut, every byte one higher, every top bit turned, every byte left out and every
-- byte 0 put in between, with those that still read as a model apart from the definitions says. Assumes nothing.
use Rattle.std.specs.Prelude.{if◌then◌else◌}
use mathlib.Core.Path.{◌≡◌, refl}
use Prim.Native.Nat.{ℕ, zero, suc, ◌+◌, ◌%◌}
use mathlib.Core.Bool.{Bool, true, false}
use mathlib.Core.List.{List, [], ◌∷◌, ◌++◌}
use mathlib.Core.Option.{Option, none, some, bind}
use lib.ListN.{length, get_or, set, take, drop}
use Rattle.codec.specs.Plain.{within, member}
use Rattle.codec.specs.Word.{word, word_at}
use Rattle.number.specs.Number as numbers
use Rattle.number.specs.Number.{groups, bytes_of}
use Rattle.number.specs.Reads as reads
use Rattle.machine.specs.Store.{read_whole, Setup, numbered, each_bytes, slots_bytes, body_bytes, old_bytes, store_bytes, same_bytes, is_clean, clean_in, each_in, placed, slots_in, nothing_after}
use Rattle.machine.specs.Codes.{code_of, three_rates, two_rates}
use Rattle.machine.specs.Message.{bit, width_flag, id_bytes, id_of, id_limit, takes, twelve, shown, protocol_of, tx_flags_of, size_of, wide_of, data_of, message_code, clean}
use Rattle.machine.specs.Filter.{none_yet, free}
use Rattle.machine.specs.Channel.{shorter, filter_code, filter_of, periodic_code, filter_in, periodic_in, body_in, version_in, store_in, listens}
use Rattle.machine.proofs.Traces.Words.{raw, message}
use Rattle.setups.specs.Saved.{takes_store, old_in}

-- ---- the reader with every definition open

-- what the reader makes of a list, and what the old reader does
unfoldable pub read_by : List ℕ → List ℕ → Option Setup
unfolding bind within member word word_at code_of three_rates two_rates listens bit width_flag id_of id_limit takes twelve shown protocol_of tx_flags_of size_of wide_of data_of message_code clean none_yet free shorter filter_code filter_of periodic_code same_bytes is_clean clean_in filter_in periodic_in each_in placed slots_in body_in version_in store_in numbers.front numbers.joined numbers.highest numbers.shortest numbers.taken numbers.number_in reads.◌>>=◌ reads.done reads.bad reads.number reads.bytes reads.where_true reads.only nothing_after read_whole
read_by rates s = read_whole (store_in rates) s

unfoldable pub read_by_old : List ℕ → List ℕ → Option Setup
unfolding bind within member word word_at code_of three_rates two_rates listens bit width_flag id_of id_limit takes twelve shown protocol_of tx_flags_of size_of wide_of data_of message_code clean none_yet free shorter filter_code filter_of periodic_code same_bytes is_clean clean_in filter_in periodic_in each_in placed slots_in body_in old_in numbers.front numbers.joined numbers.highest numbers.shortest numbers.taken numbers.number_in reads.◌>>=◌ reads.done reads.bad reads.number reads.bytes reads.where_true reads.only nothing_after read_whole
read_by_old rates s = read_whole (old_in rates) s

-- ---- nothing set

abbrev nothing : ℕ → ℕ → Setup
nothing flags rate = record { flags = flags; filters = none_yet; periodics = none_yet; rate = rate; loopback = false }

abbrev new : List ℕ
new = 0x02 ∷ 0x00 ∷ 0x00 ∷ 0x00 ∷ 0xA0 ∷ 0xC2 ∷ 0x1E ∷ 0x00 ∷ []

abbrev old : List ℕ
old = 0x01 ∷ 0x00 ∷ 0x00 ∷ 0xA0 ∷ 0xC2 ∷ 0x1E ∷ 0x00 ∷ []

abbrev of125000 : List ℕ
of125000 = 0x02 ∷ 0x00 ∷ 0x00 ∷ 0x00 ∷ 0xC8 ∷ 0xD0 ∷ 0x07 ∷ 0x00 ∷ []

pub as_version2 : store_bytes (nothing 0 500000) ≡ new
unfolding store_bytes body_bytes slots_bytes numbered each_bytes none_yet bytes_of groups
as_version2 = refl

pub as_version1 : old_bytes (nothing 0 500000) ≡ old
unfolding old_bytes body_bytes slots_bytes numbered each_bytes none_yet bytes_of groups
as_version1 = refl

-- flags of both widths take two bytes, a flag of 29 bits five
pub both_widths : store_bytes (nothing 0x900 250000) ≡ 0x02 ∷ 0x80 ∷ 0x12 ∷ 0x00 ∷ 0x00 ∷ 0x90 ∷ 0xA1 ∷ 0x0F ∷ 0x00 ∷ []
unfolding store_bytes body_bytes slots_bytes numbered each_bytes none_yet bytes_of groups
both_widths = refl

pub long_flags : store_bytes (nothing 0x1000_0000 250000) ≡ 0x02 ∷ 0x80 ∷ 0x80 ∷ 0x80 ∷ 0x80 ∷ 0x01 ∷ 0x00 ∷ 0x00 ∷ 0x90 ∷ 0xA1 ∷ 0x0F ∷ 0x00 ∷ []
unfolding store_bytes body_bytes slots_bytes numbered each_bytes none_yet bytes_of groups
long_flags = refl

-- 125,000 is good while set takes it, and bad with the two rates of now
pub old_rate : read_by three_rates of125000 ≡ some (nothing 0 125000)
unfolding read_by none_yet
old_rate = refl

pub old_rate_refused : read_by two_rates of125000 ≡ none
unfolding read_by
old_rate_refused = refl

-- the old reader: its own store, and a version 2 store
pub old_reads : read_by_old two_rates old ≡ some (nothing 0 500000)
unfolding read_by_old none_yet
old_reads = refl

pub old_refuses : read_by_old two_rates new ≡ none
unfolding read_by_old
old_refuses = refl

-- ---- every byte

-- a block filter under number 2, a periodic, loopback on: 120 bytes
abbrev one : List ℕ
one =
    0x02 ∷ 0x00 ∷ 0x01 ∷ 0x02 ∷ 0x02 ∷ raw 5 0 0 0 4 4 (0xFF ∷ 0xFF ∷ 0xFF ∷ 0xFF ∷ []) ++ raw 5 0 0 0 4 4 (0x00 ∷ 0x00 ∷ 0x07 ∷ 0xE8 ∷ [])
    ++ (0x01 ∷ 0x01 ∷ message 0 0x7DF (0x02 ∷ 0x01 ∷ 0x0D ∷ []) ++ (0x64 ∷ 0xA0 ∷ 0xC2 ∷ 0x1E ∷ 0x01 ∷ []))

-- two filters and two periodics of both widths, flags 0x800: 236 bytes
abbrev two : List ℕ
two =
    0x02 ∷ 0x80 ∷ 0x10 ∷ 0x02 ∷ 0x01 ∷ 0x01 ∷ raw 5 0 0x100 0 5 5 (0x1F ∷ 0xFF ∷ 0xFF ∷ 0xFF ∷ 0xF0 ∷ [])
    ++ raw 5 0 0x100 0 5 5 (0x18 ∷ 0xDA ∷ 0xF1 ∷ 0x10 ∷ 0x20 ∷ [])
    ++ (0x09 ∷ 0x01 ∷ raw 5 0 0 0 1 1 (0x00 ∷ []) ++ raw 5 0 0 0 1 1 (0x00 ∷ []))
    ++ (0x02 ∷ 0x03 ∷ message 0x100 0x18DB33F1 (0x3E ∷ []) ++ (0xC8 ∷ 0x01 ∷ []))
    ++ (0x0A ∷ message 0 0x7E0 [] ++ (0xFF ∷ 0xFF ∷ 0x03 ∷ 0x90 ∷ 0xA1 ∷ 0x0F ∷ 0x00 ∷ []))

-- the places below n at which a test passes
abbrev places_of : ℕ → (ℕ → Bool) → List ℕ
places_of zero t = []
places_of (suc n) t = places_of n t ++ (if t n then n ∷ [] else [])

-- the places of a store at which it may be changed so, and still loads on a channel of these flags
unfoldable pub still_loads : ℕ → List ℕ → (ℕ → List ℕ) → List ℕ
unfolding read_by takes_store
still_loads flags s change = places_of (length s) (λ i. takes_store flags (read_by three_rates (change i)))

-- cut behind the first i bytes; byte i one higher; its top bit turned; left out; a 0 put in before it
abbrev cut : List ℕ → ℕ → List ℕ
cut s i = take i s

abbrev higher : List ℕ → ℕ → List ℕ
higher s i = set s i ((get_or s i 0 + 1) % 256)

abbrev turned : List ℕ → ℕ → List ℕ
turned s i = set s i ((get_or s i 0 + 128) % 256)

abbrev left_out : List ℕ → ℕ → List ℕ
left_out s i = take i s ++ drop (suc i) s

abbrev put_in : List ℕ → ℕ → List ℕ
put_in s i = take i s ++ (0x00 ∷ drop i s)

-- every one of them
pub record Changed (flags : ℕ) (s : List ℕ) (byHigher byTurned byLeftOut : List ℕ) : Type 0 where
  pub whole : takes_store flags (read_by three_rates s) ≡ true
  pub cuts : still_loads flags s (cut s) ≡ []
  pub highers : still_loads flags s (higher s) ≡ byHigher
  pub turns : still_loads flags s (turned s) ≡ byTurned
  pub leaves : still_loads flags s (left_out s) ≡ byLeftOut
  pub puts : still_loads flags s (put_in s) ≡ []

-- data bytes of mask, pattern and message may be others; the filter's number may be 3, the periodic's 2, the interval 101
pub oneChanged :
    Changed 0 one (3 ∷ 29 ∷ 30 ∷ 31 ∷ 32 ∷ 65 ∷ 66 ∷ 67 ∷ 68 ∷ 78 ∷ 106 ∷ 107 ∷ 108 ∷ 109 ∷ 115 ∷ [])
    (29 ∷ 30 ∷ 31 ∷ 32 ∷ 65 ∷ 66 ∷ 67 ∷ 68 ∷ 106 ∷ 107 ∷ 108 ∷ 109 ∷ []) []
unfolding still_loads read_by takes_store word id_bytes
oneChanged = record { whole = refl; cuts = refl; highers = refl; turns = refl; leaves = refl; puts = refl }

-- with both widths a number may be another as long as they rise; loopback may be on
pub twoHigher :
    still_loads 0x800 two (higher two)
    ≡ 4 ∷ 5 ∷ 30 ∷ 31 ∷ 32 ∷ 33 ∷ 34 ∷ 66 ∷ 67 ∷ 68 ∷ 69 ∷ 70 ∷ 78 ∷ 79 ∷ 104 ∷ 140 ∷ 153 ∷ 178 ∷ 179 ∷ 180 ∷ 181 ∷ 182 ∷ 190 ∷ 191 ∷ 202 ∷ 220 ∷ 235 ∷ []
unfolding still_loads word id_bytes
twoHigher = refl
