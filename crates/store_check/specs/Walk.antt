-- The parts of a store that are walked one after the other, and where each of a store that reads stands. Assumes nothing.
use Rattle.std.specs.Prelude.{ℕ, Bool, false, ◌≤◌, ◌≡◌, List, T, eqb, leb, length, if◌then◌else◌}
use Rattle.std.specs.Prelude as std
use Rattle.std.proofs.Math.Option.{Option, none, some, map}
use Rattle.codec.specs.Plain.{member}
use Rattle.number.specs.declared.Number.{Number}
use Rattle.number.specs.Reads.{Reads, ◌>>=◌, done, bad, number, only}
use Rattle.machine.specs.Limits.{most_places}
use Rattle.machine.specs.Store.{Setup, each_in, placed, read_whole}
use Rattle.machine.specs.Channel.{filter_in, periodic_in, store_in}
use Rattle.store_records.specs.Places.{place_of}

-- a number and the place after it, none where it is bad
abbrev pub found_of : std.Option Number → Option (ℕ × ℕ)
found_of (std.Some number) = some (number.value, number.next)
found_of std.None = none

-- the place after something, read where all that is known is where it ends
unfoldable pub ending : (ℕ → Option ℕ) → Reads ℕ
ending ends s at = map (λ n. (n, n)) (ends at)

-- what answers for a place answers with where something ends
abbrev pub Finds : (ℕ → Option ℕ) → (ℕ → std.Option ℕ → Type 0) → Type 0
Finds ends answers = (at : ℕ) (r : std.Option ℕ) → answers at r → place_of r ≡ ends at

-- it ends here
abbrev pub ends_at : ℕ → Option ℕ → Bool
ends_at long none = false
ends_at long (some e) = eqb e long

-- the flags: 0 of version 1, the number behind the version in version 2
unfoldable pub head_in : Reads ℕ
head_in = do version ← number; if eqb version 1 then done 0 else if eqb version 2 then number else bad

-- these flags
unfoldable pub flags_in : ℕ → Reads ℕ
flags_in flags = only (λ f. eqb f flags) head_in

-- rate and loopback
unfoldable pub config_in : List ℕ → Reads (ℕ × ℕ)
config_in rates = do rate ← only (λ r. member r rates) number; loopback ← only (λ n. leb n 1) number; done (rate, loopback)

-- entries where they stand: how many, then they up to a place, and what they are with their numbers
pub record Entries {A : Type 0} (p : Reads A) (s : List ℕ) (at next : ℕ) : Type 0 where
  pub count : ℕ
  pub first : ℕ
  pub entries : List (ℕ × A)
  pub counted : number s at ≡ some (count, first)
  pub few : count ≤ most_places
  pub each : each_in p 0 count s first ≡ some (entries, next)

-- WHERE THE PARTS STAND of a store that reads as a set-up of these flags: the filters behind the flags, the periodics, the rate, the loopback
pub record Laid (rates s : List ℕ) (flags : ℕ) (t : Setup) : Type 0 where
  pub body : ℕ
  pub periodics_at : ℕ
  pub rate_at : ℕ
  pub loopback_at : ℕ
  pub on : ℕ
  pub head : flags_in flags s 0 ≡ some (flags, body)
  pub filters : Entries (filter_in flags) s body periodics_at
  pub filters_are : t.filters ≡ placed 1 most_places filters.entries
  pub periodics : Entries (periodic_in flags) s periodics_at rate_at
  pub periodics_are : t.periodics ≡ placed 1 most_places periodics.entries
  pub rate : number s rate_at ≡ some (t.rate, loopback_at)
  pub rate_taken : T (member t.rate rates)
  pub loopback : number s loopback_at ≡ some (on, length s)
  pub on_small : on ≤ 1
  pub loopback_is : t.loopback ≡ eqb on 1

-- A STORE THAT IS TAKEN by a channel of these flags: what it reads as, and where its parts stand
pub record Taken (rates s : List ℕ) (flags : ℕ) : Type 0 where
  pub setup : Setup
  pub reads : read_whole (store_in rates) s ≡ some setup
  pub own : setup.flags ≡ flags
  pub laid : Laid rates s flags setup
