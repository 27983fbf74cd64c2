-- What is shown of a store and of the calls save and load. Assumes nothing.
use Rattle.std.specs.Prelude.{ℕ, ◌-◌, ◌≤◌, ◌<◌, ◌≡◌, Bool, true, false, ◌⊎◌, List, [], ◌∷◌, map, eqb, set}
use Rattle.std.proofs.Math.Option.{Option, none, some}
use Rattle.number.specs.Reads.{Reads, ◌>>=◌, number, only}
use Rattle.machine.specs.Filter.{Slots}
use Rattle.machine.specs.Store.{Setup, old_bytes, store_bytes, read_whole}
use Rattle.machine.specs.Channel.{Open, opened, Outcome, Periodic, body_in, store_in, setup_of}
use Rattle.setups.specs.Good.{GoodSetup}

-- THE OLD READER, of version 1 alone
unfoldable pub old_in : List ℕ → Reads Setup
old_in rates = do version ← only (eqb 1) number; body_in rates 0

-- WHAT READS AS A SET-UP: its bytes of version 2, or of version 1 where its flags are 0; and the set-up is good
pub record Exact (rates bs : List ℕ) (s : Setup) : Type 0 where
  pub bytes : (bs ≡ store_bytes s) ⊎ ((bs ≡ old_bytes s) × (s.flags ≡ 0))
  pub good : GoodSetup rates s

-- a channel of these flags takes what was read
unfoldable pub takes_store : ℕ → Option Setup → Bool
takes_store flags none = false
takes_store flags (some s) = eqb s.flags flags

-- A LOAD THAT IS DONE: the whole list reads as a set-up of the channel's flags
pub record Done (rates : List ℕ) (o : Open) (bs : List ℕ) : Type 0 where
  pub setup : Setup
  pub reads : read_whole (store_in rates) bs ≡ some setup
  pub flags : setup.flags ≡ o.config.flags

-- a periodic as if it started at the present time: pending, its due times counted from now
unfoldable pub restarted : Option Periodic → Option Periodic
restarted none = none
restarted (some p) = some (record { message = p.message; interval = p.interval; phase = 0; pending = true })

-- SAVED ON o, LOADED ON o': the code is 0x00; the channel then has o's filters under their numbers, its rate and loopback, and each of its periodics
-- anew; its own flags, written records, flight, queue, lost mark, last code and TP2.0 connection stay; saving again gives the same bytes
pub record Loaded (o o' : Open) (x : Outcome) : Type 0 where
  pub after : Open
  pub is : x.0 ≡ opened after
  pub code : x.1.code ≡ 0x00
  pub filters : after.filters ≡ o.filters
  pub rate : after.config.rate ≡ o.config.rate
  pub loopback : after.config.loopback ≡ o.config.loopback
  pub periodics : after.sending.periodics ≡ map restarted o.sending.periodics
  pub flags : after.config.flags ≡ o'.config.flags
  pub written : after.sending.written ≡ o'.sending.written
  pub flight : after.sending.flight ≡ o'.sending.flight
  pub receiving : after.receiving ≡ o'.receiving
  pub last : after.last ≡ o'.last
  pub link : after.link ≡ o'.link
  pub again : store_bytes (setup_of after) ≡ store_bytes (setup_of o)

-- LOADED FROM bs: saving gives it back
pub record SavedBack (bs : List ℕ) (x : Outcome) : Type 0 where
  pub after : Open
  pub is : x.0 ≡ opened after
  pub bytes : store_bytes (setup_of after) ≡ bs

-- ---- entries with their numbers
-- each number is above the one before, and at most `high`
abbrev pub Rising : {A : Type 0} → ℕ → ℕ → List (ℕ × A) → Type 0
Rising before high [] = Unit {0}
Rising before high (e ∷ es) = (before < e.0) × ((e.0 ≤ high) × Rising e.0 high es)

-- each put at the index of its number, one after the other
unfoldable pub filled : {A : Type 0} → Slots A → List (ℕ × A) → Slots A
filled s [] = s
filled s (e ∷ es) = filled (set s (e.0 - 1) (some e.1)) es
