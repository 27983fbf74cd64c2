-- Set-ups that a channel can have: what is asked of a filter, of a periodic and of the whole. Assumes nothing.
use Rattle.std.specs.Prelude.{ℕ, ◌≤◌, ◌≡◌, Bool, not, List, [], ◌∷◌, T, length, take}
use Rattle.std.proofs.Math.Option.{Option, none, some}
use Rattle.codec.specs.Plain.{member, all, is_byte}
use Rattle.number.specs.Number.{largest}
use Rattle.machine.specs.Message.{takes, id_of, id_limit, width_flag, Rec, twelve}
use Rattle.machine.specs.Filter.{Filter}
use Rattle.machine.specs.Store.{Setup}
use Rattle.machine.specs.Channel.{listens}

-- of what a place holds, if it is taken; of each place
abbrev pub Holds : {A : Type 0} → (A → Type 0) → Option A → Type 0
Holds P none = Unit {0}
Holds P (some x) = P x

abbrev pub Every : {A : Type 0} → (A → Type 0) → List A → Type 0
Every P [] = Unit {0}
Every P (x ∷ xs) = P x × Every P xs

-- twelve bytes, zeros after the first n
pub record Row (n : ℕ) (row : List ℕ) : Type 0 where
  pub long : length (take n row) ≡ n
  pub is : row ≡ twelve (take n row)
  pub bytes : T (all is_byte (take n row))

pub record GoodFilter (flags : ℕ) (f : Filter) : Type 0 where
  pub low : 1 ≤ f.size
  pub high : f.size ≤ 12
  pub width : T (takes flags f.wide)
  pub mask : Row f.size f.mask
  pub pattern : Row f.size f.pattern

-- a clean record of this width and these bytes
abbrev pub clean_rec : Bool → List ℕ → Rec
clean_rec wide b = record { rx = 0; tx = width_flag wide; time = 0; bytes = b }

pub record GoodMessage (flags : ℕ) (r : Rec) : Type 0 where
  pub wide : Bool
  pub is : r ≡ clean_rec wide r.bytes
  pub all_bytes : T (all is_byte r.bytes)
  pub low : 4 ≤ length r.bytes
  pub high : length r.bytes ≤ 12
  pub identifier : id_of r.bytes ≤ id_limit wide
  pub width : T (takes flags wide)

-- no listener has one
pub record GoodPeriodic (flags : ℕ) (p : Rec × ℕ) : Type 0 where
  pub speaks : T (not (listens flags))
  pub message : GoodMessage flags p.0
  pub low : 5 ≤ p.1
  pub high : p.1 ≤ 65535

-- a set-up whose rate is one that set takes
pub record GoodSetup (rates : List ℕ) (s : Setup) : Type 0 where
  pub flags_small : s.flags ≤ largest
  pub ten_filters : length s.filters ≡ 10
  pub each_filter : Every (Holds (GoodFilter s.flags)) s.filters
  pub ten_periodics : length s.periodics ≡ 10
  pub each_periodic : Every (Holds (GoodPeriodic s.flags)) s.periodics
  pub rate_small : s.rate ≤ largest
  pub rate_taken : T (member s.rate rates)
