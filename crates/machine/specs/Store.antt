-- Request P13's saved set-ups: what is kept of a channel, its bytes in both versions, and how the parts of a store are read. What a channel of its
-- flags takes of them, and the calls, are `Channel`'s. Assumes nothing.
use Rattle.std.specs.Prelude.{ℕ, zero, suc, Bool, true, false, ◌&&◌, List, [], ◌∷◌, ◌++◌, length, take, eqb, leb, if◌then◌else◌}
use Rattle.std.proofs.Math.Option.{Option, none, some}
use Rattle.codec.specs.Plain.{within}
use Rattle.number.specs.Number.{bytes_of}
use Rattle.number.specs.Reads.{Reads, ◌>>=◌, done, number, bytes, only}
use Rattle.machine.specs.Limits.{most_places, record_size}
use Rattle.machine.specs.Message.{width_flag, Rec, shown, clean}
use Rattle.machine.specs.Filter.{Slots, Filter, type_of}

-- a channel's flags, its filters and periodics by their numbers, its rate and its loopback. Of a periodic the message and the interval are kept; its
-- pending mark and its place in the interval are no part of it
pub record Setup : Type 0 where
  pub flags : ℕ
  pub filters : Slots Filter
  pub periodics : Slots (Rec × ℕ)
  pub rate : ℕ
  pub loopback : Bool

-- ---- its bytes
-- the taken places in order, each with its number; the first place has number k
unfoldable pub numbered : {A : Type 0} → ℕ → Slots A → List (ℕ × A)
numbered k [] = []
numbered k (none ∷ s) = numbered (suc k) s
numbered k (some a ∷ s) = (k, a) ∷ numbered (suc k) s

-- each as its number and its own bytes
unfoldable pub each_bytes : {A : Type 0} → (A → List ℕ) → List (ℕ × A) → List ℕ
each_bytes w [] = []
each_bytes w (e ∷ es) = bytes_of e.0 ++ (w e.1 ++ each_bytes w es)

-- how many, then they
unfoldable pub slots_bytes : {A : Type 0} → (A → List ℕ) → Slots A → List ℕ
slots_bytes w s = bytes_of (length (numbered 1 s)) ++ each_bytes w (numbered 1 s)

-- a filter's mask or pattern as a clean record
unfoldable pub row_record : Filter → List ℕ → Rec
row_record f row = record { rx = 0; tx = width_flag f.wide; time = 0; bytes = take f.size row }

-- type, mask, pattern
unfoldable pub filter_bytes : Filter → List ℕ
filter_bytes f = bytes_of (type_of f.block) ++ (shown (row_record f f.mask) ++ shown (row_record f f.pattern))

-- record, interval
unfoldable pub periodic_bytes : Rec × ℕ → List ℕ
periodic_bytes p = shown p.0 ++ bytes_of p.1

-- what both versions share: filters, periodics, rate, loopback
unfoldable pub body_bytes : Setup → List ℕ
body_bytes s =
    slots_bytes filter_bytes s.filters
    ++ (slots_bytes periodic_bytes s.periodics ++ (bytes_of s.rate ++ bytes_of (if s.loopback then 1 else 0)))

-- VERSION 1, without the flags
unfoldable pub old_bytes : Setup → List ℕ
old_bytes s = bytes_of 1 ++ body_bytes s

-- VERSION 2 puts the connection flags after its first number
unfoldable pub store_bytes : Setup → List ℕ
store_bytes s = bytes_of 2 ++ (bytes_of s.flags ++ body_bytes s)

-- ---- reading its parts
unfoldable pub same_bytes : List ℕ → List ℕ → Bool
same_bytes [] [] = true
same_bytes [] (y ∷ ys) = false
same_bytes (x ∷ xs) [] = false
same_bytes (x ∷ xs) (y ∷ ys) = eqb x y && same_bytes xs ys

-- a record is clean where it is the bytes of the clean record as which it would be stored
unfoldable pub is_clean : List ℕ → Bool
is_clean m = same_bytes m (shown (clean m))

unfoldable pub clean_in : Reads (List ℕ)
clean_in = only is_clean (bytes record_size)

-- so many, in order of number: each number is above the one before, and at most 10
unfoldable pub each_in : {A : Type 0} → Reads A → ℕ → ℕ → Reads (List (ℕ × A))
each_in p before zero = done []
each_in p before (suc n) = do k ← only (within (suc before) most_places) number; a ← p; es ← each_in p k n; done ((k, a) ∷ es)

-- n places from number k on, those of these numbers taken
unfoldable pub placed : {A : Type 0} → ℕ → ℕ → List (ℕ × A) → Slots A
placed k zero es = []
placed k (suc n) [] = none ∷ placed (suc k) n []
placed k (suc n) (e ∷ es) = if eqb e.0 k then some e.1 ∷ placed (suc k) n es else none ∷ placed (suc k) n (e ∷ es)

-- how many, at most 10, then they
unfoldable pub slots_in : {A : Type 0} → Reads A → Reads (Slots A)
slots_in p = do n ← only (λ n. leb n most_places) number; es ← each_in p 0 n; done (placed 1 most_places es)

-- nothing stands after it
unfoldable pub nothing_after : {A : Type 0} → ℕ → Option (A × ℕ) → Option A
nothing_after long none = none
nothing_after long (some r) = if eqb r.1 long then some r.0 else none

-- the whole list, from its start to its end
unfoldable pub read_whole : {A : Type 0} → Reads A → List ℕ → Option A
read_whole p s = nothing_after (length s) (p s 0)
