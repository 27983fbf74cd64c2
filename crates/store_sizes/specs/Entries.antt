-- The store of a channel as code works through it: place by place, in the parts of the channel's region. Assumes nothing.
use Rattle.std.specs.Prelude.{ℕ, suc, ◌+◌, ◌≤◌, ◌<◌, ◌≡◌, List, [], ◌++◌, map, length, drop}
use Rattle.std.proofs.Math.Option.{Option, none, some}
use Rattle.number.specs.Number.{bytes_of}
use Rattle.machine.specs.Limits.{most_places}
use Rattle.machine.specs.Message.{Rec}
use Rattle.machine.specs.Filter.{Slots, Filter}
use Rattle.machine.specs.Store.{numbered, each_bytes, store_bytes}
use Rattle.machine.specs.Channel.{saved_of, setup_of}
use Rattle.layout.specs.Sizes.{flags_at}
use Rattle.layout.specs.Memory.{filters, periodics, open_part}

-- what stands in a store for the place of index i: nothing, or its number and its own bytes
unfoldable pub entry_of : {A : Type 0} → (A → List ℕ) → ℕ → Option A → List ℕ
entry_of w i none = []
entry_of w i (some a) = bytes_of (suc i) ++ w a

-- what stands in it for the places from index i on, and how many of them are taken
unfoldable pub entries_from : {A : Type 0} → (A → List ℕ) → ℕ → Slots A → List ℕ
entries_from w i s = each_bytes w (numbered (suc i) (drop i s))

unfoldable pub taken_from : {A : Type 0} → ℕ → Slots A → ℕ
taken_from i s = length (numbered (suc i) (drop i s))

-- ---- a sum over the ten places

-- what is found is at most 100
abbrev pub Small : (ℕ → Type 0) → Type 0
Small found = (x : ℕ) → found x → x ≤ 100

-- all that is found from the first place on: what is left at each place is what is found there, and what is left at the next
abbrev pub Sums : (ℕ → ℕ → Type 0) → ℕ → Type 0
Sums found sum = (left : ℕ → ℕ) → ((i x : ℕ) → i < most_places → found i x → left i ≡ x + left (i + 1)) → left most_places ≡ 0 → sum ≡ left 0

-- ---- of the parts of a region: what they hold does not depend on the flags

unfoldable pub filters_of : List ℕ → Slots Filter
filters_of part = (filters 0).get part

unfoldable pub periodics_of : List ℕ → Slots (Rec × ℕ)
periodics_of part = map saved_of ((periodics 0).get part)

-- the store of the channel whose region it is
unfoldable pub store_of : List ℕ → List ℕ
store_of r = store_bytes (setup_of (open_part.get (drop flags_at r)))
