-- The examples of request P8, as they compute. Assumes nothing.
use mathlib.Core.Path.{◌≡◌, refl}
use mathlib.Core.Bool.{Bool, true, false}
use mathlib.Core.Option.{Option, none, some}
use mathlib.Core.List.{List, [], ◌∷◌, ◌++◌}
use Prim.Native.Nat.{ℕ, ◌+◌, ◌-◌}
use lib.ListN.{length}
use Rattle.codec.specs.Plain.{zeros, all_below}
use Rattle.machine.specs.Message.{twelve, id_bytes}
use Rattle.machine.specs.Filter.{Slots, Filter, any_slot, matches, hits}
use Rattle.map_rule.specs.Map.{map_size, in_map, map_bit, packed, bit_at, counted, map_byte, map_bytes, bit_in, kept, others, hits_by, passes_by, maps}

-- a narrow filter, by its kind, mask and pattern, and a wide one
abbrev narrow : Bool → List ℕ → List ℕ → Option Filter
narrow block mask pattern = some (record { block = block; wide = false; size = length mask; mask = twelve mask; pattern = twelve pattern })

abbrev broad : Bool → List ℕ → List ℕ → Option Filter
broad block mask pattern = some (record { block = block; wide = true; size = length mask; mask = twelve mask; pattern = twelve pattern })

-- the map whose n bytes from one on are x, all others 00
abbrev only : ℕ → ℕ → ℕ → List ℕ
only from n x = zeros from ++ (counted n (λ k. x) ++ zeros (map_size - (from + n)))

-- the pass map of one pass filter
abbrev alone : List ℕ → List ℕ → List ℕ
alone mask pattern = map_bytes false (narrow false mask pattern ∷ [])

-- the verdict by the maps on a narrow frame
abbrev by_maps : Slots Filter → ℕ → List ℕ → Bool
by_maps fs id bytes = passes_by (map_bytes false fs) (map_bytes true fs) fs false id (id_bytes id ++ bytes)

-- 1. a pass filter of sixteen identifiers: two bytes FF
abbrev sixteen : Slots Filter
sixteen = narrow false (0x00 ∷ 0x00 ∷ 0x07 ∷ 0xF0 ∷ []) (0x00 ∷ 0x00 ∷ 0x07 ∷ 0xE0 ∷ []) ∷ []

two_bytes : map_bytes false sixteen ≡ only 252 2 0xFF
unfolding map_bytes map_byte counted packed map_bit any_slot in_map matches id_bytes twelve all_below
two_bytes = refl

-- 2. a block filter of one of them: a bit of the other map, and that identifier is dropped
abbrev fifteen : Slots Filter
fifteen = narrow true (0xFF ∷ 0xFF ∷ 0xFF ∷ 0xFF ∷ []) (0x00 ∷ 0x00 ∷ 0x07 ∷ 0xE8 ∷ []) ∷ none ∷ sixteen

pass_stays : map_bytes false fifteen ≡ only 252 2 0xFF
unfolding map_bytes map_byte counted packed map_bit any_slot in_map matches id_bytes twelve all_below
pass_stays = refl

one_bit : map_bytes true fifteen ≡ only 253 1 0x01
unfolding map_bytes map_byte counted packed map_bit any_slot in_map matches id_bytes twelve all_below
one_bit = refl

pass_first : maps fifteen ≡ only 252 2 0xFF ++ only 253 1 0x01
unfolding maps map_bytes map_byte counted packed map_bit any_slot in_map matches id_bytes twelve all_below
pass_first = refl

none_blocked : map_bytes true (none ∷ none ∷ sixteen) ≡ zeros map_size
unfolding map_bytes map_byte counted packed map_bit any_slot in_map matches id_bytes twelve all_below
none_blocked = refl

dropped : by_maps fifteen 0x7E8 [] ≡ false
unfolding passes_by hits_by bit_in bit_at others kept hits map_bytes map_byte counted packed map_bit any_slot in_map matches id_bytes twelve all_below
dropped = refl

queued : by_maps fifteen 0x7E9 (0x55 ∷ []) ≡ true
unfolding passes_by hits_by bit_in bit_at others kept hits map_bytes map_byte counted packed map_bit any_slot in_map matches id_bytes twelve all_below
queued = refl

-- 3. one byte: FF / 00 and 00 / 00 are met by every identifier, FF / 01 by none
every : alone (0xFF ∷ []) (0x00 ∷ []) ≡ only 0 map_size 0xFF
unfolding map_bytes map_byte counted packed map_bit any_slot in_map matches id_bytes twelve all_below
every = refl

every_too : alone (0x00 ∷ []) (0x00 ∷ []) ≡ only 0 map_size 0xFF
unfolding map_bytes map_byte counted packed map_bit any_slot in_map matches id_bytes twelve all_below
every_too = refl

nobody : alone (0xFF ∷ []) (0x01 ∷ []) ≡ zeros map_size
unfolding map_bytes map_byte counted packed map_bit any_slot in_map matches id_bytes twelve all_below
nobody = refl

-- 4. three bytes: the upper quarter; a pattern bit outside the mask: none
quarter : alone (0x00 ∷ 0x00 ∷ 0x06 ∷ []) (0x00 ∷ 0x00 ∷ 0x06 ∷ []) ≡ only 192 64 0xFF
unfolding map_bytes map_byte counted packed map_bit any_slot in_map matches id_bytes twelve all_below
quarter = refl

outside : alone (0x00 ∷ 0x00 ∷ 0x07 ∷ 0x00 ∷ []) (0x00 ∷ 0x00 ∷ 0x07 ∷ 0xE8 ∷ []) ≡ zeros map_size
unfolding map_bytes map_byte counted packed map_bit any_slot in_map matches id_bytes twelve all_below
outside = refl

-- 5. five bytes stay in the list, and so do wide filters
abbrev five : Slots Filter
five = narrow false (zeros 5) (zeros 5) ∷ broad false (zeros 4) (zeros 4) ∷ []

no_bit : map_bytes false five ≡ zeros map_size
unfolding map_bytes map_byte counted packed map_bit any_slot in_map matches id_bytes twelve all_below
no_bit = refl

by_the_list : by_maps five 0x123 (0xAA ∷ []) ≡ true
unfolding passes_by hits_by bit_in bit_at others kept hits map_bytes map_byte counted packed map_bit any_slot in_map matches id_bytes twelve all_below
by_the_list = refl
