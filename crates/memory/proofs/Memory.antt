-- The memory of the whole box is a lawful code: what is put is got back, and valid bytes are what is put of what is got. Its numbers, checked. Assumes
-- nothing.
use mathlib.Core.Path.{◌≡◌, refl, sym, ap, ap₂, ◌∙◌, subst}
use Prim.Native.Nat.{ℕ, zero, suc, ◌+◌, ◌*◌}
use mathlib.Core.List.{List, [], ◌∷◌, ◌++◌}
use native.Mathlib.Omega.{arith}
use lib.ListN.{length, replicate}
use lib.Dec.{T, eqb, eqb→eq, eqb_refl}
use Rattle.codec.specs.Plain.{zeros}
use Rattle.codec.specs.Word.{word}
use Rattle.codec.specs.Code.{Code, word32, both, via, put_all, many}
use Rattle.codec.proofs.Tests.{left, right, join}
use Rattle.codec.proofs.Lawful.{Lawful, word_lawful, both_lawful, via_lawful}
use Rattle.codec.proofs.Many.{many_lawful}
use Rattle.codec.proofs.Lists.{zeros_join}
use Rattle.machine.specs.Limits.{lines}
use Rattle.machine.specs.Channel.{closed}
use Rattle.layout.specs.Memory.{region}
use Rattle.layout.specs.Sizes.{number_size, region_size}
use Rattle.layout.proofs.Memory.{region_lawful}
use Rattle.layout.proofs.Sizes.{region_size_law, closed_zeros, rows}
use Rattle.iso.specs.Iso.{shut}
use Rattle.iso_layout.specs.Sizes.{iso_region_size}
use Rattle.iso_layout.specs.Region.{iso_region}
use Rattle.iso_layout.proofs.Sizes.{iso_region_size_law, shut_zeros}
use Rattle.iso_layout.proofs.Lawful.{iso_region_lawful}
use Rattle.whole.specs.Device.{Device, power_on}
use Rattle.memory.specs.Sizes.{raw_at, isos_at, iso_at_byte, box_size}
use Rattle.memory.specs.Memory.{device_parts, device_back, memory, image, load, valid}

pub memory_lawful : Lawful memory
unfolding memory
memory_lawful = via_lawful device_parts device_back (λ d t. refl) (λ p t. refl) (both_lawful word_lawful (both_lawful (many_lawful region_lawful lines) (many_lawful iso_region_lawful lines)))

-- ---- its size: the names are the numbers of docs/LAYOUT.md

pub memory_size : memory.size ≡ box_size
unfolding memory via both many word32
memory_size = ap₂ (λ (r i : ℕ). number_size + (lines * r + lines * i)) region_size_law iso_region_size_law

pub box_fields : rows 0 (number_size ∷ region_size ∷ region_size ∷ region_size ∷ region_size ∷ iso_region_size ∷ iso_region_size ∷ iso_region_size ∷ iso_region_size ∷ [])
    ≡ 0 ∷ raw_at 0 ∷ raw_at 1 ∷ raw_at 2 ∷ raw_at 3 ∷ iso_at_byte 0 ∷ iso_at_byte 1 ∷ iso_at_byte 2 ∷ iso_at_byte 3 ∷ box_size ∷ []
box_fields = refl

pub box_numbers : raw_at 0 ∷ raw_at 1 ∷ raw_at 2 ∷ raw_at 3 ∷ iso_at_byte 0 ∷ iso_at_byte 1 ∷ iso_at_byte 2 ∷ iso_at_byte 3 ∷ box_size ∷ [] ≡ 4 ∷ 4106 ∷ 8208 ∷ 12310 ∷ 16412 ∷ 24476 ∷ 32540 ∷ 40604 ∷ 48668 ∷ []
box_numbers = refl

-- power-on's bytes are zeros
row_zeros : {A : Type 0} (c : Code A) (x : A) (size : ℕ) → c.put x ≡ zeros size → (n : ℕ) → put_all c (replicate n x) ≡ zeros (n * size)
row_zeros c x size e zero = let z : 0 ≡ 0 * size = omega arith in ap (λ (k : ℕ). zeros k) z
row_zeros c x size e (suc n) =
    ap₂ (λ (y z : List ℕ). y ++ z) e (row_zeros c x size e n) ∙ zeros_join size (n * size) (suc n * size) (omega arith)

pub power_on_zeros : image power_on ≡ zeros box_size
unfolding image power_on memory via both many word32 word
power_on_zeros =
    ap₂ (λ (r z : List ℕ). zeros number_size ++ (r ++ z)) (row_zeros region closed region_size closed_zeros lines) (row_zeros iso_region shut iso_region_size shut_zeros lines)
    ∙ ap (λ (z : List ℕ). zeros number_size ++ z) (zeros_join (lines * region_size) (lines * iso_region_size) (lines * region_size + lines * iso_region_size) refl)
    ∙ zeros_join number_size (lines * region_size + lines * iso_region_size) box_size refl

-- ---- BOTH ROUND TRIPS. What a box lies in is that box again, and a valid memory is the bytes of the box in it

pub load_image : (d : Device) → T (memory.ok d) → load (image d) ≡ d
unfolding load image
load_image d t = memory_lawful.get_put d t

module _ (m : List ℕ) (t : T (valid m)) where
  right_size : length m ≡ memory.size
  unfolding valid
  right_size = eqb→eq (length m) memory.size (left (eqb (length m) memory.size) (memory.valid m) t)

  right_bytes : T (memory.valid m)
  unfolding valid
  right_bytes = right (eqb (length m) memory.size) (memory.valid m) t

  pub valid_long : length m ≡ box_size
  valid_long = right_size ∙ memory_size

  pub image_load : image (load m) ≡ m
  unfolding load image
  image_load = memory_lawful.put_get m right_size right_bytes

  pub ok_load : T (memory.ok (load m))
  unfolding load
  ok_load = memory_lawful.ok_get m right_size right_bytes

pub valid_image : (d : Device) → T (memory.ok d) → T (valid (image d))
unfolding image valid
valid_image d t =
    join (eqb (length (memory.put d)) memory.size) (memory.valid (memory.put d))
    (subst (λ (k : ℕ). T (eqb k memory.size)) (sym (memory_lawful.long d t)) (eqb_refl memory.size)) (memory_lawful.valid_put d t)
