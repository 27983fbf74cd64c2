-- What validity is of the memory of the whole box, as code finds it out: its size, then its two rows of regions. Assumes nothing.
use mathlib.Core.Path.{◌≡◌, refl, sym, ap, ap₂, ◌∙◌}
use Prim.Native.Nat.{ℕ, zero, suc, ◌+◌, ◌*◌, ◌-◌, ◌≤◌}
use native.Mathlib.Omega.{arith}
use mathlib.Core.Bool.{Bool, false, ◌&&◌}
use mathlib.Core.List.{List, [], ◌∷◌}
use lib.ListN.{length, take, drop}
use lib.Seq.{drop-drop, take-take}
use borrow.Author.Tests.{eq-eqb, ne_eqb}
use Rattle.codec.specs.Code.{Code, word32, both, via, many, valid_all}
use native.Mathlib.Nat.{suc-mul}
use Rattle.machine.specs.Limits.{lines}
use Rattle.layout.specs.Sizes.{number_size, regions_size}
use Rattle.layout.specs.Memory.{region}
use Rattle.layout.proofs.Sizes.{region_size_law}
use Rattle.iso_layout.specs.Region.{iso_region}
use Rattle.stored_records.proofs.Parts.{Bytes, behind_word, both_is}
use Rattle.memory.specs.Sizes.{isos_at, box_size}
use Rattle.memory.specs.Memory.{memory, valid}
use Rattle.memory.proofs.Memory.{memory_size}
use Rattle.memory.proofs.Rows.{raws_size}

pub not_long : (m : List ℕ) → (length m ≡ box_size → ⊥) → false ≡ valid m
unfolding valid
not_long m h = sym (ap (λ (b : Bool). b && memory.valid m) (ne_eqb (length m) memory.size (λ e. h (e ∙ memory_size))))

-- what is behind the first j of the first k
drop_take : (j k : ℕ) (m : List ℕ) → j ≤ k → drop j (take k m) ≡ take (k - j) (drop j m)
drop_take zero k m h = let z : k ≡ k - 0 = omega arith in ap (λ (n : ℕ). take n m) z
drop_take (suc j) zero m h = absurd (omega arith)
drop_take (suc j) (suc k) [] h = sym (take_nothing (suc k - suc j))
  where
    take_nothing : (n : ℕ) → take {A = ℕ} n [] ≡ []
    take_nothing zero = refl
    take_nothing (suc n) = refl
drop_take (suc j) (suc k) (x ∷ m) h = let z : k - j ≡ suc k - suc j = omega arith in drop_take j k m (omega arith) ∙ ap (λ (n : ℕ). take n (drop j m)) z

-- values in a row need no byte behind them
valid_take : {A : Type 0} (c : Code A) (n k : ℕ) (m : List ℕ) → n * c.size ≤ k → valid_all c n (take k m) ≡ valid_all c n m
valid_take c zero k m h = refl
valid_take c (suc n) k m h =
    let s : suc n * c.size ≡ n * c.size + c.size = suc-mul n c.size in
    ap₂ (λ (x y : Bool). x && y) (ap c.valid (take-take c.size k m (omega arith)))
    (ap (valid_all c n) (drop_take c.size k m (omega arith)) ∙ valid_take c n (k - c.size) (drop c.size m) (omega arith))

-- both rows
pub rows_are : (m : List ℕ) → length m ≡ box_size → Bytes m → (a b : Bool) → a ≡ valid_all region lines (drop number_size m) → b ≡ valid_all iso_region lines (drop isos_at m) → (a && b) ≡ valid m
unfolding valid memory via many
rows_are m h t a b p q =
    let rest : List ℕ = drop number_size m in
    ap₂ (λ (x y : Bool). x && y) (p ∙ sym (valid_take region lines regions_size rest (let z : lines * region.size ≡ regions_size = ap (λ (k : ℕ). lines * k) region_size_law in omega arith)))
    (q ∙ ap (valid_all iso_region lines) (sym (drop-drop regions_size number_size m)))
    ∙ sym (both_is (many lines region) (many lines iso_region) regions_size rest raws_size) ∙ sym (behind_word (both (many lines region) (many lines iso_region)) m t)
    ∙ ap (λ (c : Bool). c && (both word32 (both (many lines region) (many lines iso_region))).valid m) (sym (eq-eqb (length m) memory.size (h ∙ sym memory_size)))
