-- The bytes of the connection test, some microseconds later. Assumes nothing.
use Rattle.std.specs.Prelude.{if◌then◌else◌}
use mathlib.Core.Path.{◌≡◌, refl, sym, ap, ◌∙◌}
use Prim.Native.Nat.{ℕ, ◌+◌, ◌-◌, ◌≤◌, ◌<◌, ◌^◌}
use native.Mathlib.Omega.{arith}
use mathlib.Core.Bool.{Bool, true, false, ◌||◌}
use mathlib.Core.Option.{none, some}
use mathlib.Core.List.{List, [], ◌∷◌, ◌++◌}
use lib.ListN.{length, get_or, set}
use lib.Dec.{T, eqb, ltb, ltb→lt}
use borrow.Author.Tests.{eq-eqb, ne_eqb, lt-ltb, le-ltb}
use borrow.Rule.Slice.PartMut.{put_mid}
use Rattle.codec.specs.Word.{word, word_at}
use Rattle.codec.specs.Code.{byte, word32, both, via, such, mark, mark_of}
use Rattle.codec.proofs.Tests.{left, right}
use Rattle.codec.proofs.Word.{word_back}
use Rattle.link.specs.Connection.{mnct, Care, care_later}
use Rattle.link_layout.specs.Sizes.{care_size}
use Rattle.link_layout.specs.Connection.{care}
use Rattle.link_layout.specs.Turned.{is_there, put_or}
use Rattle.link_layout.proofs.Lawful.{care_lawful}
use Rattle.link_layout.proofs.Bytes.{care_size_law}
use Rattle.link_layout.proofs.Turning.{made, refused}
use Rattle.link_starts.proofs.Laws.{again, fine}

care_bytes : (c : Care) → care.put c ≡ mark_of c.answers ∷ mark_of c.tests ∷ c.unanswered ∷ word c.left
unfolding care mark via such both byte word32
care_bytes c = refl

care_small : (c : Care) → T (care.ok c) → c.left < 2 ^ 32
unfolding care via both word32
care_small c t = ltb→lt c.left (2 ^ 32) (search (left, right))

-- so much less of T_CTa; a test waits, with so many unanswered
unfoldable shorter : ℕ → Care → Care
shorter us c = record { answers = c.answers; tests = c.tests; unanswered = c.unanswered; left = c.left - us }

unfoldable testing : Care → ℕ → Care
testing c n = record { answers = c.answers; tests = true; unanswered = n; left = 0 }

module _ (us : ℕ) where
  later_is : (c : Care) (x y z : Bool) → (eqb c.left 0 || ltb us c.left) ≡ x → ltb mnct c.unanswered ≡ y → eqb c.unanswered 0 ≡ z
      → care_later us c ≡ (if x then some (shorter us c) else if y then none else some (testing c (if z then 0 else c.unanswered + 1)))
  unfolding care_later shorter testing
  later_is c x y z e f g = λ i. if e i then some (shorter us c) else if f i then none else some (testing c (if g i then 0 else c.unanswered + 1))

  module _ (m : List ℕ) (long : length m ≡ care_size) (v : T (care.valid m)) where
    abbrev Later : Bool → List ℕ → Type 0
    Later r ys = (r ≡ is_there (care_later us (care.get m))) × (ys ≡ put_or care (care_later us (care.get m)) m)

    abbrev c : Care
    c = care.get m

    bytes : m ≡ mark_of c.answers ∷ mark_of c.tests ∷ c.unanswered ∷ word c.left
    bytes = sym (again care_lawful care_size care_size_law m long v) ∙ care_bytes c

    number : word_at 3 m ≡ c.left
    unfolding word word_at
    number =
        let small = care_small c (fine care_lawful care_size care_size_law m long v) in
        ap (word_at 3) bytes ∙ word_back c.left small

    missed : get_or m 2 0 ≡ c.unanswered
    missed = ap (λ (x : List ℕ). get_or x 2 0) bytes

    at : (l : ℕ) → l ≡ word_at 3 m → (y : Bool) → (eqb l 0 || ltb us l) ≡ y → (eqb c.left 0 || ltb us c.left) ≡ y
    at l e y q = ap (λ (j : ℕ). eqb j 0 || ltb us j) (sym (e ∙ number)) ∙ q

    pub goes_on : (l : ℕ) → l ≡ word_at 3 m → (eqb l 0 || ltb us l) ≡ true → (x : List ℕ) → x ≡ word (l - us) → Later true (put_mid 3 4 m x)
    unfolding word shorter
    goes_on l e q x y =
        made care _ m (shorter us c) _ (later_is c true (ltb mnct c.unanswered) (eqb c.unanswered 0) (at l e true q) refl refl)
        (ap (λ (z : List ℕ). put_mid 3 4 z x) bytes
        ∙ ap {B = List ℕ} (λ (z : List ℕ). mark_of c.answers ∷ mark_of c.tests ∷ c.unanswered ∷ (z ++ [])) (y ∙ ap (λ (j : ℕ). word (j - us)) (e ∙ number))
        ∙ sym (care_bytes (shorter us c)))

    pub over : (l : ℕ) → l ≡ word_at 3 m → (eqb l 0 || ltb us l) ≡ false → 5 < get_or m 2 0 → Later false m
    over l e q f =
        refused care _ m (later_is c false true (eqb c.unanswered 0) (at l e false q) (lt-ltb mnct c.unanswered (omega (arith, missed))) refl)

    module _ (l : ℕ) (e : l ≡ word_at 3 m) (q : (eqb l 0 || ltb us l) ≡ false) (f : get_or m 2 0 ≤ 5) (x : List ℕ) (y : x ≡ word 0) where
      few : ltb mnct c.unanswered ≡ false
      few = le-ltb mnct c.unanswered (omega (arith, missed))

      pub first : get_or m 2 0 ≡ 0 → Later true (set (put_mid 3 4 m x) 1 1)
      unfolding word testing
      first z =
          made care _ m (testing c 0) _ (later_is c false false true (at l e false q) few (eq-eqb c.unanswered 0 (sym missed ∙ z)))
          ((λ i. set (put_mid 3 4 (bytes i) (y i)) 1 1)
          ∙ ap {B = List ℕ} (λ (n : ℕ). mark_of c.answers ∷ 1 ∷ n ∷ word 0) (sym missed ∙ z)
          ∙ sym (care_bytes (testing c 0)))

      pub another : (get_or m 2 0 ≡ 0 → ⊥) → Later true (set (set (put_mid 3 4 m x) 1 1) 2 (get_or m 2 0 + 1))
      unfolding word testing
      another d =
          made care _ m (testing c (c.unanswered + 1)) _ (later_is c false false false (at l e false q) few (ne_eqb c.unanswered 0 (λ z. d (missed ∙ z))))
          ((λ i. set (set (put_mid 3 4 (bytes i) (y i)) 1 1) 2 (get_or (bytes i) 2 0 + 1)) ∙ sym (care_bytes (testing c (c.unanswered + 1))))
