-- The bytes of a message under way, some microseconds later. Assumes nothing.
use Rattle.std.specs.Prelude.{if◌then◌else◌}
use mathlib.Core.Path.{◌≡◌, refl, sym, ap, ◌∙◌, subst}
use Prim.Native.Nat.{ℕ, ◌+◌, ◌-◌, ◌≤◌, ◌<◌, ◌^◌}
use native.Mathlib.Omega.{arith}
use mathlib.Core.Bool.{Bool, true, false, ◌||◌}
use mathlib.Core.Option.{none, some}
use mathlib.Core.List.{List, ◌∷◌, ◌++◌}
use lib.ListN.{length, get_or, set}
use lib.Dec.{T, eqb, ltb, leb, ltb→lt}
use borrow.Author.Tests.{le-leb, lt-leb}
use borrow.Rule.Slice.PartMut.{put_mid, post_of}
use Rattle.codec.specs.Word.{word, word_at}
use Rattle.codec.specs.Code.{word32, both, via, such}
use Rattle.codec.proofs.Tests.{left, right}
use Rattle.codec.proofs.Word.{word_back}
use Rattle.link.specs.Connection.{mnt, Block, Out, idle, sends, asks, out_later}
use Rattle.link_layout.specs.Sizes.{out_size}
use Rattle.link_layout.specs.Connection.{out_parts, out}
use Rattle.link_layout.specs.Turned.{is_there, put_or}
use Rattle.link_layout.proofs.Lawful.{out_code_lawful}
use Rattle.link_layout.proofs.Places.{out_size_law}
use Rattle.link_layout.proofs.Turning.{made, refused}
use Rattle.link_starts.proofs.Laws.{again, fine, block_tail, sends_bytes, asks_bytes, out_tag}

asks_small : (b : Block) (k : ℕ) → T (out.ok (asks b k)) → k < 2 ^ 32
unfolding out via such both word32
asks_small b k t = ltb→lt k (2 ^ 32) (search (left, right))

abbrev IsAsking : Out → Type 0
IsAsking o = (b : Block) × ((k : ℕ) × (o ≡ asks b k))

is_asking : (o : Out) → 2 ≤ (out_parts o).0 → IsAsking o
is_asking idle h = absurd (omega arith)
is_asking (sends b) h = absurd (omega arith)
is_asking (asks b k) h = (b, (k, refl))

-- once more
unfoldable once : Block → Block
once b = record { rest = b.rest; taken = b.taken - 1; repeats = b.repeats + 1; again = b.again }

module _ (t1 us : ℕ) where
  stays : (o : Out) → (out_parts o).0 < 2 → out_later t1 us o ≡ some o
  unfolding out_later
  stays idle h = refl
  stays (sends b) h = refl
  stays (asks b k) h = absurd (omega arith)

  later_is : (b : Block) (k : ℕ) (y z : Bool) → (eqb t1 0xFF || ltb us k) ≡ y → leb mnt b.repeats ≡ z
      → out_later t1 us (asks b k) ≡ (if y then some (asks b (k - us)) else if z then none else some (sends (once b)))
  unfolding out_later once
  later_is b k y z e f = λ i. if e i then some (asks b (k - us)) else if f i then none else some (sends (once b))

  module _ (m : List ℕ) (long : length m ≡ out_size) (v : T (out.valid m)) where
    abbrev Later : Bool → List ℕ → Type 0
    Later r ys = (r ≡ is_there (out_later t1 us (out.get m))) × (ys ≡ put_or out (out_later t1 us (out.get m)) m)

    is : out.put (out.get m) ≡ m
    is = again out_code_lawful out_size out_size_law m long v

    tag : get_or m 0 0 ≡ (out_parts (out.get m)).0
    tag = ap (λ (x : List ℕ). get_or x 0 0) (sym is) ∙ out_tag (out.get m)

    pub rests : get_or m 0 0 < 2 → Later true m
    rests h = let k : (out_parts (out.get m)).0 < 2 = omega (arith, tag) in made out _ m (out.get m) m (stays (out.get m) k) (sym is)

    module _ (h : 2 ≤ get_or m 0 0) where
      asking : IsAsking (out.get m)
      asking = is_asking (out.get m) (omega (arith, tag))

      abbrev b : Block
      b = asking.0

      abbrev k : ℕ
      k = asking.1.0

      bytes : m ≡ 2 ∷ (word k ++ block_tail b)
      bytes = sym is ∙ ap out.put asking.1.1 ∙ asks_bytes b k

      pub tag_two : get_or m 0 0 ≡ 2
      tag_two = ap (λ (x : List ℕ). get_or x 0 0) bytes

      number : word_at 1 m ≡ k
      unfolding word word_at
      number =
          let small = asks_small b k (subst (λ (o : Out). T (out.ok o)) asking.1.1 (fine out_code_lawful out_size out_size_law m long v)) in
          ap (word_at 1) bytes ∙ word_back k small

      repeated : get_or m 6 0 ≡ b.repeats
      unfolding word
      repeated = ap (λ (x : List ℕ). get_or x 6 0) bytes

      by : (y z : Bool) → (eqb t1 0xFF || ltb us k) ≡ y → leb mnt b.repeats ≡ z
          → out_later t1 us (out.get m) ≡ (if y then some (asks b (k - us)) else if z then none else some (sends (once b)))
      by y z e f = ap (out_later t1 us) asking.1.1 ∙ later_is b k y z e f

      at : (l : ℕ) → l ≡ word_at 1 m → (y : Bool) → (eqb t1 0xFF || ltb us l) ≡ y → (eqb t1 0xFF || ltb us k) ≡ y
      at l e y q = ap (λ (j : ℕ). eqb t1 0xFF || ltb us j) (sym (e ∙ number)) ∙ q

      pub goes_on : (l : ℕ) → l ≡ word_at 1 m → (eqb t1 0xFF || ltb us l) ≡ true → (x : List ℕ) → x ≡ word (l - us) → Later true (put_mid 1 4 m x)
      unfolding word
      goes_on l e q x y =
          made out _ m (asks b (k - us)) _ (by true (leb mnt b.repeats) (at l e true q) refl)
          (ap (λ (z : List ℕ). put_mid 1 4 z x) bytes
          ∙ ap {B = List ℕ} (λ (z : List ℕ). 2 ∷ (z ++ block_tail b)) (y ∙ ap (λ (j : ℕ). word (j - us)) (e ∙ number))
          ∙ sym (asks_bytes b (k - us)))

      pub anew : (l : ℕ) → l ≡ word_at 1 m → (eqb t1 0xFF || ltb us l) ≡ false → get_or m 6 0 < 2 → (x : List ℕ) → x ≡ 1 ∷ word 0
          → Later true (set (set (x ++ post_of 0 5 m) 5 (get_or m 5 0 - 1)) 6 (get_or m 6 0 + 1))
      unfolding word once
      anew l e q f x y =
          made out _ m (sends (once b)) _ (by false false (at l e false q) (lt-leb mnt b.repeats (omega (arith, repeated))))
          ((λ i. set (set (y i ++ post_of 0 5 (bytes i)) 5 (get_or (bytes i) 5 0 - 1)) 6 (get_or (bytes i) 6 0 + 1)) ∙ sym (sends_bytes (once b)))

      pub over : (l : ℕ) → l ≡ word_at 1 m → (eqb t1 0xFF || ltb us l) ≡ false → 2 ≤ get_or m 6 0 → Later false m
      over l e q f = refused out _ m (by false true (at l e false q) (le-leb mnt b.repeats (omega (arith, repeated))))
