-- A message's store: what its bytes are, and what they are when some go or come. Assumes nothing.
use mathlib.Core.Path.{◌≡◌, refl, sym, ap, ap₂, ◌∙◌}
use Prim.Native.Nat.{ℕ, zero, suc, ◌+◌, ◌-◌, ◌^◌, ◌≤◌, ◌<◌}
use native.Mathlib.Omega.{arith}
use mathlib.Core.List.{List, [], ◌∷◌, ◌++◌, append_assoc, append-nil}
use lib.ListN.{length, take, drop, length-drop, length-append, drop_of_length-le}
use lib.Seq.{take_at, drop_at, length-take-le}
use lib.Dec.{T}
use borrow.Rule.Slice.PartMut.{put_mid, mid_of, post_of}
use Rattle.codec.specs.Plain.{zeros}
use Rattle.codec.specs.Word.{word, word_at}
use Rattle.codec.specs.Code.{byte, word32, both, via, such, many, text, text_parts}
use Rattle.codec.proofs.Lists.{zeros_join, drop_zeros}
use Rattle.codec.proofs.Word.{word_back}
use Rattle.codec.proofs.Present.{text_lawful, text_count}
use Rattle.layout.proofs.Memory.{bytes_put}
use Rattle.link.specs.Connection.{longest}
use Rattle.link_layout.specs.Sizes.{text_size}

pub text_size_law : (text longest).size ≡ text_size
unfolding text via such both many word32 byte
text_size_law = refl

-- how many, they, zeros
pub text_put : (b : List ℕ) → (text longest).put b ≡ word (length b) ++ (b ++ zeros (longest - length b))
unfolding text via such both many word32 text_parts
text_put b = ap (λ (x : List ℕ). word (length b) ++ x) (bytes_put (b ++ zeros (longest - length b)))

-- none: zeros
pub none_put : zeros text_size ≡ (text longest).put []
unfolding word
none_put = sym (zeros_join 4 longest text_size refl) ∙ sym (text_put [])

-- without the first k
gone : (b : List ℕ) (k : ℕ) → k ≤ length b → length b ≤ longest → (ys w : List ℕ)
    → ys ≡ drop k (take (length b) (drop 4 (word (length b) ++ (b ++ zeros (longest - length b))))) ++ zeros k → w ≡ word (length b - k)
    → w ++ post_of 0 4 (put_mid 4 (length b) (word (length b) ++ (b ++ zeros (longest - length b))) ys) ≡ (text longest).put (drop k b)
unfolding word
gone b k g h ys w e q =
    let z : List ℕ = zeros (longest - length b) in
    let mine : ys ≡ drop k b ++ zeros k = e ∙ ap (λ (x : List ℕ). drop k x ++ zeros k) (take_at b z (length b) refl) in
    let size : length b - k ≡ length (drop k b) = sym (length-drop k b) in
    let rest : k + (longest - length b) ≡ longest - length (drop k b) = omega (arith, length-drop k b) in
    ap₂ (λ (x y : List ℕ). x ++ (y ++ drop (length b) (b ++ z))) (q ∙ ap word size) mine
    ∙ ap (λ (x : List ℕ). word (length (drop k b)) ++ ((drop k b ++ zeros k) ++ x)) (drop_at b z (length b) refl)
    ∙ ap (λ (x : List ℕ). word (length (drop k b)) ++ x)
    (append_assoc (drop k b) (zeros k) z ∙ ap (λ (x : List ℕ). drop k b ++ x) (zeros_join k (longest - length b) (longest - length (drop k b)) rest))
    ∙ sym (text_put (drop k b))

-- with more behind them
behind : (n : ℕ) → 4 + n ≡ suc (suc (suc (suc n)))
behind n = omega arith

grown : (b x : List ℕ) → length b + length x ≤ longest → (w : List ℕ) → w ≡ word (length b + length x)
    → w ++ post_of 0 4 (put_mid (4 + length b) (length x) (word (length b) ++ (b ++ zeros (longest - length b))) x) ≡ (text longest).put (b ++ x)
unfolding word
grown b x h w q =
    let z : List ℕ = zeros (longest - length b) in
    let size : length b + length x ≡ length (b ++ x) = sym (length-append b x) in
    let n : ℕ = longest - length (b ++ x) in
    let rest : longest - length b ≡ length x + n = omega (arith, size) in
    ap (λ (k : ℕ). w ++ post_of 0 4 (put_mid k (length x) (word (length b) ++ (b ++ z)) x)) (behind (length b))
    ∙ ap₂ (λ (u v : List ℕ). u ++ v) (q ∙ ap word size)
    (ap₂ (λ (u v : List ℕ). u ++ (x ++ drop (length x) v)) (take_at b z (length b) refl) (drop_at b z (length b) refl)
    ∙ ap (λ (v : List ℕ). b ++ (x ++ v)) (ap (λ (k : ℕ). drop (length x) (zeros k)) rest ∙ drop_zeros (length x) n)
    ∙ sym (append_assoc b x (zeros n)))
    ∙ sym (text_put (b ++ x))

-- these alone: how many over the first four bytes, then they, then zeros to the end
ended : (x r zs : List ℕ) → length r ≡ longest - length x → zs ≡ zeros (length (mid_of (4 + length x) (longest - length x) (word (length x) ++ (x ++ r))))
    → put_mid (4 + length x) (longest - length x) (word (length x) ++ (x ++ r)) zs ≡ (text longest).put x
unfolding word
ended x r zs l e =
    let n : ℕ = length x in
    let k : ℕ = longest - n in
    let none_left : drop k r ≡ [] = drop_of_length-le r {i = k} (omega (arith, l)) in
    let many : length (mid_of (4 + n) k (word n ++ (x ++ r))) ≡ k =
    ap (λ (i : ℕ). length (mid_of i k (word n ++ (x ++ r)))) (behind n) ∙ ap (λ (y : List ℕ). length (take k y)) (drop_at x r n refl) ∙ length-take-le k r (omega (arith, l)) in
    ap (λ (i : ℕ). put_mid i k (word n ++ (x ++ r)) zs) (behind n)
    ∙ ap₂ (λ (u v : List ℕ). word n ++ (u ++ (zs ++ drop k v))) (take_at x r n refl) (drop_at x r n refl)
    ∙ ap₂ (λ (u v : List ℕ). word n ++ (x ++ (u ++ v))) (e ∙ ap (λ (i : ℕ). zeros i) many) none_left
    ∙ ap (λ (u : List ℕ). word n ++ (x ++ u)) (append-nil (zeros k))
    ∙ sym (text_put x)

pub laid : (x m w ys zs : List ℕ) → length m ≡ text_size → length x ≤ longest → w ≡ word (length x) → ys ≡ x
    → zs ≡ zeros (length (mid_of (4 + length x) (text_size - (4 + length x)) (put_mid 4 (4 + length x - 4) (w ++ post_of 0 4 m) ys)))
    → put_mid (4 + length x) (text_size - (4 + length x)) (put_mid 4 (4 + length x - 4) (w ++ post_of 0 4 m) ys) zs ≡ (text longest).put x
unfolding word
laid x m w ys zs l h q y e =
    let n : ℕ = length x in
    let a : 4 + n - 4 ≡ n = omega arith in
    let b : text_size - (4 + n) ≡ longest - n = omega arith in
    let r : List ℕ = drop n (drop 4 m) in
    let long : length r ≡ longest - n = length-drop n (drop 4 m) ∙ ap (λ (i : ℕ). i - n) (length-drop 4 m) ∙ omega (arith, l) in
    let is : put_mid 4 (4 + n - 4) (w ++ post_of 0 4 m) ys ≡ word n ++ (x ++ r) =
    ap₂ (λ (i : ℕ) (u : List ℕ). put_mid 4 i (u ++ post_of 0 4 m) ys) a q ∙ ap (λ (u : List ℕ). word n ++ (u ++ r)) y in
    ap₂ (λ (i : ℕ) (u : List ℕ). put_mid (4 + n) i u zs) b is
    ∙ ended x r zs long (e ∙ ap₂ (λ (i : ℕ) (u : List ℕ). zeros (length (mid_of (4 + n) i u))) b is)

module _ (m : List ℕ) (long : length m ≡ text_size) (v : T ((text longest).valid m)) where
  abbrev pub held : List ℕ
  held = (text longest).get m

  pub held_ok : T ((text longest).ok held)
  held_ok = (text_lawful longest).ok_get m (long ∙ sym text_size_law) v

  pub most : length held ≤ longest
  most = text_count longest held held_ok

  is : m ≡ word (length held) ++ (held ++ zeros (longest - length held))
  is = sym ((text_lawful longest).put_get m (long ∙ sym text_size_law) v) ∙ text_put held

  pub counted : word_at 0 m ≡ length held
  unfolding word word_at
  counted = ap (λ (x : List ℕ). word_at 0 x) is ∙ word_back (length held) (omega (arith, most))

  pub dropped : (n k : ℕ) (ys w : List ℕ) → n ≡ length held → k ≤ length held → ys ≡ drop k (take (4 + n - 4) (drop 4 m)) ++ zeros k → w ≡ word (n - k)
      → w ++ post_of 0 4 (put_mid 4 (4 + n - 4) m ys) ≡ (text longest).put (drop k held)
  dropped n k ys w c h e q =
      let j : 4 + n - 4 ≡ length held = omega (arith, c) in
      ap₂ (λ (a : ℕ) (x : List ℕ). w ++ post_of 0 4 (put_mid 4 a x ys)) j is
      ∙ gone held k h most ys w (e ∙ ap₂ (λ (a : ℕ) (x : List ℕ). drop k (take a (drop 4 x)) ++ zeros k) j is) (q ∙ ap (λ (i : ℕ). word (i - k)) c)

  pub appended : (n : ℕ) (x ys w : List ℕ) → n ≡ length held → length held + length x ≤ longest → ys ≡ x → w ≡ word (n + length x)
      → w ++ post_of 0 4 (put_mid (4 + n) (4 + n + length x - (4 + n)) m ys) ≡ (text longest).put (held ++ x)
  appended n x ys w c h e q =
      let j : 4 + n + length x - (4 + n) ≡ length x = omega arith in
      ap₂ (λ (a : ℕ) (y : List ℕ). w ++ post_of 0 4 (put_mid (4 + n) a m y)) j e
      ∙ ap₂ (λ (a : ℕ) (y : List ℕ). w ++ post_of 0 4 (put_mid (4 + a) (length x) y x)) c is
      ∙ grown held x h w (q ∙ ap (λ (i : ℕ). word (i + length x)) c)
