-- The bytes that are stored in a conversation's place: a head, a payload, bytes behind a payload. Assumes nothing.
use Rattle.std.specs.Prelude.{if◌then◌else◌}
use mathlib.Core.Path.{◌≡◌, refl, sym, ap, ap₂, ◌∙◌, subst}
use Prim.Native.Nat.{ℕ, zero, suc, ◌+◌, ◌-◌, ◌^◌, ◌≤◌, ◌<◌}
use native.Mathlib.Nat.{suc_inj, suc-ne-zero}
use native.Mathlib.Omega.{arith}
use mathlib.Core.Bool.{Bool, true, false}
use mathlib.Core.List.{List, [], ◌∷◌, ◌++◌, append_assoc, append-nil}
use lib.ListN.{length, set, take, drop, length-append, length-set, length-drop, take-append-drop, drop_of_length-le}
use lib.Seq.{take_at, drop_at, drop-drop, length-take-le}
use lib.Dec.{T, eqb, ltb}
use borrow.Author.Tests.{ne_eqb}
use borrow.Rule.Slice.PartMut.{put_mid, mid_of, same_len_mid}
use Rattle.codec.specs.Plain.{zeros}
use Rattle.codec.specs.Word.{word, word_at}
use Rattle.codec.specs.Code.{word32, both, via, such, many, mark_of}
use Rattle.codec.proofs.Word.{word_back, word_drop}
use Rattle.codec.proofs.Lists.{zeros_join, drop_zeros}
use Rattle.codec.proofs.Cells.{one_byte}
use Rattle.layout.proofs.Memory.{bytes_put}
use Rattle.records.specs.Cell.{padded}
use Rattle.iso.specs.Limits.{most_payload}
use Rattle.iso_layout.specs.Sizes.{payload_size, payload_in, transfer_in, talk_size}
use Rattle.iso_layout.specs.Region.{payload_parts, payload_back, payload508}
use Rattle.iso_layout.proofs.Sizes.{payload_size_law}
use Rattle.iso_layout.proofs.Lawful.{payload_lawful}
use Rattle.iso_layout.proofs.Held.{payload_most}
use Rattle.talk_head.specs.Headed.{payload_on, bytes_on, payload_at, numbers, head_bytes, with_head, with_payload, settled}
use Rattle.talk_head.specs.declared.Head.{Head}

-- ---- a head

pub eqb_sym : (n : ℕ) → eqb n 1 ≡ eqb 1 n
eqb_sym zero = refl
eqb_sym (suc zero) = refl
eqb_sym (suc (suc n)) = ne_eqb (suc (suc n)) 1 (λ e. suc-ne-zero n (suc_inj e)) ∙ sym (ne_eqb 1 (suc (suc n)) (λ e. suc-ne-zero n (sym (suc_inj e))))

-- four numbers side by side
pub four_stored : (s : List ℕ) (n time left gap : ℕ) {a b c d : List ℕ} → length s ≡ 16 → a ≡ word n → b ≡ word time → c ≡ word left → d ≡ word gap
    → put_mid 12 4 (put_mid 8 4 (put_mid 4 4 (a ++ drop 4 s) b) c) d ≡ numbers n time left gap
unfolding numbers word
four_stored s n time left gap l pa pb pc pd =
    let none : drop 4 (drop 4 (drop 4 (drop 4 s))) ≡ [] = simp drop-drop (drop_of_length-le s {i = 16} (omega arith)) in
    (λ i. put_mid 12 4 (put_mid 8 4 (put_mid 4 4 (pa i ++ drop 4 s) (pb i)) (pc i)) (pd i)) ∙ ap (λ (x : List ℕ). numbers n time left gap ++ x) none

behind : (k n : ℕ) (ys r zs : List ℕ) → length ys ≡ k → put_mid k n (ys ++ r) zs ≡ ys ++ (zs ++ drop n r)
behind k n ys r zs h = ap₂ (λ (x y : List ℕ). x ++ (zs ++ drop n y)) (take_at ys r k h) (drop_at ys r k h)

-- a part put behind another is one part
joined : (k n m : ℕ) (t a z : List ℕ) → k ≤ length t → length a ≡ n → put_mid (k + n) m (put_mid k n t a) z ≡ put_mid k (n + m) t (a ++ z)
joined k n m t a z h la =
    let first : put_mid k n t a ≡ (take k t ++ a) ++ drop (k + n) t =
    ap (λ (x : List ℕ). take k t ++ (a ++ x)) (drop-drop n k t) ∙ sym (append_assoc (take k t) a (drop (k + n) t)) in
    let long : length (take k t ++ a) ≡ k + n = length-append (take k t) a ∙ ap₂ (λ (x y : ℕ). x + y) (length-take-le k t h) la in
    let sum : k + n + m ≡ k + (n + m) = omega arith in
    let rest : drop m (drop (k + n) t) ≡ drop (n + m) (drop k t) = drop-drop m (k + n) t ∙ ap (λ (j : ℕ). drop j t) sum ∙ sym (drop-drop (n + m) k t) in
    ap (λ (x : List ℕ). put_mid (k + n) m x z) first ∙ behind (k + n) m (take k t ++ a) (drop (k + n) t) z long
    ∙ append_assoc (take k t) a (z ++ drop m (drop (k + n) t))
    ∙ ap (λ (x : List ℕ). take k t ++ x) (sym (append_assoc a z (drop m (drop (k + n) t))) ∙ ap (λ (x : List ℕ). (a ++ z) ++ x) rest)

numbers_long : (n time left gap : ℕ) → length (numbers n time left gap) ≡ 16
unfolding numbers word
numbers_long n time left gap = refl

head_is : (h : Head) → (h.kind ∷ []) ++ (numbers h.n h.time h.left h.gap ++ mark_of h.waits ∷ []) ≡ head_bytes h
unfolding head_bytes numbers word
head_is h = refl

pub head_long : (t ys : List ℕ) (h : Head) → length t ≡ talk_size → ys ≡ numbers h.n h.time h.left h.gap → length (put_mid 11 16 (set t 10 h.kind) ys) ≡ talk_size
head_long t ys h l e =
    let u : List ℕ = set t 10 h.kind in
    let lu : length u ≡ talk_size = length-set t 10 h.kind ∙ l in
    let lm : length (mid_of 11 16 u) ≡ 16 = length-take-le 16 (drop 11 u) (omega (arith, length-drop 11 u)) in
    same_len_mid 11 16 u ys (ap length e ∙ numbers_long h.n h.time h.left h.gap ∙ sym lm) ∙ lu

pub head_stored : (t ys : List ℕ) (h : Head) (m : ℕ) → length t ≡ talk_size → ys ≡ numbers h.n h.time h.left h.gap → m ≡ mark_of h.waits
    → set (put_mid 11 16 (set t 10 h.kind) ys) 27 m ≡ with_head h t
unfolding with_head
head_stored t ys h m l ey em =
    let w : List ℕ = numbers h.n h.time h.left h.gap in
    let k : List ℕ = h.kind ∷ [] in
    let lw : length w ≡ 16 = numbers_long h.n h.time h.left h.gap in
    let long : length (put_mid 10 17 t (k ++ w)) ≡ talk_size =
    length-append (take 10 t) ((k ++ w) ++ drop 17 (drop 10 t))
    ∙ ap₂ (λ (x y : ℕ). x + y) (length-take-le 10 t (omega arith)) (length-append (k ++ w) (drop 17 (drop 10 t)))
    ∙ omega (arith, lw, length-drop 17 (drop 10 t), length-drop 10 t) in
    ap₂ (λ (x : List ℕ) (y : ℕ). set (put_mid 11 16 x ys) 27 y) (one_byte t 10 h.kind (omega arith)) em
    ∙ ap (λ (y : List ℕ). set (put_mid 11 16 (put_mid 10 1 t k) y) 27 (mark_of h.waits)) ey
    ∙ ap (λ (x : List ℕ). set x 27 (mark_of h.waits)) (joined 10 1 16 t k w (omega arith) refl)
    ∙ one_byte (put_mid 10 17 t (k ++ w)) 27 (mark_of h.waits) (omega arith)
    ∙ joined 10 17 1 t (k ++ w) (mark_of h.waits ∷ []) (omega arith) (ap suc lw)
    ∙ ap₂ (λ (x y : List ℕ). take transfer_in t ++ (x ++ y)) (head_is h) (drop-drop payload_in transfer_in t)

-- ---- a payload

word_long : (n : ℕ) → length (word n) ≡ 4
unfolding word
word_long n = refl

pub payload_put : (b : List ℕ) → payload508.put b ≡ word (length b) ++ (b ++ zeros (most_payload - length b))
unfolding payload508 via such both many word32 payload_parts
payload_put b = ap (λ (x : List ℕ). word (length b) ++ x) (bytes_put (b ++ zeros (most_payload - length b)))

none_put : zeros payload_size ≡ payload508.put []
unfolding word
none_put = sym (zeros_join 4 most_payload payload_size refl) ∙ sym (payload_put [])

pub payload_cleared : (t ys : List ℕ) → length t ≡ talk_size → ys ≡ zeros (length (mid_of payload_on payload_size t)) → put_mid payload_on payload_size t ys ≡ with_payload [] t
unfolding with_payload
payload_cleared t ys l e =
    let long : length (mid_of payload_on payload_size t) ≡ payload_size = length-take-le payload_size (drop payload_on t) (omega (arith, length-drop payload_on t)) in
    let rest : drop payload_size (drop payload_on t) ≡ [] = drop_of_length-le (drop payload_on t) {i = payload_size} (omega (arith, length-drop payload_on t)) in
    ap₂ (λ (x y : List ℕ). take payload_on t ++ (x ++ y)) (e ∙ ap (λ (k : ℕ). zeros k) long ∙ none_put) rest
    ∙ ap (λ (x : List ℕ). take payload_on t ++ x) (append-nil (payload508.put []))

pub payload_set : (t a z b : List ℕ) → length t ≡ talk_size → a ≡ word (length b) → z ≡ padded (length (mid_of bytes_on most_payload (put_mid payload_on 4 t a))) b
    → put_mid bytes_on most_payload (put_mid payload_on 4 t a) z ≡ with_payload b t
unfolding with_payload padded
payload_set t a z b l ea ez =
    let la : length a ≡ 4 = ap length ea ∙ word_long (length b) in
    let whole : length (put_mid payload_on 4 t a) ≡ talk_size =
    length-append (take payload_on t) (a ++ drop 4 (drop payload_on t)) ∙ ap₂ (λ (x y : ℕ). x + y) (length-take-le payload_on t (omega arith)) (length-append a (drop 4 (drop payload_on t)))
    ∙ omega (arith, length-drop 4 (drop payload_on t), length-drop payload_on t) in
    let long : length (mid_of bytes_on most_payload (put_mid payload_on 4 t a)) ≡ most_payload =
    length-take-le most_payload (drop bytes_on (put_mid payload_on 4 t a)) (omega (arith, length-drop bytes_on (put_mid payload_on 4 t a))) in
    let rest : drop payload_size (drop payload_on t) ≡ [] = drop_of_length-le (drop payload_on t) {i = payload_size} (omega (arith, length-drop payload_on t)) in
    joined payload_on 4 most_payload t a z (omega arith) la
    ∙ ap (λ (x : List ℕ). take payload_on t ++ ((a ++ z) ++ x)) rest ∙ ap (λ (x : List ℕ). take payload_on t ++ x) (append-nil (a ++ z))
    ∙ ap₂ (λ (x y : List ℕ). take payload_on t ++ (x ++ y)) ea (ez ∙ ap (λ (k : ℕ). b ++ zeros (k - length b)) long)
    ∙ ap (λ (x : List ℕ). take payload_on t ++ x) (sym (payload_put b))

-- the number in front
word_front : (n : ℕ) (r : List ℕ) → n < 2 ^ 32 → word_at 0 (word n ++ r) ≡ n
unfolding word_at word
word_front n r h = word_back n h

word_gone : (n : ℕ) (r : List ℕ) → drop 4 (word n ++ r) ≡ r
unfolding word
word_gone n r = refl

pub part_size : (a n m : ℕ) → a + (n + m) - (a + n) ≡ m
part_size a n m = omega arith

-- ---- the payload that a place holds, and bytes behind it

module _ (t : List ℕ) (l : length t ≡ talk_size) (v : T (payload508.valid (drop payload_on t))) where
  long : length (drop payload_on t) ≡ payload508.size
  long = length-drop payload_on t ∙ omega (arith, payload_size_law)

  pub payload_ok : T (payload508.ok (payload_at t))
  unfolding payload_at
  payload_ok = payload_lawful.ok_get (drop payload_on t) long v

  pub payload_there : drop payload_on t ≡ word (length (payload_at t)) ++ (payload_at t ++ zeros (most_payload - length (payload_at t)))
  unfolding payload_at
  payload_there = sym (payload_lawful.put_get (drop payload_on t) long v) ∙ payload_put (payload_at t)

  pub payload_short : length (payload_at t) ≤ most_payload
  payload_short = payload_most (payload_at t) payload_ok

  pub payload_count : word_at payload_on t ≡ length (payload_at t)
  payload_count =
      let small : length (payload_at t) < 2 ^ 32 = omega (arith, payload_short) in
      sym (word_drop 0 payload_on t) ∙ ap (word_at 0) payload_there ∙ word_front (length (payload_at t)) _ small

  pub payload_bytes : drop bytes_on t ≡ payload_at t ++ zeros (most_payload - length (payload_at t))
  payload_bytes = sym (drop-drop 4 payload_on t) ∙ ap (λ (x : List ℕ). drop 4 x) payload_there ∙ word_gone (length (payload_at t)) _

  pub payload_is : take (length (payload_at t)) (drop bytes_on t) ≡ payload_at t
  payload_is = ap (λ (x : List ℕ). take (length (payload_at t)) x) payload_bytes ∙ take_at (payload_at t) (zeros (most_payload - length (payload_at t))) (length (payload_at t)) refl

  pub payload_longer : (b a z : List ℕ) (at n : ℕ) → length (payload_at t) + length b ≤ most_payload → at ≡ bytes_on + length (payload_at t) → n ≡ length b → a ≡ word (length (payload_at t) + length b) → z ≡ b
      → put_mid at n (put_mid payload_on 4 t a) z ≡ with_payload (payload_at t ++ b) t
  unfolding with_payload
  payload_longer b a z at n h ea en e ez =
      let p : List ℕ = payload_at t in
      let w : List ℕ = word (length p + length b) in
      let front : List ℕ = take payload_on t ++ (w ++ p) in
      let k : ℕ = most_payload - length p in
      let counted : put_mid payload_on 4 t a ≡ front ++ zeros k =
      ap₂ (λ (x y : List ℕ). take payload_on t ++ (x ++ y)) e (drop-drop 4 payload_on t ∙ payload_bytes)
      ∙ ap (λ (x : List ℕ). take payload_on t ++ x) (sym (append_assoc w p (zeros k))) ∙ sym (append_assoc (take payload_on t) (w ++ p) (zeros k)) in
      let long_front : length front ≡ bytes_on + length p =
      length-append (take payload_on t) (w ++ p) ∙ ap₂ (λ (x y : ℕ). x + y) (length-take-le payload_on t (omega arith)) (length-append w p ∙ ap (λ (x : ℕ). x + length p) (word_long (length p + length b)))
      ∙ omega arith in
      let sum : length (p ++ b) ≡ length p + length b = length-append p b in
      let split : k ≡ length b + (most_payload - length (p ++ b)) = omega arith in
      let rest : drop n (zeros k) ≡ zeros (most_payload - length (p ++ b)) =
      ap₂ (λ (i j : ℕ). drop i (zeros j)) en split ∙ drop_zeros (length b) (most_payload - length (p ++ b)) in
      ap₂ (λ (i : ℕ) (x : List ℕ). put_mid i n x z) ea counted
      ∙ behind (bytes_on + length p) n front (zeros k) z long_front
      ∙ ap₂ (λ (x y : List ℕ). front ++ (x ++ y)) ez rest
      ∙ append_assoc (take payload_on t) (w ++ p) _
      ∙ ap (λ (x : List ℕ). take payload_on t ++ x) (append_assoc w p _ ∙ ap (λ (x : List ℕ). w ++ x) (sym (append_assoc p b _)) ∙ ap (λ (x : ℕ). word x ++ ((p ++ b) ++ zeros (most_payload - length (p ++ b)))) (sym sum) ∙ sym (payload_put (p ++ b)))

-- ---- a head, and what remains of the payload

module _ (h : Head) (t : List ℕ) where
  pub settled_bare : ltb h.kind 2 ≡ true → with_payload [] (with_head h t) ≡ settled h t
  unfolding settled
  settled_bare e = sym (ap (λ (bare : Bool). if bare then with_payload [] (with_head h t) else with_head h t) e)

  pub settled_full : ltb h.kind 2 ≡ false → with_head h t ≡ settled h t
  unfolding settled
  settled_full e = sym (ap (λ (bare : Bool). if bare then with_payload [] (with_head h t) else with_head h t) e)
