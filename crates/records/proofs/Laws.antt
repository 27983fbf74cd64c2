-- The bytes of a record as code writes them: six numbers, then data and zeros. Assumes nothing.
use mathlib.Core.Path.{◌≡◌, refl, sym, ap, ap₂, ◌∙◌}
use Prim.Native.Nat.{ℕ, ◌+◌, ◌-◌, ◌≤◌}
use native.Mathlib.Omega.{arith}
use mathlib.Core.List.{List, [], ◌++◌, append-nil}
use lib.ListN.{length, drop, length-append, length-drop, drop_of_length-le}
use lib.Seq.{take_at, drop_at, drop-drop, length-take-le}
use borrow.Rule.Slice.PartMut.{put_mid, mid_of}
use Rattle.codec.specs.Plain.{zeros}
use Rattle.codec.specs.Word.{word}
use Rattle.machine.specs.Limits.{can_protocol, record_size, data_in, most_data}
use Rattle.machine.specs.Message.{id_bytes, Rec, twelve, shown, received}
use Rattle.layout.specs.Record.{rec36}
use Rattle.layout.proofs.Memory.{shown_is}
use Rattle.records.specs.Cell.{numbers, padded}

-- ---- one part behind another: a first part of k bytes, then n bytes behind it

behind : (k n : ℕ) (ys r zs : List ℕ) → length ys ≡ k → put_mid k n (ys ++ r) zs ≡ ys ++ (zs ++ drop n r)
behind k n ys r zs h = ap₂ (λ (x y : List ℕ). x ++ (zs ++ drop n y)) (take_at ys r k h) (drop_at ys r k h)

pub two_parts : (k n : ℕ) (d ys zs : List ℕ) → length d ≡ k + n → length ys ≡ k → put_mid k n (ys ++ drop k d) zs ≡ ys ++ zs
two_parts k n d ys zs h e =
    behind k n ys (drop k d) zs e
    ∙ ap (λ (x : List ℕ). ys ++ (zs ++ x)) (drop_of_length-le (drop k d) {i = n} (omega (arith, length-drop k d)))
    ∙ ap (λ (x : List ℕ). ys ++ x) (append-nil zs)

pub mid_long : (k n : ℕ) (d ys : List ℕ) → length d ≡ k + n → length ys ≡ k → length (mid_of k n (ys ++ drop k d)) ≡ n
mid_long k n d ys h e = length-take-le n (drop k (ys ++ drop k d)) (omega (arith, length-drop k (ys ++ drop k d), length-append ys (drop k d), length-drop k d))

pub six_stored : (h : List ℕ) (protocol rx tx time size extra : ℕ) {a b c d e f : List ℕ} → length h ≡ data_in → a ≡ word protocol → b ≡ word rx → c ≡ word tx → d ≡ word time → e ≡ word size → f ≡ word extra
    → put_mid 20 4 (put_mid 16 4 (put_mid 12 4 (put_mid 8 4 (put_mid 4 4 (a ++ drop 4 h) b) c) d) e) f ≡ numbers protocol rx tx time size extra
unfolding numbers word
six_stored h protocol rx tx time size extra l pa pb pc pd pe pf =
    let none : drop 4 (drop 4 (drop 4 (drop 4 (drop 4 (drop 4 h))))) ≡ [] = simp drop-drop (drop_of_length-le h {i = 24} (omega arith)) in
    (λ i. put_mid 20 4 (put_mid 16 4 (put_mid 12 4 (put_mid 8 4 (put_mid 4 4 (pa i ++ drop 4 h) (pb i)) (pc i)) (pd i)) (pe i)) (pf i))
    ∙ ap (λ (x : List ℕ). numbers protocol rx tx time size extra ++ x) none

-- bytes, then zeros, over the whole of a slice
pub padded_over : (j n : ℕ) (d b ys zs : List ℕ) → j ≡ length b → length b ≤ length d → ys ≡ b → n ≡ length (ys ++ drop j d) - length b → zs ≡ zeros (length (mid_of (length b) n (ys ++ drop j d)))
    → put_mid (length b) n (ys ++ drop j d) zs ≡ padded (length d) b
unfolding padded
padded_over j n d b ys zs ej h e en ez =
    let ly : length ys ≡ length b = ap length e in
    let size : n ≡ length d - length b = omega (arith, length-append ys (drop j d), length-drop j d) in
    let whole : length d ≡ length b + n = omega arith in
    let rest : length (mid_of (length b) n (ys ++ drop j d)) ≡ length d - length b =
    ap (λ (k : ℕ). length (mid_of (length b) n (ys ++ drop k d))) ej ∙ mid_long (length b) n d ys whole ly ∙ size in
    ap (λ (k : ℕ). put_mid (length b) n (ys ++ drop k d) zs) ej
    ∙ two_parts (length b) n d ys zs whole ly
    ∙ ap₂ (λ (x y : List ℕ). x ++ y) e (ez ∙ ap (λ (k : ℕ). zeros k) rest)

-- an identifier, then bytes with zeros behind them
id_padded : (n id : ℕ) (b : List ℕ) → id_bytes id ++ padded n b ≡ padded (4 + n) (id_bytes id ++ b)
unfolding padded id_bytes
id_padded n id b =
    let e : n - length b ≡ 4 + n - length (id_bytes id ++ b) = omega arith in
    ap (λ (n : ℕ). id_bytes id ++ (b ++ zeros n)) e

pub id_long : (id : ℕ) → length (id_bytes id) ≡ 4
unfolding id_bytes
id_long id = refl

pub frame_put : (n : ℕ) (d ys zs b : List ℕ) (id : ℕ) → 4 + length b ≤ length d → ys ≡ id_bytes id → n ≡ length (ys ++ drop 4 d) - 4 → zs ≡ padded (length (mid_of 4 n (ys ++ drop 4 d))) b
    → put_mid 4 n (ys ++ drop 4 d) zs ≡ padded (length d) (id_bytes id ++ b)
frame_put n d ys zs b id h y en z =
    let l : length ys ≡ 4 = ap length y ∙ id_long id in
    let whole : length d ≡ 4 + n = omega (arith, length-append ys (drop 4 d), length-drop 4 d) in
    two_parts 4 n d ys zs whole l
    ∙ ap₂ (λ (x y : List ℕ). x ++ y) y (z ∙ ap (λ (k : ℕ). padded k b) (mid_long 4 n d ys whole l))
    ∙ id_padded n id b
    ∙ ap (λ (k : ℕ). padded k (id_bytes id ++ b)) (sym whole)

-- ---- a record's bytes

pub numbers_long : (protocol rx tx time size extra : ℕ) → length (numbers protocol rx tx time size extra) ≡ data_in
unfolding numbers word
numbers_long protocol rx tx time size extra = refl

-- the six of a record of raw CAN
abbrev pub six : Rec → List ℕ
six r = numbers can_protocol r.rx r.tx r.time (length r.bytes) (length r.bytes)

pub record_is : (r : Rec) → six r ++ padded most_data r.bytes ≡ rec36.put r
unfolding numbers padded shown twelve
record_is r = shown_is r

pub record_put : (cell ys zs : List ℕ) (r : Rec) → length cell ≡ record_size → ys ≡ six r → zs ≡ padded most_data r.bytes → put_mid data_in most_data (ys ++ drop data_in cell) zs ≡ rec36.put r
record_put cell ys zs r h y z =
    two_parts data_in most_data cell ys zs h (ap length y ∙ numbers_long can_protocol r.rx r.tx r.time (length r.bytes) (length r.bytes))
    ∙ ap₂ (λ (a b : List ℕ). a ++ b) y z ∙ record_is r

-- ---- the record of a frame received

pub framed_long : (id : ℕ) (b : List ℕ) → length (id_bytes id ++ b) ≡ 4 + length b
framed_long id b = length-append (id_bytes id) b ∙ ap (λ (k : ℕ). k + length b) (id_long id)

pub received_put : (cell ys zs : List ℕ) (clock rx size id : ℕ) (b : List ℕ) → length cell ≡ record_size → size ≡ 4 + length b → ys ≡ numbers can_protocol rx 0 clock size size
    → zs ≡ padded (length (mid_of data_in most_data (ys ++ drop data_in cell))) (id_bytes id ++ b) → put_mid data_in most_data (ys ++ drop data_in cell) zs ≡ rec36.put (received clock rx (id_bytes id ++ b))
unfolding received
received_put cell ys zs clock rx size id b h es y z =
    record_put cell ys zs (received clock rx (id_bytes id ++ b)) h
    (y ∙ ap (λ (k : ℕ). numbers can_protocol rx 0 clock k k) (es ∙ sym (framed_long id b)))
    (z ∙ ap (λ (k : ℕ). padded k (id_bytes id ++ b)) (mid_long data_in most_data cell ys h (ap length y ∙ numbers_long can_protocol rx 0 clock size size)))
