-- The record of an echo: what the bytes of a record that is held to be sent say, and that an identifier and its data are that record's bytes again.
-- Assumes nothing.
use mathlib.Core.Path.{◌≡◌, refl, sym, ap, ap₂, ◌∙◌, subst}
use Prim.Native.Nat.{ℕ, ◌+◌, ◌-◌, ◌^◌, ◌≤◌, ◌<◌}
use native.Mathlib.Omega.{arith}
use mathlib.Core.Bool.{true, false, not, ◌&&◌, ◌||◌}
use mathlib.Core.List.{List, [], ◌∷◌, ◌++◌}
use lib.ListN.{length, get_or, take, drop}
use lib.Seq.{take_at, drop-drop}
use lib.Dec.{T, eqb, leb, eqb→eq, leb→le, ltb→lt}
use Rattle.codec.specs.Plain.{all, is_byte, within, member, zeros, all_zero}
use Rattle.codec.specs.Word.{word, word_at}
use Rattle.codec.specs.Code.{byte, word32, both, via, such, many}
use Rattle.codec.proofs.Tests.{left, right, join, or_either}
use Rattle.codec.proofs.Lists.{all_drop}
use Rattle.codec.proofs.Lawful.{such_test, such_under, both_first, both_second}
use Rattle.codec.proofs.Word.{word_back, word_there}
use Rattle.machine.specs.Limits.{record_size, tx_flags_in, size_in, data_in, most_data}
use Rattle.machine.specs.Message.{bit, id_of, id_bytes, Rec, twelve, received}
use Rattle.machine.specs.Channel.{listens}
use Rattle.layout.specs.Sizes.{number_size}
use Rattle.layout.specs.Record.{row, rec36, rec_parts, body, data_parts, data_fits, width_fits, outgoing, out_cell}
use Rattle.layout.proofs.Memory.{rec_lawful}
use Rattle.records.specs.Cell.{numbers, padded}
use Rattle.records.proofs.Laws.{record_is}
use Rattle.receiving.specs.Outgoing.{Outgoing}

-- ---- four bytes as an identifier, and what follows them

-- the lowest four bytes of a word, highest first
high_first : List ℕ → List ℕ
high_first w = get_or w 3 0 ∷ get_or w 2 0 ∷ get_or w 1 0 ∷ get_or w 0 0 ∷ []

pub id_there : (a b c d : ℕ) (t : List ℕ) → T (all is_byte (a ∷ b ∷ c ∷ d ∷ t)) → id_bytes (id_of (a ∷ b ∷ c ∷ d ∷ t)) ≡ a ∷ b ∷ c ∷ d ∷ []
unfolding id_bytes id_of word word_at high_first
id_there a b c d t u =
    let u1 = right (is_byte a) (all is_byte (b ∷ c ∷ d ∷ t)) u in
    let u2 = right (is_byte b) (all is_byte (c ∷ d ∷ t)) u1 in
    let u3 = right (is_byte c) (all is_byte (d ∷ t)) u2 in
    let v : T (all is_byte (d ∷ c ∷ b ∷ a ∷ [])) =
    join (is_byte d) _ (left (is_byte d) (all is_byte t) u3)
    (join (is_byte c) _ (left (is_byte c) (all is_byte (d ∷ t)) u2) (join (is_byte b) _ (left (is_byte b) (all is_byte (c ∷ d ∷ t)) u1) (join (is_byte a) true (left (is_byte a) (all is_byte (b ∷ c ∷ d ∷ t)) u) tt))) in
    let n : id_of (a ∷ b ∷ c ∷ d ∷ t) ≡ word_at 0 (d ∷ c ∷ b ∷ a ∷ []) = omega arith in
    ap high_first (ap word n ∙ word_there d c b a v)

frame_there : (b z : List ℕ) → 4 ≤ length b → T (all is_byte (b ++ z)) → id_bytes (id_of (b ++ z)) ++ take (length b - 4) (drop 4 (b ++ z)) ≡ b
frame_there [] z h u = absurd (omega arith)
frame_there (a ∷ []) z h u = absurd (omega arith)
frame_there (a ∷ b ∷ []) z h u = absurd (omega arith)
frame_there (a ∷ b ∷ c ∷ []) z h u = absurd (omega arith)
frame_there (a ∷ b ∷ c ∷ d ∷ t) z h u =
    let e : length (a ∷ b ∷ c ∷ d ∷ t) - 4 ≡ length t = omega arith in
    ap₂ (λ (x y : List ℕ). x ++ y) (id_there a b c d (t ++ z) u) (ap (λ (k : ℕ). take k (t ++ z)) e ∙ take_at t z (length t) refl)

-- ---- what the bytes of a record say

module _ (x : Rec) (t : T (rec36.ok x)) where
  fields_ok : T ((both word32 (both word32 (both word32 (both word32 body)))).ok (rec_parts x))
  unfolding rec36 via
  fields_ok = such_under (both word32 (both word32 (both word32 (both word32 body)))) (λ p. eqb p.0 5) (rec_parts x) t

  behind_rx : T ((both word32 (both word32 body)).ok (x.tx, (x.time, x.bytes)))
  behind_rx = both_second word32 (both word32 (both word32 body)) (rec_parts x).1 (both_second word32 (both word32 (both word32 (both word32 body))) (rec_parts x) fields_ok)

  tx_fits : x.tx < 2 ^ 32
  unfolding word32
  tx_fits = ltb→lt x.tx (2 ^ 32) (both_first word32 (both word32 body) (x.tx, (x.time, x.bytes)) behind_rx)

  data_ok : T (data_fits (data_parts x.bytes))
  unfolding body via
  data_ok = such_test (both word32 (both word32 row)) data_fits (data_parts x.bytes) (both_second word32 body (x.time, x.bytes) (both_second word32 (both word32 body) (x.tx, (x.time, x.bytes)) behind_rx))

  sized : (4 ≤ length x.bytes) × (length x.bytes ≤ most_data)
  unfolding data_fits data_parts within
  sized =
      let n = length x.bytes in
      let e = eqb n n in
      let z = all_zero (drop n (twelve x.bytes)) in
      let u = left (leb 4 n && leb n most_data) e (left (leb 4 n && leb n most_data && e) z data_ok) in
      (leb→le 4 n (left (leb 4 n) (leb n most_data) u), leb→le n most_data (right (leb 4 n) (leb n most_data) u))

  tx_at : word_at tx_flags_in (rec36.put x) ≡ x.tx
  unfolding numbers word word_at
  tx_at = ap (word_at tx_flags_in) (sym (record_is x)) ∙ word_back x.tx tx_fits

  size_at_law : word_at size_in (rec36.put x) ≡ length x.bytes
  unfolding numbers word word_at
  size_at_law = ap (word_at size_in) (sym (record_is x)) ∙ word_back (length x.bytes) (omega (arith, sized.1))

  data_at : drop data_in (rec36.put x) ≡ x.bytes ++ zeros (most_data - length x.bytes)
  unfolding numbers word padded
  data_at = ap (λ (m : List ℕ). drop data_in m) (sym (record_is x))

-- ---- a record that is held to be sent, and its echo

module _ (m : List ℕ) (o : Outgoing m) where
  abbrev x : Rec
  x = rec36.get m

  rec_size : rec36.size ≡ record_size
  unfolding rec36 body row via such both many word32 byte
  rec_size = refl

  valid : T (rec36.valid m)
  unfolding out_cell such
  valid = left (rec36.valid m) (outgoing o.flags x) o.valid

  tests : T (outgoing o.flags x)
  unfolding out_cell such
  tests = right (rec36.valid m) (outgoing o.flags x) o.valid

  held : rec36.put x ≡ m
  held = rec_lawful.put_get m (o.long ∙ sym rec_size) valid

  fine : T (rec36.ok x)
  fine = rec_lawful.ok_get m (o.long ∙ sym rec_size) valid

  tx_is : word_at tx_flags_in m ≡ x.tx
  tx_is = ap (word_at tx_flags_in) (sym held) ∙ tx_at x fine

  size_is : word_at size_in m ≡ length x.bytes
  size_is = ap (word_at size_in) (sym held) ∙ size_at_law x fine

  -- its TxFlags are 0 or 256, and its size 4 to 12
  tx_small : x.tx ≤ 0x100
  unfolding outgoing member
  tx_small =
      let a = eqb x.rx 0 in
      let b = member x.tx (0 ∷ 0x100 ∷ []) in
      let c = eqb x.time 0 in
      let d = width_fits o.flags (bit 0x100 x.tx) x.bytes in
      let e = not (listens o.flags) in
      or_either (eqb x.tx 0) (eqb x.tx 0x100 || false) (λ e. omega (arith, eqb→eq x.tx 0 e))
      (or_either (eqb x.tx 0x100) false (λ e. omega (arith, eqb→eq x.tx 0x100 e)) (λ e. absurd e))
      (right a b (left (a && b) c (left (a && b && c) d (left (a && b && c && d) e tests))))

  pub limits : (word_at tx_flags_in m ≤ 0x100) × (4 ≤ word_at size_in m) × (word_at size_in m ≤ most_data)
  limits = (omega (arith, tx_is, tx_small), omega (arith, size_is, (sized x fine).0), omega (arith, size_is, (sized x fine).1))

  -- the record of the frame that it was, with RxStatus bit 0
  pub echo_is : (clock rx size id : ℕ) → T (all is_byte m) → rx ≡ word_at tx_flags_in m → size ≡ word_at size_in m → id ≡ id_of (drop data_in m)
      → received clock (rx + 1) (id_bytes id ++ take (data_in + size - (data_in + number_size)) (drop (data_in + number_size) m)) ≡ received clock (x.tx + 1) x.bytes
  echo_is clock rx size id u er es ei =
      let z : List ℕ = zeros (most_data - length x.bytes) in
      let d : drop data_in m ≡ x.bytes ++ z = ap (λ (y : List ℕ). drop data_in y) (sym held) ∙ data_at x fine in
      let k : data_in + size - (data_in + number_size) ≡ length x.bytes - 4 = omega (arith, size_is) in
      let b : id_bytes id ++ take (data_in + size - (data_in + number_size)) (drop (data_in + number_size) m) ≡ x.bytes =
      ap₂ (λ (n : ℕ) (y : List ℕ). id_bytes n ++ y) (ei ∙ ap id_of d) (ap₂ (λ (j : ℕ) (y : List ℕ). take j y) k (sym (drop-drop number_size data_in m) ∙ ap (λ (y : List ℕ). drop 4 y) d))
      ∙ frame_there x.bytes z (sized x fine).0 (subst (λ (y : List ℕ). T (all is_byte y)) d (all_drop is_byte data_in m u)) in
      ap₂ (λ (n : ℕ) (y : List ℕ). received clock (n + 1) y) (er ∙ tx_is) b
