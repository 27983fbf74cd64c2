-- What validity is of a stored record, as code finds it out. Assumes nothing.
use mathlib.Core.Path.{◌≡◌, refl, sym, ap, ap₂, ◌∙◌, subst}
use Prim.Native.Nat.{ℕ, ◌+◌, ◌*◌, ◌-◌, ◌≤◌, ◌<◌}
use native.Mathlib.Omega.{arith}
use mathlib.Core.Bool.{Bool, true, false, ◌&&◌, not}
use mathlib.Core.List.{List, [], ◌∷◌}
use lib.ListN.{length, get_or, take, drop, length-drop}
use lib.Seq.{get_or-take, drop-drop}
use lib.Dec.{T, eqb, leb, leb→le, eqb→eq}
use borrow.Author.Tests.{le-leb, lt-leb}
use Rattle.codec.specs.Plain.{within, member, all_zero}
use Rattle.codec.specs.Word.{word_at}
use Rattle.codec.specs.Code.{Code, byte, word32, both, via, such, many}
use Rattle.codec.proofs.Tests.{left, right, T_false, and_false}
use Rattle.codec.proofs.Word.{word_part, word_drop}
use Rattle.machine.specs.Limits.{record_size, most_data, rx_status_in, tx_flags_in, timestamp_in, size_in, extra_index_in, data_in}
use Rattle.machine.specs.Message.{id_of, id_limit, takes, bit}
use Rattle.machine.specs.Channel.{listens}
use Rattle.layout.specs.Record.{row, data_back, data_fits, body, rec36, width_fits, outgoing, incoming, out_cell, in_cell}
use Rattle.stored_records.specs.Held.{fields_of}
use Rattle.stored_records.proofs.Parts.{Bytes, less, rest_part, row_valid, row_got, behind_word}

-- ---- the data: size, extra index, twelve bytes

body_got : (m : List ℕ) → length m ≡ 20 → (both word32 (both word32 row)).get m ≡ (word_at 0 m, (word_at 4 m, drop 8 m))
unfolding both word32 row
body_got m h =
    let tail : (many most_data byte).get (drop 4 (drop 4 m)) ≡ drop 8 m = ap (λ (x : List ℕ). (many most_data byte).get x) (drop-drop 4 4 m) ∙ row_got most_data (drop 8 m) (length-drop 8 m ∙ omega arith) in
    λ i. (word_part 0 m i, (word_part 4 m i, tail i))

body_flat : (m : List ℕ) → length m ≡ 20 → Bytes m → body.valid m ≡ data_fits (word_at 0 m, (word_at 4 m, drop 8 m))
unfolding body via such row
body_flat m h t =
    let v : (both word32 (both word32 row)).valid m ≡ true = behind_word (both word32 row) m t ∙ behind_word row (drop 4 m) (less 4 m t) ∙ row_valid most_data (drop 4 (drop 4 m)) (less 4 (drop 4 m) (less 4 m t)) in
    ap₂ (λ (a : Bool) (p : ℕ × (ℕ × List ℕ)). a && data_fits p) v (body_got m h)

body_bytes : (m : List ℕ) → length m ≡ 20 → body.get m ≡ take (word_at 0 m) (drop 8 m)
unfolding body via such data_back
body_bytes m h = ap (λ (p : ℕ × (ℕ × List ℕ)). take p.0 p.1.1) (body_got m h)

-- ---- a record, whatever it waits for

first_word : {B : Type 0} (c : Code B) (m : List ℕ) → ((both word32 c).get m).0 ≡ word_at 0 m
unfolding both word32
first_word c m = word_part 0 m

pub id_take : (k : ℕ) (x : List ℕ) → 4 ≤ k → id_of (take k x) ≡ id_of x
unfolding id_of
id_take k x h =
    let g : (n : ℕ) → n < 4 → get_or (take k x) n 0 ≡ get_or x n 0 = λ n b. get_or-take k x n 0 (omega arith) in
    λ i. 16777216 * g 0 (omega arith) i + 65536 * g 1 (omega arith) i + 256 * g 2 (omega arith) i + g 3 (omega arith) i

-- three tests, the last two in either order
last_two : (a b c : Bool) → (a && b && c) ≡ (a && c && b)
last_two false b c = refl
last_two true true true = refl
last_two true true false = refl
last_two true false true = refl
last_two true false false = refl

module _ (m : List ℕ) (h : length m ≡ record_size) (t : Bytes m) where
  four_words : drop 4 (drop 4 (drop 4 (drop 4 m))) ≡ drop size_in m
  four_words = ap (λ (x : List ℕ). drop 4 (drop 4 x)) (drop-drop 4 4 m) ∙ ap (λ (x : List ℕ). drop 4 x) (drop-drop 4 8 m) ∙ drop-drop 4 12 m

  rest_long : length (drop size_in m) ≡ 20
  rest_long = length-drop size_in m ∙ omega arith

  rec_flat : rec36.valid m ≡ (data_fits (word_at size_in m, (word_at extra_index_in m, drop data_in m)) && eqb (word_at 0 m) 5)
  unfolding rec36 via such
  rec_flat =
      let c1 : Code (ℕ × List ℕ) = both word32 body in
      let c2 : Code (ℕ × (ℕ × List ℕ)) = both word32 c1 in
      let c3 : Code (ℕ × (ℕ × (ℕ × List ℕ))) = both word32 c2 in
      let t1 = less 4 m t in
      let t2 = less 4 (drop 4 m) t1 in
      let t3 = less 4 (drop 4 (drop 4 m)) t2 in
      let v : (both word32 c3).valid m ≡ body.valid (drop size_in m) =
      behind_word c3 m t ∙ behind_word c2 (drop 4 m) t1 ∙ behind_word c1 (drop 4 (drop 4 m)) t2 ∙ behind_word body (drop 4 (drop 4 (drop 4 m))) t3 ∙ ap body.valid four_words in
      let f : data_fits (word_at 0 (drop size_in m), (word_at 4 (drop size_in m), drop 8 (drop size_in m))) ≡ data_fits (word_at size_in m, (word_at extra_index_in m, drop data_in m)) =
      λ i. data_fits (word_drop 0 16 m i, (word_drop 4 16 m i, drop-drop 8 16 m i)) in
      ap₂ (λ (a : Bool) (n : ℕ). a && eqb n 5) (v ∙ body_flat (drop size_in m) rest_long (less 16 m t) ∙ f) (first_word c3 m)

  rec_got : rec36.get m ≡ record { rx = word_at rx_status_in m; tx = word_at tx_flags_in m; time = word_at timestamp_in m; bytes = take (word_at size_in m) (drop data_in m) }
  unfolding rec36 via such both word32
  rec_got =
      let d2 : drop 4 (drop 4 m) ≡ drop 8 m = drop-drop 4 4 m in
      let d3 : drop 4 (drop 4 (drop 4 m)) ≡ drop 12 m = ap (λ (x : List ℕ). drop 4 x) d2 ∙ drop-drop 4 8 m in
      let b : body.get (drop 4 (drop 4 (drop 4 (drop 4 m)))) ≡ take (word_at size_in m) (drop data_in m) =
      ap body.get four_words ∙ body_bytes (drop size_in m) rest_long ∙ ap₂ (λ (n : ℕ) (x : List ℕ). take n x) (word_drop 0 16 m) (drop-drop 8 16 m) in
      λ i. record {
        rx = word_part 4 m i;
        tx = (ap (λ (x : List ℕ). word_at 0 (take 4 x)) d2 ∙ word_part 8 m) i;
        time = (ap (λ (x : List ℕ). word_at 0 (take 4 x)) d3 ∙ word_part 12 m) i;
        bytes = b i;
      }

  -- a size out of range
  rec_bad : within 4 most_data (word_at size_in m) ≡ false → false ≡ rec36.valid m
  unfolding data_fits
  rec_bad e = sym (rec_flat ∙ ap (λ (x : Bool). (x && eqb (word_at extra_index_in m) (word_at size_in m) && all_zero (drop (word_at size_in m) (drop data_in m))) && eqb (word_at 0 m) 5) e)

  pub rec_small : word_at size_in m < 4 → false ≡ rec36.valid m
  unfolding within
  rec_small b = rec_bad (ap (λ (x : Bool). x && leb (word_at size_in m) most_data) (lt-leb 4 (word_at size_in m) b))

  pub rec_large : most_data < word_at size_in m → false ≡ rec36.valid m
  unfolding within
  rec_large b = rec_bad (ap (λ (x : Bool). leb 4 (word_at size_in m) && x) (lt-leb (word_at size_in m) most_data b) ∙ and_false (leb 4 (word_at size_in m)))

  -- a size in range: after the identifier, zeros from the size on
  pub rec_good : 4 ≤ word_at size_in m → word_at size_in m ≤ most_data
      → (eqb (word_at extra_index_in m) (word_at size_in m) && eqb (word_at 0 m) 5 && all_zero (drop (word_at size_in m - 4) (take 8 (drop 28 m)))) ≡ rec36.valid m
  unfolding data_fits within
  rec_good a b =
      let n : ℕ = word_at size_in m in
      let yes : (leb 4 n && leb n most_data) ≡ true = ap₂ (λ (x y : Bool). x && y) (le-leb 4 n a) (le-leb n most_data b) in
      let s : 24 + n ≡ 28 + (n - 4) = omega arith in
      let z : drop n (drop data_in m) ≡ drop (n - 4) (take 8 (drop 28 m)) =
      drop-drop n 24 m ∙ ap (λ (k : ℕ). drop k m) s ∙ sym (drop-drop (n - 4) 28 m) ∙ ap (λ (x : List ℕ). drop (n - 4) x) (sym (rest_part 28 8 m h)) in
      last_two (eqb (word_at extra_index_in m) n) (eqb (word_at 0 m) 5) (all_zero (drop (n - 4) (take 8 (drop 28 m))))
      ∙ sym (rec_flat ∙ ap₂ (λ (x : Bool) (y : List ℕ). (x && eqb (word_at extra_index_in m) n && all_zero y) && eqb (word_at 0 m) 5) yes z)

  -- a valid record has four bytes of identifier, and its protocol is 5
  rec_four : T (rec36.valid m) → 4 ≤ word_at size_in m
  unfolding data_fits within
  rec_four v =
      let n : ℕ = word_at size_in m in
      let a : Bool = leb 4 n && leb n most_data in
      let d = left (data_fits (n, (word_at extra_index_in m, drop data_in m))) (eqb (word_at 0 m) 5) (subst T rec_flat v) in
      let w = left a (eqb (word_at extra_index_in m) n) (left (a && eqb (word_at extra_index_in m) n) (all_zero (drop n (drop data_in m))) d) in
      leb→le 4 n (left (leb 4 n) (leb n most_data) w)

  rec_five : T (rec36.valid m) → word_at 0 m ≡ 5
  rec_five v = eqb→eq (word_at 0 m) 5 (right (data_fits (word_at size_in m, (word_at extra_index_in m, drop data_in m))) (eqb (word_at 0 m) 5) (subst T rec_flat v))

  -- a test on the record, where it is one
  under : (p q : Bool) → (T (rec36.valid m) → p ≡ q) → (rec36.valid m && p) ≡ (rec36.valid m && q)
  under p q f = go (rec36.valid m) f
    where
      go : (b : Bool) → (T b → p ≡ q) → (b && p) ≡ (b && q)
      go true f = f tt
      go false f = refl

  same_id : T (rec36.valid m) → id_of (take (word_at size_in m) (drop data_in m)) ≡ id_of (drop data_in m)
  same_id v = id_take (word_at size_in m) (drop data_in m) (rec_four v)

  module _ (flags : ℕ) where
    fits_same : (wide : Bool) → T (rec36.valid m) → width_fits flags wide (drop data_in m) ≡ width_fits flags wide (take (word_at size_in m) (drop data_in m))
    unfolding width_fits
    fits_same wide v = ap (λ (n : ℕ). leb n (id_limit wide) && takes flags wide) (sym (same_id v))

    -- HELD FOR SENDING, HELD FOR READING
    pub out_flat : (rec36.valid m && outgoing flags (fields_of m)) ≡ (out_cell flags).valid m
    unfolding out_cell such outgoing fields_of
    out_flat =
        under _ _ (λ v.
        ap (λ (b : Bool). eqb (word_at rx_status_in m) 0 && member (word_at tx_flags_in m) (0 ∷ 0x100 ∷ []) && eqb (word_at timestamp_in m) 0 && b && not (listens flags)) (fits_same (bit 0x100 (word_at tx_flags_in m)) v)
        ∙ sym (ap (outgoing flags) rec_got))

    pub in_flat : (rec36.valid m && incoming flags (fields_of m)) ≡ (in_cell flags).valid m
    unfolding in_cell such incoming fields_of
    in_flat =
        under _ _ (λ v.
        ap (λ (b : Bool). member (word_at rx_status_in m) (0 ∷ 1 ∷ 0x100 ∷ 0x101 ∷ []) && eqb (word_at tx_flags_in m) 0 && b) (fits_same (bit 0x100 (word_at rx_status_in m)) v)
        ∙ sym (ap (incoming flags) rec_got))

    -- a record that begins with 0 is none
    pub out_none : get_or m 0 0 ≡ 0 → (out_cell flags).valid m ≡ false
    unfolding out_cell such word_at
    out_none e = T_false _ (λ v. let five = rec_five (left (rec36.valid m) (outgoing flags (rec36.get m)) v) in omega arith)
