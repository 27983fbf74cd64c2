-- What fits in a standing connection, as code finds it out. Assumes nothing.
use mathlib.Core.Path.{◌≡◌, refl, sym, ap, ap₂, ◌∙◌, subst}
use Prim.Native.Nat.{ℕ, zero, suc, ◌+◌, ◌*◌, ◌≤◌, ◌<◌}
use native.Mathlib.Omega.{arith}
use mathlib.Core.Bool.{Bool, true, false, not, ◌&&◌, ◌||◌}
use mathlib.Core.List.{List}
use lib.ListN.{length, get_or, take, drop, length-drop}
use lib.Seq.{get_or-take, get_or-drop, drop-drop, length-take-le}
use lib.Dec.{T, eqb, leb, ltb}
use borrow.Author.Tests.{ne_eqb}
use Rattle.codec.specs.Plain.{within, all, is_byte}
use Rattle.codec.specs.Word.{word_at}
use Rattle.codec.specs.Code.{Code, byte, word32, both, via, such, mark, text}
use Rattle.codec.proofs.Lists.{all_take}
use Rattle.codec.proofs.Tests.{left, right}
use Rattle.stored_records.proofs.Parts.{Bytes, less, both_is, rest_part, part_within}
use Rattle.iso_stored.proofs.Rows.{number_got, number_valid, byte_got, byte_then, mark_then_got}
use Rattle.link.specs.Connection.{longest, t_wait, t_test, mnct, micros, Asked, Out, Talk, Hear, Care, Wire, Link}
use Rattle.link_layout.specs.Sizes.{text_size, out_size, hear_size, standing_size}
use Rattle.link_layout.specs.Connection.{Which, wire_of, wire, out, talk_back, talk, ack, hear_back, hear, care_back, care, link_back, link, is_data, is_test, space_fits, out_in, link_fits}
use Rattle.link_layout.proofs.Bytes.{wire_size, care_size_law, talk_size_law}
use Rattle.link_checks.proofs.Parts.{word_got, hear_flat}

-- ---- the tag of the line

pub space_is : (k us pace : ℕ) → (not (eqb k 0) || leb us (micros pace)) ≡ space_fits pace (wire_of k us)
space_is zero us pace = refl
space_is (suc zero) us pace = refl
space_is (suc (suc zero)) us pace = refl
space_is (suc (suc (suc k))) us pace = ap (λ (b : Bool). not b || leb us (micros pace)) (ne_eqb (suc (suc (suc k))) 0 (λ e. absurd (omega arith)))

pub data_is : (k us : ℕ) → eqb k 1 ≡ is_data (wire_of k us)
data_is zero us = refl
data_is (suc zero) us = refl
data_is (suc (suc zero)) us = refl
data_is (suc (suc (suc k))) us = ne_eqb (suc (suc (suc k))) 1 (λ e. absurd (omega arith))

pub test_is : (k us : ℕ) → eqb k 2 ≡ is_test (wire_of k us)
test_is zero us = refl
test_is (suc zero) us = refl
test_is (suc (suc zero)) us = refl
test_is (suc (suc (suc k))) us = ne_eqb (suc (suc (suc k))) 2 (λ e. absurd (omega arith))

-- ---- a byte and a number in a part

pub byte_within : (a n k : ℕ) (m : List ℕ) → k < n → get_or (take n (drop a m)) k 0 ≡ get_or m (a + k) 0
byte_within a n k m h = get_or-take n (drop a m) k 0 h ∙ get_or-drop a m k 0

word_within : (a n k : ℕ) (m : List ℕ) → k + 4 ≤ n → word_at k (take n (drop a m)) ≡ word_at (a + k) m
unfolding word_at
word_within a n k m h =
    let b : (i : ℕ) → i < 4 → get_or (take n (drop a m)) (k + i) 0 ≡ get_or m (a + k + i) 0 =
    λ i g. let s : a + (k + i) ≡ a + k + i = omega arith in byte_within a n (k + i) m (omega arith) ∙ ap (λ (j : ℕ). get_or m j 0) s in
    λ j. byte_within a n k m (omega arith) j + 0x100 * b 1 (omega arith) j + 0x1_0000 * b 2 (omega arith) j + 0x100_0000 * b 3 (omega arith) j

-- ---- the parts, each where it lies

abbrev Part1 : Code (Talk × Hear)
Part1 = both talk hear

abbrev Part2 : Code (Care × (Talk × Hear))
Part2 = both care Part1

abbrev Part3 : Code (Wire × (Care × (Talk × Hear)))
Part3 = both wire Part2

abbrev Part4 : Code (ℕ × (Wire × (Care × (Talk × Hear))))
Part4 = both byte Part3

abbrev wire_bytes : List ℕ → List ℕ
wire_bytes m = take 5 (drop 2 m)

abbrev care_bytes : List ℕ → List ℕ
care_bytes m = take 7 (drop 7 m)

abbrev talk_bytes : List ℕ → List ℕ
talk_bytes m = take 529 (drop 14 m)

abbrev out_bytes : List ℕ → List ℕ
out_bytes m = take 524 (drop 19 m)

pub both_got : {A B : Type 0} (a : Code A) (b : Code B) (j k n : ℕ) (m : List ℕ) → a.size ≡ n → k + n ≡ j → (both a b).get (drop k m) ≡ (a.get (take n (drop k m)), b.get (drop j m))
unfolding both
both_got a b j k n m e f =
    ap (λ (i : ℕ). (a.get (take i (drop k m)), b.get (drop i (drop k m)))) e
    ∙ (λ i. (a.get (take n (drop k m)), b.get ((drop-drop n k m ∙ ap (λ (o : ℕ). drop o m) f) i)))

pub both_valid : {A B : Type 0} (a : Code A) (b : Code B) (j k n : ℕ) (m : List ℕ) → a.size ≡ n → k + n ≡ j → (both a b).valid (drop k m) ≡ (a.valid (take n (drop k m)) && b.valid (drop j m))
both_valid a b j k n m e f = both_is a b n (drop k m) e ∙ ap (λ (x : List ℕ). a.valid (take n (drop k m)) && b.valid x) (drop-drop n k m ∙ ap (λ (o : ℕ). drop o m) f)

module _ (m : List ℕ) (h : length m ≡ standing_size) where
  out_bytes_law : drop 5 (talk_bytes m) ≡ out_bytes m
  out_bytes_law =
      let long : length (talk_bytes m) ≡ 529 = length-take-le 529 (drop 14 m) (omega (arith, length-drop 14 m)) in
      sym (rest_part 5 524 (talk_bytes m) long) ∙ part_within 5 524 529 (drop 14 m) (omega arith) ∙ ap (take 524) (drop-drop 5 14 m)

  hear_bytes : take hear_size (drop 543 m) ≡ drop 543 m
  hear_bytes = rest_part 543 hear_size m h

  module _ (t : Bytes m) where
    talk_valid : talk.valid (talk_bytes m) ≡ out.valid (out_bytes m)
    unfolding talk via
    talk_valid =
        let b : Bytes (talk_bytes m) = all_take is_byte 529 (drop 14 m) (less 14 m t) in
        number_valid (both byte out) 0 4 (talk_bytes m) refl b ∙ byte_then out 4 5 (talk_bytes m) refl b ∙ ap out.valid out_bytes_law

    pub parts_flat : (wire.valid (wire_bytes m) && (care.valid (care_bytes m) && (out.valid (out_bytes m) && hear.valid (take hear_size (drop 543 m))))) ≡ link.valid m
    unfolding link via
    parts_flat =
        sym (byte_then Part4 0 1 m refl t ∙ byte_then Part3 1 2 m refl t ∙ both_valid wire Part2 7 2 5 m wire_size refl
        ∙ ap (λ (b : Bool). wire.valid (wire_bytes m) && b)
        (both_valid care Part1 14 7 7 m care_size_law refl
        ∙ ap (λ (b : Bool). care.valid (care_bytes m) && b)
        (both_valid talk hear 543 14 529 m talk_size_law refl ∙ ap₂ (λ (b : Bool) (x : List ℕ). b && hear.valid x) talk_valid (sym hear_bytes))))

    -- ---- the values

    part_bytes : (k n : ℕ) → Bytes (take n (drop k m))
    part_bytes k n = all_take is_byte n (drop k m) (less k m t)

    wire_got : wire.get (wire_bytes m) ≡ wire_of (get_or m 2 0) (word_at 3 m)
    unfolding wire via such
    wire_got =
        let x : List ℕ = wire_bytes m in
        ap (λ (p : ℕ × ℕ). wire_of p.0 p.1)
        (byte_got word32 0 1 x refl ∙ (λ i. (byte_within 2 5 0 m (omega arith) i, (word_got x (part_bytes 2 5) 1 ∙ word_within 2 5 1 m (omega arith)) i)))

    care_got : care.get (care_bytes m) ≡ care_back (eqb 1 (get_or m 7 0), (eqb 1 (get_or m 8 0), (get_or m 9 0, word_at 10 m)))
    unfolding care via
    care_got =
        let x : List ℕ = care_bytes m in
        ap care_back
        (mark_then_got (both mark (both byte word32)) 0 1 x refl
        ∙ (λ i. (eqb 1 (byte_within 7 7 0 m (omega arith) i), mark_then_got (both byte word32) 1 2 x refl i))
        ∙ (λ i. (eqb 1 (get_or m 7 0), (eqb 1 (byte_within 7 7 1 m (omega arith) i), byte_got word32 2 3 x refl i)))
        ∙ (λ i. (eqb 1 (get_or m 7 0), (eqb 1 (get_or m 8 0), (byte_within 7 7 2 m (omega arith) i, (word_got x (part_bytes 7 7) 3 ∙ word_within 7 7 3 m (omega arith)) i)))))

    talk_got : talk.get (talk_bytes m) ≡ talk_back (word_at 14 m, (get_or m 18 0, out.get (out_bytes m)))
    unfolding talk via
    talk_got =
        let x : List ℕ = talk_bytes m in
        ap talk_back
        (number_got (both byte out) 0 4 x refl
        ∙ (λ i. (word_within 14 529 0 m (omega arith) i, byte_got out 4 5 x refl i))
        ∙ (λ i. (word_at 14 m, (byte_within 14 529 4 m (omega arith) i, out.get (out_bytes_law i)))))

    hear_got : hear.get (drop 543 m) ≡ hear_back (get_or m 543 0, (ack.get (take 1 (drop 544 m)), (eqb 1 (get_or m 545 0), (text longest).get (drop 546 m))))
    unfolding hear via
    hear_got =
        ap hear_back
        (byte_got (both ack (both mark (text longest))) 543 544 m refl
        ∙ (λ i. (get_or m 543 0, both_got ack (both mark (text longest)) 545 544 1 m (unfold ack via such byte in refl) refl i))
        ∙ (λ i. (get_or m 543 0, (ack.get (take 1 (drop 544 m)), mark_then_got (text longest) 545 546 m refl i))))

    abbrev link_in : Link
    link_in =
        link_back
        (get_or m 0 0, (get_or m 1 0, (wire_of (get_or m 2 0) (word_at 3 m), (care_back (eqb 1 (get_or m 7 0), (eqb 1 (get_or m 8 0), (get_or m 9 0, word_at 10 m))), (talk_back (word_at 14 m, (get_or m 18 0, out.get (out_bytes m))), hear_back (get_or m 543 0, (ack.get (take 1 (drop 544 m)), (eqb 1 (get_or m 545 0), (text longest).get (drop 546 m)))))))))

    link_got : link.get m ≡ link_in
    unfolding link via
    link_got =
        ap link_back
        (byte_got Part4 0 1 m refl
        ∙ (λ i. (get_or m 0 0, byte_got Part3 1 2 m refl i))
        ∙ (λ i. (get_or m 0 0, (get_or m 1 0, both_got wire Part2 7 2 5 m wire_size refl i)))
        ∙ (λ i. (get_or m 0 0, (get_or m 1 0, (wire_got i, both_got care Part1 14 7 7 m care_size_law refl i))))
        ∙ (λ i. (get_or m 0 0, (get_or m 1 0, (wire_of (get_or m 2 0) (word_at 3 m), (care_got i, both_got talk hear 543 14 529 m talk_size_law refl i)))))
        ∙ (λ i.
        (get_or m 0 0, (get_or m 1 0, (wire_of (get_or m 2 0) (word_at 3 m), (care_back (eqb 1 (get_or m 7 0), (eqb 1 (get_or m 8 0), (get_or m 9 0, word_at 10 m))), (talk_got i, hear_got i)))))))

    -- ---- what is known of valid ones

    received : take text_size (drop 3 (take hear_size (drop 543 m))) ≡ take text_size (drop 546 m)
    received = part_within 3 text_size hear_size (drop 543 m) (omega arith) ∙ ap (take text_size) (drop-drop 3 543 m)

    pub tail_is : take text_size (drop 546 m) ≡ drop 546 m
    tail_is = rest_part 546 text_size m h

    module _ (v : T (link.valid m)) where
      all_four : T (wire.valid (wire_bytes m) && (care.valid (care_bytes m) && (out.valid (out_bytes m) && hear.valid (take hear_size (drop 543 m)))))
      all_four = subst T (sym parts_flat) v

      pub out_there : T (out.valid (out_bytes m))
      out_there = let u = all_four in search (left, right)

      pub store_there : T ((text longest).valid (take text_size (drop 546 m)))
      store_there =
          let u = all_four in
          let k : T (hear.valid (take hear_size (drop 543 m))) = search (left, right) in
          let x : List ℕ = take hear_size (drop 543 m) in
          let long : length x ≡ hear_size = length-take-le hear_size (drop 543 m) (omega (arith, length-drop 543 m)) in
          let w : T (leb (get_or x 1 0) 2 && (leb (get_or x 2 0) 1 && (text longest).valid (take text_size (drop 3 x)))) = subst T (sym (hear_flat x (part_bytes 543 hear_size) long)) k in
          subst (λ (y : List ℕ). T ((text longest).valid y)) received (search right)

    -- ---- the tests, as they are made

    pub limits_flat : (a : Asked) (most t1 n u : ℕ) (b : Bool) → a.block_size ≡ most → a.t1 ≡ t1 → b ≡ out_in t1 (get_or m 0 0) (eqb (get_or m 2 0) 1) (out.get (out_bytes m))
        → n ≡ length ((text longest).get (take text_size (drop 546 m))) → u ≡ micros (get_or m 1 0)
        → ((leb 1 (get_or m 0 0) && leb (get_or m 0 0) most) && (not (eqb (get_or m 2 0) 0) || leb (word_at 3 m) u) && leb (word_at 14 m) t_wait && leb (get_or m 18 0) 15 && b && leb (get_or m 543 0) 15
        && (not (eqb 1 (get_or m 545 0)) || ltb 0 n) && ltb (get_or m 9 0) 7 && leb (word_at 10 m) t_test && (ltb 0 (word_at 10 m) || (eqb 1 (get_or m 8 0) || eqb (get_or m 2 0) 2)))
        ≡ link_fits a (link.get m)
    unfolding link_fits within
    limits_flat a most t1 n u b es et eb en eu =
        let k : ℕ = get_or m 2 0 in
        let us : ℕ = word_at 3 m in
        let o : b ≡ out_in a.t1 (get_or m 0 0) (is_data (wire_of k us)) (out.get (out_bytes m)) =
        eb ∙ (λ j. out_in (sym et j) (get_or m 0 0) (data_is k us j) (out.get (out_bytes m))) in
        let size : n ≡ length ((text longest).get (drop 546 m)) = en ∙ ap (λ (x : List ℕ). length ((text longest).get x)) tail_is in
        let space : (not (eqb k 0) || leb us u) ≡ space_fits (get_or m 1 0) (wire_of k us) = ap (λ (x : ℕ). not (eqb k 0) || leb us x) eu ∙ space_is k us (get_or m 1 0) in
        (λ j.
        (leb 1 (get_or m 0 0) && leb (get_or m 0 0) (sym es j)) && space j && leb (word_at 14 m) t_wait && leb (get_or m 18 0) 15 && o j && leb (get_or m 543 0) 15
        && (not (eqb 1 (get_or m 545 0)) || ltb 0 (size j)) && ltb (get_or m 9 0) 7 && leb (word_at 10 m) t_test && (ltb 0 (word_at 10 m) || (eqb 1 (get_or m 8 0) || test_is k us j)))
        ∙ ap (link_fits a) (sym link_got)
