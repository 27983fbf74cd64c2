-- What an open asks for in numbers and in bytes. Assumes nothing.
use mathlib.Core.Path.{◌≡◌, refl, sym, ap, ap₂, ◌∙◌}
use Prim.Native.Nat.{ℕ, ◌≤◌, ◌<◌}
use native.Mathlib.Omega.{arith}
use mathlib.Core.Bool.{Bool, true, false, ◌&&◌}
use mathlib.Core.List.{List, [], ◌∷◌, ◌++◌}
use lib.ListN.{length, get_or, set, drop, length-drop, drop_of_length-le}
use lib.Seq.{drop-drop}
use lib.Dec.{T, ltb→lt}
use borrow.Rule.Slice.PartMut.{put_mid, post_of}
use Rattle.codec.specs.Plain.{zeros}
use Rattle.codec.specs.Word.{word, word_at}
use Rattle.codec.specs.Code.{Code, byte, word32, both, via, such}
use Rattle.codec.proofs.Tests.{left, right, T_false, and_true}
use Rattle.codec.proofs.Lists.{zeros_join, drop_zeros}
use Rattle.telegram.specs.Bits.{within, is_byte}
use Rattle.telegram.specs.Telegram.{unused_time, own_connection, fits, is_application, is_destination, is_id, is_opening_id, fields_fit, opening_fits}
use Rattle.link.specs.Connection.{Asked, asked_fits, ours, set_up_of, waits, opening}
use Rattle.link_layout.specs.Sizes.{asked_size, link_size}
use Rattle.link_layout.specs.Connection.{asked_back, asked, trials, trial, connection_part}
use Rattle.link_layout.specs.Turned.{LinkPart}
use Rattle.link_layout.proofs.Bytes.{absent_bytes, opening_bytes}
use Rattle.link_layout.proofs.Talking.{asked_facts, asked_make}
use Rattle.link_layout.proofs.Places.{kept, state_is, is_absent}
use Rattle.stored_records.proofs.Parts.{Bytes, less, at_rest, byte_valid}
use Rattle.iso_stored.proofs.Rows.{number_got, number_valid, byte_got, byte_then}
use Rattle.link_asking.specs.Asking.{asked_of}

-- the tests, as they are made
pub fits_flat : (own d rx app bs t1 t3 : ℕ)
    → (is_opening_id own && (is_destination d && (is_id rx && is_application app)) && (within 1 15 bs && (is_byte t1 && is_byte t3))) ≡ asked_fits (asked_of own d rx app bs t1 t3)
unfolding asked_fits asked_of opening_fits fields_fit set_up_of fits ours own_connection unused_time
fits_flat own d rx app bs t1 t3 =
    ap (λ (b : Bool). is_opening_id own && (is_destination d && (is_id rx && is_application app)) && (within 1 15 bs && (is_byte t1 && b))) (sym (and_true (is_byte t3)))

-- a number that is no byte doesn't fit
module _ (a : Asked) where
  pub wide_destination : 255 < a.destination → false ≡ asked_fits a
  wide_destination h = sym (T_false (asked_fits a) (λ t. omega (arith, (asked_facts a t).destination_high)))

  pub wide_size : 255 < a.block_size → false ≡ asked_fits a
  wide_size h = sym (T_false (asked_fits a) (λ t. omega (arith, (asked_facts a t).block_size_high)))

  pub application_byte : T (asked_fits a) → a.application < 256
  unfolding asked_fits asked such via both byte
  application_byte t =
      let u = asked_make a t in
      ltb→lt a.application 256 (search (left, right) depth 9)

  pub wide_application : 255 < a.application → false ≡ asked_fits a
  wide_application h = sym (T_false (asked_fits a) (λ t. omega (arith, application_byte t)))

-- ---- in bytes

abbrev asked_in : List ℕ → Asked
asked_in m = asked_of (word_at 0 m) (get_or m 8 0) (word_at 4 m) (get_or m 9 0) (get_or m 10 0) (get_or m 11 0) (get_or m 12 0)

abbrev Last2 : Code (ℕ × ℕ)
Last2 = both byte byte

abbrev Last3 : Code (ℕ × (ℕ × ℕ))
Last3 = both byte Last2

abbrev Last4 : Code (ℕ × (ℕ × (ℕ × ℕ)))
Last4 = both byte Last3

abbrev Last5 : Code (ℕ × (ℕ × (ℕ × (ℕ × ℕ))))
Last5 = both byte Last4

abbrev Last6 : Code (ℕ × (ℕ × (ℕ × (ℕ × (ℕ × ℕ)))))
Last6 = both word32 Last5

module _ (m : List ℕ) where
  last_got : byte.get (drop 12 m) ≡ get_or m 12 0
  unfolding byte
  last_got = at_rest 12 m

  numbers_got : (both word32 Last6).get m ≡ (word_at 0 m, (word_at 4 m, (get_or m 8 0, (get_or m 9 0, (get_or m 10 0, (get_or m 11 0, get_or m 12 0))))))
  numbers_got =
      number_got Last6 0 4 m refl
      ∙ (λ i. (word_at 0 m, number_got Last5 4 8 m refl i))
      ∙ (λ i. (word_at 0 m, (word_at 4 m, byte_got Last4 8 9 m refl i)))
      ∙ (λ i. (word_at 0 m, (word_at 4 m, (get_or m 8 0, byte_got Last3 9 10 m refl i))))
      ∙ (λ i. (word_at 0 m, (word_at 4 m, (get_or m 8 0, (get_or m 9 0, byte_got Last2 10 11 m refl i)))))
      ∙ (λ i. (word_at 0 m, (word_at 4 m, (get_or m 8 0, (get_or m 9 0, (get_or m 10 0, byte_got byte 11 12 m refl i))))))
      ∙ (λ i. (word_at 0 m, (word_at 4 m, (get_or m 8 0, (get_or m 9 0, (get_or m 10 0, (get_or m 11 0, last_got i)))))))

  numbers_valid : Bytes m → (both word32 Last6).valid m ≡ true
  numbers_valid t =
      number_valid Last6 0 4 m refl t ∙ number_valid Last5 4 8 m refl t ∙ byte_then Last4 8 9 m refl t ∙ byte_then Last3 9 10 m refl t ∙ byte_then Last2 10 11 m refl t
      ∙ byte_then byte 11 12 m refl t ∙ byte_valid (drop 12 m) (less 12 m t)

  pub asked_got : asked.get m ≡ asked_in m
  unfolding asked such via asked_of
  asked_got = ap asked_back numbers_got

  pub asked_flat : Bytes m → asked_fits (asked_in m) ≡ asked.valid m
  unfolding asked such via
  asked_flat t = sym (ap₂ (λ (b : Bool) (a : Asked). b && asked_fits a) (numbers_valid t) (unfold asked such via in asked_got))

-- ---- stored

pub five : (a b c d e : ℕ) (r : List ℕ) → length r ≡ 5 → set (set (set (set (set r 0 a) 1 b) 2 c) 3 d) 4 e ≡ a ∷ b ∷ c ∷ d ∷ e ∷ []
five a b c d e [] h = absurd (omega arith)
five a b c d e (x1 ∷ []) h = absurd (omega arith)
five a b c d e (x1 ∷ x2 ∷ []) h = absurd (omega arith)
five a b c d e (x1 ∷ x2 ∷ x3 ∷ []) h = absurd (omega arith)
five a b c d e (x1 ∷ x2 ∷ x3 ∷ x4 ∷ []) h = absurd (omega arith)
five a b c d e (x1 ∷ x2 ∷ x3 ∷ x4 ∷ x5 ∷ []) h = refl
five a b c d e (x1 ∷ x2 ∷ x3 ∷ x4 ∷ x5 ∷ x6 ∷ r) h = absurd (omega arith)

pub asked_stored : (m v w x : List ℕ) → length m ≡ asked_size → (own d rx app bs t1 t3 : ℕ) → v ≡ word own → w ≡ word rx → x ≡ d ∷ app ∷ bs ∷ t1 ∷ t3 ∷ []
    → put_mid 8 5 (put_mid 4 4 (v ++ post_of 0 4 m) w) x ≡ asked.put (asked_of own d rx app bs t1 t3)
unfolding word asked such via both byte word32 asked_of
asked_stored m v w x h own d rx app bs t1 t3 ev ew ex =
    let r : List ℕ = drop 5 (drop 4 (drop 4 m)) in
    let none_left : r ≡ [] = drop_of_length-le (drop 4 (drop 4 m)) {i = 5} (omega (arith, length-drop 4 (drop 4 m), length-drop 4 m, h)) in
    ap₂ (λ (a b : List ℕ). put_mid 8 5 (put_mid 4 4 (a ++ post_of 0 4 m) b) x) ev ew
    ∙ ap₂ (λ (a b : List ℕ). word own ++ (word rx ++ (a ++ b))) ex none_left

-- ---- a connection that opens

first_set : (n v : ℕ) (m ys : List ℕ) → 1 ≤ length m → set (put_mid 1 n m ys) 0 v ≡ v ∷ (ys ++ drop n (drop 1 m))
first_set n v [] ys h = absurd (omega arith)
first_set n v (x ∷ m) ys h = refl

trials_none : trials.put (0, waits) ≡ zeros 6
unfolding trials trial both via such byte word32 word
trials_none = refl

pub opened : (m : List ℕ) → LinkPart m → get_or m 0 0 ≡ 0 → (a : Asked) (ys : List ℕ) → ys ≡ asked.put a → set (put_mid 1 13 m ys) 0 1 ≡ connection_part.put (opening a 0 waits)
opened m p e a ys y =
    let none : m ≡ zeros link_size = sym (kept m p) ∙ ap connection_part.put (is_absent _ (sym (state_is m p) ∙ e)) ∙ absent_bytes in
    let rest : drop 13 (drop 1 m) ≡ zeros 1077 = drop-drop 13 1 m ∙ ap (drop 14) none ∙ drop_zeros 14 1077 in
    let joined : zeros 4 ++ (zeros 6 ++ (zeros 5 ++ zeros 1062)) ≡ zeros 1077 =
    ap (λ (x : List ℕ). zeros 4 ++ (zeros 6 ++ x)) (zeros_join 5 1062 1067 refl) ∙ ap (λ (x : List ℕ). zeros 4 ++ x) (zeros_join 6 1067 1073 refl) ∙ zeros_join 4 1073 1077 refl in
    first_set 13 1 m ys (omega (arith, p.long))
    ∙ ap₂ (λ (x r : List ℕ). 1 ∷ (x ++ r)) y (rest ∙ sym joined ∙ ap (λ (x : List ℕ). zeros 4 ++ (x ++ (zeros 5 ++ zeros 1062))) (sym trials_none))
    ∙ sym (opening_bytes a 0 waits)
