-- What validity is of a payload and of a transfer, as code finds it out. Assumes nothing.
use mathlib.Core.Path.{◌≡◌, refl, sym, ap, ap₂, ◌∙◌, subst}
use Prim.Native.Nat.{ℕ, ◌+◌, ◌≤◌, ◌<◌}
use native.Mathlib.Omega.{arith}
use mathlib.Core.Bool.{Bool, true, false, ◌&&◌}
use mathlib.Core.List.{List}
use lib.ListN.{length, get_or, take, drop, length-drop}
use lib.Seq.{drop-drop, take_all, length-take-le}
use lib.Dec.{T, eqb, leb, leb→le}
use borrow.Author.Tests.{le-leb, lt-leb}
use Rattle.codec.specs.Plain.{all_zero}
use Rattle.codec.specs.Word.{word_at}
use Rattle.codec.specs.Code.{Code, byte, word32, both, via, such, mark, many}
use Rattle.codec.proofs.Tests.{left, right}
use Rattle.codec.proofs.Word.{word_drop}
use Rattle.layout.specs.Sizes.{number_size}
use Rattle.iso.specs.Limits.{most_payload}
use Rattle.iso_layout.specs.Sizes.{payload_size, count_in, time_in, left_in, gap_in, go_on_in, payload_in, transfer_in, talk_size}
use Rattle.iso_layout.specs.Region.{payload_back, payload_fits, payload508, Transferred, transferred, transfer_fits, transfer_plain, transfer_code}
use Rattle.stored_records.proofs.Parts.{Bytes, less, row_valid, row_got}
use Rattle.iso_stored.proofs.Rows.{number_got, number_valid, byte_got, byte_then, mark_then_got, mark_then}

-- ---- a payload

module _ (m : List ℕ) (h : length m ≡ payload_size) where
  abbrev Bytes508 : Code (List ℕ)
  Bytes508 = many most_payload byte

  rest_long : length (drop number_size m) ≡ most_payload
  rest_long = length-drop number_size m ∙ omega arith

  parts_got : (both word32 Bytes508).get m ≡ (word_at 0 m, drop number_size m)
  parts_got = number_got Bytes508 0 4 m refl ∙ (λ i. (word_at 0 m, row_got most_payload (drop number_size m) rest_long i))

  payload_got : payload508.get m ≡ take (word_at 0 m) (drop number_size m)
  unfolding payload508 via such payload_back
  payload_got = ap payload_back parts_got

  module _ (t : Bytes m) where
    payload_flat : payload508.valid m ≡ (leb (word_at 0 m) most_payload && all_zero (drop (word_at 0 m) (drop number_size m)))
    unfolding payload508 via such payload_fits
    payload_flat = ap₂ (λ (a : Bool) (p : ℕ × List ℕ). a && payload_fits p) (number_valid Bytes508 0 4 m refl t ∙ row_valid most_payload (drop number_size m) (less number_size m t)) parts_got

    pub payload_over : most_payload < word_at 0 m → false ≡ payload508.valid m
    payload_over b = sym (payload_flat ∙ ap (λ (x : Bool). x && all_zero (drop (word_at 0 m) (drop number_size m))) (lt-leb (word_at 0 m) most_payload b))

    pub payload_good : (n z k : ℕ) → n ≡ word_at 0 m → n ≤ most_payload → z ≡ number_size + n → payload_size ≤ z + k → all_zero (take k (drop z m)) ≡ payload508.valid m
    payload_good n z k en b ez hk =
        let e : take k (drop z m) ≡ drop n (drop number_size m) =
        take_all k (drop z m) (omega (arith, length-drop z m)) ∙ ap (λ (j : ℕ). drop j m) ez ∙ sym (drop-drop n number_size m) in
        ap₂ (λ (x : Bool) (y : List ℕ). x && all_zero y) (sym (le-leb n most_payload b)) e
        ∙ ap (λ (j : ℕ). leb j most_payload && all_zero (drop j (drop number_size m))) en ∙ sym payload_flat

    -- its bytes are as many as it says
    pub payload_count : T (payload508.valid m) → length (payload508.get m) ≡ word_at 0 m
    payload_count v =
        let n : ℕ = word_at 0 m in
        let most : n ≤ most_payload = leb→le n most_payload (left (leb n most_payload) (all_zero (drop n (drop number_size m))) (subst T payload_flat v)) in
        ap length payload_got ∙ length-take-le n (drop number_size m) (omega (arith, rest_long))

-- ---- a transfer, in a conversation's place

-- a test that matters only where another passes
when : (a p q : Bool) → (T a → p ≡ q) → (a && p) ≡ (a && q)
when true p q f = f tt
when false p q f = refl

abbrev Go : Code (Bool × List ℕ)
Go = both mark payload508

abbrev Gap : Code (ℕ × (Bool × List ℕ))
Gap = both word32 Go

abbrev Left : Code (ℕ × (ℕ × (Bool × List ℕ)))
Left = both word32 Gap

abbrev Time : Code (ℕ × (ℕ × (ℕ × (Bool × List ℕ))))
Time = both word32 Left

abbrev Count : Code (ℕ × (ℕ × (ℕ × (ℕ × (Bool × List ℕ)))))
Count = both word32 Time

-- a number, a byte and the payload in it
abbrev number_in : ℕ → List ℕ → ℕ
number_in k t = word_at (transfer_in + k) t

abbrev pub go_on_at : List ℕ → ℕ
go_on_at t = get_or t (transfer_in + go_on_in) 0

abbrev pub payload_of : List ℕ → List ℕ
payload_of t = drop (transfer_in + payload_in) t

abbrev pub parts_of : List ℕ → List ℕ → Transferred
parts_of t b = transferred (get_or t transfer_in 0) (number_in count_in t) (number_in time_in t) (number_in left_in t) (number_in gap_in t) (eqb 1 (go_on_at t)) b

module _ (t : List ℕ) where
  pub plain_got : transfer_plain.get (drop transfer_in t) ≡ parts_of t (payload508.get (payload_of t))
  unfolding transfer_plain
  plain_got =
      let k : ℕ = get_or t transfer_in 0 in
      byte_got Count 10 11 t refl
      ∙ (λ i. (k, number_got Time 11 15 t refl i))
      ∙ (λ i. (k, (word_at 11 t, number_got Left 15 19 t refl i)))
      ∙ (λ i. (k, (word_at 11 t, (word_at 15 t, number_got Gap 19 23 t refl i))))
      ∙ (λ i. (k, (word_at 11 t, (word_at 15 t, (word_at 19 t, number_got Go 23 27 t refl i)))))
      ∙ (λ i. (k, (word_at 11 t, (word_at 15 t, (word_at 19 t, (word_at 23 t, mark_then_got payload508 27 28 t refl i))))))

  plain_valid : Bytes t → transfer_plain.valid (drop transfer_in t) ≡ (leb (go_on_at t) 1 && payload508.valid (payload_of t))
  unfolding transfer_plain
  plain_valid by =
      byte_then Count 10 11 t refl by ∙ number_valid Time 11 15 t refl by ∙ number_valid Left 15 19 t refl by ∙ number_valid Gap 19 23 t refl by
      ∙ number_valid Go 23 27 t refl by ∙ mark_then payload508 27 28 t refl by

  -- its go-on mark is a mark, its payload one, and its numbers fit a payload of as many bytes as it says
  pub transfer_flat : length t ≡ talk_size → Bytes t → (fit : Bool) → ((b : List ℕ) → length b ≡ word_at (transfer_in + payload_in) t → fit ≡ transfer_fits (parts_of t b))
      → (leb (go_on_at t) 1 && payload508.valid (payload_of t) && fit) ≡ transfer_code.valid (drop transfer_in t)
  unfolding transfer_code via such
  transfer_flat h by fit f =
      let a : Bool = leb (go_on_at t) 1 && payload508.valid (payload_of t) in
      let long : length (payload_of t) ≡ payload_size = length-drop (transfer_in + payload_in) t ∙ omega arith in
      let counted : T a → length (payload508.get (payload_of t)) ≡ word_at (transfer_in + payload_in) t =
      λ v. payload_count (payload_of t) long (less (transfer_in + payload_in) t by) (right (leb (go_on_at t) 1) (payload508.valid (payload_of t)) v) ∙ word_drop 0 (transfer_in + payload_in) t in
      when a fit (transfer_fits (parts_of t (payload508.get (payload_of t)))) (λ v. f (payload508.get (payload_of t)) (counted v))
      ∙ sym (ap₂ (λ (x : Bool) (p : Transferred). x && transfer_fits p) (plain_valid by) plain_got)
