-- Events written one after the other. Assumes nothing.
use Prim.Native.Nat.{ℕ, zero, suc, ◌+◌, ◌-◌, ◌*◌, ◌/◌, ◌%◌, ◌≤◌, ◌<◌}
use mathlib.Core.Path.{◌≡◌, refl, sym, ap, ◌∙◌, subst}
use mathlib.Core.Bool.{Bool}
use mathlib.Core.List.{List, [], ◌∷◌, ◌++◌, append_assoc, append-nil}
use native.Mathlib.Omega.{arith}
use lib.ListN.{length, replicate, take, drop, length-append, take-append-drop}
use Rattle.number.specs.Number.{bytes_of}
use Rattle.number.specs.Place.{Written}
use Rattle.answers.specs.Put.{Put}
use Rattle.answers.proofs.Put.{put_number, put_same, put_length, put_then}
use Rattle.machine.specs.Step.{Event, advance, frame}
use Rattle.candump.specs.Line.{second}
use Rattle.candump.specs.Log.{event_bytes, bytes_all, rest, full, advances}
use Rattle.candump.proofs.Cost.{bytes_append, length_both}
use Rattle.log_events.specs.Data.{mark_of}

-- ---- two numbers

module _ (b : List ℕ) (at v w : ℕ) (room : at + length (bytes_of v ++ bytes_of w) ≤ length b) where
  pub first_fits : at + length (bytes_of v) ≤ length b
  first_fits = omega (arith, length-append (bytes_of v) (bytes_of w))

  module _ (n : ℕ) (after : List ℕ) (p : Written b at v n after) where
    first : Put b at (bytes_of v) n after
    first = put_number b after at v n p

    pub second_fits : n + length (bytes_of w) ≤ length after
    second_fits = omega (arith, length-append (bytes_of v) (bytes_of w), put_length first first_fits, first.ends)

    pub both_put : (m : ℕ) (later : List ℕ) → Written after n w m later → Put b at (bytes_of v ++ bytes_of w) m later
    both_put m later q = put_then first first_fits (put_number after later n w m q)

-- ---- advances

-- so many full advances
abbrev pub fulls : ℕ → List ℕ
fulls k = bytes_all (replicate k (advance full))

one_behind : (k : ℕ) → fulls k ++ event_bytes (advance full) ≡ event_bytes (advance full) ++ fulls k
unfolding bytes_all
one_behind zero = sym (append-nil (event_bytes (advance full)))
one_behind (suc k) =
    append_assoc (event_bytes (advance full)) (fulls k) (event_bytes (advance full)) ∙ ap (λ (l : List ℕ). event_bytes (advance full) ++ l) (one_behind k)

fulls_more : (k : ℕ) → fulls k ++ event_bytes (advance full) ≡ fulls (k + 1)
unfolding bytes_all
fulls_more k = let e : k + 1 ≡ suc k = omega arith in one_behind k ∙ ap (λ (n : ℕ). fulls n) (sym e)

-- what is written of so many, and what is left
fulls_apart : (k n : ℕ) → k ≤ n → length (fulls n) ≡ length (fulls k) + length (fulls (n - k))
fulls_apart k n h =
    let e : n ≡ k + (n - k) = omega arith in
    ap (λ (m : ℕ). length (fulls m)) e ∙ ap (λ (l : List Event). length (bytes_all l)) (replicate_both k (n - k)) ∙ length_both (replicate k (advance full)) (replicate (n - k) (advance full))
  where
    replicate_both : (i j : ℕ) → replicate (i + j) (advance full) ≡ replicate i (advance full) ++ replicate j (advance full)
    replicate_both zero j = let z : 0 + j ≡ j = omega arith in ap (λ (n : ℕ). replicate n (advance full)) z
    replicate_both (suc i) j = let z : suc i + j ≡ suc (i + j) = omega arith in ap (λ (n : ℕ). replicate n (advance full)) z ∙ ap (λ (l : List Event). advance full ∷ l) (replicate_both i j)

rest_bytes : (r : ℕ) → 1 ≤ r → bytes_all (rest r) ≡ event_bytes (advance r)
unfolding rest bytes_all
rest_bytes zero h = absurd (omega arith)
rest_bytes (suc r) h = append-nil (event_bytes (advance (suc r)))

none_left : (r : ℕ) → r < 1 → bytes_all (rest r) ≡ []
unfolding rest bytes_all
none_left zero h = refl
none_left (suc r) h = absurd (omega arith)

advances_are : (n : ℕ) → bytes_all (advances n) ≡ fulls (n / second) ++ bytes_all (rest (n % second))
unfolding advances
advances_are n = bytes_append (replicate (n / full) (advance full)) (rest (n % full))

advance_is : (u : ℕ) → event_bytes (advance u) ≡ bytes_of 4 ++ bytes_of u
unfolding event_bytes
advance_is u = refl

-- full advances were written up to a place
pub record Filled (before : List ℕ) (at n : ℕ) (out : List ℕ) (place k : ℕ) : Type 0 where
  pub few : k ≤ n / second
  pub same_length : length out ≡ length before
  pub put : Put before at (fulls k) place out

module _ (b : List ℕ) (at n : ℕ) (room : at + length (bytes_all (advances n)) ≤ length b) where
  pub none_filled : Filled b at n b at 0
  unfolding bytes_all
  none_filled =
      record {
        few = omega arith;
        same_length = refl;
        put = record { ends = omega arith; holds = sym (ap (λ (l : List ℕ). l ++ drop (at + 0) b) (append-nil (take at b)) ∙ ap (λ (k : ℕ). take at b ++ drop k b) z ∙ take-append-drop at b) };
      }
    where
      z : at + 0 ≡ at
      z = omega arith

  sizes : length (bytes_all (advances n)) ≡ length (fulls (n / second)) + length (bytes_all (rest (n % second)))
  sizes = ap length (advances_are n) ∙ length-append (fulls (n / second)) (bytes_all (rest (n % second)))

  module _ (out : List ℕ) (place k : ℕ) (f : Filled b at n out place k) where
    -- those that were written fit
    fits : at + length (fulls k) ≤ length b
    fits = omega (arith, sizes, fulls_apart k (n / second) f.few)

    pub full_fits : k < n / second → place + length (bytes_of 4 ++ bytes_of second) ≤ length out
    full_fits h =
        let one : k + 1 ≤ n / second = omega arith in
        let size : length (fulls k ++ event_bytes (advance full)) ≡ length (fulls (k + 1)) = ap length (fulls_more k) in
        omega (
          arith,
          sizes,
          f.put.ends,
          f.same_length,
          fulls_apart (k + 1) (n / second) one,
          length-append (fulls k) (event_bytes (advance full)),
          ap length (advance_is second),
        )

    pub one_filled : k < n / second → (next : ℕ) (later : List ℕ) → Put out place (bytes_of 4 ++ bytes_of second) next later → Filled b at n later next (k + 1)
    one_filled h next later p =
        record {
          few = omega arith;
          same_length = omega (arith, put_length p (full_fits h), f.same_length);
          put = put_same (ap (λ (l : List ℕ). fulls k ++ l) (sym (advance_is second)) ∙ fulls_more k) (put_then f.put fits p);
        }

    module _ (done : n / second ≤ k) where
      all : k ≡ n / second
      all = omega (arith, f.few)

      pub without_rest : n % second < 1 → Put b at (bytes_all (advances n)) place out
      without_rest h =
          put_same
          (sym (append-nil (fulls k)) ∙ ap (λ (l : List ℕ). fulls k ++ l) (sym (none_left (n % second) h)) ∙ ap (λ (k : ℕ). fulls k ++ bytes_all (rest (n % second))) all ∙ sym (advances_are n))
          f.put

      pub rest_fits : 1 ≤ n % second → place + length (bytes_of 4 ++ bytes_of (n % second)) ≤ length out
      rest_fits h =
          omega (
            arith,
            sizes,
            f.put.ends,
            f.same_length,
            ap (λ (k : ℕ). length (fulls k)) all,
            ap length (rest_bytes (n % second) h),
            ap length (advance_is (n % second)),
          )

      pub with_rest : 1 ≤ n % second → (next : ℕ) (later : List ℕ) → Put out place (bytes_of 4 ++ bytes_of (n % second)) next later → Put b at (bytes_all (advances n)) next later
      with_rest h next later p =
          put_same
          (ap (λ (l : List ℕ). fulls k ++ l) (sym (advance_is (n % second)) ∙ sym (rest_bytes (n % second) h)) ∙ ap (λ (k : ℕ). fulls k ++ bytes_all (rest (n % second))) all ∙ sym (advances_are n))
          (put_then f.put fits p)

-- ---- a frame

module _ (b : List ℕ) (at line mark id : ℕ) (d : List ℕ) (room : at + length (event_bytes (frame line mark id d)) ≤ length b) where
  -- its parts: the number of the event and the line, the mark and the identifier, the count, the data
  apart : event_bytes (frame line mark id d) ≡ ((bytes_of 5 ++ bytes_of line) ++ ((bytes_of mark ++ bytes_of id) ++ (bytes_of (length d) ++ d)))
  unfolding event_bytes
  apart = simp append_assoc

  sum : length (event_bytes (frame line mark id d)) ≡ length (bytes_of 5 ++ bytes_of line) + (length (bytes_of mark ++ bytes_of id) + (length (bytes_of (length d)) + length d))
  sum =
      ap length apart
      ∙ omega (
        arith,
        length-append (bytes_of 5 ++ bytes_of line) ((bytes_of mark ++ bytes_of id) ++ (bytes_of (length d) ++ d)),
        length-append (bytes_of mark ++ bytes_of id) (bytes_of (length d) ++ d),
        length-append (bytes_of (length d)) d,
      )

  pub line_fits : at + length (bytes_of 5 ++ bytes_of line) ≤ length b
  line_fits = omega (arith, sum)

  module _ (n₁ : ℕ) (b₁ : List ℕ) (p₁ : Put b at (bytes_of 5 ++ bytes_of line) n₁ b₁) where
    pub id_fits : n₁ + length (bytes_of mark ++ bytes_of id) ≤ length b₁
    id_fits = omega (arith, sum, p₁.ends, put_length p₁ line_fits)

    module _ (n₂ : ℕ) (b₂ : List ℕ) (p₂ : Put b₁ n₁ (bytes_of mark ++ bytes_of id) n₂ b₂) where
      pub count_fits : n₂ + length (bytes_of (length d)) ≤ length b₂
      count_fits = omega (arith, sum, p₁.ends, p₂.ends, put_length p₁ line_fits, put_length p₂ id_fits)

      module _ (n₃ : ℕ) (b₃ : List ℕ) (w : Written b₂ n₂ (length d) n₃ b₃) where
        p₃ : Put b₂ n₂ (bytes_of (length d)) n₃ b₃
        p₃ = put_number b₂ b₃ n₂ (length d) n₃ w

        pub data_fits_law : n₃ + length d ≤ length b₃
        data_fits_law = omega (arith, sum, p₁.ends, p₂.ends, p₃.ends, put_length p₁ line_fits, put_length p₂ id_fits, put_length p₃ count_fits)

        pub frame_put : (n₄ : ℕ) (b₄ : List ℕ) → Put b₃ n₃ d n₄ b₄ → Put b at (event_bytes (frame line mark id d)) n₄ b₄
        frame_put n₄ b₄ p₄ = put_same (sym apart) (put_then p₁ line_fits (put_then p₂ id_fits (put_then p₃ count_fits p₄)))
