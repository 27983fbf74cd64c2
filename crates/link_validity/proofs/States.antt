-- What validity is of a connection's part in each state, as code finds it out. Assumes nothing.
use mathlib.Core.Path.{◌≡◌, refl, sym, ap, ap₂, ◌∙◌}
use Prim.Native.Nat.{ℕ, ◌+◌, ◌≤◌, ◌<◌}
use native.Mathlib.Omega.{arith}
use mathlib.Core.Bool.{Bool, true, false, ◌&&◌}
use mathlib.Core.Option.{Option}
use mathlib.Core.List.{List}
use lib.ListN.{length, get_or, take, drop, length-drop, take-append-drop}
use lib.Seq.{get_or-take, drop-drop, take-take, length-take-le}
use lib.Dec.{T, eqb, leb}
use borrow.Author.Tests.{le-leb, lt-leb}
use Rattle.codec.specs.Plain.{within, all, is_byte, all_zero}
use Rattle.codec.specs.Word.{word_at}
use Rattle.codec.specs.Code.{Code, byte, word32, both, both_on, via, such, present}
use Rattle.codec.proofs.Lists.{all_split, all_take, all_at}
use Rattle.codec.proofs.Tests.{right, T_true, true_T, and_true, and_assoc}
use Rattle.codec.proofs.Word.{word_part}
use Rattle.stored_records.proofs.Parts.{Bytes, less, word_valid, rest_part, part_within}
use Rattle.link.specs.Connection.{Asked, Trial, Exit, Link}
use Rattle.link_layout.specs.Sizes.{link_size}
use Rattle.link_layout.specs.Connection.{asked, trials, leaves, link, after, link_fits, connection_fits, connection_back, connection_part}
use Rattle.link_layout.proofs.Bytes.{asked_size_law, trials_size_law, leaves_size, link_size_law}
use Rattle.link_asking.specs.Asking.{asked_of}
use Rattle.link_asking.proofs.Laws.{asked_got}
use Rattle.link_standing.proofs.Limits.{both_got, both_valid, byte_within}
use Rattle.link_validity.specs.State.{in_state}

-- zeros in two parts
zero_parts : (k : ℕ) (m : List ℕ) → (all_zero (take k m) && all_zero (drop k m)) ≡ all_zero m
zero_parts k m = sym (all_split (eqb 0) (take k m) (drop k m)) ∙ ap (λ (x : List ℕ). all_zero x) (take-append-drop k m)

-- ---- the parts in a row, each there or not

module _ (k : ℕ) where
  abbrev Asks : Code (Option Asked)
  Asks = present (within 1 3 k) asked

  abbrev Tx : Code (Option ℕ)
  Tx = present (within 2 4 k) word32

  abbrev Tries : Code (Option (ℕ × Trial))
  Tries = present (within 1 2 k) trials

  abbrev Exits : Code (Option Exit)
  Exits = present (eqb k 4) leaves

  abbrev Stands : Code (Option Link)
  Stands = present (eqb k 3) link

  asks_size : Asks.size ≡ 13
  unfolding present
  asks_size = asked_size_law

  tx_size : Tx.size ≡ 4
  unfolding present word32
  tx_size = refl

  tries_size : Tries.size ≡ 6
  unfolding present
  tries_size = trials_size_law

  exits_size : Exits.size ≡ 5
  unfolding present
  exits_size = leaves_size

  module _ (m : List ℕ) where
    row_valid : (after k).valid (drop 1 m)
        ≡ (Asks.valid (take 13 (drop 1 m)) && (Tx.valid (take 4 (drop 14 m)) && (Tries.valid (take 6 (drop 18 m)) && (Exits.valid (take 5 (drop 24 m)) && Stands.valid (drop 29 m)))))
    unfolding after
    row_valid =
        both_valid Asks (both Tx (both Tries (both Exits Stands))) 14 1 13 m asks_size refl
        ∙ ap (λ (b : Bool). Asks.valid (take 13 (drop 1 m)) && b)
        (both_valid Tx (both Tries (both Exits Stands)) 18 14 4 m tx_size refl
        ∙ ap (λ (b : Bool). Tx.valid (take 4 (drop 14 m)) && b)
        (both_valid Tries (both Exits Stands) 24 18 6 m tries_size refl
        ∙ ap (λ (b : Bool). Tries.valid (take 6 (drop 18 m)) && b) (both_valid Exits Stands 29 24 5 m exits_size refl)))

    abbrev Row : Option Asked × (Option ℕ × (Option (ℕ × Trial) × (Option Exit × Option Link)))
    Row = (Asks.get (take 13 (drop 1 m)), (Tx.get (take 4 (drop 14 m)), (Tries.get (take 6 (drop 18 m)), (Exits.get (take 5 (drop 24 m)), Stands.get (drop 29 m)))))

    row_got : (after k).get (drop 1 m) ≡ Row
    unfolding after
    row_got =
        both_got Asks (both Tx (both Tries (both Exits Stands))) 14 1 13 m asks_size refl
        ∙ (λ i. (Asks.get (take 13 (drop 1 m)), both_got Tx (both Tries (both Exits Stands)) 18 14 4 m tx_size refl i))
        ∙ (λ i. (Asks.get (take 13 (drop 1 m)), (Tx.get (take 4 (drop 14 m)), both_got Tries (both Exits Stands) 24 18 6 m tries_size refl i)))
        ∙ (λ i. (Asks.get (take 13 (drop 1 m)), (Tx.get (take 4 (drop 14 m)), (Tries.get (take 6 (drop 18 m)), both_got Exits Stands 29 24 5 m exits_size refl i))))

    in_flat : in_state k m
        ≡ ((Asks.valid (take 13 (drop 1 m)) && (Tx.valid (take 4 (drop 14 m)) && (Tries.valid (take 6 (drop 18 m)) && (Exits.valid (take 5 (drop 24 m)) && Stands.valid (drop 29 m)))))
        && connection_fits (connection_back (k, Row)))
    unfolding in_state
    in_flat = ap₂ (λ (b : Bool) (p : Option Asked × (Option ℕ × (Option (ℕ × Trial) × (Option Exit × Option Link)))). b && connection_fits (connection_back (k, p))) row_valid row_got

-- ---- what was asked for

module _ (m : List ℕ) where
  pub asked_size_is : (asked.get (take 13 (drop 1 m))).block_size ≡ get_or m 11 0
  unfolding asked_of
  asked_size_is = ap (λ (a : Asked). a.block_size) (asked_got (take 13 (drop 1 m))) ∙ byte_within 1 13 10 m (omega arith)

  pub asked_t1_is : (asked.get (take 13 (drop 1 m))).t1 ≡ get_or m 12 0
  unfolding asked_of
  asked_t1_is = ap (λ (a : Asked). a.t1) (asked_got (take 13 (drop 1 m))) ∙ byte_within 1 13 11 m (omega arith)

-- ---- state by state

module _ (m : List ℕ) where
  abbrev asked_bytes : List ℕ
  asked_bytes = take 13 (drop 1 m)

  abbrev trial_bytes : List ℕ
  trial_bytes = take 6 (drop 18 m)

  -- zeros at a place and behind it
  behind : (k n j : ℕ) → k + n ≡ j → (all_zero (take n (drop k m)) && all_zero (drop j m)) ≡ all_zero (drop k m)
  behind k n j e = ap (λ (x : List ℕ). all_zero (take n (drop k m)) && all_zero x) (ap (λ (i : ℕ). drop i m) (sym e) ∙ sym (drop-drop n k m)) ∙ zero_parts n (drop k m)

  tx_got : word32.get (take 4 (drop 14 m)) ≡ word_at 14 m
  unfolding word32
  tx_got = word_part 14 m

  module _ (h : length m ≡ link_size) where
    tail : (k n : ℕ) → k + n ≡ link_size → take n (drop k m) ≡ drop k m
    tail k n e = rest_part k n m (h ∙ sym e)

    pub absent_flat : all_zero (take 1090 (drop 1 m)) ≡ in_state 0 m
    unfolding present within connection_fits
    absent_flat =
        ap (λ (x : List ℕ). all_zero x) (tail 1 1090 refl)
        ∙ sym (in_flat 0 m
        ∙ and_true _
        ∙ ap (λ (b : Bool). all_zero (take 13 (drop 1 m)) && (all_zero (take 4 (drop 14 m)) && (all_zero (take 6 (drop 18 m)) && b))) (behind 24 5 29 refl)
        ∙ ap (λ (b : Bool). all_zero (take 13 (drop 1 m)) && (all_zero (take 4 (drop 14 m)) && b)) (behind 18 6 24 refl)
        ∙ ap (λ (b : Bool). all_zero (take 13 (drop 1 m)) && b) (behind 14 4 18 refl)
        ∙ behind 1 13 14 refl)

    pub opening_flat : (asked.valid asked_bytes && (all_zero (take 4 (drop 14 m)) && (trials.valid trial_bytes && all_zero (take 1067 (drop 24 m))))) ≡ in_state 1 m
    unfolding present within connection_fits
    opening_flat =
        ap (λ (x : List ℕ). asked.valid asked_bytes && (all_zero (take 4 (drop 14 m)) && (trials.valid trial_bytes && all_zero x))) (tail 24 1067 refl)
        ∙ sym (in_flat 1 m
        ∙ and_true _
        ∙ ap (λ (b : Bool). asked.valid asked_bytes && (all_zero (take 4 (drop 14 m)) && (trials.valid trial_bytes && b))) (behind 24 5 29 refl))

    -- the zeros between the TX-ID and the standing connection
    between : all_zero (take 11 (drop 18 m)) ≡ (all_zero (take 6 (drop 18 m)) && all_zero (take 5 (drop 24 m)))
    between =
        let y : List ℕ = drop 18 m in
        let long : length (take 11 y) ≡ 11 = length-take-le 11 y (omega (arith, length-drop 18 m)) in
        let last : drop 6 (take 11 y) ≡ take 5 (drop 24 m) =
        sym (rest_part 6 5 (take 11 y) long) ∙ part_within 6 5 11 y (omega arith) ∙ ap (take 5) (drop-drop 6 18 m) in
        sym (zero_parts 6 (take 11 y)) ∙ ap₂ (λ (a b : List ℕ). all_zero a && all_zero b) (take-take 6 11 y (omega arith)) last

    module _ (t : Bytes m) where
      tx_valid : word32.valid (take 4 (drop 14 m)) ≡ true
      tx_valid = word_valid (take 4 (drop 14 m)) (all_take is_byte 4 (drop 14 m) (less 14 m t))

      pub connecting_flat : (asked.valid asked_bytes && (trials.valid trial_bytes && all_zero (take 1067 (drop 24 m))) && leb (word_at 14 m) 0x7FF) ≡ in_state 2 m
      unfolding present within connection_fits
      connecting_flat =
          ap (λ (x : List ℕ). asked.valid asked_bytes && (trials.valid trial_bytes && all_zero x) && leb (word_at 14 m) 0x7FF) (tail 24 1067 refl)
          ∙ sym (in_flat 2 m
          ∙ (λ j. asked.valid asked_bytes && (tx_valid j && (trials.valid trial_bytes && behind 24 5 29 refl j)) && leb (tx_got j) 0x7FF))

      pub leaving_flat : (all_zero (take 13 (drop 1 m)) && (all_zero trial_bytes && (leaves.valid (take 5 (drop 24 m)) && all_zero (take 1062 (drop 29 m)))) && leb (word_at 14 m) 0x7FF) ≡ in_state 4 m
      unfolding present within connection_fits
      leaving_flat =
          ap (λ (x : List ℕ). all_zero (take 13 (drop 1 m)) && (all_zero trial_bytes && (leaves.valid (take 5 (drop 24 m)) && all_zero x)) && leb (word_at 14 m) 0x7FF) (tail 29 1062 refl)
          ∙ sym (in_flat 4 m
          ∙ (λ j. all_zero (take 13 (drop 1 m)) && (tx_valid j && (all_zero trial_bytes && (leaves.valid (take 5 (drop 24 m)) && all_zero (drop 29 m)))) && leb (tx_got j) 0x7FF))

      -- the parts of a standing connection, then what they say of each other
      abbrev pub there : Bool
      there = asked.valid asked_bytes && (all_zero (take 11 (drop 18 m)) && link.valid (take 1062 (drop 29 m)))

      there_is : (asked.valid asked_bytes && (word32.valid (take 4 (drop 14 m)) && (all_zero (take 6 (drop 18 m)) && (all_zero (take 5 (drop 24 m)) && link.valid (drop 29 m))))) ≡ there
      there_is =
          (λ j. asked.valid asked_bytes && (tx_valid j && (all_zero (take 6 (drop 18 m)) && (all_zero (take 5 (drop 24 m)) && link.valid (drop 29 m)))))
          ∙ ap (λ (b : Bool). asked.valid asked_bytes && b) (and_assoc (all_zero (take 6 (drop 18 m))) (all_zero (take 5 (drop 24 m))) (link.valid (drop 29 m)))
          ∙ (λ j. asked.valid asked_bytes && (sym between j && link.valid (sym (tail 29 1062 refl) j)))

      standing_flat : in_state 3 m ≡ (there && (leb (word_at 14 m) 0x7FF && link_fits (asked.get asked_bytes) (link.get (take 1062 (drop 29 m)))))
      unfolding present within connection_fits
      standing_flat =
          in_flat 3 m ∙ (λ j. there_is j && (leb (tx_got j) 0x7FF && link_fits (asked.get asked_bytes) (link.get (sym (tail 29 1062 refl) j))))

      pub not_there : there ≡ false → false ≡ in_state 3 m
      not_there e = sym (standing_flat ∙ ap (λ (b : Bool). b && (leb (word_at 14 m) 0x7FF && link_fits (asked.get asked_bytes) (link.get (take 1062 (drop 29 m))))) e)

      pub is_there : there ≡ true → (leb (word_at 14 m) 0x7FF && link_fits (asked.get asked_bytes) (link.get (take 1062 (drop 29 m)))) ≡ in_state 3 m
      is_there e = sym (standing_flat ∙ ap (λ (b : Bool). b && (leb (word_at 14 m) 0x7FF && link_fits (asked.get asked_bytes) (link.get (take 1062 (drop 29 m))))) e)

      pub link_there : there ≡ true → T (link.valid (take 1062 (drop 29 m)))
      link_there e = let u = true_T there e in search right

      -- ---- a connection's part

      abbrev state : ℕ
      state = get_or m 0 0

      whole_flat : connection_part.valid m ≡ ((is_byte state && leb state 4 && (after state).valid (drop 1 m)) && connection_fits (connection_back (state, (after state).get (drop 1 m))))
      unfolding connection_part such via both_on byte
      whole_flat =
          ap (λ (k : ℕ). (is_byte k && leb k 4 && (after k).valid (drop 1 m)) && connection_fits (connection_back (k, (after k).get (drop 1 m)))) (get_or-take 1 m 0 0 (omega arith))

      a_byte : is_byte state ≡ true
      a_byte = T_true (is_byte state) (all_at is_byte m 0 0 tt t)

      pub state_in : (k : ℕ) → state ≡ k → k ≤ 4 → in_state k m ≡ connection_part.valid m
      unfolding in_state
      state_in k e g =
          ap (λ (i : ℕ). in_state i m) (sym e)
          ∙ sym (whole_flat ∙ ap₂ (λ (a b : Bool). (a && b && (after state).valid (drop 1 m)) && connection_fits (connection_back (state, (after state).get (drop 1 m)))) a_byte (le-leb state 4 (omega arith)))

      pub state_over : 4 < state → false ≡ connection_part.valid m
      state_over g = sym (whole_flat ∙ ap₂ (λ (a b : Bool). (a && b && (after state).valid (drop 1 m)) && connection_fits (connection_back (state, (after state).get (drop 1 m)))) a_byte (lt-leb state 4 g))
