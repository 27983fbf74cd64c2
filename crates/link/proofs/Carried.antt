-- What the telegrams of a message carry: block by block all its bytes, in order; and the telegram that ends it is the one after whose acknowledge
-- nothing is under way. Assumes nothing.
use Rattle.std.specs.Prelude.{if◌then◌else◌}
use Prim.Native.Nat.{ℕ, zero, suc, ◌+◌, ◌*◌, ◌/◌, ◌%◌, ◌≤◌, ◌<◌, min}
use mathlib.Core.Path.{◌≡◌, refl, sym, ap, ◌∙◌, subst}
use mathlib.Core.Bool.{Bool, true, false}
use mathlib.Core.List.{List, [], ◌∷◌, ◌++◌, append-nil}
use native.Mathlib.Omega.{arith}
use lib.ListN.{length, take, drop, length-drop, take-append-drop}
use lib.Seq.{take-add, take_all}
use lib.Dec.{eqb, leb}
use borrow.Author.Tests.{eqb-true, eqb-false, eq-eqb, ne_eqb, leb-true, leb-false}
use Rattle.telegram.specs.Telegram.{data_telegram}
use Rattle.link.specs.Connection.{Block, telegrams, block_of, next_data}

-- what the k-th telegram of a block carries; what the first n carry
abbrev pub payload : ℕ → List ℕ → List ℕ
payload k rest = take 7 (drop (7 * k) rest)

abbrev pub payloads : ℕ → List ℕ → List ℕ
payloads zero rest = []
payloads (suc n) rest = payloads n rest ++ payload n rest

-- the next data telegram carries its payload, with the SN that follows
pub carries_payload : (size sn : ℕ) (b : Block)
    → next_data size sn b
    ≡ data_telegram (eqb (b.taken + 1) (block_of size b.rest)) (eqb (b.taken + 1) (telegrams b.rest)) ((sn + b.taken) % 16) (payload b.taken b.rest)
unfolding next_data
carries_payload size sn b = refl

pub payloads_are : (n : ℕ) (rest : List ℕ) → payloads n rest ≡ take (7 * n) rest
payloads_are zero rest = refl
payloads_are (suc n) rest =
    let more : 7 * suc n ≡ 7 * n + 7 = omega arith in
    ap (λ (xs : List ℕ). xs ++ payload n rest) (payloads_are n rest) ∙ sym (take-add (7 * n) 7 rest) ∙ ap (λ (k : ℕ). take k rest) (sym more)

-- a block and what is left for the next are the message
pub block_carries : (n : ℕ) (rest : List ℕ) → payloads n rest ++ drop (7 * n) rest ≡ rest
block_carries n rest = ap (λ (xs : List ℕ). xs ++ drop (7 * n) rest) (payloads_are n rest) ∙ take-append-drop (7 * n) rest

-- the number of telegrams: none fewer would do, but for the empty message, which has one
telegrams_enough : (rest : List ℕ) → length rest ≤ 7 * telegrams rest
unfolding telegrams
telegrams_enough rest = go (eqb (length rest) 0) refl
  where
    go : (b : Bool) → eqb (length rest) 0 ≡ b → length rest ≤ 7 * (if b then 1 else (length rest + 6) / 7)
    go true e = let z = eqb-true (length rest) 0 e in omega arith
    go false e = omega arith

telegrams_needed : (rest : List ℕ) (n : ℕ) → 1 ≤ n → length rest ≤ 7 * n → telegrams rest ≤ n
unfolding telegrams
telegrams_needed rest n h m = go (eqb (length rest) 0)
  where
    go : (b : Bool) → (if b then 1 else (length rest + 6) / 7) ≤ n
    go true = h
    go false = omega arith

one_at_least : (rest : List ℕ) → 1 ≤ telegrams rest
unfolding telegrams
one_at_least rest = go (eqb (length rest) 0) refl
  where
    go : (b : Bool) → eqb (length rest) 0 ≡ b → 1 ≤ (if b then 1 else (length rest + 6) / 7)
    go true e = omega arith
    go false e = let h : length rest ≡ 0 → ⊥ = eqb-false (length rest) 0 e in omega arith

-- the telegram that asks ends the message exactly where nothing is left behind its block
pub ends_message : (size : ℕ) (rest : List ℕ) → 1 ≤ size → eqb (block_of size rest) (telegrams rest) ≡ leb (length rest) (7 * block_of size rest)
unfolding block_of
ends_message size rest h = go (leb (length rest) (7 * n)) refl
  where
    n : ℕ
    n = min size (telegrams rest)

    go : (b : Bool) → leb (length rest) (7 * n) ≡ b → eqb n (telegrams rest) ≡ b
    go true e =
        let low = one_at_least rest in
        let some' : 1 ≤ n = omega arith in
        let most : n ≤ telegrams rest = omega arith in
        let few = telegrams_needed rest n some' (leb-true (length rest) (7 * n) e) in
        eq-eqb n (telegrams rest) (omega arith)
    go false e =
        ne_eqb n (telegrams rest)
        (λ q. let m = leb-false (length rest) (7 * n) e in let k = telegrams_enough rest in omega arith)

-- what is carried while each block is acknowledged and something is left, at most so many blocks
abbrev pub carried : ℕ → ℕ → List ℕ → List ℕ
carried zero size rest = []
carried (suc k) size rest =
    payloads (block_of size rest) rest ++ (if leb (length rest) (7 * block_of size rest) then [] else carried k size (drop (7 * block_of size rest) rest))

-- THE MESSAGE IS CARRIED WHOLE, for every block size from 1 on
pub carried_whole : (k size : ℕ) (m : List ℕ) → 1 ≤ size → length m < k → carried k size m ≡ m
carried_whole zero size m h l = absurd (omega arith)
carried_whole (suc k) size m h l = go (λ d. carried_whole k size (drop (7 * n) m) h d) (leb (length m) (7 * n)) refl
  where
    n : ℕ
    n = block_of size m

    some' : 1 ≤ n
    some' = let low = one_at_least m in unfold block_of in omega arith

    go : (length (drop (7 * n) m) < k → carried k size (drop (7 * n) m) ≡ drop (7 * n) m) → (b : Bool) → leb (length m) (7 * n) ≡ b
        → payloads n m ++ (if b then [] else carried k size (drop (7 * n) m)) ≡ m
    go r true e = append-nil (payloads n m) ∙ payloads_are n m ∙ take_all (7 * n) m (leb-true (length m) (7 * n) e)
    go r false e =
        let more = leb-false (length m) (7 * n) e in
        let fewer : length (drop (7 * n) m) < k = omega (arith, length-drop (7 * n) m, some') in
        ap (λ (xs : List ℕ). payloads n m ++ xs) (r fewer) ∙ block_carries n m
