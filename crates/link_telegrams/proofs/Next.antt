-- The next data telegram of a message in its bytes. Assumes nothing.
use mathlib.Core.Path.{◌≡◌, refl, sym, ap, ap₂, ◌∙◌, subst}
use Prim.Native.Nat.{ℕ, zero, suc, ◌+◌, ◌*◌, ◌-◌, ◌%◌, ◌≤◌, ◌<◌, min}
use native.Mathlib.Omega.{arith, min_cases}
use mathlib.Core.Bool.{true}
use mathlib.Core.List.{List, ◌∷◌, ◌++◌}
use lib.ListN.{length, get_or, take, drop, length-drop}
use lib.Seq.{take_all, drop-drop, take-append-le, drop-append-le}
use lib.Dec.{T, eqb}
use Rattle.codec.specs.Plain.{zeros}
use Rattle.codec.specs.Word.{word, word_at}
use Rattle.codec.specs.Code.{many, text_parts}
use Rattle.layout.proofs.Memory.{bytes_put}
use Rattle.telegram.specs.Telegram.{data_telegram, fits}
use Rattle.link.specs.Connection.{longest, Block, Out, sends, telegrams, block_of, next_data}
use Rattle.link_layout.specs.Sizes.{out_size}
use Rattle.link_layout.specs.Connection.{out}
use Rattle.link_layout.proofs.Lawful.{out_code_lawful}
use Rattle.link_layout.proofs.Places.{out_size_law}
use Rattle.link_layout.proofs.Moves.{data_fit}
use Rattle.link_measures.proofs.Laws.{of_none, of_some}
use Rattle.link_starts.proofs.Laws.{again, fine, text_bytes, sends_bytes, behind_count, rest_ok, rest_most, count_is, taken_is, IsSending, is_sending, out_tag}
use Rattle.link_telegrams.specs.Given.{Sending}

-- all telegrams before the last are full
before_last : (t : ℕ) (rest : List ℕ) → t < telegrams rest → 7 * t ≤ length rest
before_last t rest h = go (length rest) refl
  where
    go : (n : ℕ) → length rest ≡ n → 7 * t ≤ n
    go zero e = let q = of_none rest e in omega arith
    go (suc n) e = let q = of_some (suc n) rest (omega arith) e in omega arith

-- seven bytes of the rest, or those that are left
seven : (at to : ℕ) (rest after : List ℕ) → at ≤ length rest → to ≡ min (at + 7) (length rest) → take (to - at) (drop at (rest ++ after)) ≡ take 7 (drop at rest)
seven at to rest after h e =
    let long = length-drop at rest in
    let fits_in : to - at ≤ length (drop at rest) = omega arith in
    ap (λ (x : List ℕ). take (to - at) x) (drop-append-le at rest after h) ∙ take-append-le (to - at) (drop at rest) after fits_in
    ∙ min_cases (at + 7) (length rest) (take (to - at) (drop at rest) ≡ take 7 (drop at rest))
    (λ l q. let k : to - at ≡ 7 = omega arith in ap (λ (n : ℕ). take n (drop at rest)) k)
    (λ l q.
    let all : length (drop at rest) ≤ to - at = omega arith in
    let few : length (drop at rest) ≤ 7 = omega arith in
    take_all (to - at) (drop at rest) all ∙ sym (take_all 7 (drop at rest) few))

rest_there : (b : Block) → drop 12 (out.put (sends b)) ≡ b.rest ++ zeros (longest - length b.rest)
rest_there b =
    ap (λ (x : List ℕ). drop 12 x) (sends_bytes b ∙ ap (λ (x : List ℕ). 1 ∷ (word 0 ++ b.taken ∷ b.repeats ∷ b.again ∷ x)) (text_bytes b.rest))
    ∙ front (length b.rest) (behind_count b.rest)
    ∙ (unfold many text_parts in bytes_put (b.rest ++ zeros (longest - length b.rest)))
  where
    front : (n : ℕ) (r : List ℕ) → drop 12 (1 ∷ (word 0 ++ b.taken ∷ b.repeats ∷ b.again ∷ (word n ++ r))) ≡ r
    front n r = unfold word in refl

module _ (size : ℕ) (m : List ℕ) (p : Sending size m) where
  same : out.put (out.get m) ≡ m
  same = again out_code_lawful out_size out_size_law m p.long p.valid

  module _ (b : Block) (e : out.get m ≡ sends b) where
    is : out.put (sends b) ≡ m
    is = ap out.put (sym e) ∙ same

    ok : T (out.ok (sends b))
    ok = subst (λ (o : Out). T (out.ok o)) e (fine out_code_lawful out_size out_size_law m p.long p.valid)

    counted : word_at 8 m ≡ length b.rest
    counted = ap (λ (x : List ℕ). word_at 8 x) (sym is) ∙ count_is b ok

    taken : get_or m 5 0 ≡ b.taken
    taken = ap (λ (x : List ℕ). get_or x 5 0) (sym is) ∙ taken_is b

    full : 7 * b.taken ≤ length b.rest
    full = before_last b.taken b.rest (unfold block_of in omega (arith, p.more b e))

    carried : (t to : ℕ) → t ≡ b.taken → to ≡ min (7 * t + 7) (word_at 8 m) → take (12 + to - (12 + 7 * t)) (drop (12 + 7 * t) m) ≡ take 7 (drop (7 * b.taken) b.rest)
    carried t to q r =
        let k : 12 + to - (12 + 7 * t) ≡ to - 7 * b.taken = omega arith in
        let j : 12 + 7 * t ≡ 12 + 7 * b.taken = omega arith in
        let s : to ≡ min (7 * b.taken + 7) (length b.rest) = omega (arith, counted) in
        ap₂ (λ (x y : ℕ). take x (drop y m)) k j
        ∙ ap (λ (x : List ℕ). take (to - 7 * b.taken) x)
        (sym (drop-drop (7 * b.taken) 12 m) ∙ ap (λ (x : List ℕ). drop (7 * b.taken) x) (ap (λ (x : List ℕ). drop 12 x) (sym is) ∙ rest_there b))
        ∙ seven (7 * b.taken) to b.rest (zeros (longest - length b.rest)) full s

    pub telegram_is : (sn sn' t all some to : ℕ) → sn' ≡ sn → t ≡ get_or m 5 0 → ((rest : List ℕ) → length rest ≡ word_at 8 m → some ≡ block_of size rest)
        → ((rest : List ℕ) → length rest ≡ word_at 8 m → all ≡ telegrams rest) → to ≡ min (7 * t + 7) (word_at 8 m)
        → data_telegram (eqb (t + 1) some) (eqb (t + 1) all) ((sn' + t) % 16) (take (12 + to - (12 + 7 * t)) (drop (12 + 7 * t) m)) ≡ next_data size sn b
    unfolding next_data
    telegram_is sn sn' t all some to d q f g r =
        let qt : t ≡ b.taken = q ∙ taken in
        let qs : some ≡ block_of size b.rest = f b.rest (sym counted) in
        let qa : all ≡ telegrams b.rest = g b.rest (sym counted) in
        λ i. data_telegram (eqb (qt i + 1) (qs i)) (eqb (qt i + 1) (qa i)) ((d i + qt i) % 16) (carried t to qt r i)

    pub telegram_fits : (sn : ℕ) → fits (next_data size sn b) ≡ true
    telegram_fits sn = data_fit size sn b (rest_ok b ok)

    limits : (word_at 8 m ≤ longest) × (7 * get_or m 5 0 ≤ word_at 8 m)
    limits = (omega (arith, counted, rest_most b ok), omega (arith, counted, taken, full))

  pub there : IsSending (out.get m)
  there = is_sending (out.get m) (sym (out_tag (out.get m)) ∙ ap (λ (x : List ℕ). get_or x 0 0) same ∙ p.which)

  pub few : word_at 8 m ≤ longest
  few = (limits there.0 there.1).0

  pub begins_inside : 7 * get_or m 5 0 ≤ word_at 8 m
  begins_inside = (limits there.0 there.1).1
