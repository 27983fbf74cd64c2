-- Request P11: full advances first are the cheapest way to write a difference of time. Assumes nothing.
use Prim.Native.Nat.{ℕ, zero, suc, ◌+◌, ◌-◌, ◌*◌, ◌/◌, ◌%◌, ◌≤◌, ◌<◌}
use mathlib.Core.Path.{◌≡◌, refl, sym, ap, ◌∙◌, subst}
use mathlib.Core.Logic.{⊎_elim}
use mathlib.Core.List.{List, [], ◌∷◌, ◌++◌, append_assoc}
use native.Mathlib.Omega.{arith}
use lib.ListN.{length, replicate, length-append}
use Rattle.number.specs.Number.{bytes_of}
use Rattle.number.proofs.Laws.{groups_one, groups_more}
use Rattle.number.proofs.Groups.{below}
use Rattle.machine.specs.Step.{Event, advance}
use Rattle.candump.specs.Log.{event_bytes, bytes_all, rest, full, advances}

-- ---- the bytes of a number up to 1,000,000

pub one_byte : (v : ℕ) → v < 128 → length (bytes_of v) ≡ 1
unfolding bytes_of
one_byte v h = ap length (groups_one 4 v h)

pub two_bytes : (v : ℕ) → 128 ≤ v → v < 16384 → length (bytes_of v) ≡ 2
unfolding bytes_of
two_bytes v h k = let low : v / 128 < 128 = omega arith in ap length (groups_more 4 v h ∙ ap (λ (l : List ℕ). (128 + v % 128) ∷ l) (groups_one 3 (v / 128) low))

pub three_bytes : (v : ℕ) → 16384 ≤ v → v ≤ 1000000 → length (bytes_of v) ≡ 3
unfolding bytes_of
three_bytes v h k =
    let high : 128 ≤ v = omega arith in
    let mid : 128 ≤ v / 128 = omega arith in
    let low : v / 128 / 128 < 128 = omega arith in
    ap length (groups_more 4 v high ∙ ap (λ (l : List ℕ). (128 + v % 128) ∷ l) (groups_more 3 (v / 128) mid ∙ ap (λ (l : List ℕ). (128 + v / 128 % 128) ∷ l) (groups_one 2 (v / 128 / 128) low)))

pub size_least : (v : ℕ) → v ≤ 1000000 → 1 ≤ length (bytes_of v)
size_least v m =
    ⊎_elim (λ h. omega (arith, one_byte v h)) (λ h. ⊎_elim (λ k. omega (arith, two_bytes v h k)) (λ k. omega (arith, three_bytes v k m)) (below v 16384)) (below v 128)

pub size_most : (v : ℕ) → v ≤ 1000000 → length (bytes_of v) ≤ 3
size_most v m =
    ⊎_elim (λ h. omega (arith, one_byte v h)) (λ h. ⊎_elim (λ k. omega (arith, two_bytes v h k)) (λ k. omega (arith, three_bytes v k m)) (below v 16384)) (below v 128)

pub size_grows : (v w : ℕ) → v ≤ w → w ≤ 1000000 → length (bytes_of v) ≤ length (bytes_of w)
size_grows v w h m =
    ⊎_elim (λ k. omega (arith, one_byte v k, size_least w m))
    (λ k.
    ⊎_elim (λ j. ⊎_elim (λ i. let a : w < 16384 = i in omega (arith, two_bytes v k j, two_bytes w (omega arith) a)) (λ i. omega (arith, two_bytes v k j, three_bytes w i m)) (below w 16384))
    (λ j. omega (arith, size_most v (omega arith), three_bytes w (omega arith) m))
    (below v 16384))
    (below v 128)

-- ---- the bytes of events

pub bytes_append : (xs ys : List Event) → bytes_all (xs ++ ys) ≡ bytes_all xs ++ bytes_all ys
unfolding bytes_all
bytes_append [] ys = refl
bytes_append (x ∷ xs) ys = ap (λ (l : List ℕ). event_bytes x ++ l) (bytes_append xs ys) ∙ sym (append_assoc (event_bytes x) (bytes_all xs) (bytes_all ys))

pub length_both : (xs ys : List Event) → length (bytes_all (xs ++ ys)) ≡ length (bytes_all xs) + length (bytes_all ys)
length_both xs ys = ap length (bytes_append xs ys) ∙ length-append (bytes_all xs) (bytes_all ys)

pub length_more : (e : Event) (es : List Event) → length (bytes_all (e ∷ es)) ≡ length (event_bytes e) + length (bytes_all es)
unfolding bytes_all
length_more e es = length-append (event_bytes e) (bytes_all es)

pub advance_size : (u : ℕ) → length (event_bytes (advance u)) ≡ 1 + length (bytes_of u)
unfolding event_bytes
advance_size u = omega (arith, length-append (bytes_of 4) (bytes_of u), one_byte 4 (omega arith))

-- ---- the cost of a rest, and of a difference

unfoldable pub cost : ℕ → ℕ
cost r = length (bytes_all (rest r))

pub cost_zero : cost 0 ≡ 0
unfolding cost rest bytes_all
cost_zero = refl

pub cost_some : (r : ℕ) → 0 < r → cost r ≡ 1 + length (bytes_of r)
unfolding cost rest
cost_some zero h = absurd (omega arith)
cost_some (suc r) h = let e : length (bytes_all []) ≡ 0 = cost_zero in omega (arith, length_more (advance (suc r)) [], advance_size (suc r))

cost_most : (r : ℕ) → r < full → cost r ≤ 4
cost_most zero h = omega (arith, cost_zero)
cost_most (suc r) h = omega (arith, cost_some (suc r) (omega arith), size_most (suc r) (omega arith))

-- a rest costs no more than an advance of as much or more
cost_under : (r u : ℕ) → r ≤ u → u ≤ 1000000 → cost r ≤ 1 + length (bytes_of u)
cost_under zero u h m = omega (arith, cost_zero)
cost_under (suc r) u h m = omega (arith, cost_some (suc r) (omega arith), size_grows (suc r) u h m)

cost_grows : (r s : ℕ) → r ≤ s → s < full → cost r ≤ cost s
cost_grows zero s h m = omega (arith, cost_zero)
cost_grows (suc r) s h m = omega (arith, cost_some s (omega arith), cost_under (suc r) s h (omega arith))

pub full_size : (k : ℕ) → length (bytes_all (replicate k (advance full))) ≡ 4 * k
unfolding bytes_all
full_size zero = refl
full_size (suc k) = omega (arith, length_more (advance full) (replicate k (advance full)), full_size k, advance_size full, three_bytes full (omega arith) (omega arith))

-- the bytes of a difference
abbrev pub price : ℕ → ℕ
price n = length (bytes_all (advances n))

pub price_is : (n : ℕ) → price n ≡ 4 * (n / full) + cost (n % full)
unfolding advances cost
price_is n = omega (arith, length_both (replicate (n / full) (advance full)) (rest (n % full)), full_size (n / full))

pub price_zero : price 0 ≡ 0
price_zero = omega (arith, price_is 0, cost_zero)

-- an advance more: it costs no less by itself
within_one : (r u : ℕ) → r + u < full → cost (r + u) ≤ cost r + (1 + length (bytes_of u))
within_one zero u h = let e : 0 + u ≡ u = omega arith in rw e (omega (arith, cost_under u u (omega arith) (omega arith)))
within_one (suc r) u h = omega (arith, cost_most (suc r + u) h, cost_some (suc r) (omega arith), size_least (suc r) (omega arith), size_least u (omega arith))

over_one : (r u r' : ℕ) → r < full → u ≤ 1000000 → r + u ≡ full + r' → 4 + cost r' ≤ cost r + (1 + length (bytes_of u))
over_one r u r' h m e =
    ⊎_elim
    (λ (small : u < 16384). omega (arith, cost_some r (omega arith), three_bytes r (omega arith) (omega arith), cost_under r' u (omega arith) m))
    (λ (large : 16384 ≤ u). omega (arith, three_bytes u large m, cost_grows r' r (omega arith) h))
    (below u 16384)

-- THE CHEAPEST WAY. A difference that is one accepted advance longer costs no more than that advance
pub cheapest : (n u : ℕ) → u ≤ 1000000 → price (n + u) ≤ price n + length (event_bytes (advance u))
cheapest n u m =
    let small : n % full < full = omega arith in
    ⊎_elim
    (λ (l : n % full + u < full).
    let d : (n + u) / full ≡ n / full = omega arith in
    let k : (n + u) % full ≡ n % full + u = omega arith in
    omega (arith, price_is (n + u), price_is n, advance_size u, ap cost k, within_one (n % full) u l))
    (λ (l : full ≤ n % full + u).
    let d : (n + u) / full ≡ n / full + 1 = omega arith in
    let k : n % full + u ≡ full + (n + u) % full = omega arith in
    omega (arith, price_is (n + u), price_is n, advance_size u, over_one (n % full) u ((n + u) % full) small m k))
    (below (n % full + u) full)
