-- A store is at most 1,149 bytes long. Assumes nothing.
use Rattle.std.specs.Prelude.{if◌then◌else◌}
use Prim.Native.Nat.{ℕ, suc, ◌+◌, ◌-◌, ◌*◌, ◌/◌, ◌≤◌, ◌<◌}
use mathlib.Core.Path.{◌≡◌, refl, ap, ◌∙◌}
use mathlib.Core.Bool.{Bool, true, false, not}
use mathlib.Core.List.{List, [], ◌∷◌, ◌++◌}
use mathlib.Core.Logic.{◌⊎◌, inl, inr, ⊎_elim}
use mathlib.Core.Option.{none, some}
use native.Mathlib.Nat.{suc-mul}
use native.Mathlib.Omega.{arith}
use borrow.Author.Tests.{le-ltb}
use lib.Dec.{T}
use lib.ListN.{length, take, length-append}
use Rattle.number.specs.Number.{groups, bytes_of}
use Rattle.number.proofs.Laws.{groups_one, groups_more, written_short}
use Rattle.number.proofs.Groups.{below}
use Rattle.machine.specs.Codes.{code_of}
use Rattle.machine.specs.Message.{shown, Rec}
use Rattle.machine.specs.Filter.{Slots, Filter, type_of}
use Rattle.machine.specs.Store.{Setup, numbered, each_bytes, slots_bytes, row_record, filter_bytes, periodic_bytes, body_bytes, store_bytes}
use Rattle.machine.specs.Channel.{Open, listens, unless, says, setup_of, on_save}
use Rattle.setups.specs.Good.{Holds, Every, clean_rec, GoodFilter, GoodPeriodic, GoodSetup}
use Rattle.setups.specs.Saved.{Rising}
use Rattle.setups.proofs.Places.{numbered_rising, numbered_each}
use Rattle.setups.proofs.Records.{shown_long}

-- ---- numbers

one_byte : (k v : ℕ) → v < 128 → length (groups (suc k) v) ≤ 1
one_byte k v h = rw (groups_one k v h) (omega arith)

two_bytes : (k v : ℕ) → v < 16384 → length (groups (suc (suc k)) v) ≤ 2
two_bytes k v h =
    ⊎_elim (λ (l : v < 128). let i = one_byte (suc k) v l in omega arith)
    (λ (l : 128 ≤ v). let i = one_byte k (v / 128) (omega arith) in rw (groups_more (suc k) v l) (omega arith))
    (below v 128)

three_bytes : (k v : ℕ) → v < 2097152 → length (groups (suc (suc (suc k))) v) ≤ 3
three_bytes k v h =
    ⊎_elim (λ (l : v < 128). let i = one_byte (suc (suc k)) v l in omega arith)
    (λ (l : 128 ≤ v). let i = two_bytes k (v / 128) (omega arith) in rw (groups_more (suc (suc k)) v l) (omega arith))
    (below v 128)

number_1 : (v : ℕ) → v < 128 → length (bytes_of v) ≤ 1
unfolding bytes_of
number_1 v h = one_byte 4 v h

number_2 : (v : ℕ) → v < 16384 → length (bytes_of v) ≤ 2
unfolding bytes_of
number_2 v h = two_bytes 3 v h

number_3 : (v : ℕ) → v < 2097152 → length (bytes_of v) ≤ 3
unfolding bytes_of
number_3 v h = three_bytes 2 v h

-- ---- parts

type_1 : (c : Bool) → length (bytes_of (type_of c)) ≤ 1
type_1 true = number_1 2 (omega arith)
type_1 false = number_1 1 (omega arith)

filter_73 : (flags : ℕ) (f : Filter) → GoodFilter flags f → length (filter_bytes f) ≤ 73
unfolding filter_bytes row_record
filter_73 flags f g =
    let a : List ℕ = take f.size f.mask in
    let b : List ℕ = take f.size f.pattern in
    let h = g.high in
    let la : length a ≡ f.size = g.mask.long in
    let lb : length b ≡ f.size = g.pattern.long in
    let m : List ℕ = shown (clean_rec f.wide a) in
    let p : List ℕ = shown (clean_rec f.wide b) in
    let lm : length m ≡ 36 = shown_long f.wide a (omega arith) in
    let lp : length p ≡ 36 = shown_long f.wide b (omega arith) in
    let t = type_1 f.block in
    omega (arith, length-append (bytes_of (type_of f.block)) (m ++ p), length-append m p)

periodic_39 : (flags : ℕ) (p : Rec × ℕ) → GoodPeriodic flags p → length (periodic_bytes p) ≤ 39
unfolding periodic_bytes
periodic_39 flags p g =
    let q = g.message in
    let l : length (shown p.0) ≡ 36 = ap (λ (r : Rec). length (shown r)) q.is ∙ shown_long q.wide p.0.bytes q.high in
    let h = g.high in
    let n = number_3 p.1 (omega arith) in
    omega (arith, length-append (shown p.0) (bytes_of p.1))

module _ {A : Type 0} (w : A → List ℕ) (P : A → Type 0) (most : ℕ) (short : (a : A) → P a → length (w a) ≤ most) where
  each_short : (before : ℕ) (es : List (ℕ × A)) → Rising before 10 es → Every (λ e. P e.1) es → length (each_bytes w es) ≤ length es * (most + 1)
  unfolding each_bytes
  each_short before [] r h = omega arith
  each_short before (e ∷ es) r h =
      let high = r.1.0 in
      let n = number_1 e.0 (omega arith) in
      let a = short e.1 h.0 in
      let i = each_short e.0 es r.1.1 h.1 in
      omega (arith, suc-mul (length es) (most + 1), length-append (bytes_of e.0) (w e.1 ++ each_bytes w es), length-append (w e.1) (each_bytes w es))

few : {A : Type 0} (k : ℕ) (s : Slots A) → length (numbered k s) ≤ length s
unfolding numbered
few k [] = omega arith
few k (none ∷ s) = let i = few (suc k) s in omega arith
few k (some a ∷ s) = let i = few (suc k) s in omega arith

filters_741 : (flags : ℕ) (s : Slots Filter) → length s ≡ 10 → Every (Holds (GoodFilter flags)) s → length (slots_bytes filter_bytes s) ≤ 741
unfolding slots_bytes
filters_741 flags s l h =
    let es : List (ℕ × Filter) = numbered 1 s in
    let f = few 1 s in
    let n = number_1 (length es) (omega arith) in
    let e : length (each_bytes filter_bytes es) ≤ length es * 74 =
    each_short filter_bytes (GoodFilter flags) 73 (filter_73 flags) 0 es (numbered_rising 0 10 s (omega arith)) (numbered_each (GoodFilter flags) 1 s h) in
    omega (arith, length-append (bytes_of (length es)) (each_bytes filter_bytes es))

periodics_401 : (flags : ℕ) (s : Slots (Rec × ℕ)) → length s ≡ 10 → Every (Holds (GoodPeriodic flags)) s → length (slots_bytes periodic_bytes s) ≤ 401
unfolding slots_bytes
periodics_401 flags s l h =
    let es : List (ℕ × (Rec × ℕ)) = numbered 1 s in
    let f = few 1 s in
    let n = number_1 (length es) (omega arith) in
    let e : length (each_bytes periodic_bytes es) ≤ length es * 40 =
    each_short periodic_bytes (GoodPeriodic flags) 39 (periodic_39 flags) 0 es (numbered_rising 0 10 s (omega arith)) (numbered_each (GoodPeriodic flags) 1 s h) in
    omega (arith, length-append (bytes_of (length es)) (each_bytes periodic_bytes es))

loop_1 : (l : Bool) → length (bytes_of (if l then 1 else 0)) ≤ 1
loop_1 true = number_1 1 (omega arith)
loop_1 false = number_1 0 (omega arith)

-- a listener has none
no_periodics : (flags : ℕ) → T (listens flags) → (s : Slots (Rec × ℕ)) (k : ℕ) → Every (Holds (GoodPeriodic flags)) s → numbered k s ≡ []
unfolding numbered
no_periodics flags t [] k h = refl
no_periodics flags t (none ∷ s) k h = no_periodics flags t s (suc k) h.1
no_periodics flags t (some p ∷ s) k h = absurd (never (listens flags) t h.0.speaks)
  where
    never : (b : Bool) → T b → T (not b) → ⊥
    never true t n = n
    never false t n = t

periodics_1 : (flags : ℕ) → T (listens flags) → (s : Slots (Rec × ℕ)) → Every (Holds (GoodPeriodic flags)) s → length (slots_bytes periodic_bytes s) ≤ 1
unfolding slots_bytes each_bytes bytes_of groups
periodics_1 flags t s h = rw (no_periodics flags t s 1 h) (number_1 0 (omega arith))

-- flags as a connect takes them: a listener's number is longer
abbrev pub ShortFlags : ℕ → Type 0
ShortFlags flags = (flags < 16384) ⊎ T (listens flags)

flags_and_periodics : (s : Setup) → ShortFlags s.flags → length s.periodics ≡ 10 → Every (Holds (GoodPeriodic s.flags)) s.periodics
    → length (bytes_of s.flags) + length (slots_bytes periodic_bytes s.periodics) ≤ 403
flags_and_periodics s (inl h) l e =
    let a = number_2 s.flags h in
    let b = periodics_401 s.flags s.periodics l e in
    omega arith
flags_and_periodics s (inr t) l e =
    let a = (written_short s.flags).1 in
    let b = periodics_1 s.flags t s.periodics e in
    omega arith

-- 1,149 BYTES ALWAYS SUFFICE, for flags and rates as 01 has them
pub store_short : (rates : List ℕ) (s : Setup) → GoodSetup rates s → ShortFlags s.flags → s.rate < 2097152 → length (store_bytes s) ≤ 1149
unfolding store_bytes body_bytes
store_short rates s g hf hr =
    let w1 : List ℕ = slots_bytes filter_bytes s.filters in
    let w2 : List ℕ = slots_bytes periodic_bytes s.periodics in
    let w3 : List ℕ = bytes_of s.rate in
    let w4 : List ℕ = bytes_of (if s.loopback then 1 else 0) in
    let b0 : length (bytes_of 2) ≤ 1 = number_1 2 (omega arith) in
    let b1 = flags_and_periodics s hf g.ten_periodics g.each_periodic in
    let b2 : length w1 ≤ 741 = filters_741 s.flags s.filters g.ten_filters g.each_filter in
    let b4 : length w3 ≤ 3 = number_3 s.rate hr in
    let b5 : length w4 ≤ 1 = loop_1 s.loopback in
    omega (
      arith,
      length-append (bytes_of 2) (bytes_of s.flags ++ (w1 ++ (w2 ++ (w3 ++ w4)))),
      length-append (bytes_of s.flags) (w1 ++ (w2 ++ (w3 ++ w4))),
      length-append w1 (w2 ++ (w3 ++ w4)),
      length-append w2 (w3 ++ w4),
      length-append w3 w4,
    )

pub save_fits : (rates : List ℕ) (o : Open) (b : List ℕ) → GoodSetup rates (setup_of o) → ShortFlags o.config.flags → o.config.rate < 2097152 → 1149 ≤ length b → (on_save o b).1.code ≡ 0x00
unfolding on_save code_of unless says setup_of
save_fits rates o b g hf hr h =
    let l = store_short rates (setup_of o) g hf hr in
    rw (le-ltb (length b) (length (store_bytes (setup_of o))) (omega arith))
