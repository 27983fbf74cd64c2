-- A filter and a periodic of a store, there and back. Assumes nothing.
use Prim.Native.Nat.{ℕ, zero, suc, ◌+◌, ◌-◌, ◌*◌, ◌≤◌, ◌<◌}
use mathlib.Core.Path.{◌≡◌, refl, sym, ap, ap₂, ◌∙◌, subst}
use mathlib.Core.Bool.{Bool, true, false, ◌&&◌, ◌||◌, not}
use mathlib.Core.List.{List, [], ◌∷◌, ◌++◌}
use mathlib.Core.Option.{some}
use native.Mathlib.Omega.{arith}
use lib.Dec.{T, eqb, ltb, eqb→eq, eqb_refl, nltb→le}
use lib.ListN.{length, take, drop, length-drop}
use lib.Seq.{take_at, length-take-le}
use Rattle.codec.specs.Plain.{within, zeros, all, is_byte}
use Rattle.codec.proofs.Tests.{join, within_low, within_high, between, true_T, left, right}
use Rattle.codec.proofs.Lists.{all_drop, all_take, bytes_of_law}
use Rattle.number.specs.Number.{largest, bytes_of}
use Rattle.number.specs.Laws.{Bytes}
use Rattle.number.specs.Reads.{number, bytes}
use Rattle.machine.specs.Codes.{code_of}
use Rattle.machine.specs.Message.{bit, takes, id_of, id_limit, Rec, twelve, shown, protocol_of, tx_flags_of, size_of, wide_of, data_of, message_code, clean}
use Rattle.machine.specs.Filter.{Filter, none_yet, free, type_of}
use Rattle.machine.specs.Store.{row_record, filter_bytes, periodic_bytes, is_clean, clean_in}
use Rattle.machine.specs.Channel.{shorter, filter_code, filter_of, periodic_code, filter_in, periodic_in, blank, listens}
use Rattle.machine.proofs.Tables.{Failed, failed, own_code, yes}
use Rattle.setups.specs.Good.{Row, GoodFilter, clean_rec, GoodPeriodic}
use Rattle.setups.proofs.Reading.{Back, then_back, last_back, only_back, number_back, bytes_back, where_passes, split, Stands, chain, where_there, only_there, number_there, bytes_there}
use Rattle.setups.proofs.Records.{same_sound, shown_long, shown_protocol, shown_size, shown_data, shown_flags, shown_wide, clean_back, shown_clean}

-- ---- tables of tests

-- where every test fails, the code is 0x00
pub passed : (ts : List (Bool × ℕ)) → Failed ts → code_of ts ≡ 0
unfolding code_of
passed [] f = refl
passed (t ∷ ts) f = go t.0 f.0 (passed ts f.1)
  where
    go : (b : Bool) → T (not b) → code_of ts ≡ 0 → code_of ((b, t.1) ∷ ts) ≡ 0
    go true u e = absurd u
    go false u e = e

no_no : (b : Bool) → T b → T (not (not b))
no_no true t = tt
no_no false t = t

nor : (a b : Bool) → T (not a) → T (not b) → T (not (a || b))
nor true b t u = t
nor false b t u = u

eq_T : (m n : ℕ) → m ≡ n → T (eqb m n)
eq_T m n e = subst (λ (k : ℕ). T (eqb m k)) e (eqb_refl m)

same_T : (m n : ℕ) → m ≡ n → T (not (not (eqb m n)))
same_T m n e = no_no (eqb m n) (eq_T m n e)

le_T : (m n : ℕ) → m ≤ n → T (not (ltb n m))
le_T m n h = go (ltb n m) refl
  where
    go : (b : Bool) → ltb n m ≡ b → T (not b)
    go false e = tt
    go true e = let k : n < m = lib.Dec.ltb→lt n m (true_T _ e) in absurd (omega arith)

within_T : (a b n : ℕ) → a ≤ n → n ≤ b → T (within a b n)
within_T a b n h k = true_T _ (between a b n h k)

not_short : (m : List ℕ) → length m ≡ 36 → T (not (shorter m 1))
unfolding shorter
not_short m h = subst (λ (k : ℕ). T (not (ltb k (36 * 1)))) (sym h) tt

-- ---- what was read at a place, of which something holds

pub record Here {A : Type 0} (w : A → List ℕ) (P : A → Type 0) (s : List ℕ) (at : ℕ) (a : A) (next : ℕ) : Type 0 where
  pub stands : Stands s at (w a) next
  pub good : P a

-- ---- a clean record

pub clean_in_back : (wide : Bool) (b : List ℕ) → length b ≤ 12 → Back clean_in (shown (clean_rec wide b)) (shown (clean_rec wide b))
unfolding clean_in
clean_in_back wide b h = only_back is_clean (shown (clean_rec wide b)) (shown (clean_rec wide b)) (bytes_back 36 (shown (clean_rec wide b)) (omega arith) (shown_long wide b h)) (shown_clean wide b h)

pub record Clean (s : List ℕ) (at : ℕ) (m : List ℕ) (next : ℕ) : Type 0 where
  pub stands : Stands s at m next
  pub long : length m ≡ 36
  pub is : m ≡ shown (clean m)
  pub all_bytes : T (all is_byte m)

pub clean_in_there : (s : List ℕ) → Bytes s → (at : ℕ) (m : List ℕ) (n : ℕ) → clean_in s at ≡ some (m, n) → Clean s at m n
unfolding clean_in is_clean
clean_in_there s b at m n e =
    let x = only_there is_clean (bytes 36) m s at n e in
    let r = bytes_there 36 s m at n x.0 in
    record {
      stands = r.stands;
      long = r.long;
      is = same_sound m (shown (clean m)) x.1;
      all_bytes = subst (λ (l : List ℕ). T (all is_byte l)) (sym r.is) (all_take is_byte 36 (drop at s) (all_drop is_byte at s (bytes_of_law s b)));
    }

pub data_long : (m : List ℕ) → length m ≡ 36 → size_of m ≤ 12 → length (data_of m) ≡ size_of m
unfolding data_of
data_long m h k = length-take-le (size_of m) (drop 24 m) (omega (arith, length-drop 24 m))

pub data_bytes : (m : List ℕ) → T (all is_byte m) → T (all is_byte (data_of m))
unfolding data_of
data_bytes m t = all_take is_byte (size_of m) (drop 24 m) (all_drop is_byte 24 m t)

-- ---- a filter

-- the first n of a row
row_front : (n : ℕ) (d : List ℕ) → length d ≡ n → take n (twelve d) ≡ d
unfolding twelve
row_front n d h = take_at d (zeros (12 - length d)) n h

row_of_law : (n : ℕ) (d : List ℕ) → length d ≡ n → T (all is_byte d) → Row n (twelve d)
row_of_law n d h t =
    let e = row_front n d h in
    record { long = ap length e ∙ h; is = ap twelve (sym e); bytes = subst (λ (l : List ℕ). T (all is_byte l)) (sym e) t }

module _ (flags n : ℕ) (block wide : Bool) (a b : List ℕ) (low : 1 ≤ n) (high : n ≤ 12) (la : length a ≡ n) (lb : length b ≡ n) (w : T (takes flags wide)) where
  abbrev record_a : List ℕ
  record_a = shown (clean_rec wide a)

  abbrev record_b : List ℕ
  record_b = shown (clean_rec wide b)

  ha : length a ≤ 12
  ha = omega arith

  hb : length b ≤ 12
  hb = omega arith

  type_T : (c : Bool) → T (within 1 2 (type_of c))
  unfolding within
  type_T true = tt
  type_T false = tt

  -- starting it is not refused
  start_filter_law : filter_code (blank flags 0) (type_of block) record_a record_b ≡ 0
  unfolding filter_code none_yet free
  start_filter_law =
      let sa = shown_size wide a ha in
      let sb = shown_size wide b hb in
      passed _ (
        nor (shorter record_a 1) (shorter record_b 1) (not_short record_a (shown_long wide a ha)) (not_short record_b (shown_long wide b hb)),
        (
          no_no (within 1 2 (type_of block)) (type_T block),
          (
            same_T (protocol_of record_a) 5 (shown_protocol wide a ha),
            (
              same_T (protocol_of record_b) 5 (shown_protocol wide b hb),
              (
                same_T (size_of record_a) (size_of record_b) (sa ∙ la ∙ sym (sb ∙ lb)),
                (
                  no_no (within 1 12 (size_of record_a)) (within_T 1 12 (size_of record_a) (omega arith) (omega arith)),
                  (
                    same_T (tx_flags_of record_a) (tx_flags_of record_b) (shown_flags wide a ∙ sym (shown_flags wide b)),
                    (
                      no_no (takes flags (wide_of record_a)) (subst (λ (v : Bool). T (takes flags v)) (sym (shown_wide wide a)) w),
                      (tt, tt),
                    ),
                  ),
                ),
              ),
            ),
          ),
        ),
      )

  -- and gives it back
  type_back : (c : Bool) → eqb (type_of c) 2 ≡ c
  type_back true = refl
  type_back false = refl

  filter_of_law : filter_of (type_of block) record_a record_b ≡ record { block = block; wide = wide; size = n; mask = twelve a; pattern = twelve b }
  unfolding filter_of
  filter_of_law =
      λ i.
      record {
        block = type_back block i;
        wide = shown_wide wide a i;
        size = (shown_size wide a ha ∙ la) i;
        mask = twelve (shown_data wide a ha i);
        pattern = twelve (shown_data wide b hb i);
      }

pub filter_back_law : (flags : ℕ) (f : Filter) → GoodFilter flags f → Back (filter_in flags) f (filter_bytes f)
unfolding filter_in filter_bytes row_record
filter_back_law flags f g =
    let a : List ℕ = take f.size f.mask in
    let b : List ℕ = take f.size f.pattern in
    let h = g.high in
    let la : length a ≡ f.size = g.mask.long in
    let lb : length b ≡ f.size = g.pattern.long in
    let ha : length a ≤ 12 = omega arith in
    let hb : length b ≤ 12 = omega arith in
    let m : List ℕ = shown (clean_rec f.wide a) in
    let p : List ℕ = shown (clean_rec f.wide b) in
    let t : ℕ = type_of f.block in
    let code = start_filter_law flags f.size f.block f.wide a b g.low h la lb g.width in
    let is : filter_of t m p ≡ f =
    filter_of_law flags f.size f.block f.wide a b g.low h la lb g.width
    ∙ (λ i. record { block = f.block; wide = f.wide; size = f.size; mask = sym g.mask.is i; pattern = sym g.pattern.is i }) in
    then_back _ t f (bytes_of t) (m ++ p) (number_back t (type_small f.block))
    (then_back _ m f m p (clean_in_back f.wide a ha)
    (last_back _ p f p (clean_in_back f.wide b hb)
    (λ s at. where_passes (eqb (filter_code (blank flags 0) t m p) 0) (filter_of t m p) (eq_T (filter_code (blank flags 0) t m p) 0 code) s at ∙ ap (λ (x : Filter). some (x, at)) is)))
  where
    type_small : (c : Bool) → type_of c ≤ largest
    type_small true = omega arith
    type_small false = omega arith

-- the type that was read is that of the filter
type_there : (t : ℕ) → T (within 1 2 t) → type_of (eqb t 2) ≡ t
type_there t h = go t (within_low 1 2 t h) (within_high 1 2 t h)
  where
    go : (k : ℕ) → 1 ≤ k → k ≤ 2 → type_of (eqb k 2) ≡ k
    go zero a b = absurd (omega arith)
    go (suc zero) a b = refl
    go (suc (suc zero)) a b = refl
    go (suc (suc (suc k))) a b = absurd (omega arith)

wide_same : (m p : List ℕ) → tx_flags_of m ≡ tx_flags_of p → wide_of m ≡ wide_of p
unfolding wide_of
wide_same m p e = ap (bit 0x100) e

-- a filter as it was read: from these records, whose start was not refused
pub filter_good : (flags type : ℕ) (m p : List ℕ) → length m ≡ 36 → length p ≡ 36 → T (all is_byte m) → T (all is_byte p) → m ≡ shown (clean m) → p ≡ shown (clean p)
    → filter_code (blank flags 0) type m p ≡ 0 → GoodFilter flags (filter_of type m p) × (filter_bytes (filter_of type m p) ≡ bytes_of type ++ (m ++ p))
unfolding filter_code none_yet free filter_of filter_bytes row_record clean
filter_good flags type m p lm lp bm bp cm cp e =
    let f = failed _ tt e in
    let kind : T (within 1 2 type) = search yes in
    let size : T (within 1 12 (size_of m)) = search yes in
    let sizes : size_of m ≡ size_of p = eqb→eq (size_of m) (size_of p) (search yes) in
    let flag : tx_flags_of m ≡ tx_flags_of p = eqb→eq (tx_flags_of m) (tx_flags_of p) (search yes) in
    let width : T (takes flags (wide_of m)) = search yes in
    let low : 1 ≤ size_of m = within_low 1 12 (size_of m) size in
    let high : size_of m ≤ 12 = within_high 1 12 (size_of m) size in
    let dm : length (data_of m) ≡ size_of m = data_long m lm high in
    let dp : length (data_of p) ≡ size_of m = data_long p lp (omega arith) ∙ sym sizes in
    let wides : wide_of m ≡ wide_of p = wide_same m p flag in
    let mask : shown (clean_rec (wide_of m) (take (size_of m) (twelve (data_of m)))) ≡ m =
    ap (λ (d : List ℕ). shown (clean_rec (wide_of m) d)) (row_front (size_of m) (data_of m) dm) ∙ sym cm in
    let pattern : shown (clean_rec (wide_of m) (take (size_of m) (twelve (data_of p)))) ≡ p =
    ap₂ (λ (v : Bool) (d : List ℕ). shown (clean_rec v d)) wides (row_front (size_of m) (data_of p) dp) ∙ sym cp in (
      record {
        low = low;
        high = high;
        width = width;
        mask = row_of_law (size_of m) (data_of m) dm (data_bytes m bm);
        pattern = row_of_law (size_of m) (data_of p) dp (data_bytes p bp);
      },
      λ i. bytes_of (type_there type kind i) ++ (mask i ++ pattern i),
    )

pub filter_there : (s : List ℕ) → Bytes s → (flags at : ℕ) (f : Filter) (n : ℕ) → filter_in flags s at ≡ some (f, n) → Here filter_bytes (GoodFilter flags) s at f n
unfolding filter_in
filter_there s b flags at f n e =
    let x = split number _ s at f n e in
    let y = split clean_in _ s x.place f n x.rest in
    let z = split clean_in _ s y.place f n y.rest in
    let t = x.what in
    let m = y.what in
    let p = z.what in
    let k = number_there s at t x.place b x.first in
    let cm = clean_in_there s b x.place m y.place y.first in
    let cp = clean_in_there s b y.place p z.place z.first in
    let d = where_there (eqb (filter_code (blank flags 0) t m p) 0) (filter_of t m p) f s z.place n z.rest in
    let g = filter_good flags t m p cm.long cp.long cm.all_bytes cp.all_bytes cm.is cp.is (eqb→eq _ 0 d.0) in
    let stands : Stands s at (filter_bytes (filter_of t m p)) z.place =
    subst (λ (w : List ℕ). Stands s at w z.place) (sym g.1)
    (chain s at x.place z.place (bytes_of t) (m ++ p) k.0 (chain s x.place y.place z.place m p cm.stands cp.stands)) in
    subst (λ (v : Filter). Here filter_bytes (GoodFilter flags) s at v n) d.1.0
    (subst (λ (j : ℕ). Here filter_bytes (GoodFilter flags) s at (filter_of t m p) j) d.1.1 (record { stands = stands; good = g.0 }))

-- ---- a periodic

pub message_good : (flags : ℕ) (wide : Bool) (b : List ℕ) → 4 ≤ length b → length b ≤ 12 → T (takes flags wide) → id_of b ≤ id_limit wide → message_code flags (shown (clean_rec wide b)) ≡ 0
unfolding message_code
message_good flags wide b low high w i =
    let size = shown_size wide b high in
    passed _ (
      same_T (protocol_of (shown (clean_rec wide b))) 5 (shown_protocol wide b high),
      (
        no_no (within 4 12 (size_of (shown (clean_rec wide b)))) (within_T 4 12 (size_of (shown (clean_rec wide b))) (omega arith) (omega arith)),
        (
          no_no (takes flags (wide_of (shown (clean_rec wide b)))) (subst (λ (v : Bool). T (takes flags v)) (sym (shown_wide wide b)) w),
          (
            subst (λ (v : Bool). T (not (ltb (id_limit v) (id_of (data_of (shown (clean_rec wide b))))))) (sym (shown_wide wide b))
                (subst (λ (d : List ℕ). T (not (ltb (id_limit wide) (id_of d)))) (sym (shown_data wide b high)) (le_T (id_of b) (id_limit wide) i)),
            tt,
          ),
        ),
      ),
    )

pub periodic_back_law : (flags : ℕ) (p : Rec × ℕ) → GoodPeriodic flags p → Back (periodic_in flags) p (periodic_bytes p)
unfolding periodic_in periodic_bytes periodic_code none_yet free
periodic_back_law flags p g =
    let q = g.message in
    let b : List ℕ = p.0.bytes in
    let m : List ℕ = shown (clean_rec q.wide b) in
    let read_whole : shown p.0 ≡ m = ap shown q.is in
    let code = message_good flags q.wide b q.low q.high q.width q.identifier in
    let lo = g.low in
    let hi = g.high in
    let good : periodic_code (blank flags 0) m p.1 ≡ 0 = passed _ (
      not_short m (shown_long q.wide b q.high),
      (no_no (within 5 65535 p.1) (within_T 5 65535 p.1 lo hi), (same_T (message_code flags m) 0 code, (tt, tt))),
    ) in
    let is : clean m ≡ p.0 = clean_back q.wide b q.high ∙ sym q.is in
    subst (λ (w : List ℕ). Back (periodic_in flags) p (w ++ bytes_of p.1)) (sym read_whole)
    (then_back _ m p m (bytes_of p.1) (clean_in_back q.wide b q.high)
    (last_back _ p.1 p (bytes_of p.1) (number_back p.1 (omega arith))
    (λ s at. where_passes (not (listens flags) && eqb (periodic_code (blank flags 0) m p.1) 0) (clean m, p.1) (join (not (listens flags)) _ g.speaks (eq_T (periodic_code (blank flags 0) m p.1) 0 good)) s at ∙ ap (λ (r : Rec). some ((r, p.1), at)) is)))

pub periodic_good : (flags : ℕ) (m : List ℕ) (i : ℕ) → length m ≡ 36 → T (all is_byte m) → T (not (listens flags)) → periodic_code (blank flags 0) m i ≡ 0 → GoodPeriodic flags (clean m, i)
unfolding periodic_code message_code none_yet free clean
periodic_good flags m i l b may e =
    let k : ℕ = message_code flags m in
    let f = failed _ (join (not (eqb k 0 && not (eqb k 0))) _ (own_code k) tt) e in
    let wait : T (within 5 65535 i) = yes (within 5 65535 i) f.1.0 in
    let g = failed _ tt (eqb→eq k 0 (yes (eqb k 0) f.1.1.0)) in
    let size : T (within 4 12 (size_of m)) = yes (within 4 12 (size_of m)) g.1.0 in
    let width : T (takes flags (wide_of m)) = yes (takes flags (wide_of m)) g.1.1.0 in
    let id : id_of (data_of m) ≤ id_limit (wide_of m) = nltb→le _ _ g.1.1.1.0 in
    let low : 4 ≤ size_of m = within_low 4 12 (size_of m) size in
    let high : size_of m ≤ 12 = within_high 4 12 (size_of m) size in
    let d : length (data_of m) ≡ size_of m = data_long m l high in
    record {
      speaks = may;
      message = record { wide = wide_of m; is = refl; all_bytes = data_bytes m b; low = omega arith; high = omega arith; identifier = id; width = width };
      low = within_low 5 65535 i wait;
      high = within_high 5 65535 i wait;
    }

pub periodic_there : (s : List ℕ) → Bytes s → (flags at : ℕ) (p : Rec × ℕ) (n : ℕ) → periodic_in flags s at ≡ some (p, n) → Here periodic_bytes (GoodPeriodic flags) s at p n
unfolding periodic_in periodic_bytes
periodic_there s b flags at p n e =
    let x = split clean_in _ s at p n e in
    let y = split number _ s x.place p n x.rest in
    let m = x.what in
    let i = y.what in
    let c = clean_in_there s b at m x.place x.first in
    let k = number_there s x.place i y.place b y.first in
    let d = where_there (not (listens flags) && eqb (periodic_code (blank flags 0) m i) 0) (clean m, i) p s y.place n y.rest in
    let g = periodic_good flags m i c.long c.all_bytes (left (not (listens flags)) _ d.0) (eqb→eq _ 0 (right (not (listens flags)) _ d.0)) in
    let stands : Stands s at (shown (clean m) ++ bytes_of i) y.place =
    subst (λ (w : List ℕ). Stands s at (w ++ bytes_of i) y.place) c.is (chain s at x.place y.place m (bytes_of i) c.stands k.0) in
    subst (λ (v : Rec × ℕ). Here periodic_bytes (GoodPeriodic flags) s at v n) d.1.0
    (subst (λ (j : ℕ). Here periodic_bytes (GoodPeriodic flags) s at (clean m, i) j) d.1.1 (record { stands = stands; good = g }))
