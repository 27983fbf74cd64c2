-- Request P11: a line that was written is read back, and a log is cut into the lines that were written. Assumes nothing.
use Rattle.std.specs.Prelude.{if◌then◌else◌}
use Prim.Native.Nat.{ℕ, zero, suc, ◌+◌, ◌-◌, ◌*◌, ◌/◌, ◌%◌, ◌^◌, ◌≤◌, ◌<◌}
use mathlib.Core.Path.{◌≡◌, refl, sym, ap, ◌∙◌, subst}
use mathlib.Core.Bool.{Bool, true, false, ◌&&◌}
use mathlib.Core.List.{List, [], ◌∷◌, ◌++◌, map}
use mathlib.Core.Option
use mathlib.Core.Option.{Option, none, some, bind}
use native.Mathlib.Omega.{arith}
use borrow.Author.Tests.{eq-eqb, ne_eqb, le-leb, lt-ltb, leb-true, ltb-true}
use lib.Dec.{eqb, leb, ltb, T, leb→le, ltb→lt, le→leb, lt→ltb}
use lib.ListN.{length}
use Rattle.codec.specs.Plain.{within, all, is_byte}
use Rattle.codec.proofs.Lists.{all_append}
use Rattle.codec.proofs.Tests.{left, right, join, between, within_high, true_T}
use Rattle.machine.specs.Limits.{last_line, most_bytes}
use Rattle.machine.specs.Message.{id_limit}
use Rattle.text.specs.Text.{digit_in, below, fixed, decimal, value_of, number_of}
use Rattle.text.proofs.Text.{fixed_back, decimal_back, fixed_long, fixed_least, short_least}
use Rattle.candump.specs.Line.{second, Logged, Good, opens, nought, closes, blank, hash, point, can, id_digits, data_text, frame_text, name_text, micro_text, line_text, cut, behind, only, six_in, width_in, id_in, both_in, data_in, few_in, Words, words, frame_in, name_in, time_in, words_in, digit_only, bus_in, Said, malformed, unknown, tells, logged, named, said_by, line_in}
use Rattle.candump.specs.Log.{newline, lines_text, glue, lines_of}

-- ---- the parts

-- a text is cut where the mark stands, if nothing before it is the mark
cut_at : (c : ℕ) (xs rest : List ℕ) → T (all (leb (suc c)) xs) → cut c (xs ++ (c ∷ rest)) ≡ some (xs, rest)
unfolding cut
cut_at c [] rest t = rw (eq-eqb c c refl)
cut_at c (x ∷ xs) rest t =
    let above : suc c ≤ x = leb→le (suc c) x (left (leb (suc c) x) (all (leb (suc c)) xs) t) in
    rw (ne_eqb x c (λ e. omega arith), cut_at c xs rest (right (leb (suc c) x) (all (leb (suc c)) xs) t))

data_back_law : (b : List ℕ) → T (all is_byte b) → data_in (data_text b) ≡ some b
unfolding data_in data_text bind fixed
data_back_law [] t = refl
data_back_law (b ∷ bs) t =
    let small : b < 16 ^ 2 = ltb→lt b 256 (left (is_byte b) (all is_byte bs) t) in
    rw (fixed_back 16 2 b (omega arith) (omega arith) small, data_back_law bs (right (is_byte b) (all is_byte bs) t))

id_back : (wide : Bool) (id : ℕ) → id ≤ id_limit wide → value_of 16 0 (fixed 16 (id_digits wide) id) ≡ some id
unfolding id_limit id_digits
id_back true id h = fixed_back 16 8 id (omega arith) (omega arith) (omega arith)
id_back false id h = fixed_back 16 3 id (omega arith) (omega arith) (omega arith)

width_back : (wide : Bool) (id : ℕ) → width_in (fixed 16 (id_digits wide) id) ≡ some wide
unfolding width_in id_digits
width_back true id = rw (fixed_long 16 8 id)
width_back false id = rw (fixed_long 16 3 id)

six_back : (v : ℕ) → v < second → six_in (micro_text v) ≡ some v
unfolding six_in micro_text
six_back v h = let long : length (micro_text v) ≡ 6 = fixed_long 10 6 v in rw long (fixed_back 10 6 v (omega arith) (omega arith) h)

micro_least : (m : ℕ) → m ≤ 0x30 → (v : ℕ) → T (all (leb m) (micro_text v))
unfolding micro_text
micro_least m h v = fixed_least m h 10 6 v

few_back : (b : List ℕ) → T (all is_byte b) → length b ≤ most_bytes → few_in (data_text b) ≡ some b
unfolding few_in bind only
few_back b t h = rw (data_back_law b t, le-leb (length b) most_bytes h)

line_digit : (c : ℕ) → within nought (nought + last_line) c ≡ true → digit_only (c ∷ []) ≡ some (c - nought)
unfolding digit_only only
line_digit c e = ap (λ (g : Bool). if◌then◌else◌ {A = Option ℕ} g (some (c - nought)) none) e

bus_back : (line : ℕ) → line ≤ last_line → bus_in (name_text line) ≡ some line
unfolding bus_in name_text bind behind
bus_back line h =
    let e : nought + line - nought ≡ line = omega arith in
    line_digit (nought + line) (between nought (nought + last_line) (nought + line) (omega arith) (omega arith)) ∙ ap some e

-- ---- the line

identifier_back : (wide : Bool) (id : ℕ) → id ≤ id_limit wide → id_in wide (fixed 16 (id_digits wide) id) ≡ some id
unfolding id_in bind only
identifier_back wide id h = rw (id_back wide id h, le-leb id (id_limit wide) h)

both_back : (wide : Bool) (id : ℕ) → id ≤ id_limit wide → both_in (fixed 16 (id_digits wide) id) ≡ some (wide, id)
unfolding both_in bind
both_back wide id h = rw (width_back wide id, identifier_back wide id h)

frame_back : (g : Logged) → Good g → frame_in (frame_text g) ≡ some (g.wide, g.id, g.bytes)
unfolding frame_in bind frame_text
frame_back g h =
    rw (
      cut_at hash (fixed 16 (id_digits g.wide) g.id) (data_text g.bytes) (fixed_least 0x24 (omega arith) 16 (id_digits g.wide) g.id),
      both_back g.wide g.id h.small,
      few_back g.bytes h.octets h.few,
    )

name_least : (line : ℕ) → T (all (leb (suc blank)) (name_text line))
unfolding name_text
name_least line = join (leb (suc blank) (nought + line)) true (le→leb (suc blank) (nought + line) (omega arith)) tt

name_long : (line : ℕ) → 0 < length (name_text line)
unfolding name_text
name_long line = omega arith

name_back : (g : Logged) → Good g → name_in g.time (name_text g.line ++ (blank ∷ frame_text g)) ≡ some (words g.time (name_text g.line) (g.wide, g.id, g.bytes))
unfolding name_in bind only
name_back g h =
    let long : 0 < length (name_text g.line) = name_long g.line in
    rw (cut_at blank (name_text g.line) (frame_text g) (name_least g.line), lt-ltb 0 (length (name_text g.line)) long, frame_back g h)

words_back : (g : Logged) → Good g → words_in (line_text g) ≡ some (words g.time (name_text g.line) (g.wide, g.id, g.bytes))
unfolding words_in time_in line_text bind behind decimal
words_back g h =
    let small : g.time % second < second = omega arith in
    let e : g.time / second * second + g.time % second ≡ g.time = omega arith in
    rw (
      cut_at point (decimal (g.time / second)) (micro_text (g.time % second) ++ (closes ∷ blank ∷ (name_text g.line ++ (blank ∷ frame_text g)))) (short_least 0x2F (omega arith) 10 (suc (g.time / second)) (g.time / second)),
      decimal_back (g.time / second),
      cut_at closes (micro_text (g.time % second)) (blank ∷ (name_text g.line ++ (blank ∷ frame_text g))) (micro_least 0x2A (omega arith) (g.time % second)),
      six_back (g.time % second) small,
      e,
    )
    (name_back g h)

-- A LINE THAT WAS WRITTEN IS READ BACK
pub line_back : (g : Logged) → Good g → line_in (line_text g) ≡ tells g
unfolding line_in said_by named logged words
line_back g h = rw (words_back g h, bus_back g.line h.bus)

-- ---- the lines of a log

-- no byte of a line is a newline
printed_data : (b : List ℕ) → T (all (leb 0x20) (data_text b))
unfolding data_text
printed_data [] = tt
printed_data (b ∷ bs) = all_append (leb 0x20) (fixed 16 2 b) (data_text bs) (fixed_least 0x20 (omega arith) 16 2 b) (printed_data bs)

printed_name : (line : ℕ) → T (all (leb 0x20) (name_text line))
unfolding name_text
printed_name line = join (leb 0x20 (nought + line)) true (le→leb 0x20 (nought + line) (omega arith)) tt

printed_frame : (g : Logged) → T (all (leb 0x20) (frame_text g))
unfolding frame_text
printed_frame g =
    all_append (leb 0x20) (fixed 16 (id_digits g.wide) g.id) _ (fixed_least 0x20 (omega arith) 16 (id_digits g.wide) g.id) (printed_data g.bytes)

printed : (g : Logged) → T (all (leb 0x20) (line_text g))
unfolding line_text decimal
printed g =
    all_append (leb 0x20) (decimal (g.time / second)) _ (short_least 0x20 (omega arith) 10 (suc (g.time / second)) (g.time / second))
    (all_append (leb 0x20) (micro_text (g.time % second)) _ (micro_least 0x20 (omega arith) (g.time % second))
    (all_append (leb 0x20) (name_text g.line) _ (printed_name g.line) (printed_frame g)))

line_cut : (xs more : List ℕ) → T (all (leb 0x20) xs) → lines_of (xs ++ (0x0A ∷ more)) ≡ xs ∷ lines_of more
unfolding lines_of glue
line_cut [] more t = refl
line_cut (x ∷ xs) more t =
    let high : 0x20 ≤ x = leb→le 0x20 x (left (leb 0x20 x) (all (leb 0x20) xs) t) in
    rw (ne_eqb x 0x0A (λ e. omega arith), line_cut xs more (right (leb 0x20 x) (all (leb 0x20) xs) t))

pub lines_back : (gs : List Logged) → lines_of (lines_text gs) ≡ map line_text gs
unfolding lines_text lines_of
lines_back [] = refl
lines_back (g ∷ gs) = line_cut (line_text g) (lines_text gs) (printed g) ∙ ap (λ (l : List (List ℕ)). line_text g ∷ l) (lines_back gs)

-- ---- what is read from a line is good

record Came {A B : Type 0} (o : Option A) (f : A → Option B) (b : B) : Type 0 where
  what : A
  first : o ≡ some what
  onward : f what ≡ some b

came : {A B : Type 0} (o : Option A) (f : A → Option B) (b : B) → bind o f ≡ some b → Came o f b
unfolding bind
came none f b e = let z : ◌≡◌ {A = ℕ} 0 1 = cc in absurd (omega arith)
came (some a) f b e = record { what = a; first = refl; onward = e }

passed : {A : Type 0} (t : Bool) (a b : A) → only t a ≡ some b → (t ≡ true) × (a ≡ b)
unfolding only
passed true a b e = (refl, cc)
passed false a b e = let z : ◌≡◌ {A = ℕ} 0 1 = cc in absurd (omega arith)

digit_small : (base u v : ℕ) → below base u ≡ some v → v < base
unfolding below
digit_small base u v = by (ltb u base) refl
  where
    by : (g : Bool) → ltb u base ≡ g → ◌≡◌ {A = Option ℕ} (if g then some u else none) (some v) → v < base
    by true q e = let same : u ≡ v = cc in omega (arith, ltb-true u base q)
    by false q e = let z : ◌≡◌ {A = ℕ} 0 1 = cc in absurd (omega arith)

byte_small : (x y b : ℕ) → value_of 16 0 (x ∷ y ∷ []) ≡ some b → b < 256
unfolding value_of
byte_small x y b e =
    let c = came (bind (digit_in x) (below 16)) (λ v. value_of 16 (0 * 16 + v) (y ∷ [])) b e in
    let d = came (bind (digit_in y) (below 16)) (λ v. value_of 16 ((0 * 16 + c.what) * 16 + v) []) b c.onward in
    let h = came (digit_in x) (below 16) c.what c.first in
    let l = came (digit_in y) (below 16) d.what d.first in
    let is : (0 * 16 + c.what) * 16 + d.what ≡ b = cc d.onward in
    omega (arith, digit_small 16 h.what c.what h.onward, digit_small 16 l.what d.what l.onward)

data_good : (l b : List ℕ) → data_in l ≡ some b → T (all is_byte b)
unfolding data_in
data_good [] b e = let is : [] ≡ b = cc in subst (λ (m : List ℕ). T (all is_byte m)) is tt
data_good (x ∷ []) b e = let z : ◌≡◌ {A = ℕ} 0 1 = cc in absurd (omega arith)
data_good (x ∷ y ∷ l) b e =
    let c = came (value_of 16 0 (x ∷ y ∷ [])) (λ b. Option.map (b ∷◌) (data_in l)) b e in
    more c.what (byte_small x y c.what c.first) (data_in l) (data_good l) refl c.onward
  where
    more : (v : ℕ) → v < 256 → (o : Option (List ℕ)) → ((m : List ℕ) → data_in l ≡ some m → T (all is_byte m)) → data_in l ≡ o → Option.map (v ∷◌) o ≡ some b → T (all is_byte b)
    more v h none ih q e = let z : ◌≡◌ {A = ℕ} 0 1 = cc in absurd (omega arith)
    more v h (some m) ih q e =
        let is : v ∷ m ≡ b = cc in
        subst (λ (m : List ℕ). T (all is_byte m)) is (join (is_byte v) (all is_byte m) (lt→ltb v 256 h) (ih m q))

-- what a line's words are: an identifier and data that can be recorded
record Sound (w : Words) : Type 0 where
  small : w.id ≤ id_limit w.wide
  few : length w.bytes ≤ most_bytes
  octets : T (all is_byte w.bytes)

id_good : (wide : Bool) (l : List ℕ) (id : ℕ) → id_in wide l ≡ some id → id ≤ id_limit wide
unfolding id_in
id_good wide l id e =
    let c = came (value_of 16 0 l) _ id e in
    let p = passed (leb c.what (id_limit wide)) c.what id c.onward in
    omega (arith, leb-true c.what (id_limit wide) p.0, p.1)

few_good : (l b : List ℕ) → few_in l ≡ some b → (length b ≤ most_bytes) × T (all is_byte b)
unfolding few_in
few_good l b e =
    let c = came (data_in l) _ b e in
    let p = passed (leb (length c.what) most_bytes) c.what b c.onward in
    subst (λ (m : List ℕ). (length m ≤ most_bytes) × T (all is_byte m)) p.1 (leb-true (length c.what) most_bytes p.0, data_good l c.what c.first)

both_good : (l : List ℕ) (wide : Bool) (id : ℕ) → both_in l ≡ some (wide, id) → id ≤ id_limit wide
unfolding both_in
both_good l wide id e =
    let c₁ = came (width_in l) _ (wide, id) e in
    let c₂ = came (id_in c₁.what l) _ (wide, id) c₁.onward in
    let is : ◌≡◌ {A = Bool × ℕ} (c₁.what, c₂.what) (wide, id) = cc c₂.onward in
    subst (λ (p : Bool × ℕ). p.1 ≤ id_limit p.0) is (id_good c₁.what l c₂.what c₂.first)

frame_good : (l : List ℕ) (f : Bool × ℕ × List ℕ) → frame_in l ≡ some f → (f.1 ≤ id_limit f.0) × (length f.2 ≤ most_bytes) × T (all is_byte f.2)
unfolding frame_in
frame_good l f e =
    let c₁ = came (cut hash l) _ f e in
    let s = c₁.what in
    let c₂ = came (both_in s.0) _ f c₁.onward in
    let c₃ = came (few_in s.1) _ f c₂.onward in
    let b = few_good s.1 c₃.what c₃.first in
    let is : ◌≡◌ {A = Bool × ℕ × List ℕ} (c₂.what.0, c₂.what.1, c₃.what) f = cc c₃.onward in
    subst (λ (f : Bool × ℕ × List ℕ). (f.1 ≤ id_limit f.0) × (length f.2 ≤ most_bytes) × T (all is_byte f.2)) is
    (both_good s.0 c₂.what.0 c₂.what.1 c₂.first, b.0, b.1)

name_good : (time : ℕ) (l : List ℕ) (w : Words) → name_in time l ≡ some w → Sound w
unfolding name_in words
name_good time l w e =
    let c₁ = came (cut blank l) _ w e in
    let c₂ = came (only (ltb 0 (length c₁.what.0)) c₁.what.0) _ w c₁.onward in
    let c₃ = came (frame_in c₁.what.1) _ w c₂.onward in
    let f = frame_good c₁.what.1 c₃.what c₃.first in
    let is : words time c₂.what c₃.what ≡ w = cc c₃.onward in
    subst Sound is (record { small = f.0; few = f.1; octets = f.2 })

words_good : (l : List ℕ) (w : Words) → words_in l ≡ some w → Sound w
unfolding words_in
words_good l w e =
    let c₁ = came (time_in l) _ w e in
    let c₂ = came (behind (blank ∷ []) c₁.what.1) _ w c₁.onward in
    name_good c₁.what.0 c₂.what w c₂.onward

digit_bus : (l : List ℕ) (line : ℕ) → digit_only l ≡ some line → line ≤ last_line
unfolding digit_only
digit_bus [] line e = let z : ◌≡◌ {A = ℕ} 0 1 = cc in absurd (omega arith)
digit_bus (c ∷ []) line e =
    let q = passed (within nought (nought + last_line) c) (c - nought) line e in
    omega (arith, q.1, within_high nought (nought + last_line) c (true_T (within nought (nought + last_line) c) q.0))
digit_bus (c ∷ d ∷ l) line e = let z : ◌≡◌ {A = ℕ} 0 1 = cc in absurd (omega arith)

bus_small : (name : List ℕ) (line : ℕ) → bus_in name ≡ some line → line ≤ last_line
unfolding bus_in
bus_small name line e = let c = came (behind can name) digit_only line e in digit_bus c.what line c.onward

-- WHAT A LINE SAYS CAN BE RECORDED
pub line_good : (l : List ℕ) (g : Logged) → line_in l ≡ tells g → Good g
unfolding line_in said_by named logged
line_good l g = go (words_in l) refl
  where
    on : (w : Words) → Sound w → (o : Option ℕ) → bus_in w.name ≡ o → named w o ≡ tells g → Good g
    on w s none q e = let z : ◌≡◌ {A = ℕ} 0 1 = cc in absurd (omega arith)
    on w s (some line) q e =
        let is : logged w line ≡ g = cc in
        subst Good is (record { bus = bus_small w.name line q; small = s.small; few = s.few; octets = s.octets })

    go : (o : Option Words) → words_in l ≡ o → said_by o ≡ tells g → Good g
    go none q e = let z : ◌≡◌ {A = ℕ} 0 1 = cc in absurd (omega arith)
    go (some w) q e = on w (words_good l w q) (bus_in w.name) refl e
