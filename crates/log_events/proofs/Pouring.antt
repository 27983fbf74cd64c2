-- Data of two digits a byte, written one after the other. Assumes nothing.
use Prim.Native.Nat.{ℕ, zero, suc, ◌+◌, ◌*◌, ◌≤◌, ◌<◌}
use mathlib.Core.Path.{◌≡◌, refl, sym, ap, ◌∙◌, subst}
use mathlib.Core.Logic.{⊎_elim}
use mathlib.Core.List.{List, [], ◌∷◌, ◌++◌, append-nil}
use mathlib.Core.Option.{Option, none, some, map, bind}
use native.Mathlib.Numerals.{add-one}
use native.Mathlib.Omega.{arith}
use lib.ListN.{length, get_or, set, take, drop, length-set, length-drop, drop_of_length-le}
use lib.Seq.{sets, sets-eq, drop-cons}
use Rattle.number.proofs.Groups.{below}
use Rattle.std.specs.Prelude as std
use Rattle.std.specs.Option.{unwrap_or}
use Rattle.text.specs.Text.{digit_in, value_of}
use Rattle.text_reader.specs.Reading.{digit_of, valued}
use Rattle.text_reader.proofs.Digits.{digit_there}
use Rattle.candump.specs.Line.{data_in}
use Rattle.answers.specs.Put.{Put}
use Rattle.log_reader.specs.Reading.{data_of}
use Rattle.log_reader.proofs.Data.{bad_digit, data_size, none_before}
use Rattle.log_events.specs.Data.{GoodData}

-- ---- the digits of good data

good_digit : (l b : List ℕ) → data_in l ≡ some b → (i : ℕ) → i < length l → digit_of (get_or l i 0) < 16
good_digit l b e i h = ⊎_elim (λ (k : digit_of (get_or l i 0) < 16). k) (λ (k : 16 ≤ digit_of (get_or l i 0)). refuse (sym e ∙ bad_digit l i h k)) (below (digit_of (get_or l i 0)) 16)
  where
    refuse : some b ≡ none → digit_of (get_or l i 0) < 16
    refuse q = let z : ◌≡◌ {A = ℕ} 0 1 = cc in absurd (omega arith)

-- what is behind a byte is good too
good_behind : (x y : ℕ) (l : List ℕ) → GoodData (x ∷ y ∷ l) → GoodData l
unfolding data_in data_of bind
good_behind x y l = by (value_of 16 0 (x ∷ y ∷ [])) (data_in l) refl
  where
    by : (o : Option ℕ) (r : Option (List ℕ)) → data_in l ≡ r → bind o (λ b. map (b ∷◌) r) ≡ some ((digit_of x * 16 + digit_of y) ∷ data_of l) → data_in l ≡ some (data_of l)
    by none r q e = let z : ◌≡◌ {A = ℕ} 0 1 = cc in absurd (omega arith)
    by (some v) none q e = let z : ◌≡◌ {A = ℕ} 0 1 = cc in absurd (omega arith)
    by (some v) (some m) q e = let is : m ≡ data_of l = cc in q ∙ ap some is

-- what stands for a digit that is there
pub digit_given : (x : ℕ) (r : std.Option ℕ) → r ≡ valued (digit_in x) → digit_of x < 16 → unwrap_or r 0 ≡ digit_of x
digit_given x r e h = ap (λ (o : std.Option ℕ). unwrap_or o 0) (e ∙ sym (digit_there x (omega arith)))

-- ---- the bytes up to a place were written: with those of the rest from there on, the buffer is as it will be
pub record Poured (before : List ℕ) (at : ℕ) (text out : List ℕ) (place i : ℕ) : Type 0 where
  pub inside : i ≤ length text
  pub good : GoodData (drop i text)
  pub same_length : length out ≡ length before
  pub size : place + length (data_of (drop i text)) ≡ at + length (data_of text)
  pub bytes : sets out place (data_of (drop i text)) ≡ sets before at (data_of text)

pub none_poured : (b : List ℕ) (at : ℕ) (text : List ℕ) → GoodData text → Poured b at text b at 0
none_poured b at text g = record { inside = omega arith; good = g; same_length = refl; size = refl; bytes = refl }

module _ {before : List ℕ} {at : ℕ} {text out : List ℕ} {place i : ℕ} (p : Poured before at text out place i) where
  -- there are two digits
  pub even : length text ≡ i + 2 * length (data_of (drop i text))
  even = omega (arith, data_size (drop i text) (data_of (drop i text)) p.good, length-drop i text, p.inside)

  module _ (h : i < length text) where
    pub second_there : i + 1 < length text
    second_there = omega (arith, even)

    two : drop i text ≡ get_or text i 0 ∷ get_or text (i + 1) 0 ∷ drop (i + 2) text
    two =
        let a : suc i ≡ i + 1 = omega arith in
        let b : suc (i + 1) ≡ i + 2 = omega arith in
        drop-cons text i 0 h
        ∙ ap (λ (l : List ℕ). get_or text i 0 ∷ l) (ap (λ (n : ℕ). drop n text) a ∙ drop-cons text (i + 1) 0 second_there ∙ ap (λ (n : ℕ). get_or text (i + 1) 0 ∷ drop n text) b)

    pub good_here : GoodData (get_or text i 0 ∷ get_or text (i + 1) 0 ∷ drop (i + 2) text)
    good_here = subst GoodData two p.good

    pub high_digit : digit_of (get_or text i 0) < 16
    high_digit = good_digit _ _ good_here 0 (omega arith)

    pub low_digit : digit_of (get_or text (i + 1) 0) < 16
    low_digit = good_digit _ _ good_here 1 (omega arith)

    data_here : data_of (drop i text) ≡ (digit_of (get_or text i 0) * 16 + digit_of (get_or text (i + 1) 0)) ∷ data_of (drop (i + 2) text)
    unfolding data_of
    data_here = ap data_of two

    pub byte_fits : at + length (data_of text) ≤ length before → place < length out
    byte_fits room = omega (arith, p.size, ap length data_here, p.same_length)

    pub one_poured : Poured before at text (set out place (digit_of (get_or text i 0) * 16 + digit_of (get_or text (i + 1) 0))) (place + 1) (i + 2)
    one_poured =
        record {
          inside = omega (arith, second_there);
          good = good_behind (get_or text i 0) (get_or text (i + 1) 0) (drop (i + 2) text) good_here;
          same_length = length-set out place (digit_of (get_or text i 0) * 16 + digit_of (get_or text (i + 1) 0)) ∙ p.same_length;
          size = omega (arith, p.size, ap length data_here);
          bytes = rw (add-one place) (rw data_here at p.bytes);
        }

  pub all_poured : length text ≤ i → at + length (data_of text) ≤ length before → Put before at (data_of text) place out
  unfolding data_of
  all_poured h room =
      let none_left : data_of (drop i text) ≡ [] = ap data_of (drop_of_length-le text {i = i} h) in
      record {
        ends = omega (arith, p.size, ap length none_left);
        holds = (rw none_left at p.bytes) ∙ sets-eq (data_of text) before at room;
      }
