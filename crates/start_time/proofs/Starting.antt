-- A start, part after part. Assumes nothing.
use Rattle.std.specs.Prelude.{Some, None, Ok, Err}
use Prim.Native.Nat.{ℕ, ◌+◌, ◌-◌, ◌*◌, ◌≤◌, ◌<◌}
use mathlib.Core.Path.{◌≡◌, refl, sym, ap, ◌∙◌}
use mathlib.Core.Bool.{Bool, true, false}
use mathlib.Core.List.{List, [], ◌∷◌}
use mathlib.Core.Option.{Option, none, some, bind}
use native.Mathlib.Omega.{arith}
use borrow.Author.Tests.{le-ltb, lt-ltb, leb-true, leb-false, ltb-true, ltb-false}
use lib.Dec.{leb, ltb}
use lib.ListN.{length, take, drop, length-take}
use lib.Seq.{take_all}
use Rattle.text.specs.Text.{number_of}
use Rattle.text.proofs.Text.{number_some}
use Rattle.text_reader.specs.Reading.{before, far, near, valued, near_value}
use Rattle.text_reader.proofs.Digits.{near_is, near_far, NearNumber, number_missing, valued_some, valued_none}
use Rattle.candump.specs.Line.{second, point}
use Rattle.candump.specs.Log.{latest}
use Rattle.log_reader.proofs.Cutting.{cut_found, cut_missing}
use Rattle.start_time.specs.Start.{decimals_in, parted, start_in, within, told, start_of}
use Rattle.start_time.specs.declared.StartError.TheVariants.{Late, Unreadable}

-- ---- the limit

pub is_late : (t : ℕ) → latest < t → Err Late ≡ within t
unfolding within
is_late t h = rw (lt-ltb latest t h)

pub in_time : (t : ℕ) → t ≤ latest → Ok t ≡ within t
unfolding within
in_time t h = rw (le-ltb latest t h)

-- seconds past the far number are over the limit as the far ones are
near_within : (s n m : ℕ) → near s ≡ n → within (n * second + m) ≡ within (s * second + m)
near_within s n m e = by (leb s far) refl
  where
    by : (g : Bool) → leb s far ≡ g → within (n * second + m) ≡ within (s * second + m)
    by true q = ap (λ (k : ℕ). within (k * second + m)) (sym e ∙ near_is s (leb-true s far q))
    by false q =
        let large : far ≤ s = omega (arith, leb-false s far q) in
        let n_is : n ≡ far = sym e ∙ near_far s large in
        sym (is_late (n * second + m) (omega arith)) ∙ is_late (s * second + m) (omega arith)

-- ---- what the parts make

no_text : (k : List ℕ) → length k ≤ 0 → Err Unreadable ≡ told (parted k none)
unfolding told parted number_of
no_text [] h = refl
no_text (c ∷ cs) h = absurd (omega arith)

only_point : (k r : List ℕ) → Err Unreadable ≡ told (parted k (some (take 0 k, r)))
unfolding told parted number_of bind
only_point k r = refl

module _ (k : List ℕ) where
  plain_bad : number_of 10 k ≡ none → Err Unreadable ≡ told (parted k none)
  unfolding told parted
  plain_bad q = rw q

  plain_good : (v : ℕ) → number_of 10 k ≡ some v → within (v * second) ≡ told (parted k none)
  unfolding told parted
  plain_good v q = rw q

  module _ (t r : List ℕ) where
    pointed_bad : number_of 10 t ≡ none → Err Unreadable ≡ told (parted k (some (t, r)))
    unfolding told parted bind
    pointed_bad q = rw q

    rest_bad : (v : ℕ) → number_of 10 t ≡ some v → decimals_in r ≡ none → Err Unreadable ≡ told (parted k (some (t, r)))
    unfolding told parted bind
    rest_bad v q d = rw (q, d)

    pointed_good : (v m : ℕ) → number_of 10 t ≡ some v → decimals_in r ≡ some m → within (v * second + m) ≡ told (parted k (some (t, r)))
    unfolding told parted bind
    pointed_good v m q d = rw (q, d)

-- ---- the text

module _ (l : List ℕ) (dot : ℕ) (found : dot ≡ 0 + before point (drop 0 l)) where
  with_point : dot < length l → start_in l ≡ parted l (some (take dot l, drop (dot + 1) l))
  unfolding start_in
  with_point h =
      let e : dot - 0 ≡ dot = omega arith in
      ap (parted l) (cut_found point l 0 dot (omega arith) found h) ∙ ap (λ (n : ℕ). parted l (some (take n l, drop (dot + 1) l))) e

  without : length l ≤ dot → start_in l ≡ parted l none
  unfolding start_in
  without h = ap (parted l) (cut_missing point l 0 dot (omega arith) found h)

  -- nothing before the point, or nothing at all
  pub no_seconds : dot < 1 → Err Unreadable ≡ start_of l
  unfolding start_of
  no_seconds h = by (ltb dot (length l)) refl
    where
      z : dot ≡ 0
      z = omega arith

      by : (g : Bool) → ltb dot (length l) ≡ g → Err Unreadable ≡ told (start_in l)
      by true q = only_point l (drop (dot + 1) l) ∙ ap (λ (n : ℕ). told (parted l (some (take n l, drop (dot + 1) l)))) (sym z) ∙ ap told (sym (with_point (ltb-true dot (length l) q)))
      by false q = no_text l (omega (arith, ltb-false dot (length l) q)) ∙ ap told (sym (without (ltb-false dot (length l) q)))

  module _ (one : 1 ≤ dot) (inside : dot ≤ length l) where
    long : 0 < length (take dot l)
    long = omega (arith, length-take dot l)

    all : length l ≤ dot → take dot l ≡ l
    all h = take_all dot l h

    pub bad_seconds : None ≡ near_value 10 (take dot l) → Err Unreadable ≡ start_of l
    unfolding start_of
    bad_seconds e = by (ltb dot (length l)) refl
      where
        none_there : number_of 10 (take dot l) ≡ none
        none_there = number_some 10 (take dot l) long ∙ number_missing 10 (take dot l) e

        by : (g : Bool) → ltb dot (length l) ≡ g → Err Unreadable ≡ told (start_in l)
        by true q = pointed_bad l (take dot l) (drop (dot + 1) l) none_there ∙ ap told (sym (with_point (ltb-true dot (length l) q)))
        by false q =
            let h : length l ≤ dot = ltb-false dot (length l) q in
            plain_bad l (ap (number_of 10) (sym (all h)) ∙ none_there) ∙ ap told (sym (without h))

    module _ (s : ℕ) (n : NearNumber 10 (take dot l) s) where
      seconds_are : number_of 10 (take dot l) ≡ some n.exact
      seconds_are = number_some 10 (take dot l) long ∙ n.is

      -- SECONDS
      pub whole_seconds : length l ≤ dot → within (s * second) ≡ start_of l
      unfolding start_of
      whole_seconds h =
          let e : s * second ≡ s * second + 0 = omega arith in
          let f : n.exact * second + 0 ≡ n.exact * second = omega arith in
          ap within e
          ∙ near_within n.exact s 0 n.nears
          ∙ ap within f
          ∙ plain_good l n.exact (ap (number_of 10) (sym (all h)) ∙ seconds_are)
          ∙ ap told (sym (without h))

      module _ (h : dot < length l) where
        pub bad_rest : None ≡ valued (decimals_in (drop (dot + 1) l)) → Err Unreadable ≡ start_of l
        unfolding start_of
        bad_rest e = rest_bad l (take dot l) (drop (dot + 1) l) n.exact seconds_are (valued_none (decimals_in (drop (dot + 1) l)) e) ∙ ap told (sym (with_point h))

        -- SECONDS.DECIMALS
        pub both_parts : (m : ℕ) → Some m ≡ valued (decimals_in (drop (dot + 1) l)) → within (s * second + m) ≡ start_of l
        unfolding start_of
        both_parts m e =
            near_within n.exact s m n.nears
            ∙ pointed_good l (take dot l) (drop (dot + 1) l) n.exact m seconds_are (valued_some (decimals_in (drop (dot + 1) l)) m e)
            ∙ ap told (sym (with_point h))
