-- The time of a line, part after part. Assumes nothing.
use Rattle.std.specs.Prelude.{if◌then◌else◌, Some, None}
use Prim.Native.Nat.{ℕ, zero, suc, ◌+◌, ◌-◌, ◌*◌, ◌/◌, ◌%◌, ◌^◌, ◌≤◌, ◌<◌}
use mathlib.Core.Path.{◌≡◌, refl, sym, ap, ap₂, ◌∙◌}
use mathlib.Core.List.{List, [], ◌∷◌}
use mathlib.Core.Option.{Option, none, some, map, bind}
use native.Mathlib.Omega.{arith}
use borrow.Author.Tests.{eq-eqb, ne_eqb}
use lib.Dec.{eqb}
use lib.ListN.{length, get_or, take, drop, length-take, length-drop}
use lib.Seq.{length-take-le}
use Rattle.text.specs.Text.{value_of, number_of}
use Rattle.text.proofs.Text.{number_some}
use Rattle.text_reader.specs.Reading.{before, far, near, near_value}
use Rattle.text_reader.proofs.Finding.{found_inside}
use Rattle.text_reader.proofs.Digits.{near_is, near_most, NearNumber, number_there, number_missing, below_power}
use Rattle.candump.specs.Line.{second, opens, point, closes, cut, behind, six_in, time_in}
use Rattle.log_reader.specs.Reading.{near_time, timed, nearer, TimeReads}
use Rattle.log_reader.proofs.Cutting.{cut_found, cut_missing, begins, begins_not, begins_nothing}

module _ (l : List ℕ) where
  untimed : time_in l ≡ none → TimeReads l None
  unfolding timed
  untimed e = record { is = sym (ap (map nearer) e); there = tt }

  pub nothing_there : length l < 1 → TimeReads l None
  unfolding time_in bind
  nothing_there h = untimed (rw (begins_nothing opens l 0 (omega arith)))

  pub not_opened : 0 < length l → (get_or l 0 0 ≡ opens → ⊥) → TimeReads l None
  unfolding time_in bind
  not_opened h e = untimed (rw (begins_not opens l 0 h e))

  module _ (some_there : 0 < length l) (open_mark : get_or l 0 0 ≡ opens) (dot : ℕ) (found : dot ≡ 1 + before point (drop 1 l)) where
    pub no_point : length l ≤ dot → TimeReads l None
    unfolding time_in bind
    no_point h = untimed (rw (begins opens l 0 some_there open_mark, cut_missing point l 1 dot some_there found h))

    pub no_seconds : dot < length l → dot < 2 → TimeReads l None
    unfolding time_in bind number_of
    no_seconds h k =
        let z : dot - 1 ≡ 0 = omega arith in
        untimed (rw (begins opens l 0 some_there open_mark, cut_found point l 1 dot some_there found h, z))

    module _ (inside : dot < length l) (two : 2 ≤ dot) where
      seconds_text : List ℕ
      seconds_text = take (dot - 1) (drop 1 l)

      seconds_long : 0 < length (take (dot - 1) (drop 1 l))
      seconds_long = omega (arith, length-take (dot - 1) (drop 1 l), length-drop 1 l)

      pub bad_seconds : None ≡ near_value 10 (take (dot - 1) (drop 1 l)) → TimeReads l None
      unfolding time_in bind
      bad_seconds e =
          untimed
          (rw (
            begins opens l 0 some_there open_mark,
            cut_found point l 1 dot some_there found inside,
            number_some 10 (take (dot - 1) (drop 1 l)) seconds_long,
            number_missing 10 (take (dot - 1) (drop 1 l)) e,
          ))

      module _ (s : ℕ) (n : NearNumber 10 (take (dot - 1) (drop 1 l)) s) (end : ℕ) (later : end ≡ dot + 1 + before closes (drop (dot + 1) l)) where
        next : dot + 1 ≤ length l
        next = omega arith

        -- the time, once its seconds and its point are there
        on : time_in l ≡ bind (cut closes (drop (dot + 1) l)) (λ m. bind (six_in m.0) (λ micro. some (n.exact * second + micro, m.1)))
        unfolding time_in bind
        on =
            rw (
              begins opens l 0 some_there open_mark,
              cut_found point l 1 dot some_there found inside,
              number_some 10 (take (dot - 1) (drop 1 l)) seconds_long,
              n.is,
            )

        pub not_closed : length l ≤ end → TimeReads l None
        unfolding bind
        not_closed h = untimed (on ∙ rw (cut_missing closes l (dot + 1) end next later h))

        module _ (closed : end < length l) where
          micro_size : length (take (end - (dot + 1)) (drop (dot + 1) l)) ≡ end - (dot + 1)
          micro_size = length-take-le (end - (dot + 1)) (drop (dot + 1) l) (omega (arith, length-drop (dot + 1) l))

          pub not_six : (end - (dot + 1) ≡ 6 → ⊥) → TimeReads l None
          unfolding bind six_in
          not_six h =
              untimed
              (on
              ∙ rw (
                cut_found closes l (dot + 1) end next later closed,
                ne_eqb (length (take (end - (dot + 1)) (drop (dot + 1) l))) 6 (λ e. h (sym micro_size ∙ e)),
              ))

          module _ (six : end - (dot + 1) ≡ 6) where
            six_is : six_in (take (end - (dot + 1)) (drop (dot + 1) l)) ≡ value_of 10 0 (take (end - (dot + 1)) (drop (dot + 1) l))
            unfolding six_in
            six_is = rw (eq-eqb (length (take (end - (dot + 1)) (drop (dot + 1) l))) 6 (micro_size ∙ six))

            pub bad_micro : None ≡ near_value 10 (take (end - (dot + 1)) (drop (dot + 1) l)) → TimeReads l None
            unfolding bind
            bad_micro e =
                untimed
                (on
                ∙ rw (
                  cut_found closes l (dot + 1) end next later closed,
                  six_is,
                  number_missing 10 (take (end - (dot + 1)) (drop (dot + 1) l)) e,
                ))

            -- THE TIME
            pub is_timed : (m : ℕ) → NearNumber 10 (take (end - (dot + 1)) (drop (dot + 1) l)) m → TimeReads l (Some (record { time = s * second + m; next = end + 1 }))
            unfolding bind timed nearer near_time
            is_timed m k =
                let M : ℕ = k.exact in
                let power : (0 + 1) * 10 ^ length (take (end - (dot + 1)) (drop (dot + 1) l)) ≡ second = ap (λ (n : ℕ). (0 + 1) * 10 ^ n) (micro_size ∙ six) in
                let small : k.exact < second = omega (arith, below_power 10 0 (take (end - (dot + 1)) (drop (dot + 1) l)) k.exact k.is) in
                let same : k.exact ≡ m = sym (near_is k.exact (omega arith)) ∙ k.nears in
                let quotient : (n.exact * second + k.exact) / second ≡ n.exact = omega arith in
                let left_over : (n.exact * second + k.exact) % second ≡ k.exact = omega arith in
                let whole : time_in l ≡ some (n.exact * second + k.exact, drop (end + 1) l) = on ∙ rw (cut_found closes l (dot + 1) end next later closed, six_is, k.is) in
                let time : s * second + m ≡ near ((n.exact * second + k.exact) / second) * second + (n.exact * second + k.exact) % second
                = ap₂ (λ (a b : ℕ). a * second + b) (sym n.nears ∙ ap near (sym quotient)) (sym same ∙ sym left_over) in
                record {
                  is = ap (λ (t : ℕ). some (t, drop (end + 1) l)) time ∙ sym (ap (map nearer) whole);
                  there = omega arith;
                }
