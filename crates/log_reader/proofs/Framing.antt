-- The frame of a line, part after part. Assumes nothing.
use Rattle.std.specs.Prelude.{if◌then◌else◌, Some, None}
use Prim.Native.Nat.{ℕ, ◌+◌, ◌-◌, ◌≤◌, ◌<◌}
use mathlib.Core.Path.{◌≡◌, refl, sym, ap, ◌∙◌}
use mathlib.Core.Bool.{Bool, true, false}
use mathlib.Core.List.{List}
use mathlib.Core.Option.{Option, none, some, bind}
use native.Mathlib.Omega.{arith}
use lib.ListN.{length, take, drop, length-drop}
use lib.Seq.{take_all}
use Rattle.text_reader.specs.Reading.{before}
use Rattle.candump.specs.Line.{hash, cut, both_in, few_in, frame_in}
use Rattle.log_reader.specs.Reading.{identified, data_of, data_good, carried, FrameReads}
use Rattle.log_reader.specs.declared.Identifier.{Identifier}
use Rattle.log_reader.proofs.Cutting.{cut_found, cut_missing}

-- the rest of a slice, lent from a place on
pub rest_lent : (l : List ℕ) (at : ℕ) → take (length l - at) (drop at l) ≡ drop at l
rest_lent l at = take_all (length l - at) (drop at l) (omega (arith, length-drop at l))

module _ (l : List ℕ) (at mark : ℕ) (start : at ≤ length l) (e : mark ≡ at + before hash (drop at l)) where
  empty : frame_in (drop at l) ≡ none → FrameReads l at None
  unfolding carried
  empty n = record { is = sym n; there = tt }

  pub no_hash : length l ≤ mark → FrameReads l at None
  unfolding frame_in bind
  no_hash h = empty (rw (cut_missing hash l at mark start e h))

  module _ (h : mark < length l) where
    pub no_identifier : identified None ≡ both_in (take (mark - at) (drop at l)) → FrameReads l at None
    unfolding frame_in bind identified
    no_identifier i = empty (rw (cut_found hash l at mark start e h, ← i))

    module _ (name : Identifier) (i : identified (Some name) ≡ both_in (take (mark - at) (drop at l))) where
      -- the data, once the identifier is there
      on : frame_in (drop at l) ≡ bind (few_in (drop (mark + 1) l)) (λ b. some (name.wide, name.id, b))
      unfolding frame_in bind identified
      on = rw (cut_found hash l at mark start e h, ← i)

      few : (good : Bool) → data_good good (take (length l - (mark + 1)) (drop (mark + 1) l)) ≡ few_in (take (length l - (mark + 1)) (drop (mark + 1) l)) → data_good good (drop (mark + 1) l) ≡ few_in (drop (mark + 1) l)
      few good d = ap (data_good good) (sym (rest_lent l (mark + 1))) ∙ d ∙ ap few_in (rest_lent l (mark + 1))

      module _ (good : Bool) (d : data_good good (take (length l - (mark + 1)) (drop (mark + 1) l)) ≡ few_in (take (length l - (mark + 1)) (drop (mark + 1) l))) where
        pub bad_data : good ≡ false → FrameReads l at None
        unfolding bind data_good
        bad_data g =
            let missing : few_in (drop (mark + 1) l) ≡ none = sym (few good d) ∙ ap (λ (g : Bool). data_good g (drop (mark + 1) l)) g in
            empty (on ∙ ap (λ (o : Option (List ℕ)). bind {B = Bool × ℕ × List ℕ} o (λ b. some (name.wide, name.id, b))) missing)

        pub is_frame : good ≡ true → FrameReads l at (Some (record { identifier = name; digits = mark + 1 }))
        unfolding bind data_good carried
        is_frame g =
            let there : few_in (drop (mark + 1) l) ≡ some (data_of (drop (mark + 1) l)) = sym (few good d) ∙ ap (λ (g : Bool). data_good g (drop (mark + 1) l)) g in
            record {
              is = sym (on ∙ ap (λ (o : Option (List ℕ)). bind {B = Bool × ℕ × List ℕ} o (λ b. some (name.wide, name.id, b))) there);
              there = (omega arith, there);
            }
