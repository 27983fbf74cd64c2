-- The filters in the region of an open channel: what each call promises. Assumes nothing.
use mathlib.Core.Path.{◌≡◌, refl, sym, ap, subst, ◌∙◌}
use Prim.Native.Nat.{ℕ, ◌+◌, ◌-◌, ◌≤◌, ◌<◌}
use native.Mathlib.Omega.{arith}
use mathlib.Core.Bool.{Bool, true, false}
use mathlib.Core.Option.{Option, none, some}
use mathlib.Core.List.{List, []}
use lib.ListN.{length, get_or, set, take, drop}
use lib.Seq.{get_or-take, get_or-drop}
use borrow.Rule.Slice.PartMut.{put_mid}
use lib.Dec.{T}
use Rattle.codec.specs.Plain.{within, all, is_byte}
use Rattle.codec.specs.Word.{word_at}
use Rattle.codec.proofs.Tests.{true_T, within_low, within_high}
use Rattle.machine.specs.Codes.{three_rates}
use Rattle.machine.specs.Limits.{most_places}
use Rattle.machine.specs.Filter.{Slots, Filter, free, taken, has}
use Rattle.machine.proofs.Slots.{has_place, has_none}
use Rattle.machine.specs.Channel.{Open, filter_code, filter_of, start_filter, stop_filter, says, Outcome, with_filters, on_open}
use Rattle.layout.specs.Sizes.{filters_at, filters_size, mapped_size}
use Rattle.layout.specs.Memory.{filters, mapped}
use Rattle.layout.specs.Promise.{gives, Opened, call_outcome}
use Rattle.layout.proofs.Good.{Fine, ok_good}
use Rattle.layout.proofs.Places.{fl, good}
use Rattle.layout.proofs.Calls.{three_known, fine_open}
use Rattle.layout.proofs.Region.{open_of, fine, word_of, stays, moves, flags_part}
use Rattle.filterbank.proofs.Held.{ten_held, is_empty, is_taken}
use Rattle.filterbank.specs.Part.{Unmapped}
use Rattle.filterbank.proofs.Lent.{part_lent, held_is}
use Rattle.filterbank.proofs.Remade.{unmapped, remapped}
use Rattle.filters.proofs.Steps.{start_refused, start_done, stop_refused, stop_done}

-- the place of one of those numbers, counted from 0
pub place_of : (n : ℕ) → within 1 most_places n ≡ true → (1 ≤ n) × (n - 1 < most_places)
place_of n w =
    let t = true_T (within 1 most_places n) w in
    let l = within_low 1 most_places n t in
    let h = within_high 1 most_places n t in (l, omega arith)

-- what a region can hold, its filters can be
filters_fine : (o : Open) (fs : Slots Filter) → Fine (with_filters o fs) → T ((filters (fl o)).ok fs)
unfolding with_filters
filters_fine o fs t = (ok_good _ t).filters_ok

module _ (r : List ℕ) (f : Opened r) where
  pub flags_are : word_at 1 r ≡ (open_of r).config.flags
  flags_are = word_of (flags_part r f)

  -- what code found is the first empty place, and so what it found is the code of a start
  pub place_is : (place : ℕ) → ((flags : ℕ) → place ≡ free ((filters flags).get (take filters_size (drop filters_at r)))) → place ≡ free (open_of r).filters
  place_is place p = p 0 ∙ ap free (held_is r f 0)

  pub code_is : (kind : ℕ) (mask pattern : List ℕ) (flags place code : ℕ) → flags ≡ word_at 1 r → place ≡ free (open_of r).filters
      → ((o : Open) → o.config.flags ≡ flags → free o.filters ≡ place → code ≡ filter_code o kind mask pattern) → code ≡ filter_code (open_of r) kind mask pattern
  code_is kind mask pattern flags place code w p k = k (open_of r) (sym (w ∙ flags_are)) (sym p)

  ten_places : length (open_of r).filters ≡ most_places
  ten_places = ap length (sym (held_is r f 0)) ∙ ten_held (take filters_size (drop filters_at r)) (part_lent r f) 0

  moved : (ys : List ℕ) (i : ℕ) (x : Option Filter) → ((flags : ℕ) → ys ≡ (filters flags).put (set ((filters flags).get (take filters_size (drop filters_at r))) i x)) → ys ≡ (filters (fl (open_of r))).put (set (open_of r).filters i x)
  moved ys i x e = e (fl (open_of r)) ∙ ap (λ (s : Slots Filter). (filters (fl (open_of r))).put (set s i x)) (held_is r f (fl (open_of r)))

  module _ (rates : List ℕ) (t : ℕ) where
    module _ (kind : ℕ) (mask pattern : List ℕ) where
      pub not_started : (code : ℕ) → code ≡ filter_code (open_of r) kind mask pattern → (code ≡ 0 → ⊥) → gives code 0 [] r ≡ call_outcome rates t r (start_filter kind mask pattern)
      not_started code e n = stays r f rates t (start_filter kind mask pattern) code 0 [] (start_refused rates t (open_of r) kind mask pattern code e n)

      -- the filter at a place, which the region can hold there
      module _ (place : ℕ) (e : 0 ≡ filter_code (open_of r) kind mask pattern) (p : place ≡ free (open_of r).filters) (bm : T (all is_byte mask)) (bp : T (all is_byte pattern)) where
        abbrev with : Slots Filter
        with = set (open_of r).filters place (some (filter_of kind mask pattern))

        done : (on_open three_rates 0 (open_of r) (start_filter kind mask pattern)).0 ≡ with_filters (open_of r) with
        done =
            ap (λ (x : Outcome). x.0) (start_done three_rates 0 (open_of r) kind mask pattern e)
            ∙ ap (λ (k : ℕ). with_filters (open_of r) (set (open_of r).filters k (some (filter_of kind mask pattern)))) (sym p)

        with_ok : T ((filters (fl (open_of r))).ok with)
        with_ok = filters_fine (open_of r) with (subst Fine done (fine_open three_rates three_known 0 (omega arith) (open_of r) (good (open_of r) (fine r f)) (start_filter kind mask pattern) (bm, bp) refl))

        module _ (ys : List ℕ) (y : (flags : ℕ) → ys ≡ (filters flags).put (set ((filters flags).get (take filters_size (drop filters_at r))) place (some (filter_of kind mask pattern)))) where
          pub start_unmapped : Unmapped (take mapped_size (drop filters_at (put_mid filters_at filters_size r ys)))
          start_unmapped = unmapped r f with with_ok ys (moved ys place _ y)

          pub started : (zs : List ℕ) → ((flags : ℕ) → zs ≡ (mapped flags).put ((filters flags).get (take filters_size (take mapped_size (drop filters_at (put_mid filters_at filters_size r ys))))))
              → gives 0 (place + 1) [] (put_mid filters_at mapped_size (put_mid filters_at filters_size r ys) zs) ≡ call_outcome rates t r (start_filter kind mask pattern)
          started zs z =
              moves r f rates t (start_filter kind mask pattern) _ 0 (place + 1) [] _
              (start_done rates t (open_of r) kind mask pattern e
              ∙ ap {B = Outcome} (λ (k : ℕ). (with_filters (open_of r) (set (open_of r).filters k (some (filter_of kind mask pattern))), says 0 (k + 1) [])) (sym p))
              (remapped r f with with_ok ys (moved ys place _ y) zs z)

    module _ (number : ℕ) where
      refused : has (open_of r).filters number ≡ false → gives 0x16 0 [] r ≡ call_outcome rates t r (stop_filter number)
      refused e = stays r f rates t (stop_filter number) 0x16 0 [] (stop_refused rates t (open_of r) number e)

      pub no_number : within 1 most_places number ≡ false → gives 0x16 0 [] r ≡ call_outcome rates t r (stop_filter number)
      no_number w = refused (has_none (open_of r).filters number (ap (λ (k : ℕ). within 1 k number) ten_places ∙ w))

      module _ (w : within 1 most_places number ≡ true) where
        abbrev i : ℕ
        i = number - 1

        here : get_or r (filters_at + i) 0 ≡ get_or (take filters_size (drop filters_at r)) i 0
        here = let k = place_of number w in sym (get_or-take filters_size (drop filters_at r) i 0 (omega arith) ∙ get_or-drop filters_at r i 0)

        held_here : (b : Bool) → ((flags : ℕ) → taken (get_or ((filters flags).get (take filters_size (drop filters_at r))) i none) ≡ b) → has (open_of r).filters number ≡ b
        held_here b e = has_place (open_of r).filters number i (omega (arith, (place_of number w).0)) ∙ ap (λ (s : Slots Filter). taken (get_or s i none)) (sym (held_is r f 0)) ∙ e 0

        pub not_held : get_or r (filters_at + i) 0 ≡ 0 → gives 0x16 0 [] r ≡ call_outcome rates t r (stop_filter number)
        not_held e = refused (held_here false (is_empty (take filters_size (drop filters_at r)) (part_lent r f) i (place_of number w).1 (sym here ∙ e)))

        module _ (n : get_or r (filters_at + i) 0 ≡ 0 → ⊥) where
          abbrev without : Slots Filter
          without = set (open_of r).filters i none

          is_held : has (open_of r).filters number ≡ true
          is_held = held_here true (is_taken (take filters_size (drop filters_at r)) (part_lent r f) i (place_of number w).1 (λ e. n (here ∙ e)))

          without_ok : T ((filters (fl (open_of r))).ok without)
          without_ok =
              filters_fine (open_of r) without
              (subst Fine (ap (λ (x : Outcome). x.0) (stop_done three_rates 0 (open_of r) number is_held)) (fine_open three_rates three_known 0 (omega arith) (open_of r) (good (open_of r) (fine r f)) (stop_filter number) tt refl))

          module _ (ys : List ℕ) (y : (flags : ℕ) → ys ≡ (filters flags).put (set ((filters flags).get (take filters_size (drop filters_at r))) i none)) where
            pub stop_unmapped : Unmapped (take mapped_size (drop filters_at (put_mid filters_at filters_size r ys)))
            stop_unmapped = unmapped r f without without_ok ys (moved ys i none y)

            pub stopped : (zs : List ℕ) → ((flags : ℕ) → zs ≡ (mapped flags).put ((filters flags).get (take filters_size (take mapped_size (drop filters_at (put_mid filters_at filters_size r ys))))))
                → gives 0 0 [] (put_mid filters_at mapped_size (put_mid filters_at filters_size r ys) zs) ≡ call_outcome rates t r (stop_filter number)
            stopped zs z =
                moves r f rates t (stop_filter number) _ 0 0 [] _ (stop_done rates t (open_of r) number is_held) (remapped r f without without_ok ys (moved ys i none y) zs z)
