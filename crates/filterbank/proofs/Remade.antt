-- Other filters in the region of an open channel, and then the maps that follow from them. Assumes nothing.
use mathlib.Core.Path.{◌≡◌, sym, ap, ap₂, subst, ◌∙◌}
use Prim.Native.Nat.{ℕ, ◌+◌, ◌-◌, ◌≤◌}
use native.Mathlib.Omega.{arith}
use mathlib.Core.List.{List, ◌++◌}
use lib.ListN.{length, take, drop, length-append, length-drop}
use lib.Seq.{take_at, drop_at, drop-drop, take-take, length-take-le}
use lib.Dec.{T}
use borrow.Rule.Slice.PartMut.{put_mid}
use Rattle.machine.specs.Filter.{Slots, Filter}
use Rattle.machine.specs.Channel.{with_filters}
use Rattle.map_rule.specs.Map.{maps_size}
use Rattle.layout.specs.Sizes.{filters_at, filters_size, mapped_size, region_size}
use Rattle.layout.specs.Memory.{filters, mapped, region}
use Rattle.layout.specs.Promise.{Opened}
use Rattle.layout.proofs.Memory.{filters_lawful}
use Rattle.layout.proofs.Sizes.{filters_size_law}
use Rattle.layout.proofs.Places.{fl}
use Rattle.layout.proofs.Region.{open_of, filters_part}
use Rattle.filterbank.specs.Part.{FilterPart, Unmapped}

-- a part written where a shorter one was
module _ (a n : ℕ) (r ys : List ℕ) (la : a ≤ length r) (ly : length ys ≡ n) where
  starts : length (take a r) ≡ a
  starts = length-take-le a r la

  behind : drop a (put_mid a n r ys) ≡ ys ++ drop n (drop a r)
  behind = drop_at (take a r) (ys ++ drop n (drop a r)) a starts

  pub lent_again : take n (drop a (put_mid a n r ys)) ≡ ys
  lent_again = ap (take n) behind ∙ take_at ys (drop n (drop a r)) n ly

  pub as_long : n ≤ length (drop a r) → length (drop a (put_mid a n r ys)) ≡ length (drop a r)
  as_long h = ap length behind ∙ length-append ys (drop n (drop a r)) ∙ omega (arith, length-drop n (drop a r))

  pub over : (k : ℕ) (zs : List ℕ) → put_mid a (n + k) (put_mid a n r ys) zs ≡ put_mid a (n + k) r zs
  over k zs =
      let rest : drop (n + k) (ys ++ drop n (drop a r)) ≡ drop (n + k) (drop a r) =
      sym (drop-drop k n (ys ++ drop n (drop a r))) ∙ ap (drop k) (drop_at ys (drop n (drop a r)) n ly) ∙ drop-drop k n (drop a r)
      in
      ap₂ (λ (x y : List ℕ). x ++ (zs ++ y)) (take_at (take a r) (ys ++ drop n (drop a r)) a starts) (ap (drop (n + k)) behind ∙ rest)

module _ (r : List ℕ) (f : Opened r) (fs : Slots Filter) (t : T ((filters (fl (open_of r))).ok fs)) (ys : List ℕ) (y : ys ≡ (filters (fl (open_of r))).put fs) where
  abbrev flags : ℕ
  flags = fl (open_of r)

  ys_long : length ys ≡ filters_size
  ys_long = ap length y ∙ (filters_lawful flags).long fs t ∙ filters_size_law flags

  r_long : length r ≡ region_size
  r_long = f.long

  starts_in : filters_at ≤ length r
  starts_in = omega arith

  -- the filters are other ones, the maps as they were
  abbrev put : List ℕ
  put = put_mid filters_at filters_size r ys

  lent : take filters_size (take mapped_size (drop filters_at put)) ≡ ys
  lent = take-take filters_size mapped_size (drop filters_at put) (omega arith) ∙ lent_again filters_at filters_size r ys starts_in ys_long

  pub unmapped : Unmapped (take mapped_size (drop filters_at put))
  unmapped =
      let l : length (drop filters_at r) ≡ region_size - filters_at = omega (arith, length-drop filters_at r) in
      record {
        long = length-take-le mapped_size (drop filters_at put) (omega (arith, as_long filters_at filters_size r ys starts_in ys_long (omega arith)));
        part =
            subst FilterPart (sym lent)
            (record { flags = flags; long = ys_long; valid = subst (λ (m : List ℕ). T ((filters flags).valid m)) (sym y) ((filters_lawful flags).valid_put fs t) });
      }

  -- and then those that follow
  pub remapped : (zs : List ℕ) → ((flags : ℕ) → zs ≡ (mapped flags).put ((filters flags).get (take filters_size (take mapped_size (drop filters_at put))))) → put_mid filters_at mapped_size put zs ≡ region.put (with_filters (open_of r) fs)
  remapped zs z =
      over filters_at filters_size r ys starts_in ys_long maps_size zs
      ∙ (filters_part r f).becomes zs fs (z flags ∙ ap (λ (m : List ℕ). (mapped flags).put ((filters flags).get m)) (lent ∙ y) ∙ ap (mapped flags).put ((filters_lawful flags).get_put fs t))
