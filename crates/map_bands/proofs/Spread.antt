-- One filter's bytes put into a map band by band: of the whole map the bands before one have it, the others are as they were. Assumes nothing.
use Rattle.std.specs.Prelude.{if◌then◌else◌}
use mathlib.Core.Path.{◌≡◌, sym, ap, ap₂, ◌∙◌}
use Prim.Native.Nat.{ℕ, ◌+◌, ◌*◌, ◌/◌, ◌%◌, ◌≤◌, ◌<◌}
use native.Mathlib.Omega.{arith}
use mathlib.Core.Bool.{Bool, true, false}
use mathlib.Core.List.{List, ◌++◌, append_assoc, append-nil}
use lib.Dec.{eqb}
use lib.ListN.{length, get_or, set, take, drop, length-drop, length-append, drop_of_length-le}
use lib.Seq.{take_at, drop_at, take_all, take-add, drop-drop, get_or-take, get_or-drop, get_or_at, drop-cons, length-take-le, ext_get_or}
use lib.Bits.{bit_and, bit_or, or_zero_r}
use borrow.Rule.Slice.PartMut.{put_mid, mid_of, put_same}
use Rattle.codec.proofs.Lists.{copy_more}
use Rattle.map_rule.specs.Map.{map_size, counted}
use Rattle.map_rule.proofs.ByMap.{counted_long, counted_at}
use Rattle.map_bands.specs.Bands.{band_size, band_at, band_of, or_bytes, byte_for, joined}

-- the first n of a list, the rest of another
abbrev pub partly : ℕ → List ℕ → List ℕ → List ℕ
partly n s d = take n s ++ drop n d

module _ (s d : List ℕ) (same : length s ≡ length d) where
  partly_drop : (n : ℕ) → n ≤ length d → drop n (partly n s d) ≡ drop n d
  partly_drop n h = drop_at (take n s) (drop n d) n (length-take-le n s (omega arith))

  partly_take : (n : ℕ) → n ≤ length d → take n (partly n s d) ≡ take n s
  partly_take n h = take_at (take n s) (drop n d) n (length-take-le n s (omega arith))

  pub partly_long : (n : ℕ) → n ≤ length d → length (partly n s d) ≡ length d
  partly_long n h = length-append (take n s) (drop n d) ∙ omega (arith, length-take-le n s (omega arith), length-drop n d)

  -- the rest is read as it was
  pub partly_at : (n : ℕ) → n < length d → get_or (partly n s d) n 0 ≡ get_or d n 0
  partly_at n h =
      ap (λ (l : List ℕ). get_or (take n s ++ l) n 0) (drop-cons d n 0 h)
      ∙ get_or_at (take n s) (get_or d n 0) _ 0 n (length-take-le n s (omega arith))

  pub partly_done : (n : ℕ) → length d ≤ n → partly n s d ≡ s
  partly_done n h = ap₂ (λ (a b : List ℕ). a ++ b) (take_all n s (omega arith)) (drop_of_length-le d {i = n} h) ∙ append-nil s

  -- some more, as a lent part comes back
  pub partly_more : (n k : ℕ) (ys : List ℕ) → n + k ≤ length d → ys ≡ take k (drop n s) → put_mid n k (partly n s d) ys ≡ partly (n + k) s d
  partly_more n k ys h e =
      ap₂ (λ (a b : List ℕ). a ++ (ys ++ drop k b)) (partly_take n (omega arith)) (partly_drop n (omega arith))
      ∙ ap₂ (λ (a b : List ℕ). take n s ++ (a ++ b)) e (drop-drop k n d)
      ∙ sym (append_assoc (take n s) (take k (drop n s)) (drop (n + k) d))
      ∙ ap (λ (a : List ℕ). a ++ drop (n + k) d) (sym (take-add n k s))

  -- what is lent is as it was
  pub partly_lent : (n k : ℕ) → n ≤ length d → mid_of n k (partly n s d) ≡ take k (drop n d)
  partly_lent n k h = ap (take k) (partly_drop n h)

  -- none more, where the two do not differ
  pub partly_stays : (n k : ℕ) → n + k ≤ length d → take k (drop n d) ≡ take k (drop n s) → partly n s d ≡ partly (n + k) s d
  partly_stays n k h e = sym (put_same n k (partly n s d)) ∙ partly_more n k (mid_of n k (partly n s d)) h (partly_lent n k (omega arith) ∙ e)

-- ---- a band into another

module _ (d band : List ℕ) (ld : length d ≡ band_size) where
  abbrev or_at : ℕ → ℕ
  or_at l = bit_or (get_or d l 0) (get_or band l 0)

  pub or_long : length (or_bytes d band) ≡ length d
  unfolding or_bytes
  or_long = counted_long or_at band_size ∙ sym ld

  pub or_more : (l : ℕ) (out : List ℕ) → l < band_size → out ≡ partly l (or_bytes d band) d → set out l (bit_or (get_or out l 0) (get_or band l 0)) ≡ partly (l + 1) (or_bytes d band) d
  unfolding or_bytes
  or_more l out h e =
      let there : get_or out l 0 ≡ get_or d l 0 = ap (λ (o : List ℕ). get_or o l 0) e ∙ partly_at (or_bytes d band) d or_long l (omega arith) in
      ap₂ (λ (o : List ℕ) (x : ℕ). set o l x) e (ap (λ (x : ℕ). bit_or x (get_or band l 0)) there ∙ sym (counted_at or_at band_size l 0 h))
      ∙ copy_more l (or_bytes d band) d (omega (arith, or_long)) (omega arith)

-- ---- a band into those of a map that fit

module _ (map : List ℕ) (hm hp lm lp : ℕ) (lmap : length map ≡ map_size) where
  abbrev new : ℕ → ℕ
  new k = bit_or (get_or map k 0) (byte_for hm hp lm lp k)

  abbrev goal : List ℕ
  goal = joined map hm hp lm lp

  pub goal_long : length goal ≡ length map
  unfolding joined
  goal_long = counted_long new map_size ∙ sym lmap

  module _ (h : ℕ) (small : h < 8) where
    abbrev old : List ℕ
    old = take band_size (drop (h * band_size) map)

    old_long : length old ≡ band_size
    old_long = length-take-le band_size (drop (h * band_size) map) (omega (arith, length-drop (h * band_size) map))

    -- byte l of the band of the whole
    goal_at : (l : ℕ) → l < band_size → get_or (take band_size (drop (h * band_size) goal)) l 0 ≡ bit_or (get_or old l 0) (if eqb (bit_and h hm) hp then band_at lm lp l else 0)
    unfolding joined byte_for
    goal_at l k =
        let a : (h * band_size + l) / band_size ≡ h = omega arith in
        let b : (h * band_size + l) % band_size ≡ l = omega arith in
        get_or-take band_size (drop (h * band_size) goal) l 0 k
        ∙ get_or-drop (h * band_size) goal l 0
        ∙ counted_at new map_size (h * band_size + l) 0 (omega arith)
        ∙ ap₂ bit_or (sym (get_or-take band_size (drop (h * band_size) map) l 0 k ∙ get_or-drop (h * band_size) map l 0))
        (ap₂ (λ (x y : ℕ). if eqb (bit_and x hm) hp then band_at lm lp y else 0) a b)

    goal_band : length (take band_size (drop (h * band_size) goal)) ≡ band_size
    goal_band = length-take-le band_size (drop (h * band_size) goal) (omega (arith, length-drop (h * band_size) goal, goal_long))

    -- a band that fits
    band_fits : (band : List ℕ) → band ≡ band_of lm lp → eqb (bit_and h hm) hp ≡ true → or_bytes old band ≡ take band_size (drop (h * band_size) goal)
    unfolding or_bytes band_of
    band_fits band eb e =
        let at : ℕ → ℕ = λ l. bit_or (get_or old l 0) (get_or band l 0) in
        ext_get_or 0 (counted band_size at) (take band_size (drop (h * band_size) goal)) (counted_long at band_size ∙ sym goal_band)
        (λ l g. let k : l < band_size = omega (arith, counted_long at band_size) in
        counted_at at band_size l 0 k
        ∙ ap (bit_or (get_or old l 0)) (ap (λ (b : List ℕ). get_or b l 0) eb ∙ counted_at (band_at lm lp) band_size l 0 k ∙ sym (ap (λ (b : Bool). if b then band_at lm lp l else 0) e))
        ∙ sym (goal_at l k))

    -- a band that doesn't
    band_apart : eqb (bit_and h hm) hp ≡ false → old ≡ take band_size (drop (h * band_size) goal)
    band_apart e =
        ext_get_or 0 old (take band_size (drop (h * band_size) goal)) (old_long ∙ sym goal_band)
        (λ l g. let k : l < band_size = omega (arith, old_long) in
        sym (goal_at l k ∙ ap (λ (b : Bool). bit_or (get_or old l 0) (if b then band_at lm lp l else 0)) e ∙ or_zero_r (get_or old l 0)))

    next : h * band_size + band_size ≡ (h + 1) * band_size
    next = omega arith

    pub joined_band : (out band ys : List ℕ) (n : ℕ) → n ≡ band_size → out ≡ partly (h * band_size) goal map → band ≡ band_of lm lp → eqb (bit_and h hm) hp ≡ true
        → ys ≡ or_bytes (mid_of (h * band_size) n out) band → put_mid (h * band_size) n out ys ≡ partly ((h + 1) * band_size) goal map
    joined_band out band ys n en eo eb e ey =
        ap₂ (λ (j : ℕ) (o : List ℕ). put_mid (h * band_size) j o ys) en eo
        ∙ partly_more goal map goal_long (h * band_size) band_size ys (omega arith)
        (ey
        ∙ ap (λ (o : List ℕ). or_bytes o band) (ap₂ (λ (j : ℕ) (o : List ℕ). mid_of (h * band_size) j o) en eo ∙ partly_lent goal map goal_long (h * band_size) band_size (omega arith))
        ∙ band_fits band eb e)
        ∙ ap (λ (j : ℕ). partly j goal map) next

    pub joined_apart : (out : List ℕ) → out ≡ partly (h * band_size) goal map → eqb (bit_and h hm) hp ≡ false → out ≡ partly ((h + 1) * band_size) goal map
    joined_apart out eo e =
        eo ∙ partly_stays goal map goal_long (h * band_size) band_size (omega arith) (band_apart e) ∙ ap (λ (j : ℕ). partly j goal map) next
