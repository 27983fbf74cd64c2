-- The part of a region that holds the filters: its columns, what code reads in them, and the part with another filter at a place. Assumes nothing.
use Rattle.std.specs.Prelude.{if◌then◌else◌}
use mathlib.Core.Path.{◌≡◌, refl, sym, ap, ◌∙◌, subst}
use Prim.Native.Nat.{ℕ, ◌+◌, ◌*◌, ◌-◌, ◌≤◌, ◌<◌}
use native.Mathlib.Omega.{arith}
use mathlib.Core.Bool.{Bool, true, false, not, ◌&&◌}
use mathlib.Core.Option.{Option, none}
use mathlib.Core.List.{List, [], ◌∷◌, map}
use lib.Dec.{T, eqb, leb, eqb→eq, lt→ltb}
use lib.ListN.{length, get_or, set, take, drop, length-set, length-map, get_or-map}
use borrow.Author.Tests.{eqb-true, eq-eqb, ne_eqb}
use mir.Val.{bool_byte}
use borrow.Rule.Slice.PartMut.{put_mid}
use Rattle.codec.specs.Plain.{within, all, is_byte, all_zero}
use Rattle.codec.specs.Code.{byte, via, such, mark, many, each_via}
use Rattle.codec.proofs.Tests.{left, right}
use Rattle.codec.proofs.Lawful.{byte_lawful, mark_lawful, mark_ok}
use Rattle.codec.proofs.Many.{many_make}
use Rattle.codec.proofs.Columns.{beside_count}
use Rattle.codec.proofs.Cells.{all_here, Cell, cell_first, cell_next, cell_last, Stored, as_it_was, entry_is, entry_byte, entry_stored, byte_stored, each_ok, each_put, place_set}
use Rattle.machine.specs.Limits.{most_places, most_data}
use Rattle.machine.specs.Message.{takes}
use Rattle.machine.specs.Filter.{Slots, Filter, taken}
use Rattle.layout.specs.Sizes.{widths_in, sizes_in, masks_in, patterns_in, filters_size}
use Rattle.layout.specs.Record.{row}
use Rattle.layout.specs.Memory.{FilterRow, filter_parts, filter_back, filter_fits, filter_columns, filters}
use Rattle.layout.proofs.Memory.{Rows2, Rows3, Rows4, row_lawful, bytes_put, filter_columns_lawful, filters_lawful, filter_fits_law}
use Rattle.layout.proofs.Sizes.{filters_size_law}
use Rattle.filterbank.specs.Part.{FilterPart}

-- ---- the five columns

pub types_cell : Cell filter_columns byte 0 (λ p. p.0) (λ k p. (k, p.1))
unfolding filter_columns
types_cell = cell_first most_places Rows4 byte_lawful

pub widths_cell : Cell filter_columns mark widths_in (λ p. p.1.0) (λ w p. (p.0, (w, p.1.1)))
unfolding filter_columns byte
widths_cell = cell_next most_places byte_lawful (cell_first most_places Rows3 mark_lawful)

pub sizes_cell : Cell filter_columns byte sizes_in (λ p. p.1.1.0) (λ n p. (p.0, (p.1.0, (n, p.1.1.1))))
unfolding filter_columns mark via such byte
sizes_cell = cell_next most_places byte_lawful (cell_next most_places mark_lawful (cell_first most_places Rows2 byte_lawful))

pub masks_cell : Cell filter_columns row masks_in (λ p. p.1.1.1.0) (λ a p. (p.0, (p.1.0, (p.1.1.0, (a, p.1.1.1.1)))))
unfolding filter_columns mark via such byte
masks_cell = cell_next most_places byte_lawful (cell_next most_places mark_lawful (cell_next most_places byte_lawful (cell_first most_places (many most_places row) row_lawful)))

pub patterns_cell : Cell filter_columns row patterns_in (λ p. p.1.1.1.1) (λ b p. (p.0, (p.1.0, (p.1.1.0, (p.1.1.1.0, b)))))
unfolding filter_columns row many mark via such byte
patterns_cell = cell_next most_places byte_lawful (cell_next most_places mark_lawful (cell_next most_places byte_lawful (cell_next most_places row_lawful (cell_last row_lawful most_places))))

-- ---- what is read

-- the bytes of the filters do not depend on the flags, nor does what is read of them
pub any_flags : (j k : ℕ) (m : List ℕ) → (filters j).get m ≡ (filters k).get m
unfolding filters each_via via such
any_flags j k m = refl

pub any_put : (j k : ℕ) (fs : Slots Filter) → (filters j).put fs ≡ (filters k).put fs
unfolding filters each_via via such
any_put j k fs = refl

-- a size is at most 12, of a filter or of an empty place
small : (e : Bool) (flags k n : ℕ) (w : Bool) (a b : List ℕ)
    → T (if e then not w && eqb n 0 && all_zero a && all_zero b else leb k 2 && takes flags w && within 1 most_data n && all_zero (drop n a) && all_zero (drop n b)) → n ≤ most_data
small true flags k n w a b t = let z : n ≡ 0 = eqb→eq n 0 (search (left, right)) in omega arith
small false flags k n w a b t = (filter_fits_law flags k n w a b t).high

-- a type is at most 2
known : (e : Bool) (flags k n : ℕ) (w : Bool) (a b : List ℕ) → eqb k 0 ≡ e
    → T (if e then not w && eqb n 0 && all_zero a && all_zero b else leb k 2 && takes flags w && within 1 most_data n && all_zero (drop n a) && all_zero (drop n b)) → k ≤ 2
known true flags k n w a b e t = let z : k ≡ 0 = eqb-true k 0 e in omega arith
known false flags k n w a b e t = (filter_fits_law flags k n w a b t).kind

-- an empty place has type 0
back_none : (k : ℕ) (p : Bool × (ℕ × (List ℕ × List ℕ))) → k ≡ 0 → taken (filter_back (k, p)) ≡ false
unfolding taken
back_none k p e = rw (eq-eqb k 0 e)

back_some : (k : ℕ) (p : Bool × (ℕ × (List ℕ × List ℕ))) → (k ≡ 0 → ⊥) → taken (filter_back (k, p)) ≡ true
unfolding taken
back_some k p n = rw (ne_eqb k 0 n)

module _ (m : List ℕ) (v : FilterPart m) where
  abbrev pub rows_of : List FilterRow
  rows_of = filter_columns.get m

  abbrev pub nothing : FilterRow
  nothing = (0, (false, (0, ([], []))))

  columns_valid : T (filter_columns.valid m)
  unfolding filters each_via via such
  columns_valid = left (filter_columns.valid m) (all (filter_fits v.flags) rows_of) v.valid

  rows_fit : T (all (filter_fits v.flags) rows_of)
  unfolding filters each_via via such
  rows_fit = right (filter_columns.valid m) (all (filter_fits v.flags) rows_of) v.valid

  columns_long : length m ≡ filter_columns.size
  unfolding filters each_via via such
  columns_long = v.long ∙ sym (filters_size_law v.flags)

  columns_is : m ≡ filter_columns.put rows_of
  columns_is = sym (filter_columns_lawful.put_get m columns_long columns_valid)

  columns_ok : T (filter_columns.ok rows_of)
  columns_ok = filter_columns_lawful.ok_get m columns_long columns_valid

  ten_rows : length rows_of ≡ most_places
  unfolding filter_columns
  ten_rows = beside_count most_places byte Rows4 rows_of columns_ok

  module _ (flags : ℕ) where
    pub ten_held : length ((filters flags).get m) ≡ most_places
    unfolding filters each_via via such
    ten_held = length-map rows_of filter_back ∙ ten_rows

  module _ (i : ℕ) (h : i < most_places) where
    abbrev pub row_at : FilterRow
    row_at = get_or rows_of i nothing

    here : i < length rows_of
    here = omega (arith, ten_rows)

    pub held_at : (flags : ℕ) → get_or ((filters flags).get m) i none ≡ filter_back row_at
    unfolding filters each_via via such
    held_at flags = get_or-map filter_back rows_of i nothing

    pub type_at : get_or m i 0 ≡ row_at.0
    unfolding byte
    type_at = ap (λ (k : ℕ). get_or m k 0) (omega arith) ∙ entry_byte types_cell byte_lawful rows_of i nothing columns_ok here columns_is i 0 (omega arith) (omega arith)

    pub width_at : eqb 1 (get_or m (widths_in + i) 0) ≡ row_at.1.0
    unfolding mark via such byte
    width_at =
        ap (λ (k : ℕ). eqb 1 (get_or m k 0)) (omega arith)
        ∙ ap (eqb 1) (entry_byte widths_cell mark_lawful rows_of i nothing columns_ok here columns_is (widths_in + i) 0 (omega arith) (omega arith))
        ∙ mark_lawful.get_put row_at.1.0 (mark_ok row_at.1.0)

    pub size_at_law : get_or m (sizes_in + i) 0 ≡ row_at.1.1.0
    unfolding byte
    size_at_law = ap (λ (k : ℕ). get_or m k 0) (omega arith) ∙ entry_byte sizes_cell byte_lawful rows_of i nothing columns_ok here columns_is (sizes_in + i) 0 (omega arith) (omega arith)

    pub mask_at : take most_data (drop (masks_in + i * most_data) m) ≡ row_at.1.1.1.0
    unfolding row many byte
    mask_at = entry_is masks_cell row_lawful rows_of i nothing columns_ok here columns_is (masks_in + i * most_data) most_data refl refl ∙ bytes_put row_at.1.1.1.0

    pub pattern_at_law : take most_data (drop (patterns_in + i * most_data) m) ≡ row_at.1.1.1.1
    unfolding row many byte
    pattern_at_law = entry_is patterns_cell row_lawful rows_of i nothing columns_ok here columns_is (patterns_in + i * most_data) most_data refl refl ∙ bytes_put row_at.1.1.1.1

    pub is_empty : get_or m i 0 ≡ 0 → (flags : ℕ) → taken (get_or ((filters flags).get m) i none) ≡ false
    is_empty e flags = ap taken (held_at flags) ∙ back_none row_at.0 row_at.1 (sym type_at ∙ e)

    pub is_taken : (get_or m i 0 ≡ 0 → ⊥) → (flags : ℕ) → taken (get_or ((filters flags).get m) i none) ≡ true
    is_taken n flags = ap taken (held_at flags) ∙ back_some row_at.0 row_at.1 (λ e. n (type_at ∙ e))

    pub size_small : get_or m (sizes_in + i) 0 ≤ most_data
    unfolding filter_fits
    size_small =
        subst (λ (k : ℕ). k ≤ most_data) (sym size_at_law) (small (eqb row_at.0 0) v.flags row_at.0 row_at.1.1.0 row_at.1.0 row_at.1.1.1.0 row_at.1.1.1.1
        (all_here (filter_fits v.flags) rows_of i nothing rows_fit here))

    pub kind_known : get_or m i 0 ≤ 2
    unfolding filter_fits
    kind_known =
        subst (λ (k : ℕ). k ≤ 2) (sym type_at) (known (eqb row_at.0 0) v.flags row_at.0 row_at.1.1.0 row_at.1.0 row_at.1.1.1.0 row_at.1.1.1.1 refl
        (all_here (filter_fits v.flags) rows_of i nothing rows_fit here))

-- ---- what is stored

bool_byte_law : (w : Bool) → bool_byte w ∷ [] ≡ mark.put w
unfolding mark via such byte
bool_byte_law true = refl
bool_byte_law false = refl

byte_ok : (k : ℕ) → k < 256 → T (byte.ok k)
unfolding byte
byte_ok k h = lt→ltb k 256 h

row_ok : (a : List ℕ) → length a ≡ most_data → T (all is_byte a) → T (row.ok a)
unfolding row byte
row_ok a l t = many_make most_data byte a l t

-- what a function that stores a filter knows: the part, the place, and that what it stores are bytes
pub record Storing (m : List ℕ) (i k n : ℕ) (a b : List ℕ) : Type 0 where
  pub part : FilterPart m
  pub place : i < most_places
  pub kind : k < 256
  pub size : n < 256
  pub mask_long : length a ≡ most_data
  pub pattern_long : length b ≡ most_data
  pub mask_bytes : T (all is_byte a)
  pub pattern_bytes : T (all is_byte b)

module _ (m : List ℕ) (i k n : ℕ) (w : Bool) (a b : List ℕ) (g : Storing m i k n a b) where
  abbrev held : Slots Filter
  held = (filters g.part.flags).get m

  abbrev held_rows : List FilterRow
  held_rows = map filter_parts held

  -- three bytes stored, then two rows
  abbrev three : List ℕ
  three = set (set (set m i k) (widths_in + i) (bool_byte w)) (sizes_in + i) n

  was_valid : length m ≡ (filters g.part.flags).size
  was_valid = g.part.long ∙ sym (filters_size_law g.part.flags)

  here_too : i < length held_rows
  here_too = let e : length held_rows ≡ most_places = length-map held filter_parts ∙ ten_held m g.part g.part.flags in let l = g.place in omega arith

  before : Stored filter_columns held_rows i (get_or held_rows i (filter_parts none)) m
  unfolding filters
  before =
      as_it_was filter_columns held_rows i (filter_parts none)
      (each_ok filter_parts filter_back (filter_fits g.part.flags) filter_columns held ((filters_lawful g.part.flags).ok_get m was_valid g.part.valid))
      (sym ((filters_lawful g.part.flags).put_get m was_valid g.part.valid) ∙ each_put filter_parts filter_back (filter_fits g.part.flags) filter_columns held)

  bytes_put_in : Stored filter_columns held_rows i (k, (w, (n, (get_or held_rows i (filter_parts none)).1.1.1))) three
  unfolding byte mark via such
  bytes_put_in =
      let l = g.part.long in
      let h = g.place in
      let s1 = byte_stored types_cell byte_lawful before here_too k (byte_ok k g.kind) i k (omega arith) refl (omega arith) refl in
      let s2 = byte_stored widths_cell mark_lawful s1 here_too w (mark_ok w) (widths_in + i) (bool_byte w) (omega arith) refl (omega (arith, length-set m i k)) (bool_byte_law w) in
      byte_stored sizes_cell byte_lawful s2 here_too n (byte_ok n g.size) (sizes_in + i) n (omega arith) refl (omega (arith, length-set (set m i k) (widths_in + i) (bool_byte w), length-set m i k)) refl

  -- a row at `at`, as code lends it: to its end
  twelve_wide : (at : ℕ) → at + most_data - at ≡ most_data
  twelve_wide at = omega arith

  abbrev with_mask : List ℕ → List ℕ
  with_mask xs = put_mid (masks_in + i * most_data) (masks_in + i * most_data + most_data - (masks_in + i * most_data)) three xs

  abbrev with_rows : List ℕ → List ℕ → List ℕ
  with_rows xs ys = put_mid (patterns_in + i * most_data) (patterns_in + i * most_data + most_data - (patterns_in + i * most_data)) (with_mask xs) ys

  mask_put_in : (xs : List ℕ) → xs ≡ a → Stored filter_columns held_rows i (k, (w, (n, (a, (get_or held_rows i (filter_parts none)).1.1.1.1)))) (with_mask xs)
  unfolding row many byte
  mask_put_in xs e =
      entry_stored masks_cell row_lawful bytes_put_in here_too a (row_ok a g.mask_long g.mask_bytes) (masks_in + i * most_data) _ xs refl (twelve_wide (masks_in + i * most_data)) (e ∙ sym (bytes_put a))

  rows_put_in : (xs ys : List ℕ) → xs ≡ a → ys ≡ b → Stored filter_columns held_rows i (k, (w, (n, (a, b)))) (with_rows xs ys)
  unfolding row many byte
  rows_put_in xs ys e f =
      entry_stored patterns_cell row_lawful (mask_put_in xs e) here_too b (row_ok b g.pattern_long g.pattern_bytes) (patterns_in + i * most_data) _ ys refl (twelve_wide (patterns_in + i * most_data)) (f ∙ sym (bytes_put b))

  stored_long : {r : FilterRow} {x : List ℕ} → Stored filter_columns held_rows i r x → length x ≡ filters_size
  unfolding filters each_via via such
  stored_long s = ap length s.is ∙ filter_columns_lawful.long _ s.ok ∙ filters_size_law 0

  pub mask_fits : (xs : List ℕ) → xs ≡ a → patterns_in + i * most_data + most_data ≤ length (with_mask xs)
  mask_fits xs e = let l = stored_long (mask_put_in xs e) in let h = g.place in omega arith

  pub same_long : (xs ys : List ℕ) → xs ≡ a → ys ≡ b → length (with_rows xs ys) ≡ length m
  same_long xs ys e f = stored_long (rows_put_in xs ys e f) ∙ sym g.part.long

  pub put_in : (xs ys : List ℕ) → xs ≡ a → ys ≡ b → (flags : ℕ) (x : Option Filter) → filter_parts x ≡ (k, (w, (n, (a, b)))) → with_rows xs ys ≡ (filters flags).put (set ((filters flags).get m) i x)
  unfolding filters
  put_in xs ys e f flags x r =
      place_set filter_parts filter_back (filter_fits g.part.flags) filter_columns held
      (subst (λ (z : FilterRow). Stored filter_columns held_rows i z (with_rows xs ys)) (sym r) (rows_put_in xs ys e f))
      ∙ any_put g.part.flags flags (set held i x) ∙ ap (λ (fs : Slots Filter). (filters flags).put (set fs i x)) (any_flags g.part.flags flags m)
