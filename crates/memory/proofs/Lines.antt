-- WHAT CONCERNS A LINE OR THE WHOLE BOX: the clock, a whole row of regions, all regions together and the two regions of a line as parts of the memory, and
-- the memory with other bytes there. A loop over a row moves each of its channels. Assumes nothing.
use mathlib.Core.Path.{◌≡◌, refl, sym, ap, ap₂, ◌∙◌, subst}
use Prim.Native.Nat.{ℕ, suc, ◌+◌, ◌*◌, ◌-◌, ◌<◌}
use native.Mathlib.Nat.{zero-mul, suc-mul, add_comm}
use native.Mathlib.Omega.{arith}
use mathlib.Core.List.{List, [], ◌∷◌, ◌++◌, map}
use lib.ListN.{length, take, drop, length-map}
use lib.Dec.{T}
use borrow.Rule.Slice.PartMut.{put_mid}
use Rattle.codec.specs.Plain.{zeros, all}
use Rattle.codec.specs.Word.{word, word_at}
use Rattle.codec.specs.Code.{Code, word32, both, via, many, put_all}
use Rattle.codec.proofs.Lists.{all_map, zeros_join}
use Rattle.codec.proofs.Lawful.{Lawful, word_ok, word_lawful, both_lawful, both_second}
use Rattle.codec.proofs.Many.{many_count, many_each, many_make, many_set, many_lawful}
use Rattle.codec.proofs.Place.{Place, inside, at, in_first, in_second, in_via}
use Rattle.codec.proofs.Loop.{turned, values_ok, values_long, part_lent, part_moved, all_start, all_done}
use Rattle.codec.proofs.Word.{word_part}
use Rattle.machine.specs.Limits.{lines}
use Rattle.machine.specs.Channel.{Chan, closed}
use Rattle.layout.specs.Memory.{region}
use Rattle.layout.specs.Sizes.{number_size, region_size}
use Rattle.layout.proofs.Memory.{region_lawful}
use Rattle.layout.proofs.Sizes.{region_size_law, closed_zeros}
use Rattle.iso.specs.Iso.{Iso, shut}
use Rattle.iso_layout.specs.Sizes.{iso_region_size}
use Rattle.iso_layout.specs.Region.{iso_region}
use Rattle.iso_layout.proofs.Lawful.{iso_region_lawful}
use Rattle.iso_layout.proofs.Sizes.{iso_region_size_law, shut_zeros}
use Rattle.whole.specs.Device.{Device, iso_at}
use Rattle.whole.proofs.Dispatch.{with_chan, with_iso, with_line}
use Rattle.memory.specs.Sizes.{raw_at, iso_at_byte, box_size}
use Rattle.memory.specs.Memory.{device_parts, device_back, memory, image, load, valid}
use Rattle.memory.proofs.Memory.{load_image, valid_image, ok_load}
use Rattle.memory.proofs.Reach.{chans_ok, isos_ok, ok_sane, sane_ok}
use Rattle.memory.proofs.Rows.{Row, Regions, raws, isos, raws_size, clock_place, part_is, part_put, put_back}

-- ---- a loop that moves every channel of a row, one a turn

module _ {C : Type 0} {code : Code C} (l : Lawful code) (size : ℕ) (es : code.size ≡ size) (f : C → C) (keep : (x : C) → T (code.ok x) → T (code.ok (f x))) (none : C) (fine : T (code.ok none)) (s₀ : List ℕ) (long : length s₀ ≡ lines * size) (v : T ((many lines code).valid s₀)) where
  abbrev held : List C
  held = (many lines code).get s₀

  each_held : T (all code.ok held)
  each_held = values_ok l f lines size es s₀ long v

  count : length held ≡ lines
  count = values_long l f lines size es s₀ long v

  -- its bytes after i turns
  abbrev pub Turned : List ℕ → ℕ → Type 0
  Turned s i = s ≡ put_all code (turned f i held)

  pub turns_start : Turned s₀ 0
  turns_start = all_start l f lines size es s₀ long v

  module _ (s : List ℕ) (i : ℕ) (h : i < lines) (so : Turned s i) (k : ℕ) (is : k ≡ size) where
    pub turn_lent : (length (take k (drop (i * size) s)) ≡ size) × T (code.valid (take k (drop (i * size) s)))
    turn_lent = part_lent l f keep none fine size es held each_held i (omega (arith, count)) s so k is

    pub turn_made : (ys : List ℕ) → ys ≡ code.put (f (code.get (take k (drop (i * size) s)))) → Turned (put_mid (i * size) k s ys) (i + 1)
    turn_made ys e = part_moved l f keep none fine size es held each_held i (omega (arith, count)) s so k ys is e

  pub turns_done : (s : List ℕ) (i : ℕ) → i ≡ lines → Turned s i → s ≡ (many lines code).put (map f held)
  turns_done s i e so = all_done l f lines size es s₀ long v s i e so

-- ---- a whole row of regions, as a part of the memory

pub record Whole (C : Type 0) : Type 0 where
  pub row : Row C
  pub held : Device → List C
  pub with : List C → Device → Device
  pub fine : (d : Device) → T (memory.ok d) → T ((many lines row.code).ok (held d))
  pub keeps : (d : Device) → T (memory.ok d) → (cs : List C) → T ((many lines row.code).ok cs) → T (memory.ok (with cs d))
  pub place : (d : Device) → T (memory.ok d) → Place memory (many lines row.code) d row.first (held d) (λ cs. with cs d)

pub regions_place : (d : Device) → Place memory Regions d number_size (d.chans, d.isos) (λ p. record { clock = d.clock; chans = p.0; isos = p.1 })
unfolding memory word word32
regions_place d = inside (in_via device_parts device_back (both word32 Regions) d (λ p. refl)) (in_second word32 Regions (device_parts d) refl)

regions_ok : (d : Device) → T (memory.ok d) → T (Regions.ok (d.chans, d.isos))
unfolding memory via
regions_ok d t = both_second word32 Regions (device_parts d) t

unfoldable pub all_raws : Whole Chan
unfolding raws
all_raws =
    record {
      row = raws;
      held = λ d. d.chans;
      with = λ cs d. record { clock = d.clock; chans = cs; isos = d.isos };
      fine = chans_ok;
      keeps =
          λ d t cs u.
          let s = ok_sane d t in
          sane_ok (record { clock = d.clock; chans = cs; isos = d.isos })
          (record { clock_small = s.clock_small; eight = record { raws = many_count lines region cs u; isos = s.eight.isos }; each_fine = many_each lines region cs u; each_iso_fine = s.each_iso_fine });
      place = λ d t. inside (regions_place d) (in_first (many lines region) (many lines iso_region) (d.chans, d.isos));
    }

unfoldable pub all_isos : Whole Iso
unfolding isos
all_isos =
    record {
      row = isos;
      held = λ d. d.isos;
      with = λ cs d. record { clock = d.clock; chans = d.chans; isos = cs };
      fine = isos_ok;
      keeps =
          λ d t cs u.
          let s = ok_sane d t in
          sane_ok (record { clock = d.clock; chans = d.chans; isos = cs })
          (record { clock_small = s.clock_small; eight = record { raws = s.eight.raws; isos = many_count lines iso_region cs u }; each_fine = s.each_fine; each_iso_fine = many_each lines iso_region cs u });
      place =
          λ d t.
          at (ap (λ (n : ℕ). number_size + n) raws_size)
          (inside (regions_place d) (in_second (many lines region) (many lines iso_region) (d.chans, d.isos) ((many_lawful region_lawful lines).long d.chans (chans_ok d t))));
    }

-- a channel that takes no bytes but zeros, in every place of a row
empties : {C : Type 0} (c : Code C) (x : C) (size : ℕ) → c.put x ≡ zeros size → (cs : List C) → put_all c (map (λ y. x) cs) ≡ zeros (length cs * size)
empties c x size e [] = ap (λ (n : ℕ). zeros n) (sym (zero-mul size))
empties c x size e (y ∷ cs) =
    ap₂ (λ (a b : List ℕ). a ++ b) e (empties c x size e cs) ∙ zeros_join size (length cs * size) (suc (length cs) * size) (add_comm size (length cs * size) ∙ sym (suc-mul (length cs) size))

module _ (m : List ℕ) (v : T (valid m)) where
  -- the clock is the number at the front
  pub clock_is : word_at 0 m ≡ (load m).clock
  unfolding word32 word
  clock_is =
      sym (word_part 0 m) ∙ ap (word_at 0) (part_is m v (clock_place (load m)) refl number_size refl)
      ∙ word_lawful.get_put (load m).clock (word_ok (load m).clock (ok_sane (load m) (ok_load m v)).clock_small)

  pub clock_put : (t : ℕ) → put_mid 0 number_size m (word t) ≡ image (record { clock = t; chans = (load m).chans; isos = (load m).isos })
  unfolding word32 word
  clock_put t = part_put m v (clock_place (load m)) refl number_size refl t

  module _ {C : Type 0} (w : Whole C) where
    abbrev codes : Code (List C)
    codes = many lines w.row.code

    abbrev span : ℕ
    span = lines * w.row.size

    abbrev there : List ℕ
    there = take span (drop w.row.first m)

    row_size : codes.size ≡ span
    unfolding many
    row_size = ap (λ (k : ℕ). lines * k) w.row.size_is

    here_ok : T (codes.ok (w.held (load m)))
    here_ok = w.fine (load m) (ok_load m v)

    here_long : length (codes.put (w.held (load m))) ≡ codes.size
    here_long = (many_lawful w.row.lawful lines).long (w.held (load m)) here_ok

    row_is : there ≡ codes.put (w.held (load m))
    row_is = part_is m v (w.place (load m) (ok_load m v)) here_long span row_size

    -- the row as it is lent
    pub row_lent : (length there ≡ span) × T (codes.valid there)
    row_lent =
        subst (λ (x : List ℕ). (length x ≡ span) × T (codes.valid x)) (sym row_is) (here_long ∙ row_size, (many_lawful w.row.lawful lines).valid_put (w.held (load m)) here_ok)

    pub row_got : codes.get there ≡ w.held (load m)
    row_got = ap codes.get row_is ∙ (many_lawful w.row.lawful lines).get_put (w.held (load m)) here_ok

    -- every channel moved: the memory is the box with those channels, and valid
    module _ (f : C → C) (keep : (x : C) → T (w.row.code.ok x) → T (w.row.code.ok (f x))) (ys : List ℕ) (e : ys ≡ codes.put (map f (codes.get there))) where
      abbrev moved : Device
      moved = w.with (map f (w.held (load m))) (load m)

      pub row_moved : put_mid w.row.first span m ys ≡ image moved
      row_moved =
          ap (put_mid w.row.first span m) (e ∙ ap (λ (cs : List C). codes.put (map f cs)) row_got)
          ∙ part_put m v (w.place (load m) (ok_load m v)) here_long span row_size (map f (w.held (load m)))

      moved_ok : T (memory.ok moved)
      moved_ok =
          w.keeps (load m) (ok_load m v) (map f (w.held (load m)))
          (many_make lines w.row.code (map f (w.held (load m))) (length-map (w.held (load m)) f ∙ many_count lines w.row.code (w.held (load m)) here_ok)
          (all_map w.row.code.ok f keep (w.held (load m)) (many_each lines w.row.code (w.held (load m)) here_ok)))

      pub moved_valid : T (valid (put_mid w.row.first span m ys))
      moved_valid = subst (λ (x : List ℕ). T (valid x)) (sym row_moved) (valid_image moved moved_ok)

      pub moved_load : load (put_mid w.row.first span m ys) ≡ moved
      moved_load = ap load row_moved ∙ load_image moved moved_ok

  -- zeros over all regions
  pub all_zeros : (n : ℕ) → n ≡ box_size - number_size → (ys : List ℕ) → ys ≡ zeros n
      → put_mid number_size n m ys ≡ image (record { clock = (load m).clock; chans = map (λ c. closed) (load m).chans; isos = map (λ c. shut) (load m).isos })
  unfolding both many
  all_zeros n is ys e =
      let s = ok_sane (load m) (ok_load m v) in
      let size : Regions.size ≡ n = ap₂ (λ (a b : ℕ). lines * a + lines * b) region_size_law iso_region_size_law ∙ sym is in
      let long : length (Regions.put ((load m).chans, (load m).isos)) ≡ Regions.size =
      (both_lawful (many_lawful region_lawful lines) (many_lawful iso_region_lawful lines)).long ((load m).chans, (load m).isos) (regions_ok (load m) (ok_load m v)) in
      let raw : put_all region (map (λ c. closed) (load m).chans) ≡ zeros (lines * region_size) = empties region closed region_size closed_zeros (load m).chans ∙ ap (λ (k : ℕ). zeros (k * region_size)) s.eight.raws in
      let iso : put_all iso_region (map (λ c. shut) (load m).isos) ≡ zeros (lines * iso_region_size) = empties iso_region shut iso_region_size shut_zeros (load m).isos ∙ ap (λ (k : ℕ). zeros (k * iso_region_size)) s.eight.isos in
      ap (put_mid number_size n m) (e ∙ sym (zeros_join (lines * region_size) (lines * iso_region_size) n (sym is)) ∙ ap₂ (λ (a b : List ℕ). a ++ b) (sym raw) (sym iso))
      ∙ part_put m v (regions_place (load m)) long n size (map (λ c. closed) (load m).chans, map (λ c. shut) (load m).isos)

  -- ---- the two regions of a line

  module _ (i : ℕ) (h : i < lines) (c : Chan) (fine : T (region.ok c)) (ys : List ℕ) (e : ys ≡ region.put c) where
    abbrev once : List ℕ
    once = put_mid (raw_at i) region_size m ys

    -- another raw channel put back: the memory is the box with that channel, and valid
    raw_back : once ≡ image (with_chan i c (load m))
    unfolding raws
    raw_back = ap (put_mid (raw_at i) region_size m) e ∙ put_back m v raws i h c

    raw_ok : T (memory.ok (with_chan i c (load m)))
    unfolding all_raws raws
    raw_ok = all_raws.keeps (load m) (ok_load m v) _ (many_set lines region (load m).chans i c (chans_ok (load m) (ok_load m v)) fine)

    pub raw_valid : T (valid once)
    raw_valid = subst (λ (x : List ℕ). T (valid x)) (sym raw_back) (valid_image (with_chan i c (load m)) raw_ok)

    pub raw_load : load once ≡ with_chan i c (load m)
    raw_load = ap load raw_back ∙ load_image (with_chan i c (load m)) raw_ok

    -- its ISO 15765 channel is the same
    pub iso_stays : iso_at i (load once) ≡ iso_at i (load m)
    unfolding iso_at
    iso_stays = ap (λ (d : Device). iso_at i d) raw_load

    -- BOTH REGIONS OF A LINE PUT BACK
    pub both_back : (z : Iso) (zs : List ℕ) → zs ≡ iso_region.put z → put_mid (iso_at_byte i) iso_region_size once zs ≡ image (with_line i c z (load m))
    unfolding isos
    both_back z zs q = ap (put_mid (iso_at_byte i) iso_region_size once) q ∙ put_back once raw_valid isos i h z ∙ ap (λ (d : Device). image (with_iso i z d)) raw_load
