-- THE ROWS OF REGIONS: the four of the raw channels and the four of the ISO 15765 channels, of which the same laws hold. A region is a part of the memory,
-- and what a function on it shows is what the memory's promise says of an event that moves that channel alone. Assumes nothing.
use mathlib.Core.Path.{◌≡◌, refl, sym, ap, ap₂, ◌∙◌, subst}
use Prim.Native.Nat.{ℕ, zero, suc, ◌+◌, ◌*◌, ◌-◌, ◌≤◌, ◌<◌}
use native.Mathlib.Omega.{arith}
use mathlib.Core.Bool.{false}
use mathlib.Core.List.{List, ◌++◌}
use lib.ListN.{length, take, drop}
use lib.Seq.{drop-drop}
use lib.Dec.{T}
use borrow.Rule.Slice.PartMut.{put_mid, mid_of}
use Rattle.codec.specs.Word.{word, word_at}
use Rattle.codec.specs.Code.{Code, word32, both, via, many}
use Rattle.codec.proofs.Tests.{T_true}
use Rattle.codec.proofs.Lists.{all_at}
use Rattle.codec.proofs.Lawful.{Lawful, word_lawful, both_first}
use Rattle.codec.proofs.Many.{many_each, many_count, many_lawful}
use Rattle.codec.proofs.Place.{Place, inside, at, in_first, in_second, in_via, in_many, slice_is, overwritten}
use Rattle.codec.proofs.Word.{word_part}
use Rattle.machine.specs.Limits.{lines}
use Rattle.machine.specs.Channel.{Chan, closed, Answer}
use Rattle.machine.specs.Step.{Event, lent_by}
use Rattle.layout.specs.Memory.{region}
use Rattle.layout.specs.Sizes.{number_size, region_size, regions_size}
use Rattle.layout.specs.Promise.{Result, gives, answered}
use Rattle.layout.proofs.Memory.{region_lawful}
use Rattle.layout.proofs.Sizes.{region_size_law}
use Rattle.layout.proofs.Good.{fine_closed}
use Rattle.iso.specs.Iso.{Iso, shut}
use Rattle.iso_layout.specs.Sizes.{iso_region_size}
use Rattle.iso_layout.specs.Region.{iso_region}
use Rattle.iso_layout.proofs.Lawful.{iso_region_lawful}
use Rattle.iso_layout.proofs.Sizes.{iso_region_size_law}
use Rattle.iso_layout.proofs.Good.{fine_shut}
use Rattle.whole.specs.Device.{Device, chan_at, iso_at, step}
use Rattle.whole.proofs.Dispatch.{with_chan, with_iso}
use Rattle.memory.specs.Sizes.{isos_at, box_size}
use Rattle.memory.specs.Memory.{device_parts, device_back, memory, image, load, valid}
use Rattle.memory.specs.Promise.{outcome}
use Rattle.memory.proofs.Memory.{image_load, ok_load, valid_long}
use Rattle.memory.proofs.Reach.{chans_ok, isos_ok}

-- ---- a row of regions

pub record Row (C : Type 0) : Type 0 where
  pub code : Code C
  pub lawful : Lawful code
  pub size : ℕ
  pub size_is : code.size ≡ size
  pub first : ℕ
  pub ends : (i : ℕ) → i < lines → first + i * size + size ≤ box_size
  pub chan : ℕ → Device → C
  pub put : ℕ → C → Device → Device
  pub fine : (d : Device) (i : ℕ) → T (memory.ok d) → T (code.ok (chan i d))
  pub place : (d : Device) (i : ℕ) → T (memory.ok d) → i < lines → Place memory code d (first + i * size) (chan i d) (λ c. put i c d)

abbrev pub Regions : Code (List Chan × List Iso)
Regions = both (many lines region) (many lines iso_region)

-- the four raw regions lie behind the clock, the four others behind them
unfoldable pub raws : Row Chan
unfolding memory word word32 chan_at
raws =
    record {
      code = region;
      lawful = region_lawful;
      size = region_size;
      size_is = region_size_law;
      first = number_size;
      ends = λ i h. omega arith;
      chan = chan_at;
      put = with_chan;
      fine = λ d i t. all_at region.ok d.chans i closed fine_closed (many_each lines region d.chans (chans_ok d t));
      place =
          λ d i t h.
          at (ap (λ (k : ℕ). 0 + (number_size + (0 + i * k))) region_size_law ∙ omega arith)
          (inside (in_via device_parts device_back (both word32 Regions) d (λ p. refl))
          (inside (in_second word32 Regions (device_parts d) refl)
          (inside (in_first (many lines region) (many lines iso_region) (device_parts d).1)
          (in_many region_lawful closed lines d.chans i (many_each lines region d.chans (chans_ok d t)) (omega (arith, many_count lines region d.chans (chans_ok d t)))))));
    }

pub raws_size : (many lines region).size ≡ regions_size
unfolding many
raws_size = ap (λ (k : ℕ). lines * k) region_size_law

unfoldable pub isos : Row Iso
unfolding memory word word32 iso_at
isos =
    record {
      code = iso_region;
      lawful = iso_region_lawful;
      size = iso_region_size;
      size_is = iso_region_size_law;
      first = isos_at;
      ends = λ i h. omega arith;
      chan = iso_at;
      put = with_iso;
      fine = λ d i t. all_at iso_region.ok d.isos i shut fine_shut (many_each lines iso_region d.isos (isos_ok d t));
      place =
          λ d i t h.
          at (ap₂ (λ (k n : ℕ). 0 + (number_size + (n + i * k))) iso_region_size_law raws_size ∙ omega arith)
          (inside (in_via device_parts device_back (both word32 Regions) d (λ p. refl))
          (inside (in_second word32 Regions (device_parts d) refl)
          (inside (in_second (many lines region) (many lines iso_region) (device_parts d).1 ((many_lawful region_lawful lines).long d.chans (chans_ok d t)))
          (in_many iso_region_lawful shut lines d.isos i (many_each lines iso_region d.isos (isos_ok d t)) (omega (arith, many_count lines iso_region d.isos (isos_ok d t)))))));
    }

-- the clock lies in front of them
pub clock_place : (d : Device) → Place memory word32 d 0 d.clock (λ t. record { clock = t; chans = d.chans; isos = d.isos })
unfolding memory
clock_place d = inside (in_via device_parts device_back (both word32 Regions) d (λ p. refl)) (in_first word32 Regions (device_parts d))

-- what a channel leaves and answers, with the bytes of its region
abbrev pub row_gives : {C : Type 0} → Row C → C × Answer → Result
row_gives w x = answered x.1 (w.code.put x.0)

-- ---- a memory that is not valid

pub not_valid : (rates m : List ℕ) (e : Event) → valid m ≡ false → gives 0x1A 0 (lent_by e) m ≡ outcome rates m e
unfolding outcome
not_valid rates m e h = rw h refl

-- ---- a valid one

pub memory_put : (d : Device) → image d ≡ memory.put d
unfolding image
memory_put d = refl

module _ (m : List ℕ) (v : T (valid m)) where
  pub is_put : m ≡ memory.put (load m)
  is_put = sym (image_load m v) ∙ memory_put (load m)

  -- the promise, where the box's step is known; where it leaves the box
  pub by_step : (rates : List ℕ) (e : Event) (d : Device) (a : Answer) → step rates (load m) e ≡ (d, a) → answered a (image d) ≡ outcome rates m e
  unfolding outcome
  by_step rates e d a s = sym (rw (T_true (valid m) v) (ap (λ (x : Device × Answer). answered x.1 (image x.0)) s))

  pub unmoved : (rates : List ℕ) (e : Event) (a : Answer) → step rates (load m) e ≡ (load m, a) → answered a m ≡ outcome rates m e
  unmoved rates e a s = ap (λ (y : List ℕ). answered a y) (sym (image_load m v)) ∙ by_step rates e (load m) a s

  -- ---- a part of the memory: its bytes, and the memory with other bytes there

  module _ {B : Type 0} {c : Code B} {off : ℕ} {part : B} {with : B → Device} (p : Place memory c (load m) off part with) (long : length (c.put part) ≡ c.size) (n : ℕ) (is : c.size ≡ n) where
    pub part_is : take n (drop off m) ≡ c.put part
    part_is = ap₂ (λ (k : ℕ) (x : List ℕ). take k (drop off x)) (sym is) is_put ∙ slice_is p long

    pub part_put : (b : B) → put_mid off n m (c.put b) ≡ image (with b)
    part_put b =
        ap (λ (r : List ℕ). take off m ++ (c.put b ++ r)) (drop-drop n off m ∙ ap (λ (k : ℕ). drop (off + k) m) (sym is))
        ∙ ap (λ (y : List ℕ). take off y ++ (c.put b ++ drop (off + c.size) y)) is_put
        ∙ overwritten p long b
        ∙ sym (memory_put (with b))

  -- ---- region i of a row

  module _ {C : Type 0} (w : Row C) (i : ℕ) (h : i < lines) where
    abbrev begin : ℕ
    begin = w.first + i * w.size

    pub ok_here : T (w.code.ok (w.chan i (load m)))
    ok_here = w.fine (load m) i (ok_load m v)

    pub region_is : take w.size (drop begin m) ≡ w.code.put (w.chan i (load m))
    region_is = part_is (w.place (load m) i (ok_load m v) h) (w.lawful.long (w.chan i (load m)) ok_here) w.size w.size_is

    pub region_got : w.code.get (take w.size (drop begin m)) ≡ w.chan i (load m)
    region_got = ap w.code.get region_is ∙ w.lawful.get_put (w.chan i (load m)) ok_here

    pub region_long : length (take w.size (drop begin m)) ≡ w.size
    region_long = ap length region_is ∙ w.lawful.long (w.chan i (load m)) ok_here ∙ w.size_is

    pub region_valid : T (w.code.valid (take w.size (drop begin m)))
    region_valid = subst (λ (x : List ℕ). T (w.code.valid x)) (sym region_is) (w.lawful.valid_put (w.chan i (load m)) ok_here)

    pub region_ends : begin + w.size ≤ length m
    region_ends = let e = w.ends i h in omega (arith, valid_long m v)

    -- the memory with another channel's bytes there
    pub put_back : (c : C) → put_mid begin w.size m (w.code.put c) ≡ image (w.put i c (load m))
    put_back c = part_put (w.place (load m) i (ok_load m v) h) (w.lawful.long (w.chan i (load m)) ok_here) w.size w.size_is c

    -- THE LAW OF ENTRIES: what a function on the region shows is what the memory's promise says of an event that moves that channel alone
    pub entered : (rates : List ℕ) (e : Event) (x : C × Answer) → step rates (load m) e ≡ (w.put i x.0 (load m), x.1) → (c u : ℕ) (b ys : List ℕ)
        → gives c u b ys ≡ row_gives w x → (base : ℕ) → base ≡ begin → gives c u b (put_mid base (base + w.size - base) m ys) ≡ outcome rates m e
    entered rates e x s c u b ys r base is =
        let span : base + w.size - base ≡ w.size = omega arith in
        ap₂ (λ (a j : ℕ). gives c u b (put_mid a j m ys)) is span
        ∙ ap (λ (q : Result). gives q.code q.value q.buffer (put_mid begin w.size m q.memory)) r
        ∙ ap (λ (y : List ℕ). answered x.1 y) (put_back x.0)
        ∙ by_step rates e (w.put i x.0 (load m)) x.1 s
