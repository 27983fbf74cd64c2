-- A CALL ON THE CHANNEL WHOSE REGION WAS FOUND: what its function needs of the region, and the law of calls there, once for both kinds of channel; then as
-- the functions on raw and on ISO 15765 regions say it. Assumes nothing.
use Rattle.std.specs.Prelude.{if◌then◌else◌}
use mathlib.Core.Path.{◌≡◌, refl, sym, ap, ap₂, ◌∙◌, subst}
use Prim.Native.Nat.{ℕ, zero, suc, ◌+◌, ◌*◌, ◌-◌, ◌≤◌, ◌<◌}
use native.Mathlib.Nat.{suc-ne-zero}
use native.Mathlib.Omega.{arith}
use mathlib.Core.Bool.{Bool, true, false, ◌&&◌}
use mathlib.Core.List.{List, []}
use lib.ListN.{length, get_or, take, drop}
use lib.Dec.{T}
use borrow.Rule.Slice.PartMut.{put_mid, mid_of, put_same, same_len_mid}
use Rattle.codec.specs.Plain.{within}
use Rattle.codec.specs.Word.{word_at}
use Rattle.codec.proofs.Tests.{true_T}
use Rattle.machine.specs.Limits.{lines}
use Rattle.machine.specs.Channel.{Chan, Open, Call, raw_only, listens, speaks_out, muted, lent, Answer, says, on_call}
use Rattle.machine.proofs.Refusals.{does_codes}
use Rattle.machine.specs.Step.{call}
use Rattle.layout.specs.Sizes.{region_size, flags_at, last_at}
use Rattle.layout.specs.Memory.{region}
use Rattle.layout.specs.Promise as raw_promise
use Rattle.layout.specs.Promise.{Result, gives, Opened, Speaker, region_gives, call_outcome}
use Rattle.layout.proofs.Good.{fl}
use Rattle.layout.proofs.Held.{call_small}
use Rattle.layout.proofs.Region.{open_of, is_open, kept, word_of, flags_part}
use Rattle.iso.specs.Iso.{Iso, on_iso_call}
use Rattle.iso_layout.specs.Sizes.{iso_region_size, iso_last_at}
use Rattle.iso_layout.specs.Region.{iso_region}
use Rattle.iso_layout.specs.Promise.{IsoOpened, iso_gives, iso_outcome}
use Rattle.whole.specs.Device.{Device, channels, step}
use Rattle.whole.proofs.Dispatch.{step_no_channel, step_raw_only}
use Rattle.memory.specs.Sizes.{isos_at}
use Rattle.memory.specs.Memory.{image, load, valid}
use Rattle.memory.specs.Promise.{outcome, noted_in, Seat, RawSeat, IsoSeat, Placed, RawPlaced}
use Rattle.memory.proofs.Rows.{Row, raws, isos, row_gives, region_is, region_got, region_long, region_valid, region_ends, put_back, by_step, unmoved}
use Rattle.memory.proofs.Memory.{ok_load}
use Rattle.memory.proofs.Reach.{ok_sane}
use Rattle.memory.proofs.Entry as entry
use Rattle.memory.proofs.Entry.{Kind, raw_kind, iso_kind, marked_here}

module _ {C : Type 0} (kind : Kind C) (m : List ℕ) (v : T (valid m)) (k base : ℕ) (s : Seat kind.before kind.row.first kind.row.size m k base) where
  abbrev w : Row C
  w = kind.row

  abbrev i : ℕ
  i = k - suc kind.before

  abbrev here : List ℕ
  here = mid_of base (base + w.size - base) m

  abbrev on_here : List ℕ → Call → C × Answer
  on_here rates x = kind.on rates (load m).clock (w.code.get here) x

  pub in_row : i < lines
  in_row = let l = s.low in let g = s.high in omega arith

  -- the end of the region, as code computes it
  pub seat_ends : base + w.size ≤ length m
  seat_ends = let e = s.is in omega (arith, region_ends m v w i in_row)

  is_number : kind.number i ≡ k
  is_number = let l = s.low in kind.numbers i ∙ omega arith

  first_is : get_or m (w.first + i * w.size) 0 ≡ 1
  first_is = ap (λ (n : ℕ). get_or m n 0) (sym s.is) ∙ s.mark

  pub seat_open : T (kind.openly (w.chan i (load m)))
  seat_open = by (kind.openly (w.chan i (load m))) refl
    where
      by : (b : Bool) → kind.openly (w.chan i (load m)) ≡ b → T (kind.openly (w.chan i (load m)))
      by true q = true_T _ q
      by false q = absurd (suc-ne-zero 0 (sym first_is ∙ marked_here kind m v i in_row ∙ ap (λ (b : Bool). if b then 1 else 0) q))

  lies : here ≡ take w.size (drop (w.first + i * w.size) m)
  lies = entry.lies kind m v i in_row base s.is seat_open

  -- the region that is lent
  pub seat_long : length here ≡ w.size
  seat_long = ap length lies ∙ region_long m v w i in_row

  pub seat_valid : T (w.code.valid here)
  seat_valid = subst (λ (r : List ℕ). T (w.code.valid r)) (sym lies) (region_valid m v w i in_row)

  pub seat_mark : get_or here 0 0 ≡ 1
  seat_mark = ap (λ (r : List ℕ). get_or r 0 0) (lies ∙ region_is m v w i in_row) ∙ kind.marked (w.chan i (load m)) ∙ ap (λ (b : Bool). if b then 1 else 0) (is_true (kind.openly (w.chan i (load m))) seat_open)
    where
      is_true : (b : Bool) → T b → b ≡ true
      is_true true t = refl
      is_true false t = absurd t

  -- THE LAW OF CALLS: what a function on the region shows, with its code noted, is the memory's promise
  pub seat_called : (rates : List ℕ) (x : Call) (c u : ℕ) (b ys zs : List ℕ) → length ys ≡ w.size → gives c u b ys ≡ row_gives w (on_here rates x)
      → zs ≡ noted_in kind.last base c (put_mid base (base + w.size - base) m ys) → kind.barred x ≡ false → gives c u b zs ≡ outcome rates m (call k x)
  seat_called rates x c u b ys zs long r n named =
      entry.called kind m v i in_row base s.is seat_open rates x c u b ys zs long r n named ∙ ap (λ (j : ℕ). outcome rates m (call j x)) is_number

  -- the code of such a function is a byte, and can be noted in the memory that it leaves
  pub seat_noted : (rates : List ℕ) (x : Call) (c u : ℕ) (b ys : List ℕ) → gives c u b ys ≡ row_gives w (on_here rates x) → length ys ≡ w.size
      → (base + w.size ≤ length (put_mid base (base + w.size - base) m ys)) × (c < 256)
  seat_noted rates x c u b ys r long =
      let same : length (put_mid base (base + w.size - base) m ys) ≡ length m = same_len_mid base (base + w.size - base) m ys (long ∙ sym seat_long) in
      (omega (arith, seat_ends), subst (λ (n : ℕ). n < 256) (sym (ap (λ (z : Result). z.code) r)) (kind.small rates (load m).clock (w.code.get here) x))

  -- a call that only looks at its channel's region
  pub seat_looked : (rates : List ℕ) (x : Call) (c u : ℕ) (b : List ℕ) → gives c u b here ≡ row_gives w (on_here rates x) → (zs : List ℕ) → zs ≡ noted_in kind.last base c m → kind.barred x ≡ false → gives c u b zs ≡ outcome rates m (call k x)
  seat_looked rates x c u b e zs n named = seat_called rates x c u b here zs seat_long e (n ∙ ap (noted_in kind.last base c) (sym (put_same base (base + w.size - base) m))) named

-- ---- where a channel is found

module _ (m : List ℕ) (v : T (valid m)) where
  -- a number that names no channel to this call: one that is not 1 to 8; to a call that takes the number of a raw channel, one over 4
  pub no_channel : (k : ℕ) → within 1 channels k ≡ false → (rates : List ℕ) (x : Call) → gives 0x02 0 (lent x) m ≡ outcome rates m (call k x)
  unfolding says
  no_channel k h rates x = unmoved m v rates (call k x) (says 0x02 0 (lent x)) (step_no_channel rates (load m) k x (ok_sane (load m) (ok_load m v)).eight h)

  pub no_raw_channel : (k : ℕ) → lines < k → (rates : List ℕ) (x : Call) → raw_only x ≡ true → gives 0x02 0 (lent x) m ≡ outcome rates m (call k x)
  unfolding says
  no_raw_channel k h rates x only = unmoved m v rates (call k x) (says 0x02 0 (lent x)) (step_raw_only rates (load m) k x (ok_sane (load m) (ok_load m v)).eight only h)

  -- where the region of a channel was found, as a call that takes the number of a raw channel sees it
  pub raw_placed : (k base : ℕ) → Placed m k base → base < isos_at → RawPlaced m k base
  raw_placed k base p h = record { refused = λ z rates x only. p.refused z rates x; seat = λ n. p.raw n h }

  pub none_placed : (k base : ℕ) → Placed m k base → isos_at ≤ base → RawPlaced m k 0
  none_placed k base p h = record { refused = λ z. no_raw_channel k (p.iso h).low; seat = λ n. absurd (n refl) }

  module _ {C : Type 0} (kind : Kind C) (k base : ℕ) (low : kind.before < k) (high : k ≤ kind.before + lines) (is : base ≡ kind.row.first + (k - suc kind.before) * kind.row.size) where
    abbrev at : ℕ
    at = k - suc kind.before

    line : at < lines
    line = omega arith

    abbrev there : C
    there = kind.row.chan at (load m)

    marked : get_or m base 0 ≡ (if kind.openly there then 1 else 0)
    marked = ap (λ (n : ℕ). get_or m n 0) is ∙ marked_here kind m v at line

    -- a channel that is not open
    pub not_open : get_or m base 0 ≡ 0 → (rates : List ℕ) (x : Call) → gives 0x02 0 (lent x) m ≡ outcome rates m (call k x)
    unfolding says
    not_open z rates x = named? (kind.barred x) refl
      where
        d : Device
        d = load m

        number : kind.number at ≡ k
        number = kind.numbers at ∙ omega arith

        by : kind.barred x ≡ false → (b : Bool) → kind.openly there ≡ b → gives 0x02 0 (lent x) m ≡ outcome rates m (call k x)
        by named true q = absurd (suc-ne-zero 0 (sym (ap (λ (b : Bool). if b then 1 else 0) q) ∙ sym marked ∙ z))
        by named false q =
            let begin : ℕ = kind.row.first + at * kind.row.size in
            let same : m ≡ image (kind.row.put at there d) =
            sym (ap (λ (r : List ℕ). put_mid begin kind.row.size m r) (sym (region_is m v kind.row at line)) ∙ put_same begin kind.row.size m)
            ∙ put_back m v kind.row at line there in
            ap (λ (y : List ℕ). gives 0x02 0 (lent x) y) same
            ∙ by_step m v rates (call k x) (kind.row.put at there d) (says 0x02 0 (lent x))
            (ap (λ (j : ℕ). step rates d (call j x)) (sym number) ∙ kind.steps rates d at x (ok_sane d (ok_load m v)).eight line named
            ∙ ap (λ (o : C × Answer). (kind.row.put at (kind.notes o.1.code o.0) d, o.1)) (kind.refuses rates d.clock there x q)
            ∙ ap (λ (c : C). (kind.row.put at c d, says 0x02 0 (lent x))) (kind.silent there 0x02 q))

        named? : (b : Bool) → kind.barred x ≡ b → gives 0x02 0 (lent x) m ≡ outcome rates m (call k x)
        named? true q =
            unmoved m v rates (call k x) (says 0x02 0 (lent x)) (ap (λ (j : ℕ). step rates d (call j x)) (sym number) ∙ kind.passed rates d at x (ok_sane d (ok_load m v)).eight line q)
        named? false q = by q (kind.openly there) refl

    -- one that is
    pub is_seat : (get_or m base 0 ≡ 0 → ⊥) → Seat kind.before kind.row.first kind.row.size m k base
    is_seat n = record { low = low; high = high; is = is; mark = by (kind.openly there) refl }
      where
        by : (b : Bool) → kind.openly there ≡ b → get_or m base 0 ≡ 1
        by true q = marked ∙ ap (λ (b : Bool). if b then 1 else 0) q
        by false q = absurd (n (marked ∙ ap (λ (b : Bool). if b then 1 else 0) q))

-- ---- as the functions on a region say it

-- a raw channel's code is noted by the raw layout's word
same_note : (base c : ℕ) (m : List ℕ) → raw_promise.noted_in base c m ≡ noted_in last_at base c m
unfolding raw_promise.noted_in noted_in
same_note base zero m = refl
same_note base (suc k) m = refl

module _ (m : List ℕ) (v : T (valid m)) (k base : ℕ) where
  module _ (s : RawSeat m k base) where
    pub raw_ends : base + region_size ≤ length m
    unfolding raw_kind raws
    raw_ends = seat_ends raw_kind m v k base s

    pub raw_lent_law : Opened (mid_of base (base + region_size - base) m)
    unfolding raw_kind raws
    raw_lent_law = record { long = seat_long raw_kind m v k base s; valid = seat_valid raw_kind m v k base s; mark = seat_mark raw_kind m v k base s }

    abbrev raw_here : List ℕ
    raw_here = mid_of base (base + region_size - base) m

    -- its flags say whether it is a listener
    flags_here : fl (open_of raw_here) ≡ word_at flags_at raw_here
    flags_here = sym (word_of (flags_part raw_here raw_lent_law))

    -- a call that a listener may do, or one on a channel that is none: what the function on the region promises is what the channel does
    module _ (rates : List ℕ) (x : Call) (may : (speaks_out x && listens (word_at flags_at raw_here)) ≡ false) where
      spoken : call_outcome rates (load m).clock raw_here x ≡ region_gives (on_call rates (load m).clock (region.get raw_here) x)
      unfolding call_outcome on_call
      spoken =
          let o : Open = open_of raw_here in
          let free : muted o x ≡ false = ap (λ (n : ℕ). speaks_out x && listens n) flags_here ∙ may in
          sym (ap (λ (c : Chan). region_gives (on_call rates (load m).clock c x)) (is_open raw_here raw_lent_law) ∙ rw free refl)

      pub raw_called : (c u : ℕ) (b ys zs : List ℕ) → length ys ≡ region_size → gives c u b ys ≡ call_outcome rates (load m).clock raw_here x
          → zs ≡ raw_promise.noted_in base c (put_mid base (base + region_size - base) m ys) → gives c u b zs ≡ outcome rates m (call k x)
      unfolding raw_kind raws region_gives
      raw_called c u b ys zs long r n = seat_called raw_kind m v k base s rates x c u b ys zs long (r ∙ spoken) (n ∙ same_note base c _) refl

      pub raw_looked : (c u : ℕ) (b : List ℕ) → gives c u b raw_here ≡ call_outcome rates (load m).clock raw_here x
          → (zs : List ℕ) → zs ≡ raw_promise.noted_in base c m → gives c u b zs ≡ outcome rates m (call k x)
      unfolding raw_kind raws region_gives
      raw_looked c u b e zs n = seat_looked raw_kind m v k base s rates x c u b (e ∙ spoken) zs (n ∙ same_note base c m) refl

    -- A LISTENER THAT IS ASKED TO SPEAK OUT says 0x01, and notes it
    pub raw_muted : listens (word_at flags_at raw_here) ≡ true → (rates : List ℕ) (x : Call) → speaks_out x ≡ true → (zs : List ℕ) → zs ≡ raw_promise.noted_in base 0x01 m
        → gives 0x01 0 (lent x) zs ≡ outcome rates m (call k x)
    unfolding raw_kind raws region_gives on_call says
    raw_muted h rates x out zs n =
        let o : Open = open_of raw_here in
        let mute : muted o x ≡ true = ap₂ (λ (a b : Bool). a && b) out (ap listens flags_here ∙ h) in
        let is : gives 0x01 0 (lent x) raw_here ≡ region_gives (on_call rates (load m).clock (region.get raw_here) x) =
        ap (λ (r : List ℕ). gives 0x01 0 (lent x) r) (sym (kept raw_here raw_lent_law))
        ∙ sym (ap (λ (c : Chan). region_gives (on_call rates (load m).clock c x)) (is_open raw_here raw_lent_law) ∙ rw mute refl) in
        seat_looked raw_kind m v k base s rates x 0x01 0 (lent x) is zs (n ∙ same_note base 0x01 m) refl

    -- a channel that is no listener, as functions that queue something to send need it
    pub raw_speaker : listens (word_at flags_at raw_here) ≡ false → Speaker raw_here
    raw_speaker h = record { is = raw_lent_law; speaks = h }

    pub raw_noted : (rates : List ℕ) (x : Call) (c u : ℕ) (b ys : List ℕ) → gives c u b ys ≡ call_outcome rates (load m).clock (mid_of base (base + region_size - base) m) x
        → length ys ≡ region_size → (base + region_size ≤ length (put_mid base (base + region_size - base) m ys)) × (c < 256)
    unfolding call_outcome region_gives
    raw_noted rates x c u b ys r long =
        let same : length (put_mid base (base + region_size - base) m ys) ≡ length m = same_len_mid base (base + region_size - base) m ys (long ∙ sym raw_lent_law.long) in
        (omega (arith, raw_ends), subst (λ (n : ℕ). n < 256) (sym (ap (λ (z : Result). z.code) r)) (call_small _ (does_codes rates (load m).clock (open_of raw_here) x)))

  module _ (s : IsoSeat m k base) where
    pub iso_ends : base + iso_region_size ≤ length m
    unfolding iso_kind isos
    iso_ends = seat_ends iso_kind m v k base s

    pub iso_lent : IsoOpened (mid_of base (base + iso_region_size - base) m)
    unfolding iso_kind isos
    iso_lent = record { long = seat_long iso_kind m v k base s; valid = seat_valid iso_kind m v k base s; mark = seat_mark iso_kind m v k base s }

    pub iso_called : (rates : List ℕ) (x : Call) (c u : ℕ) (b ys zs : List ℕ) → length ys ≡ iso_region_size
        → gives c u b ys ≡ iso_outcome rates (load m).clock (mid_of base (base + iso_region_size - base) m) x
        → zs ≡ noted_in iso_last_at base c (put_mid base (base + iso_region_size - base) m ys) → raw_only x ≡ false → gives c u b zs ≡ outcome rates m (call k x)
    unfolding iso_kind isos iso_outcome iso_gives
    iso_called = seat_called iso_kind m v k base s

    pub iso_noted_law : (rates : List ℕ) (x : Call) (c u : ℕ) (b ys : List ℕ) → gives c u b ys ≡ iso_outcome rates (load m).clock (mid_of base (base + iso_region_size - base) m) x
        → length ys ≡ iso_region_size → (base + iso_region_size ≤ length (put_mid base (base + iso_region_size - base) m ys)) × (c < 256)
    unfolding iso_kind isos iso_outcome iso_gives
    iso_noted_law = seat_noted iso_kind m v k base s

    pub iso_looked : (rates : List ℕ) (x : Call) (c u : ℕ) (b : List ℕ) → gives c u b (mid_of base (base + iso_region_size - base) m) ≡ iso_outcome rates (load m).clock (mid_of base (base + iso_region_size - base) m) x
        → (zs : List ℕ) → zs ≡ noted_in iso_last_at base c m → raw_only x ≡ false → gives c u b zs ≡ outcome rates m (call k x)
    unfolding iso_kind isos iso_outcome iso_gives
    iso_looked = seat_looked iso_kind m v k base s
