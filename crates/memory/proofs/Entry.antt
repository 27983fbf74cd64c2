-- From what a call's function on a channel's region shows, and its code noted behind it, to what an entry on the whole memory promises: once for all
-- calls and for both kinds of channel. Assumes nothing.
use Rattle.std.specs.Prelude.{if◌then◌else◌}
use mathlib.Core.Path.{◌≡◌, refl, sym, ap, ap₂, ◌∙◌, subst}
use Prim.Native.Nat.{ℕ, zero, suc, ◌+◌, ◌*◌, ◌-◌, ◌≤◌, ◌<◌}
use native.Mathlib.Nat.{suc-ne-zero}
use native.Mathlib.Omega.{arith}
use mathlib.Core.Bool.{Bool, true, false, true≢false, ◌||◌}
use mathlib.Core.List.{List, []}
use lib.ListN.{length, get_or, set, take, drop}
use lib.Seq.{length-take-le, get_or-take, get_or-drop}
use lib.Dec.{T, eqb, eqb→eq, lit<}
use borrow.Rule.Slice.PartMut.{put_mid, mid_of, put_same}
use Rattle.codec.specs.Code.{via, slot}
use Rattle.codec.proofs.Tests.{true_T, or_left}
use Rattle.machine.specs.Limits.{lines}
use Rattle.machine.specs.Channel.{Chan, closed, opened, Call, raw_only, lent, Answer, says, on_call, is_open, notes, noted}
use Rattle.machine.specs.Step.{Event, call}
use Rattle.machine.proofs.Refusals.{open_codes, open_opens}
use Rattle.machine.proofs.Link.{link_of, link_left}
use Rattle.link.specs.Connection.{Connection}
use Rattle.link_layout.specs.Connection.{connection_part}
use Rattle.link_layout.proofs.Talking.{absent_held}
use Rattle.layout.specs.Sizes.{region_size, last_at}
use Rattle.layout.specs.Memory.{region}
use Rattle.layout.specs.Promise.{Result, gives}
use Rattle.layout.proofs.Held.{call_small}
use Rattle.layout.proofs.Noted.{last_stored, set_middle}
use Rattle.layout.proofs.Link.{link_held}
use Rattle.layout.proofs.Places.{good}
use Rattle.iso.specs.Iso.{Iso, shut, ready, on_iso_call, is_ready, iso_notes, iso_noted}
use Rattle.iso.proofs.Fair.{ready_codes, ready_readies}
use Rattle.iso_layout.specs.Sizes.{iso_last_at}
use Rattle.iso_layout.specs.Region.{iso_region}
use Rattle.iso_layout.proofs.Held.{code_small}
use Rattle.iso_layout.proofs.Region.{iso_notes_stored}
use Rattle.whole.specs.Device.{Device, step}
use Rattle.whole.specs.Demands.{EightChannels}
use Rattle.whole.proofs.Dispatch.{step_call, step_iso_call, step_raw_only}
use Rattle.memory.specs.Memory.{image, load, valid}
use Rattle.memory.specs.Promise.{outcome, noted_in}
use Rattle.memory.proofs.Memory.{ok_load}
use Rattle.memory.proofs.Reach.{ok_sane}
use Rattle.memory.proofs.Rows.{Row, raws, isos, row_gives, ok_here, region_is, region_got, region_long, region_ends, put_back, entered}

-- ---- a kind of channel: its row of regions, the numbers of its channels, the calls to which these name none, what a call does, and its last code, a byte of
-- its region, which is stored beside what is sound

pub record Kind (C : Type 0) : Type 0 where
  pub row : Row C
  pub number : ℕ → ℕ
  pub before : ℕ
  pub numbers : (i : ℕ) → number i ≡ i + suc before
  pub barred : Call → Bool
  pub on : List ℕ → ℕ → C → Call → C × Answer
  pub openly : C → Bool
  pub notes : ℕ → C → C
  pub last : ℕ
  pub last_in : last < row.size
  pub sound : C → Bool
  pub unnoted : (c : C) → notes 0 c ≡ c
  pub marked : (c : C) → get_or (row.code.put c) 0 0 ≡ (if openly c then 1 else 0)
  pub silent : (c : C) (k : ℕ) → openly c ≡ false → notes k c ≡ c
  pub ok_sound : (c : C) → T (row.code.ok c) → T (sound c)
  pub stays_sound : (rates : List ℕ) (now : ℕ) (c : C) (x : Call) → T (sound c) → ((on rates now c x).1.code ≡ 0x00 → ⊥) → T (sound (on rates now c x).0)
  pub stored : (c : C) (k : ℕ) → T (openly c) → T (sound c) → length (row.code.put c) ≡ row.size → set (row.code.put c) last (suc k) ≡ row.code.put (notes (suc k) c)
  pub opens : (rates : List ℕ) (now : ℕ) (c : C) (x : Call) → T (openly c) → T (openly (on rates now c x).0 || eqb (on rates now c x).1.code 0)
  pub refuses : (rates : List ℕ) (now : ℕ) (c : C) (x : Call) → openly c ≡ false → on rates now c x ≡ (c, says 0x02 0 (lent x))
  pub small : (rates : List ℕ) (now : ℕ) (c : C) (x : Call) → (on rates now c x).1.code < 256
  pub passed : (rates : List ℕ) (d : Device) (i : ℕ) (x : Call) → EightChannels d → i < lines → barred x ≡ true → step rates d (call (number i) x) ≡ (d, says 0x02 0 (lent x))
  pub steps : (rates : List ℕ) (d : Device) (i : ℕ) (x : Call) → EightChannels d → i < lines → barred x ≡ false
      → step rates d (call (number i) x) ≡ (row.put i (notes (on rates d.clock (row.chan i d) x).1.code (on rates d.clock (row.chan i d) x).0) d, (on rates d.clock (row.chan i d) x).1)

-- what a store of the last code needs of a raw channel: that its connection is within its limits. A call that is not done leaves it
unfoldable pub link_sound : Chan → Bool
link_sound c = connection_part.ok (link_of c)

pub raw_sound : (c : Chan) → T (region.ok c) → T (link_sound c)
unfolding link_sound
raw_sound closed t = absent_held
raw_sound (opened o) t = link_held o.config.flags o.link (good o t).link_ok

pub raw_stays : (rates : List ℕ) (now : ℕ) (c : Chan) (x : Call) → T (link_sound c) → ((on_call rates now c x).1.code ≡ 0x00 → ⊥) → T (link_sound (on_call rates now c x).0)
unfolding link_sound on_call
raw_stays rates now closed x t n = t
raw_stays rates now (opened o) x t n = subst (λ (c : Connection). T (connection_part.ok c)) (sym ((link_left o rates now x).left n)) t

pub raw_stored : (c : Chan) (k : ℕ) → T (is_open c) → T (link_sound c) → length (raws.code.put c) ≡ region_size → set (raws.code.put c) last_at (suc k) ≡ raws.code.put (notes (suc k) c)
unfolding raws is_open notes link_sound
raw_stored closed k t sound long = absurd t
raw_stored (opened o) k t sound long = last_stored o (suc k) sound long

pub raw_marked : (c : Chan) → get_or (raws.code.put c) 0 0 ≡ (if is_open c then 1 else 0)
unfolding raws region via slot is_open
raw_marked closed = refl
raw_marked (opened o) = refl

pub raw_silent : (c : Chan) (k : ℕ) → is_open c ≡ false → notes k c ≡ c
unfolding is_open notes
raw_silent c zero h = refl
raw_silent closed (suc k) h = refl
raw_silent (opened o) (suc k) h = absurd (true≢false h)

pub iso_marked : (c : Iso) → get_or (isos.code.put c) 0 0 ≡ (if is_ready c then 1 else 0)
unfolding isos iso_region via slot is_ready
iso_marked shut = refl
iso_marked (ready o) = refl

pub iso_silent : (c : Iso) (k : ℕ) → is_ready c ≡ false → iso_notes k c ≡ c
unfolding is_ready iso_notes
iso_silent c zero h = refl
iso_silent shut (suc k) h = refl
iso_silent (ready o) (suc k) h = absurd (true≢false h)

pub raw_opens : (rates : List ℕ) (now : ℕ) (c : Chan) (x : Call) → T (is_open c) → T (is_open (on_call rates now c x).0 || eqb (on_call rates now c x).1.code 0)
unfolding is_open on_call
raw_opens rates now closed x t = absurd t
raw_opens rates now (opened o) x t = open_opens rates now o x

pub iso_opens : (rates : List ℕ) (now : ℕ) (c : Iso) (x : Call) → T (is_ready c) → T (is_ready (on_iso_call rates now c x).0 || eqb (on_iso_call rates now c x).1.code 0)
unfolding is_ready on_iso_call
iso_opens rates now shut x t = absurd t
iso_opens rates now (ready o) x t = ready_readies rates now o x

pub raw_refuses : (rates : List ℕ) (now : ℕ) (c : Chan) (x : Call) → is_open c ≡ false → on_call rates now c x ≡ (c, says 0x02 0 (lent x))
unfolding on_call is_open
raw_refuses rates now closed x h = refl
raw_refuses rates now (opened o) x h = absurd (true≢false h)

pub iso_refuses : (rates : List ℕ) (now : ℕ) (c : Iso) (x : Call) → is_ready c ≡ false → on_iso_call rates now c x ≡ (c, says 0x02 0 (lent x))
unfolding on_iso_call is_ready
iso_refuses rates now shut x h = refl
iso_refuses rates now (ready o) x h = absurd (true≢false h)

pub raw_small : (rates : List ℕ) (now : ℕ) (c : Chan) (x : Call) → (on_call rates now c x).1.code < 256
unfolding on_call says
raw_small rates now closed x = lit< tt
raw_small rates now (opened o) x = call_small _ (open_codes rates now o x)

pub iso_small : (rates : List ℕ) (now : ℕ) (c : Iso) (x : Call) → (on_iso_call rates now c x).1.code < 256
unfolding on_iso_call says
iso_small rates now shut x = lit< tt
iso_small rates now (ready o) x = code_small _ (ready_codes rates now o x)

-- raw CAN has the numbers 1 to 4, ISO 15765 5 to 8
unfoldable pub raw_kind : Kind Chan
unfolding raws notes noted
raw_kind =
    record {
      row = raws;
      number = λ i. i + 1;
      before = 0;
      numbers = λ i. refl;
      barred = λ x. false;
      on = on_call;
      openly = is_open;
      notes = notes;
      last = last_at;
      last_in = omega arith;
      sound = link_sound;
      unnoted = λ c. refl;
      marked = raw_marked;
      silent = raw_silent;
      ok_sound = raw_sound;
      stays_sound = raw_stays;
      stored = raw_stored;
      opens = raw_opens;
      refuses = raw_refuses;
      small = raw_small;
      passed = λ rates d i x w h never. absurd (true≢false (sym never));
      steps = λ rates d i x w h all. step_call rates d i x w h;
    }

unfoldable pub iso_kind : Kind Iso
unfolding isos iso_notes iso_noted
iso_kind =
    record {
      row = isos;
      number = λ i. i + 5;
      before = lines;
      numbers = λ i. refl;
      barred = raw_only;
      on = on_iso_call;
      openly = is_ready;
      notes = iso_notes;
      last = iso_last_at;
      last_in = omega arith;
      sound = λ c. true;
      unnoted = λ c. refl;
      marked = iso_marked;
      silent = iso_silent;
      ok_sound = λ c t. tt;
      stays_sound = λ rates now c x t n. tt;
      stored = λ c k t sound long. iso_notes_stored c k t long;
      opens = iso_opens;
      refuses = iso_refuses;
      small = iso_small;
      passed = λ rates d i x w h only. step_raw_only rates d (i + 5) x w only (omega arith);
      steps = λ rates d i x w h all. step_iso_call rates d i x w h all;
    }

-- noting a code in the region is noting it in the memory that the region lies in
noted_there : (m : List ℕ) (last base n k : ℕ) (ys : List ℕ) → base ≤ length m → last < length ys → noted_in last base k (put_mid base n m ys) ≡ put_mid base n m (noted_in last 0 k ys)
unfolding noted_in
noted_there m last base n zero ys h long = refl
noted_there m last base n (suc k) ys h long =
    let l : length (take base m) ≡ base = length-take-le base m h in
    let z : last ≡ 0 + last = omega arith in
    ap (λ (i : ℕ). set (put_mid base n m ys) (i + last) (suc k)) (sym l) ∙ set_middle (take base m) ys (drop n (drop base m)) last (suc k) long
    ∙ ap (λ (i : ℕ). put_mid base n m (set ys i (suc k))) z

module _ {C : Type 0} (kind : Kind C) where
  abbrev w : Row C
  w = kind.row

  -- the code of a call on a region, noted in the bytes that the call left, is the code noted by the channel
  notes_stored : (c : C) (k : ℕ) → T (kind.openly c || eqb k 0) → ((k ≡ 0 → ⊥) → T (kind.sound c)) → length (w.code.put c) ≡ w.size → noted_in kind.last 0 k (w.code.put c) ≡ w.code.put (kind.notes k c)
  unfolding noted_in
  notes_stored c zero t sound long = ap w.code.put (sym (kind.unnoted c))
  notes_stored c (suc k) t sound long =
      let z : 0 + kind.last ≡ kind.last = omega arith in
      ap (λ (i : ℕ). set (w.code.put c) i (suc k)) z ∙ kind.stored c k (open? (kind.openly c) t) (sound (suc-ne-zero k)) long
    where
      open? : (b : Bool) → T (b || eqb (suc k) 0) → T b
      open? true t = tt
      open? false t = absurd (suc-ne-zero k (eqb→eq (suc k) 0 t))

  module _ (m : List ℕ) (v : T (valid m)) (i : ℕ) (h : i < lines) (base : ℕ) (is : base ≡ w.first + i * w.size) (up : T (kind.openly (w.chan i (load m)))) where
    -- the region that is lent
    pub lies : mid_of base (base + w.size - base) m ≡ take w.size (drop (w.first + i * w.size) m)
    lies = let span : base + w.size - base ≡ w.size = omega arith in ap₂ (λ (a j : ℕ). mid_of a j m) is span

    got_here : w.code.get (mid_of base (base + w.size - base) m) ≡ w.chan i (load m)
    got_here = ap w.code.get lies ∙ region_got m v w i h

    here_sound : T (kind.sound (w.chan i (load m)))
    here_sound = kind.ok_sound (w.chan i (load m)) (ok_here m v w i h)

    -- THE LAW OF CALLS: what a function on the region shows, with its code noted, is the memory's promise
    pub called : (rates : List ℕ) (x : Call) (c u : ℕ) (b ys zs : List ℕ) → length ys ≡ w.size
        → gives c u b ys ≡ row_gives w (kind.on rates (load m).clock (w.code.get (mid_of base (base + w.size - base) m)) x)
        → zs ≡ noted_in kind.last base c (put_mid base (base + w.size - base) m ys) → kind.barred x ≡ false → gives c u b zs ≡ outcome rates m (call (kind.number i) x)
    called rates x c u b ys zs long r n named =
        let a : C × Answer = kind.on rates (load m).clock (w.chan i (load m)) x in
        let q : gives c u b ys ≡ row_gives w a = r ∙ ap (λ (z : C). row_gives w (kind.on rates (load m).clock z x)) got_here in
        let y : ys ≡ w.code.put a.0 = ap (λ (z : Result). z.memory) q in
        let e : c ≡ a.1.code = ap (λ (z : Result). z.code) q in
        let in_memory : base ≤ length m = omega (arith, region_ends m v w i h) in
        let in_region : kind.last < length ys = subst (λ (k : ℕ). kind.last < k) (sym long) kind.last_in in
        ap (λ (z : List ℕ). gives c u b z) (n ∙ noted_there m kind.last base (base + w.size - base) c ys in_memory in_region)
        ∙ entered m v w i h rates (call (kind.number i) x) (kind.notes a.1.code a.0, a.1) (kind.steps rates (load m) i x (ok_sane (load m) (ok_load m v)).eight h named) c u b (noted_in kind.last 0 c ys)
        (ap₂ (λ (z : Result) (l : List ℕ). gives z.code z.value z.buffer l) q
        (ap₂ (noted_in kind.last 0) e y ∙ notes_stored a.0 a.1.code (kind.opens rates (load m).clock (w.chan i (load m)) x up) (kind.stays_sound rates (load m).clock (w.chan i (load m)) x here_sound) (ap length (sym y) ∙ long)))
        base is

  -- ---- a code that is noted, in the memory

  module _ (m : List ℕ) (v : T (valid m)) (i : ℕ) (h : i < lines) where
    abbrev begin : ℕ
    begin = w.first + i * w.size

    abbrev here : C
    here = w.chan i (load m)

    -- the first byte of the region tells whether the channel is open
    pub marked_here : get_or m begin 0 ≡ (if kind.openly here then 1 else 0)
    marked_here =
        let z : begin + 0 ≡ begin = omega arith in
        let big : 0 < w.size = omega (arith, kind.last_in) in
        ap (λ (n : ℕ). get_or m n 0) (sym z) ∙ sym (get_or-take w.size (drop begin m) 0 0 big ∙ get_or-drop begin m 0 0) ∙ ap (λ (x : List ℕ). get_or x 0 0) (region_is m v w i h) ∙ kind.marked here

    pub noted_image : (k : ℕ) → image (w.put i (kind.notes (suc k) here) (load m)) ≡ (if eqb (get_or m begin 0) 1 then set m (begin + kind.last) (suc k) else m)
    unfolding noted_in
    noted_image k = by (kind.openly here) refl ∙ ap (λ (n : ℕ). if eqb n 1 then set m (begin + kind.last) (suc k) else m) (sym marked_here)
      where
        r : List ℕ
        r = take w.size (drop begin m)

        long : length (w.code.put here) ≡ w.size
        long = ap length (sym (region_is m v w i h)) ∙ region_long m v w i h

        by : (b : Bool) → kind.openly here ≡ b → image (w.put i (kind.notes (suc k) here) (load m)) ≡ (if eqb (if kind.openly here then 1 else 0) 1 then set m (begin + kind.last) (suc k) else m)
        by true q =
            let in_memory : begin ≤ length m = omega (arith, region_ends m v w i h) in
            let in_region : kind.last < length r = subst (λ (n : ℕ). kind.last < n) (sym (region_long m v w i h)) kind.last_in in
            sym (put_back m v w i h (kind.notes (suc k) here))
            ∙ ap (λ (z : List ℕ). put_mid begin w.size m z) (sym (notes_stored here (suc k) (or_left (kind.openly here) (eqb (suc k) 0) (true_T (kind.openly here) q)) (λ n. kind.ok_sound here (ok_here m v w i h)) long) ∙ ap (noted_in kind.last 0 (suc k)) (sym (region_is m v w i h)))
            ∙ sym (noted_there m kind.last begin w.size (suc k) r in_memory in_region) ∙ ap (noted_in kind.last begin (suc k)) (put_same begin w.size m)
            ∙ sym (ap (λ (b : Bool). if eqb (if b then 1 else 0) 1 then set m (begin + kind.last) (suc k) else m) q)
        by false q =
            ap (λ (c : C). image (w.put i c (load m))) (kind.silent here (suc k) q) ∙ sym (put_back m v w i h here) ∙ ap (λ (z : List ℕ). put_mid begin w.size m z) (sym (region_is m v w i h))
            ∙ put_same begin w.size m ∙ sym (ap (λ (b : Bool). if eqb (if b then 1 else 0) 1 then set m (begin + kind.last) (suc k) else m) q)
