-- The numbers of one line's channel among all, and its region in the memory. Assumes nothing.
use Rattle.std.specs.Prelude.{if◌then◌else◌}
use Prim.Native.Nat.{ℕ, ◌+◌, ◌-◌, ◌≤◌, ◌<◌, min}
use mathlib.Core.Path.{◌≡◌, refl, sym, ap, ap₂, ◌∙◌, subst}
use mathlib.Core.Bool.{Bool, true, false, ◌&&◌}
use mathlib.Core.List.{List, ◌++◌}
use native.Mathlib.Omega.{arith}
use borrow.Author.Tests.{eqb-true, eqb-false, eq-eqb, ne_eqb, lt-ltb, le-ltb, ltb-true, ltb-false, lt-leb, le-leb}
use lib.Dec.{T, eqb, leb, ltb}
use lib.ListN.{length, get_or, take, drop}
use lib.Seq.{get_or-take, get_or-drop}
use Rattle.codec.specs.Plain.{zeros}
use Rattle.machine.specs.Limits.{lines, most_to_read, most_bytes}
use Rattle.machine.specs.Codes.{code_of}
use Rattle.machine.specs.Message.{id_bytes, id_limit}
use Rattle.machine.specs.Channel.{Chan, closed, opened, Open, frame_code}
use Rattle.machine.specs.Step.{frame}
use Rattle.machine.specs.Demands.{queue_of}
use Rattle.layout.specs.Sizes.{region_size}
use Rattle.layout.specs.Memory.{region}
use Rattle.layout.specs.Promise.{Opened}
use Rattle.layout.proofs.Region.{open_of, is_open}
use Rattle.whole.specs.Device.{Device, chan_at}
use Rattle.memory.specs.Sizes.{raw_at}
use Rattle.memory.specs.Memory.{load, valid}
use Rattle.whole.specs.Demands.{EightChannels}
use Rattle.memory.proofs.Memory.{ok_load}
use Rattle.memory.proofs.Reach.{ok_sane}
use Rattle.memory.proofs.Rows.{raws, region_got, region_long, region_valid}
use Rattle.shift_places.specs.Places.{at_offered, at_passed, at_echoed, at_lost, at_read, of_channel, of_report}
use Rattle.shift.specs.Numbers.{one, held_in, fits, wanted, unwanted}
use Rattle.shift.specs.Report.{of_four}
use Rattle.shift_cells.specs.Sums.{plus, nothing, cell, on_line, Sums}
use Rattle.shift_cells.proofs.Plus.{plus_zeros, zeros_plus, plus_assoc, length_plus, four_same, four_plus, cell_long}
use Rattle.shift_counts.specs.Adds.{adds, on_channel, on_line_of, on_each, held_at, losing, echo_adds, frame_adds}
use Rattle.fates.specs.Fates.{fate_by, fate_if, fate_of}
use Rattle.shift_looks.specs.Looks.{would_echo, LineOf}
use Rattle.shift_looks.proofs.Looking.{is_closed, open_there}
use Rattle.shift_counts.proofs.Blocks.{beyond_adds, refused_adds, good_adds}

-- ---- the region of a line's raw channel, as it is lent

module _ (m : List ℕ) (v : T (valid m)) (l : ℕ) (h : l < lines) where
  abbrev pub there : List ℕ
  there = take (raw_at l + region_size - raw_at l) (drop (raw_at l) m)

  lies : there ≡ take region_size (drop (raw_at l) m)
  lies = let span : raw_at l + region_size - raw_at l ≡ region_size = omega arith in ap (λ (j : ℕ). take j (drop (raw_at l) m)) span

  pub lent : (length there ≡ region_size) × T (region.valid there)
  unfolding raws
  lent = (ap length lies ∙ region_long m v raws l h, subst (λ (x : List ℕ). T (region.valid x)) (sym lies) (region_valid m v raws l h))

  pub chan_is : region.get there ≡ chan_at l (load m)
  unfolding raws
  chan_is = ap region.get lies ∙ region_got m v raws l h

-- ---- one line's numbers among all

module _ (l : ℕ) where
  pub on_line_plus : (xs ys : List ℕ) → length xs ≡ of_channel → length ys ≡ of_channel → plus (on_line l xs) (on_line l ys) ≡ on_line l (plus xs ys)
  unfolding on_line
  on_line_plus xs ys ex ey =
      four_plus (λ i. if eqb i l then xs else nothing) (λ i. if eqb i l then ys else nothing) (λ i h. same (eqb i l))
      ∙ four_same (λ i. plus (if eqb i l then xs else nothing) (if eqb i l then ys else nothing)) (λ i. if eqb i l then plus xs ys else nothing) (λ i h. by (eqb i l))
    where
      same : (g : Bool) → length (if g then xs else nothing) ≡ length (if g then ys else nothing)
      same true = ex ∙ sym ey
      same false = refl

      by : (g : Bool) → plus (if g then xs else nothing) (if g then ys else nothing) ≡ (if g then plus xs ys else nothing)
      by true = refl
      by false = plus_zeros of_channel nothing refl

module _ (f : Chan → List ℕ) (d : Device) where
  pub on_line_law : (l : ℕ) → on_line l (f (chan_at l d)) ≡ on_line_of l f d
  unfolding on_line on_line_of
  on_line_law l = four_same (λ i. if eqb i l then f (chan_at l d) else nothing) (λ i. if eqb l i then f (chan_at i d) else nothing) (λ i h. by i (eqb i l) refl)
    where
      by : (i : ℕ) (g : Bool) → eqb i l ≡ g → (if g then f (chan_at l d) else nothing) ≡ (if eqb l i then f (chan_at i d) else nothing)
      by i true q = let e : i ≡ l = eqb-true i l q in rw (eq-eqb l i (sym e)) (ap (λ (j : ℕ). f (chan_at j d)) (sym e))
      by i false q = rw (ne_eqb l i (λ z. eqb-false i l q (sym z))) refl

  pub on_channel_law : (k l : ℕ) → k ≡ l + 1 → on_line l (f (chan_at l d)) ≡ on_channel k f d
  unfolding on_line on_channel
  on_channel_law k l e = four_same (λ i. if eqb i l then f (chan_at l d) else nothing) (λ i. if eqb k (i + 1) then f (chan_at i d) else nothing) (λ i h. by i (eqb i l) refl)
    where
      by : (i : ℕ) (g : Bool) → eqb i l ≡ g → (if g then f (chan_at l d) else nothing) ≡ (if eqb k (i + 1) then f (chan_at i d) else nothing)
      by i true q = let z : i ≡ l = eqb-true i l q in rw (eq-eqb k (i + 1) (omega arith)) (ap (λ (j : ℕ). f (chan_at j d)) (sym z))
      by i false q = let z : i ≡ l → ⊥ = eqb-false i l q in rw (ne_eqb k (i + 1) (λ y. z (omega arith))) refl

  pub off_channel : (k : ℕ) → ((i : ℕ) → i < lines → k ≡ i + 1 → ⊥) → on_channel k f d ≡ zeros of_report
  unfolding on_channel of_four
  off_channel k n = four_same (λ i. if eqb k (i + 1) then f (chan_at i d) else nothing) (λ i. nothing) (λ i h. rw (ne_eqb k (i + 1) (n i h)) refl)

-- ---- a loop over the four

unfoldable pub first_held : ℕ → ℕ → Device → List ℕ
first_held which j d = of_four (λ i. if ltb i j then held_at which (chan_at i d) else nothing)

module _ (which : ℕ) (d : Device) where
  pub none_first : first_held which 0 d ≡ zeros of_report
  unfolding first_held of_four
  none_first = four_same (λ i. if ltb i 0 then held_at which (chan_at i d) else nothing) (λ i. nothing) (λ i h. rw (le-ltb i 0 (omega arith)) refl)

  pub all_first : first_held which 4 d ≡ on_each (held_at which) d
  unfolding first_held on_each
  all_first = four_same (λ i. if ltb i 4 then held_at which (chan_at i d) else nothing) (λ i. held_at which (chan_at i d)) (λ i h. rw (lt-ltb i 4 h) refl)

  pub next_first : (j : ℕ) → plus (first_held which j d) (on_line j (held_at which (chan_at j d))) ≡ first_held which (j + 1) d
  unfolding first_held on_line held_at
  next_first j =
      four_plus (λ i. if ltb i j then held_at which (chan_at i d) else nothing) (λ i. if eqb i j then held_at which (chan_at j d) else nothing) (λ i h. same i (ltb i j) (eqb i j))
      ∙ four_same (λ i. plus (if ltb i j then held_at which (chan_at i d) else nothing) (if eqb i j then held_at which (chan_at j d) else nothing)) (λ i. if ltb i (j + 1) then held_at which (chan_at i d) else nothing)
      (λ i h. by i (ltb i j) refl (eqb i j) refl)
    where
      long : (c : Chan) → length (held_at which c) ≡ of_channel
      long c = cell_long which _

      same : (i : ℕ) (g k : Bool) → length (if g then held_at which (chan_at i d) else nothing) ≡ length (if k then held_at which (chan_at j d) else nothing)
      same i true true = long (chan_at i d) ∙ sym (long (chan_at j d))
      same i true false = long (chan_at i d)
      same i false true = sym (long (chan_at j d))
      same i false false = refl

      by : (i : ℕ) (g : Bool) → ltb i j ≡ g → (k : Bool) → eqb i j ≡ k
          → plus (if g then held_at which (chan_at i d) else nothing) (if k then held_at which (chan_at j d) else nothing) ≡ (if ltb i (j + 1) then held_at which (chan_at i d) else nothing)
      by i true p true q = let a : i < j = ltb-true i j p in let b : i ≡ j = eqb-true i j q in absurd (omega arith)
      by i true p false q =
          let a : i < j = ltb-true i j p in
          rw (lt-ltb i (j + 1) (omega arith)) (plus_zeros of_channel (held_at which (chan_at i d)) (long (chan_at i d)))
      by i false p true q =
          let b : i ≡ j = eqb-true i j q in
          rw (lt-ltb i (j + 1) (omega arith)) (zeros_plus of_channel (held_at which (chan_at j d)) (long (chan_at j d)) ∙ ap (λ (n : ℕ). held_at which (chan_at n d)) (sym b))
      by i false p false q =
          let a : j ≤ i = ltb-false i j p in
          let b : i ≡ j → ⊥ = eqb-false i j q in
          rw (le-ltb i (j + 1) (omega arith)) (plus_zeros of_channel nothing refl)

-- ---- what code adds is what is to be added

module _ (xs : List ℕ) (s : Sums xs) where
  pub nothing_added : (zs : List ℕ) → zs ≡ zeros of_report → xs ≡ plus xs zs
  nothing_added zs e = sym (ap (plus xs) e ∙ plus_zeros of_report xs s.long)

  pub nothing_on_line : (l : ℕ) → xs ≡ plus xs (on_line l nothing)
  unfolding on_line of_four
  nothing_on_line l = nothing_added (on_line l nothing) (four_same (λ i. if eqb i l then nothing else nothing) (λ i. nothing) (λ i h. by (eqb i l)))
    where
      by : (g : Bool) → (if g then nothing else nothing) ≡ nothing
      by true = refl
      by false = refl

  pub two_added : (l : ℕ) (us vs ys zs : List ℕ) → length us ≡ of_channel → length vs ≡ of_channel → ys ≡ plus xs (on_line l us) → zs ≡ plus ys (on_line l vs) → zs ≡ plus xs (on_line l (plus us vs))
  two_added l us vs ys zs eu ev ey ez = ez ∙ ap (λ (y : List ℕ). plus y (on_line l vs)) ey ∙ plus_assoc xs (on_line l us) (on_line l vs) ∙ ap (plus xs) (on_line_plus l us vs eu ev)

  module _ (m : List ℕ) (v : T (valid m)) (k l : ℕ) (o : LineOf k l) where
    pub no_channel : (f : Chan → List ℕ) → lines ≤ l → xs ≡ plus xs (on_channel k f (load m))
    no_channel f h = nothing_added (on_channel k f (load m)) (off_channel f (load m) k (o.nowhere h))

    module _ (h : l < lines) where
      channel : (f : Chan → List ℕ) (ys b : List ℕ) → b ≡ f (region.get (there m v l h)) → ys ≡ plus xs (on_line l b) → ys ≡ plus xs (on_channel k f (load m))
      channel f ys b eb e = e ∙ ap (plus xs) (ap (on_line l) (eb ∙ ap f (chan_is m v l h)) ∙ on_channel_law f (load m) k l (o.here h))

      module _ (n : ℕ) (en : n ≡ held_in (region.get (there m v l h))) (ys : List ℕ) where
        pub held_added : (which : ℕ) → ys ≡ plus xs (on_line l (cell which n)) → ys ≡ plus xs (on_channel k (held_at which) (load m))
        unfolding held_at
        held_added which e = channel (held_at which) ys (cell which n) (ap (cell which) en) e

        pub read_added : (asked given : ℕ) → given ≡ min asked n → ys ≡ plus xs (on_line l (cell at_read given)) → ys ≡ plus xs (on_channel k (λ c. cell at_read (min asked (held_in c))) (load m))
        read_added asked given eg e = channel (λ c. cell at_read (min asked (held_in c))) ys (cell at_read given) (ap (cell at_read) (eg ∙ ap (min asked) en)) e

        pub echo_added : (b : Bool) → b ≡ would_echo (region.get (there m v l h)) → b ≡ true → (gone : ℕ) → gone ≡ losing true n → (us : List ℕ) → us ≡ plus xs (on_line l (cell at_echoed 1)) → ys ≡ plus us (on_line l (cell at_lost gone))
            → ys ≡ plus xs (on_channel k echo_adds (load m))
        unfolding echo_adds losing
        echo_added b eb t gone eg us eu e =
            channel echo_adds ys (plus (cell at_echoed 1) (cell at_lost gone))
            (ap (λ (j : ℕ). plus (cell at_echoed 1) (cell at_lost j)) (eg ∙ ap (λ (j : ℕ). one (leb most_to_read j)) en)
            ∙ sym (rw (sym (sym t ∙ eb)) refl))
            (two_added l (cell at_echoed 1) (cell at_lost gone) us ys (cell_long at_echoed 1) (cell_long at_lost gone) eu e)

      pub silent_added : (b : Bool) → b ≡ would_echo (region.get (there m v l h)) → b ≡ false → xs ≡ plus xs (on_channel k echo_adds (load m))
      unfolding echo_adds
      silent_added b eb t = channel echo_adds xs nothing (sym (rw (sym (sym t ∙ eb)) refl)) (nothing_on_line l)

-- ---- a frame

module _ (r : List ℕ) (f : Opened r) (wide : Bool) (bytes xs : List ℕ) (s : Sums xs) (l : ℕ) where
  pub held_is : (n : ℕ) → n ≡ held_in (region.get r) → n ≡ length (open_of r).receiving.queue
  unfolding held_in queue_of
  held_is n e = e ∙ ap held_in (is_open r f)

  pub offered_added : (fate : ℕ) → fate ≡ fate_of (open_of r) wide bytes → (n : ℕ) → n ≡ held_in (region.get r) → (gone : ℕ) → gone ≡ losing (eqb fate at_passed) n
      → (us vs ys : List ℕ) → us ≡ plus xs (on_line l (cell at_offered 1)) → vs ≡ plus us (on_line l (cell fate 1)) → ys ≡ plus vs (on_line l (cell at_lost gone))
      → ys ≡ plus xs (on_line l (frame_adds wide bytes (opened (open_of r))))
  unfolding frame_adds
  offered_added fate ef n en gone eg us vs ys eu ev ey =
      two_added xs s l (plus (cell at_offered 1) (cell fate 1)) (cell at_lost gone) vs ys
      (length_plus (cell at_offered 1) (cell fate 1) (cell_long at_offered 1 ∙ sym (cell_long fate 1)) ∙ cell_long at_offered 1)
      (cell_long at_lost gone) (two_added xs s l (cell at_offered 1) (cell fate 1) us vs (cell_long at_offered 1) (cell_long fate 1) eu ev) ey
      ∙ ap (λ (b : List ℕ). plus xs (on_line l b))
      (ap₂ (λ (j g : ℕ). plus (plus (cell at_offered 1) (cell j 1)) (cell at_lost g)) ef (eg ∙ ap₂ (λ (j q : ℕ). losing (eqb j at_passed) q) ef (held_is n en)))

pub eight_there : (m : List ℕ) → T (valid m) → EightChannels (load m)
eight_there m v = (ok_sane (load m) (ok_load m v)).eight

module _ (m : List ℕ) (v : T (valid m)) (xs : List ℕ) (s : Sums xs) (rates : List ℕ) (l w n : ℕ) (b : List ℕ) where
  eight : EightChannels (load m)
  eight = eight_there m v

  pub frame_beyond : lines ≤ l → xs ≡ plus xs (adds rates (load m) (frame l w n b))
  frame_beyond h = nothing_added xs s _ (beyond_adds rates (load m) eight l w n b h)

  module _ (h : l < lines) (code : ℕ) (ec : code ≡ frame_code w n b) where
    pub frame_refused : (code ≡ 0 → ⊥) → xs ≡ plus xs (adds rates (load m) (frame l w n b))
    frame_refused z = nothing_added xs s _ (refused_adds rates (load m) eight l w n b h (λ y. z (ec ∙ y)))

    module _ (z : code ≡ 0) where
      good_frame : (c : Chan) → chan_at l (load m) ≡ c → adds rates (load m) (frame l w n b) ≡ on_line l (frame_adds (eqb w 1) (id_bytes n ++ b) c)
      good_frame c e =
          good_adds rates (load m) eight l w n b h (sym ec ∙ z)
          ∙ sym (on_line_law (frame_adds (eqb w 1) (id_bytes n ++ b)) (load m) l)
          ∙ ap (λ (x : Chan). on_line l (frame_adds (eqb w 1) (id_bytes n ++ b) x)) e

      first_there : get_or (there m v l h) 0 0 ≡ get_or m (raw_at l) 0
      first_there = get_or-take (raw_at l + region_size - raw_at l) (drop (raw_at l) m) 0 0 (omega arith) ∙ get_or-drop (raw_at l) m 0 0 ∙ (let z : raw_at l + 0 ≡ raw_at l = omega arith in ap (λ (k : ℕ). get_or m k 0) z)

      pub frame_closed : get_or m (raw_at l) 0 ≡ 0 → xs ≡ plus xs (adds rates (load m) (frame l w n b))
      unfolding frame_adds
      frame_closed e =
          let p = lent m v l h in
          nothing_on_line xs s l ∙ ap (plus xs) (sym (good_frame closed (sym (chan_is m v l h) ∙ is_closed (there m v l h) p.0 p.1 (first_there ∙ e))))

      module _ (e : get_or m (raw_at l) 0 ≡ 0 → ⊥) where
        pub frame_open : Opened (there m v l h)
        frame_open = let p = lent m v l h in open_there (there m v l h) p.0 p.1 (λ y. e (sym first_there ∙ y))

        pub frame_offered : (ys : List ℕ) → ys ≡ plus xs (on_line l (frame_adds (eqb w 1) (id_bytes n ++ b) (opened (open_of (there m v l h))))) → ys ≡ plus xs (adds rates (load m) (frame l w n b))
        frame_offered ys q = q ∙ ap (plus xs) (sym (good_frame (opened (open_of (there m v l h))) (sym (chan_is m v l h) ∙ is_open (there m v l h) frame_open)))

      pub frame_short : length b ≤ most_bytes
      unfolding frame_code code_of
      frame_short = by (ltb 1 w) (ltb (id_limit (eqb w 1)) n) (ltb most_bytes (length b)) refl (sym ec ∙ z)
        where
          by : (p q g : Bool) → ltb most_bytes (length b) ≡ g → ◌≡◌ {A = ℕ} (if p then 0x0A else if q then 0x0A else if g then 0x0A else 0x00) 0 → length b ≤ most_bytes
          by true q g t y = absurd (omega arith)
          by false true g t y = absurd (omega arith)
          by false false true t y = absurd (omega arith)
          by false false false t y = ltb-false most_bytes (length b) t

-- ---- small ones

module _ (comes : Bool) (held : ℕ) where
  pub none_comes : comes ≡ false → 0 ≡ losing comes held
  unfolding losing one
  none_comes e = sym (ap (λ (b : Bool). losing b held) e)

  pub room_left : held < most_to_read → 0 ≡ losing comes held
  unfolding losing one
  room_left h = rw (lt-leb most_to_read held h) (by comes)
    where
      by : (b : Bool) → 0 ≡ one (b && false)
      by true = refl
      by false = refl

  pub all_full : comes ≡ true → most_to_read ≤ held → 1 ≡ losing comes held
  unfolding losing one
  all_full e h = sym (ap (λ (b : Bool). losing b held) e ∙ rw (le-leb most_to_read held h) refl)

pub fate_small : (o : Open) (wide : Bool) (bytes : List ℕ) (n : ℕ) → n ≡ fate_of o wide bytes → n < of_channel
unfolding fate_of fate_if fate_by
fate_small o wide bytes n e = by (fits o wide bytes) (wanted o wide bytes) (unwanted o wide bytes) e
  where
    by : (f p q : Bool) → n ≡ fate_if f (fate_by p q) → n < of_channel
    by false p q e = omega arith
    by true false q e = omega arith
    by true true true e = omega arith
    by true true false e = omega arith

-- the loop over the four, turn by turn
pub first_added : (xs : List ℕ) → Sums xs → (which : ℕ) (d : Device) → xs ≡ plus xs (first_held which 0 d)
first_added xs s which d = nothing_added xs s (first_held which 0 d) (none_first which d)

pub all_added : (which : ℕ) (d : Device) (xs ys : List ℕ) (j : ℕ) → j ≡ 4 → ys ≡ plus xs (first_held which j d) → ys ≡ plus xs (on_each (held_at which) d)
all_added which d xs ys j e q = q ∙ ap (plus xs) (ap (λ (k : ℕ). first_held which k d) e ∙ all_first which d)

module _ (m : List ℕ) (v : T (valid m)) (which j : ℕ) (h : j < lines) where
  pub next_added : (xs ys zs : List ℕ) (n : ℕ) → ys ≡ plus xs (first_held which j (load m)) → n ≡ held_in (region.get (there m v j h)) → zs ≡ plus ys (on_line j (cell which n))
      → zs ≡ plus xs (first_held which (j + 1) (load m))
  unfolding held_at
  next_added xs ys zs n ey en ez =
      ez
      ∙ ap₂ (λ (y : List ℕ) (k : ℕ). plus y (on_line j (cell which k))) ey (en ∙ ap held_in (chan_is m v j h))
      ∙ plus_assoc xs (first_held which j (load m)) (on_line j (held_at which (chan_at j (load m))))
      ∙ ap (plus xs) (next_first which (load m) j)
