-- An advance: what code does to both rows of regions and to the clock is what the box does. Assumes nothing.
use mathlib.Core.Path.{◌≡◌, refl, sym, ap, ap₂, ◌∙◌, fun_ext}
use Prim.Native.Nat.{ℕ, ◌+◌, ◌*◌, ◌%◌, ◌≤◌, ◌<◌}
use native.Mathlib.Omega.{arith}
use mathlib.Core.List.{List, [], map, map-id}
use lib.ListN.{length}
use lib.Seq.{length-take-le}
use lib.Dec.{T, lit<}
use borrow.Author.Tests.{le-leb, lt-leb, lt-ltb, le-ltb}
use borrow.Rule.Slice.PartMut.{put_mid, mid_of, same_len_mid}
use Rattle.codec.specs.Plain.{member}
use Rattle.codec.specs.Word.{word, word_at}
use Rattle.codec.specs.Code.{many}
use Rattle.codec.proofs.Word.{word_part}
use Rattle.machine.specs.Limits.{lines, most_advance}
use Rattle.machine.specs.Codes.{code_of}
use Rattle.machine.specs.Channel.{Chan, Answer, says, on_advance}
use Rattle.machine.specs.Step as raw_step
use Rattle.machine.specs.Step.{advance, clock_after, chan_step}
use Rattle.machine.proofs.Refusals.{advance_left, clock_left}
use Rattle.layout.specs.Sizes.{number_size, region_size}
use Rattle.layout.specs.Memory.{region}
use Rattle.layout.specs.Promise.{gives}
use Rattle.layout.proofs.Calls.{fine_step}
use Rattle.iso.specs.Iso.{Iso, on_iso_advance}
use Rattle.iso.specs.Step.{iso_step}
use Rattle.iso.proofs.Fair.{iso_advance_left}
use Rattle.iso_layout.specs.Sizes.{iso_region_size}
use Rattle.iso_layout.specs.Region.{iso_region}
use Rattle.iso_layout.proofs.Calls.{fine_iso_step}
use Rattle.whole.specs.Device.{Device, own_answer}
use Rattle.whole.proofs.Dispatch.{same_device, step_advance}
use Rattle.memory.specs.Sizes.{isos_at, box_size}
use Rattle.memory.specs.Memory.{image, load, valid}
use Rattle.memory.specs.Promise.{outcome}
use Rattle.memory.proofs.Memory.{valid_long}
use Rattle.memory.proofs.Rows.{raws, isos, by_step, unmoved}
use Rattle.memory.proofs.Lines.{all_raws, all_isos, clock_is, clock_put, row_lent, moved_valid, moved_load}

-- ---- what keeps what a region can hold

pub advance_keeps : (us : ℕ) (x : Chan) → T (region.ok x) → T (region.ok (on_advance us x))
unfolding chan_step member
advance_keeps us x t = fine_step [] (λ r k. absurd k) 0 (lit< tt) x t (advance us) tt

pub iso_advance_keeps : (us : ℕ) (x : Iso) → T (iso_region.ok x) → T (iso_region.ok (on_iso_advance us x))
unfolding iso_step member
iso_advance_keeps us x t = fine_iso_step [] (λ r k. absurd k) 0 (lit< tt) x t (advance us) tt

module _ (rates m : List ℕ) (v : T (valid m)) where
  -- ---- advance

  module _ (us : ℕ) where
    pub advance_refused : most_advance < us → gives 0x0B 0 [] m ≡ outcome rates m (advance us)
    unfolding own_answer raw_step.own_answer code_of says
    advance_refused h =
        let over = lt-leb us most_advance h in
        unmoved m v rates (advance us) (says 0x0B 0 [])
        (step_advance rates (load m) us
        ∙ ap₂ {C = Device × Answer} (λ d a. (d, a))
        (same_device (clock_left rates us (load m).clock over) (ap (λ (f : Chan → Chan). map f (load m).chans) (fun_ext (advance_left rates us over)) ∙ map-id (load m).chans)
        (ap (λ (f : Iso → Iso). map f (load m).isos) (fun_ext (iso_advance_left rates us over)) ∙ map-id (load m).isos)) (rw (lt-ltb most_advance us h) refl))

    -- both rows, then the clock
    module _ (h : us ≤ most_advance) where
      abbrev raws_there : List ℕ
      raws_there = mid_of number_size (lines * region_size) m

      pub raws_lent : (length raws_there ≡ lines * region_size) × T ((many lines region).valid raws_there) × (us ≤ most_advance)
      unfolding all_raws raws
      raws_lent = let p = row_lent m v all_raws in (p.0, p.1, h)

      module _ (ys : List ℕ) (ey : ys ≡ (many lines region).put (map (on_advance us) ((many lines region).get raws_there))) where
        abbrev first : List ℕ
        first = put_mid number_size (lines * region_size) m ys

        first_valid : T (valid first)
        unfolding all_raws raws
        first_valid = moved_valid m v all_raws (on_advance us) (advance_keeps us) ys ey

        pub isos_end : box_size ≤ length first
        isos_end = let n = valid_long first first_valid in omega arith

        abbrev isos_there : List ℕ
        isos_there = mid_of isos_at (lines * iso_region_size) first

        pub isos_lent : (length isos_there ≡ lines * iso_region_size) × T ((many lines iso_region).valid isos_there) × (us ≤ most_advance)
        unfolding all_isos isos
        isos_lent = let p = row_lent first first_valid all_isos in (p.0, p.1, h)

        module _ (zs : List ℕ) (ez : zs ≡ (many lines iso_region).put (map (on_iso_advance us) ((many lines iso_region).get isos_there))) where
          abbrev second : List ℕ
          second = put_mid isos_at (lines * iso_region_size) first zs

          second_valid : T (valid second)
          unfolding all_isos isos
          second_valid = moved_valid first first_valid all_isos (on_iso_advance us) (iso_advance_keeps us) zs ez

          second_load : load second ≡ record { clock = (load m).clock; chans = map (on_advance us) (load m).chans; isos = map (on_iso_advance us) (load m).isos }
          unfolding all_raws all_isos raws isos
          second_load =
              moved_load first first_valid all_isos (on_iso_advance us) (iso_advance_keeps us) zs ez
              ∙ ap (λ (d : Device). record { clock = d.clock; chans = d.chans; isos = map (on_iso_advance us) d.isos }) (moved_load m v all_raws (on_advance us) (advance_keeps us) ys ey)

          pub clock_ends : number_size ≤ length second
          clock_ends = let n = valid_long second second_valid in omega arith

          pub clock_lent : length (mid_of 0 number_size second) ≡ number_size
          clock_lent = length-take-le number_size second clock_ends

          -- the clock put back
          module _ (ws : List ℕ) (ew : ws ≡ word ((word_at 0 (mid_of 0 number_size second) + us) % 0x1_0000_0000)) where
            pub advanced_long : length (put_mid 0 number_size second ws) ≡ length m
            unfolding word
            advanced_long = same_len_mid 0 number_size second ws (ap length ew ∙ sym clock_lent) ∙ valid_long second second_valid ∙ sym (valid_long m v)

            pub advanced : gives 0 0 [] (put_mid 0 number_size second ws) ≡ outcome rates m (advance us)
            unfolding own_answer raw_step.own_answer code_of says clock_after
            advanced =
                let k : ℕ = ((load m).clock + us) % 0x1_0000_0000 in
                let after : Device = record { clock = k; chans = map (on_advance us) (load m).chans; isos = map (on_iso_advance us) (load m).isos } in
                let old : word_at 0 (mid_of 0 number_size second) ≡ (load m).clock = word_part 0 second ∙ clock_is second second_valid ∙ ap (λ (d : Device). d.clock) second_load in
                ap (λ (x : List ℕ). gives 0 0 [] x)
                (ap (put_mid 0 number_size second) (ew ∙ ap (λ (x : ℕ). word ((x + us) % 0x1_0000_0000)) old) ∙ clock_put second second_valid k
                ∙ ap (λ (d : Device). image (record { clock = k; chans = d.chans; isos = d.isos })) second_load)
                ∙ by_step m v rates (advance us) after (says 0 0 [])
                (step_advance rates (load m) us ∙ ap₂ {C = Device × Answer} (λ d a. (d, a)) (same_device (rw (le-leb us most_advance h) refl) refl refl) (rw (le-ltb most_advance us h) refl))
