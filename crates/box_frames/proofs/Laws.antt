-- A frame: what code does to the two regions of its line is what the box does. Assumes nothing.
use mathlib.Core.Path.{◌≡◌, refl, sym, ap, ap₂, ◌∙◌, subst}
use Prim.Native.Nat.{ℕ, ◌+◌, ◌-◌, ◌≤◌, ◌<◌}
use native.Mathlib.Omega.{arith}
use mathlib.Core.Bool.{true}
use mathlib.Core.List.{List, [], ◌∷◌, ◌++◌}
use lib.ListN.{length, get_or, take, drop}
use lib.Dec.{T, eqb, ltb}
use borrow.Author.Tests.{lt-ltb, le-ltb, eq-eqb, ne_eqb}
use borrow.Rule.Slice.PartMut.{put_mid, mid_of}
use Rattle.codec.specs.Plain.{member, all, is_byte}
use Rattle.codec.specs.Word.{word_at}
use Rattle.codec.specs.Code.{slot, via, get_slot}
use Rattle.machine.specs.Limits.{lines}
use Rattle.machine.specs.Codes.{code_of}
use Rattle.machine.specs.Message.{id_bytes}
use Rattle.machine.specs.Channel.{Chan, closed, opened, Answer, says, frame_code, heard_by, offered, on_frame}
use Rattle.machine.specs.Step as raw_step
use Rattle.machine.specs.Step.{frame, chan_step}
use Rattle.layout.specs.Sizes.{region_size}
use Rattle.layout.specs.Memory.{chan_back, open_part, region}
use Rattle.layout.specs.Promise.{gives, Opened}
use Rattle.layout.proofs.Memory.{region_lawful}
use Rattle.layout.proofs.Sizes.{region_size_law}
use Rattle.layout.proofs.Region.{open_of, is_open}
use Rattle.layout.proofs.Calls.{fine_step}
use Rattle.iso.specs.Iso.{Iso, shut, ready, on_iso_frame}
use Rattle.iso_layout.specs.Sizes.{iso_region_size}
use Rattle.iso_layout.specs.Region.{iso_region}
use Rattle.whole.specs.Device.{Device, chan_at, iso_at, own_answer}
use Rattle.whole.specs.Demands.{EightChannels}
use Rattle.whole.proofs.Dispatch.{with_line, with_line_same, with_line_beyond, step_frame}
use Rattle.memory.specs.Sizes.{raw_at, iso_at_byte}
use Rattle.memory.specs.Memory.{load, valid}
use Rattle.memory.specs.Promise.{outcome}
use Rattle.memory.proofs.Memory.{ok_load}
use Rattle.memory.proofs.Reach.{ok_sane}
use Rattle.memory.proofs.Rows.{raws, isos, by_step, unmoved, region_got, region_long, region_valid}
use Rattle.memory.proofs.Lines.{clock_is, raw_valid, iso_stays, both_back}

-- ---- a frame on the region of a raw channel, open or closed

module _ (r : List ℕ) (long : length r ≡ region_size) (v : T (region.valid r)) where
  again : region.put (region.get r) ≡ r
  again = region_lawful.put_get r (long ∙ sym region_size_law) v

  pub not_closed : (get_or r 0 0 ≡ 0 → ⊥) → Opened r
  unfolding region via slot
  not_closed n =
      let first : get_or (region.put (region.get r)) 0 0 ≡ get_or r 0 0 = ap (λ (x : List ℕ). get_or x 0 0) again in
      record { long = long; valid = v; mark = sym first ∙ one (region.get r) (λ z. n (sym first ∙ z)) }
    where
      one : (c : Chan) → (get_or (region.put c) 0 0 ≡ 0 → ⊥) → get_or (region.put c) 0 0 ≡ 1
      one closed n = absurd (n refl)
      one (opened o) n = refl

  module _ (now w n : ℕ) (b : List ℕ) where
    pub offer_closed : get_or r 0 0 ≡ 0 → r ≡ region.put (on_frame now (region.get r) w n b)
    unfolding region via slot on_frame
    offer_closed z =
        let e : region.get r ≡ closed = ap (λ (k : ℕ). chan_back (get_slot open_part k (drop 1 r))) z in
        sym again ∙ ap region.put e ∙ sym (ap (λ (c : Chan). region.put (on_frame now c w n b)) e)

    pub offer_open : frame_code w n b ≡ 0 → Opened r → (ys : List ℕ) → ys ≡ region.put (offered now (heard_by (open_of r) (eqb w 1) n b) (eqb w 1) (id_bytes n ++ b)) → ys ≡ region.put (on_frame now (region.get r) w n b)
    unfolding on_frame
    offer_open z o ys e = e ∙ ap region.put (sym (ap (λ (c : Chan). on_frame now c w n b) (is_open r o) ∙ rw (eq-eqb (frame_code w n b) 0 z)))

module _ (rates m : List ℕ) (v : T (valid m)) where
  eight : EightChannels (load m)
  eight = (ok_sane (load m) (ok_load m v)).eight

  -- ---- frames

  module _ (l w n : ℕ) (b : List ℕ) where
    own_answer_law : own_answer rates (frame l w n b) ≡ says (code_of ((ltb 3 l, 0x13) ∷ (true, frame_code w n b) ∷ [])) 0 []
    unfolding own_answer raw_step.own_answer
    own_answer_law = refl

    pub frame_no_line : lines ≤ l → gives 0x13 0 [] m ≡ outcome rates m (frame l w n b)
    unfolding code_of says
    frame_no_line h =
        unmoved m v rates (frame l w n b) (says 0x13 0 [])
        (step_frame rates (load m) l w n b eight
        ∙ ap₂ {C = Device × Answer} (λ d a. (d, a)) (with_line_beyond l _ _ (load m) (omega (arith, eight.raws)) (omega (arith, eight.isos))) (own_answer_law ∙ rw (lt-ltb 3 l (omega arith)) refl))

    module _ (h : l < lines) where
      answer_is : own_answer rates (frame l w n b) ≡ says (frame_code w n b) 0 []
      unfolding code_of
      answer_is = own_answer_law ∙ rw (le-ltb 3 l (omega arith)) refl

      raw_stays : (frame_code w n b ≡ 0 → ⊥) → (x : Chan) → on_frame (load m).clock x w n b ≡ x
      unfolding on_frame
      raw_stays z closed = refl
      raw_stays z (opened o) = rw (ne_eqb (frame_code w n b) 0 z)

      iso_stays_too : (frame_code w n b ≡ 0 → ⊥) → (x : Iso) → on_iso_frame (load m).clock x w n b ≡ x
      unfolding on_iso_frame
      iso_stays_too z shut = refl
      iso_stays_too z (ready o) = rw (ne_eqb (frame_code w n b) 0 z)

      pub frame_refused : (c : ℕ) → c ≡ frame_code w n b → (c ≡ 0 → ⊥) → gives c 0 [] m ≡ outcome rates m (frame l w n b)
      unfolding says
      frame_refused c e z =
          ap (λ (k : ℕ). gives k 0 [] m) e
          ∙ unmoved m v rates (frame l w n b) (says (frame_code w n b) 0 [])
          (step_frame rates (load m) l w n b eight
          ∙ ap₂ {C = Device × Answer} (λ d a. (d, a))
          (ap₂ (λ (x : Chan) (y : Iso). with_line l x y (load m)) (raw_stays (λ q. z (e ∙ q)) (chan_at l (load m))) (iso_stays_too (λ q. z (e ∙ q)) (iso_at l (load m))) ∙ with_line_same l (load m))
          answer_is)

      -- a good one: the raw region, then in the memory with that put back the ISO 15765 region
      module _ (good : frame_code w n b ≡ 0) where
        abbrev raw_there : List ℕ
        raw_there = mid_of (raw_at l) (raw_at l + region_size - raw_at l) m

        raw_span : raw_at l + region_size - raw_at l ≡ region_size
        raw_span = omega arith

        raw_lies : raw_there ≡ take region_size (drop (raw_at l) m)
        raw_lies = ap (λ (j : ℕ). mid_of (raw_at l) j m) raw_span

        pub raw_lent_law : (length raw_there ≡ region_size) × T (region.valid raw_there) × (frame_code w n b ≡ 0)
        unfolding raws
        raw_lent_law = (ap length raw_lies ∙ region_long m v raws l h, subst (λ (x : List ℕ). T (region.valid x)) (sym raw_lies) (region_valid m v raws l h), good)

        module _ (bytes : T (all is_byte b)) (now : ℕ) (t : now ≡ word_at 0 m) where
          abbrev raw_after : Chan
          raw_after = on_frame (load m).clock (chan_at l (load m)) w n b

          raw_fine : T (region.ok raw_after)
          unfolding chan_step member raws
          raw_fine =
              fine_step [] (λ r k. absurd k) (load m).clock (ok_sane (load m) (ok_load m v)).clock_small (chan_at l (load m)) (raws.fine (load m) l (ok_load m v)) (frame l w n b) bytes

          module _ (ys : List ℕ) (ey : ys ≡ region.put (on_frame now (region.get raw_there) w n b)) where
            abbrev once : List ℕ
            once = put_mid (raw_at l) (raw_at l + region_size - raw_at l) m ys

            raw_put : ys ≡ region.put raw_after
            unfolding raws
            raw_put = ey ∙ ap₂ (λ (k : ℕ) (x : Chan). region.put (on_frame k x w n b)) (t ∙ clock_is m v) (ap region.get raw_lies ∙ region_got m v raws l h)

            once_is : once ≡ put_mid (raw_at l) region_size m ys
            once_is = ap (λ (j : ℕ). put_mid (raw_at l) j m ys) raw_span

            once_valid : T (valid (put_mid (raw_at l) region_size m ys))
            once_valid = raw_valid m v l h raw_after raw_fine ys raw_put

            iso_span : iso_at_byte l + iso_region_size - iso_at_byte l ≡ iso_region_size
            iso_span = omega arith

            abbrev iso_there : List ℕ
            iso_there = mid_of (iso_at_byte l) (iso_at_byte l + iso_region_size - iso_at_byte l) once

            iso_lies : iso_there ≡ take iso_region_size (drop (iso_at_byte l) (put_mid (raw_at l) region_size m ys))
            iso_lies = ap₂ (λ (j : ℕ) (x : List ℕ). mid_of (iso_at_byte l) j x) iso_span once_is

            pub iso_lent : (length iso_there ≡ iso_region_size) × T (iso_region.valid iso_there) × (frame_code w n b ≡ 0)
            unfolding isos
            iso_lent =
                (ap length iso_lies ∙ region_long _ once_valid isos l h, subst (λ (x : List ℕ). T (iso_region.valid x)) (sym iso_lies) (region_valid _ once_valid isos l h), good)

            pub framed : (zs : List ℕ) → zs ≡ iso_region.put (on_iso_frame now (iso_region.get iso_there) w n b)
                → gives 0 0 [] (put_mid (iso_at_byte l) (iso_at_byte l + iso_region_size - iso_at_byte l) once zs) ≡ outcome rates m (frame l w n b)
            unfolding isos says
            framed zs ez =
                let iso_after : Iso = on_iso_frame (load m).clock (iso_at l (load m)) w n b in
                let put : zs ≡ iso_region.put iso_after =
                ez
                ∙ ap₂ (λ (k : ℕ) (x : Iso). iso_region.put (on_iso_frame k x w n b)) (t ∙ clock_is m v)
                (ap iso_region.get iso_lies ∙ region_got _ once_valid isos l h ∙ iso_stays m v l h raw_after raw_fine ys raw_put) in
                ap (λ (x : List ℕ). gives 0 0 [] x)
                (ap₂ (λ (j : ℕ) (x : List ℕ). put_mid (iso_at_byte l) j x zs) iso_span once_is ∙ both_back m v l h raw_after raw_fine ys raw_put iso_after zs put)
                ∙ by_step m v rates (frame l w n b) (with_line l raw_after iso_after (load m)) (says 0 0 [])
                (step_frame rates (load m) l w n b eight ∙ ap (λ (a : Answer). (with_line l raw_after iso_after (load m), a)) (answer_is ∙ ap (λ (k : ℕ). says k 0 []) good))
