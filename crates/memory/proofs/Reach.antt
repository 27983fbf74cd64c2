-- Every memory of the whole box reached from power-on is valid: a step keeps what the memory can hold. Assumes nothing.
use Rattle.std.specs.Prelude.{if◌then◌else◌}
use mathlib.Core.Path.{◌≡◌, refl}
use Prim.Native.Nat.{ℕ, suc, ◌^◌, ◌<◌}
use mathlib.Core.Bool.{Bool}
use mathlib.Core.List.{List, [], ◌∷◌}
use lib.Dec.{T, lit<}
use Rattle.codec.specs.Plain.{all}
use Rattle.codec.specs.Code.{word32, both, via, many}
use Rattle.codec.proofs.Tests.{left, right, join}
use Rattle.codec.proofs.Lawful.{word_ok, ok_word, both_first, both_second}
use Rattle.codec.proofs.Many.{many_count, many_each, many_make}
use Rattle.machine.specs.Limits.{lines}
use Rattle.machine.specs.Codes.{three_rates, two_rates}
use Rattle.machine.specs.Step.{Event, chan_step}
use Rattle.layout.specs.Memory.{region}
use Rattle.layout.specs.Reach.{Bytes, AllBytes}
use Rattle.layout.proofs.Good.{fine_closed}
use Rattle.machine.proofs.Tables.{by_test}
use Rattle.layout.proofs.Calls.{Known, three_known, two_known, fine_step}
use Rattle.layout.proofs.Reach.{clock_ok}
use Rattle.iso.specs.Step.{iso_step}
use Rattle.iso_layout.specs.Region.{iso_region}
use Rattle.iso_layout.proofs.Good.{fine_shut}
use Rattle.iso_layout.proofs.Calls.{fine_iso_step}
use Rattle.whole.specs.Device.{Device, power_on, touches, moved, after, step, run}
use Rattle.whole.specs.Demands.{EightChannels}
use Rattle.whole.proofs.Dispatch.{channels_kept}
use Rattle.memory.specs.Memory.{device_parts, memory, image, valid}
use Rattle.memory.proofs.Memory.{valid_image}

-- ---- a box can be held where its clock and each of its eight channels can

pub record Sane (d : Device) : Type 0 where
  pub clock_small : d.clock < 2 ^ 32
  pub eight : EightChannels d
  pub each_fine : T (all region.ok d.chans)
  pub each_iso_fine : T (all iso_region.ok d.isos)

pub chans_ok : (d : Device) → T (memory.ok d) → T ((many lines region).ok d.chans)
unfolding memory via
chans_ok d t = both_first (many lines region) (many lines iso_region) (device_parts d).1 (both_second word32 (both (many lines region) (many lines iso_region)) (device_parts d) t)

pub isos_ok : (d : Device) → T (memory.ok d) → T ((many lines iso_region).ok d.isos)
unfolding memory via
isos_ok d t = both_second (many lines region) (many lines iso_region) (device_parts d).1 (both_second word32 (both (many lines region) (many lines iso_region)) (device_parts d) t)

pub ok_sane : (d : Device) → T (memory.ok d) → Sane d
unfolding memory via
ok_sane d t =
    record {
      clock_small = ok_word d.clock (both_first word32 (both (many lines region) (many lines iso_region)) (device_parts d) t);
      eight = record { raws = many_count lines region d.chans (chans_ok d t); isos = many_count lines iso_region d.isos (isos_ok d t) };
      each_fine = many_each lines region d.chans (chans_ok d t);
      each_iso_fine = many_each lines iso_region d.isos (isos_ok d t);
    }

pub sane_ok : (d : Device) → Sane d → T (memory.ok d)
unfolding memory via both
sane_ok d s =
    join (word32.ok d.clock) _ (word_ok d.clock s.clock_small)
    (join ((many lines region).ok d.chans) _ (many_make lines region d.chans s.eight.raws s.each_fine)
    (many_make lines iso_region d.isos s.eight.isos s.each_iso_fine))

pub power_on_ok : T (memory.ok power_on)
unfolding power_on
power_on_ok =
    sane_ok power_on (record { clock_small = lit< tt; eight = record { raws = refl; isos = refl }; each_fine = search (join, fine_closed); each_iso_fine = search (join, fine_shut) })

-- ---- each step, each run

-- what every step keeps holds of all channels that move or stay
all_moved : {C : Type 0} (p : C → Bool) (t : ℕ → Bool) (f : C → C) → ((c : C) → T (p c) → T (p (f c))) → (i : ℕ) (cs : List C) → T (all p cs) → T (all p (moved t f i cs))
unfolding moved
all_moved p t f k i [] h = tt
all_moved p t f k i (c ∷ cs) h =
    join (p (if t i then f c else c)) _ (by_test (λ x. T (p x)) (t i) (f c) c (λ u. k c (left (p c) (all p cs) h)) (left (p c) (all p cs) h))
    (all_moved p t f k (suc i) cs (right (p c) (all p cs) h))

module _ (rates : List ℕ) (known : Known rates) where
  -- A STEP KEEPS WHAT THE MEMORY CAN HOLD
  pub step_ok : (d : Device) (e : Event) → T (memory.ok d) → Bytes e → T (memory.ok (step rates d e).0)
  unfolding step after
  step_ok d e t b =
      let s = ok_sane d t in
      sane_ok (after rates d e)
      (record {
        clock_small = clock_ok d.clock s.clock_small e;
        eight = channels_kept rates d e s.eight;
        each_fine = all_moved region.ok (touches e) (λ c. (chan_step rates d.clock c e).0) (λ c f. fine_step rates known d.clock s.clock_small c f e b) 0 d.chans s.each_fine;
        each_iso_fine =
            all_moved iso_region.ok (touches e) (λ c. (iso_step rates d.clock c e).0) (λ c f. fine_iso_step rates known d.clock s.clock_small c f e b) lines d.isos s.each_iso_fine;
      })

  pub run_ok : (es : List Event) (d : Device) → T (memory.ok d) → AllBytes es → T (memory.ok (run rates d es))
  unfolding run
  run_ok [] d t b = t
  run_ok (e ∷ es) d t b = run_ok es (step rates d e).0 (step_ok d e t b.0) b.1

  -- EVERY MEMORY REACHED FROM POWER-ON IS VALID, with any set of rates out of the three
  pub reached : (es : List Event) → AllBytes es → T (valid (image (run rates power_on es)))
  reached es b = valid_image (run rates power_on es) (run_ok es power_on power_on_ok b)

-- with the three rates
pub reached_three : (es : List Event) → AllBytes es → T (valid (image (run three_rates power_on es)))
reached_three = reached three_rates three_known

-- with the two of now
pub reached_two : (es : List Event) → AllBytes es → T (valid (image (run two_rates power_on es)))
reached_two = reached two_rates two_known
