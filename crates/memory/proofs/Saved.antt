-- Saving and loading between the channels of a valid memory, and of a box that was reached. Assumes nothing.
use Prim.Native.Nat.{ℕ, ◌≤◌}
use mathlib.Core.Path.{◌≡◌, subst}
use mathlib.Core.List.{List}
use lib.Dec.{T}
use lib.ListN.{length, take}
use Rattle.codec.specs.Plain.{member}
use Rattle.codec.proofs.Lists.{all_at}
use Rattle.machine.specs.Channel.{Open, closed, opened, save_setup, load_setup, on_save, on_call}
use Rattle.machine.specs.Step.{Event}
use Rattle.setups.specs.Saved.{Loaded}
use Rattle.setups.proofs.Calls.{save_load}
use Rattle.layout.specs.Memory.{region}
use Rattle.layout.specs.Reach.{AllBytes}
use Rattle.layout.proofs.Good.{Fine, fine_closed, Good, ok_good}
use Rattle.layout.proofs.Calls.{Known}
use Rattle.layout.proofs.Saved.{good_setup, good_fits}
use Rattle.whole.specs.Device.{Device, power_on, chan_at, run}
use Rattle.memory.specs.Memory.{memory, load, valid}
use Rattle.memory.proofs.Memory.{ok_load}
use Rattle.memory.proofs.Reach.{ok_sane, power_on_ok, run_ok}

chan_good : (d : Device) → T (memory.ok d) → (i : ℕ) (o : Open) → chan_at i d ≡ opened o → Good o
unfolding chan_at
chan_good d t i o e = ok_good o (subst Fine e (all_at region.ok d.chans i closed fine_closed (ok_sane d t).each_fine))

module _ (rates : List ℕ) (now now' : ℕ) (o o' : Open) (b : List ℕ) (taken : T (member o.config.rate rates)) (flags : o.config.flags ≡ o'.config.flags)
    (fits : (on_call rates now (opened o) (save_setup b)).1.code ≡ 0x00) where
  -- what save wrote on o, loaded on o'
  abbrev pub Moved : Type 0
  Moved =
      Loaded o o'
      (on_call rates now' (opened o')
      (load_setup (take (on_call rates now (opened o) (save_setup b)).1.value (on_call rates now (opened o) (save_setup b)).1.buffer)))

  -- SAVED FROM A VALID MEMORY, loaded on any channel of the same flags, while set takes the rate
  pub save_load_valid : (m : List ℕ) → T (valid m) → (i : ℕ) → chan_at i (load m) ≡ opened o → Moved
  save_load_valid m v i e = save_load rates now now' o o' b (good_setup rates o (chan_good (load m) (ok_load m v) i o e) taken) flags fits

  -- SAVED ON A CHANNEL REACHED FROM POWER-ON
  pub save_load_reached : Known rates → (es : List Event) → AllBytes es → (i : ℕ) → chan_at i (run rates power_on es) ≡ opened o → Moved
  save_load_reached known es a i e =
      save_load rates now now' o o' b (good_setup rates o (chan_good (run rates power_on es) (run_ok rates known es power_on power_on_ok a) i o e) taken) flags fits

-- A BUFFER OF 1,149 BYTES ALWAYS SUFFICES, for every open raw channel of a valid memory
pub save_fits_valid : (m : List ℕ) → T (valid m) → (i : ℕ) (o : Open) → chan_at i (load m) ≡ opened o → (b : List ℕ) → 1149 ≤ length b → (on_save o b).1.code ≡ 0x00
save_fits_valid m v i o e b h = good_fits o (chan_good (load m) (ok_load m v) i o e) b h
