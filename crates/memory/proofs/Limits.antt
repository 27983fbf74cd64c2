-- What a valid memory holds, in plain numbers: the clock, and every open channel of either kind within its limits. Assumes nothing.
use mathlib.Core.Path.{◌≡◌, subst}
use Prim.Native.Nat.{ℕ, ◌^◌, ◌<◌}
use mathlib.Core.List.{List}
use lib.Dec.{T}
use Rattle.codec.proofs.Lists.{all_at}
use Rattle.machine.specs.Channel.{Open, closed, opened, listens}
use Rattle.layout.specs.Memory.{region}
use Rattle.layout.proofs.Good.{Fine, fine_closed, ok_good}
use Rattle.layout.proofs.Limits.{Limits, good_limits, Silent, listener_silent}
use Rattle.iso.specs.Iso.{OpenIso, shut, ready}
use Rattle.iso_layout.specs.Region.{iso_region}
use Rattle.iso_layout.proofs.Good.{FineIso, iso_good, fine_shut}
use Rattle.iso_layout.proofs.Limits as iso_limits
use Rattle.whole.specs.Device.{chan_at, iso_at}
use Rattle.memory.specs.Memory.{load, valid}
use Rattle.memory.proofs.Memory.{ok_load}
use Rattle.memory.proofs.Reach.{ok_sane}

module _ (m : List ℕ) (v : T (valid m)) where
  pub clock_limit : (load m).clock < 2 ^ 32
  clock_limit = (ok_sane (load m) (ok_load m v)).clock_small

  -- EVERY OPEN CHANNEL IN A VALID MEMORY IS WITHIN THE LIMITS
  pub channel_limits : (i : ℕ) (o : Open) → chan_at i (load m) ≡ opened o → Limits o
  unfolding chan_at
  channel_limits i o e =
      good_limits o (ok_good o (subst Fine e (all_at region.ok (load m).chans i closed fine_closed (ok_sane (load m) (ok_load m v)).each_fine)))

  -- A LISTENER IN A VALID MEMORY HOLDS NOTHING THAT COULD BE SENT
  pub listener_limits : (i : ℕ) (o : Open) → chan_at i (load m) ≡ opened o → T (listens o.config.flags) → Silent o
  listener_limits i o e t = listener_silent o (channel_limits i o e) t

  pub iso_channel_limits : (i : ℕ) (o : OpenIso) → iso_at i (load m) ≡ ready o → iso_limits.Limits o
  unfolding iso_at
  iso_channel_limits i o e =
      iso_limits.good_limits o (iso_good o (subst FineIso e (all_at iso_region.ok (load m).isos i shut fine_shut (ok_sane (load m) (ok_load m v)).each_iso_fine)))
