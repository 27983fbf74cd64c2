-- Where the body of a store stands: its filters, periodics, rate and loopback; and the region that has them instead of its own. Assumes nothing.
use Rattle.std.specs.Prelude.{ℕ, ◌≡◌, List, drop}
use Rattle.std.proofs.Math.Option.{some}
use Rattle.machine.specs.Store.{Setup}
use Rattle.machine.specs.Channel.{Open, opened, body_in, store_in, loaded}
use Rattle.setups.specs.Saved.{Done}
use Rattle.layout.specs.Sizes.{flags_at}
use Rattle.layout.specs.Memory.{open_part, region}

-- a store that reads has its body there
abbrev pub BodyThere : List ℕ → ℕ → Type 0
BodyThere s r = (rates : List ℕ) (t : Setup) (n : ℕ) → store_in rates s 0 ≡ some (t, n) → body_in rates t.flags s r ≡ some (t, n)

-- what an open channel's region holds
abbrev channel_in : List ℕ → Open
channel_in r = open_part.get (drop flags_at r)

-- the channel takes the store, by some rates
pub record Fitting (r s : List ℕ) : Type 0 where
  pub rates : List ℕ
  pub done : Done rates (channel_in r) s

-- the region r' holds what the channel of r becomes by loading the store
abbrev pub Replaced : List ℕ → List ℕ → List ℕ → Type 0
Replaced r s r' = (rates : List ℕ) (d : Done rates (channel_in r) s) → r' ≡ region.put (opened (loaded (channel_in r) d.setup))
