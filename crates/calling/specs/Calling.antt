-- What a call does on the region of its channel, by the channel's kind. Assumes nothing.
use Rattle.std.specs.Prelude.{ℕ, ◌≡◌, true, false, Bool, List, [], Result}
use Rattle.std.proofs.Common.{MutBor}
use Rattle.codes.specs.Code.{code_of}
use Rattle.codes.specs.declared.Refusal.{Refusal}
use Rattle.machine.specs.Channel.{Call, raw_only, speaks_out}
use Rattle.layout.specs.Promise.{gives, Opened, Speaker, call_outcome}
use Rattle.iso_layout.specs.Promise.{IsoOpened, iso_outcome}
use Rattle.calling.specs.declared.Listeners.{Listeners}
use Rattle.calling.specs.declared.Listeners.TheVariants.{Serve, Refuse}

-- does the call speak out, so that listeners refuse it?
abbrev pub speaks : Listeners → Bool
speaks Serve = false
speaks Refuse = true

-- the regions of the raw channels that serve it
abbrev pub Serves : Listeners → List ℕ → Type 0
Serves Serve = Opened
Serves Refuse = Speaker

-- it may be done on every such region
abbrev pub Takes : (MutBor (List ℕ) → Type 0) → (List ℕ → Type 0) → Type 0
Takes Allowed Served = (r : MutBor (List ℕ)) → Served r.now → Allowed r

module _ {A : Type 0} (Does : List ℕ → Result A Refusal → List ℕ → Type 0) where
  -- ON THE REGION OF A RAW CHANNEL it does what the machine does there: what it answers and leaves is the call's outcome at the clock `now`
  pub record DoesRaw (listeners : Listeners) (value : Result A Refusal → ℕ) (rates : List ℕ) (now : ℕ) (x : Call) : Type 0 where
    pub speaks_so : speaks_out x ≡ speaks listeners
    pub done : (r r' : List ℕ) (a : Result A Refusal) → Serves listeners r → Does r a r' → gives (code_of a) (value a) [] r' ≡ call_outcome rates now r x

  -- ON THE REGION OF AN ISO 15765 CHANNEL likewise
  pub record DoesIso (value : Result A Refusal → ℕ) (rates : List ℕ) (now : ℕ) (x : Call) : Type 0 where
    pub both : raw_only x ≡ false
    pub done : (r r' : List ℕ) (a : Result A Refusal) → IsoOpened r → Does r a r' → gives (code_of a) (value a) [] r' ≡ iso_outcome rates now r x
