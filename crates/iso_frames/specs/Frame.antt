-- A frame and the conversation that it concerns. Assumes nothing.
use Rattle.std.specs.Prelude.{ℕ, Bool, false, ◌&&◌, List, get_or, eqb}
use Rattle.std.specs.Bool.{beq}
use Rattle.std.proofs.Math.Option.{Option, none, some}
use Rattle.iso.specs.Iso.{Talk, OpenIso, set_receiving, with_talks, turn_at, news_at, arrive_iso, listening}

-- a frame of this width and identifier is something to the conversation at a place
unfoldable pub concerned : Bool → ℕ → Option Talk → Bool
concerned wide id none = false
concerned wide id (some c) = beq wide c.wide && eqb id c.pattern

-- the conversation at place k hears the frame b at the clock t
unfoldable pub hears_at : ℕ → ℕ → List ℕ → OpenIso → OpenIso
hears_at k t b o =
    set_receiving (with_talks o (turn_at k (λ c. (listening t c b).transfer) o.talks))
    (arrive_iso o.receiving (news_at (λ c. (listening t c b).records) (get_or o.talks k none)))
