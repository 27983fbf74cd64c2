-- A connection asked for its telegram: what is given to be sent, as a record, and what is left. Assumes nothing.
use Rattle.std.specs.Prelude.{ℕ, ◌≡◌, Bool, List, drop}
use Rattle.std.proofs.Math.Option.{Option, none, some}
use Rattle.link.specs.Connection.{Offer, offer}
use Rattle.link_layout.specs.Connection.{connection_part}
use Rattle.link_layout.specs.Turned.{is_there}
use Rattle.link_telegrams.specs.Given.{taken_from}
use Rattle.machine.specs.Message.{shown}
use Rattle.machine.specs.Channel.{Open, opened, with_link, telegram, may_go}
use Rattle.layout.specs.Memory.{open_part, region}

-- the 36 bytes of the telegram, else those that were there
unfoldable pub shown_or : Option Offer → List ℕ → List ℕ
shown_or none m = m
shown_or (some x) m = shown (telegram x)

-- the channel when its connection gave that telegram
unfoldable pub without : Open → Option Offer → Open
without o none = o
without o (some x) = with_link o x.then'

-- a connection with the bytes p: whether it gave a telegram, its bytes then, and those of the record
pub record Given (p m : List ℕ) (there : Bool) (p' m' : List ℕ) : Type 0 where
  pub is : there ≡ is_there (offer (connection_part.get p))
  pub leaves : p' ≡ connection_part.put (taken_from (connection_part.get p) (offer (connection_part.get p)))
  pub shows : m' ≡ shown_or (offer (connection_part.get p)) m

-- an open channel with the region r: likewise, where no periodic is pending
pub record Offered (r m : List ℕ) (there : Bool) (r' m' : List ℕ) : Type 0 where
  pub is : there ≡ is_there (may_go (open_part.get (drop 1 r)))
  pub leaves : r' ≡ region.put (opened (without (open_part.get (drop 1 r)) (may_go (open_part.get (drop 1 r)))))
  pub shows : m' ≡ shown_or (may_go (open_part.get (drop 1 r))) m
