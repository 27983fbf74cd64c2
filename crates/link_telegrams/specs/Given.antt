-- A telegram that a connection gives to be sent, by value: whether there is one, its identifier, how many bytes it has, and they with zeros behind
-- them. Assumes nothing.
use Rattle.std.specs.Prelude.{◌≡◌, ℕ, ◌-◌, ◌<◌, true, false, List, ◌++◌, length, get_or, T}
use Rattle.std.proofs.Math.Option.{Option, none, some}
use Rattle.codec.specs.Plain.{zeros}
use Rattle.link.specs.Connection.{Block, block_of, sends, Connection, Offer, offer}
use Rattle.link_layout.specs.Sizes.{asked_size, out_size}
use Rattle.link_layout.specs.Connection.{asked, out, connection_part}
use Rattle.link_telegrams.specs.declared.Given.{Given}

-- a frame carries eight bytes at most
abbrev pub frame_room : ℕ
frame_room = 8

unfoldable pub given : ℕ → List ℕ → Given
given id b = record { there = true; id = id; len = length b; bytes = b ++ zeros (frame_room - length b) }

unfoldable pub nothing_given : Given
nothing_given = record { there = false; id = 0; len = 0; bytes = zeros frame_room }

-- what is offered; and the connection once it was taken
unfoldable pub given_of : Option Offer → Given
given_of none = nothing_given
given_of (some x) = given x.id x.bytes

unfoldable pub taken_from : Connection → Option Offer → Connection
taken_from c none = c
taken_from c (some x) = x.then'

-- the connection with the bytes m gave r, and its bytes are m' then
pub record Gave (m : List ℕ) (r : Given) (m' : List ℕ) : Type 0 where
  pub gives : r ≡ given_of (offer (connection_part.get m))
  pub leaves : m' ≡ connection_part.put (taken_from (connection_part.get m) (offer (connection_part.get m)))

-- the bytes of what was asked for
pub record AskedPart (m : List ℕ) : Type 0 where
  pub long : length m ≡ asked_size
  pub valid : T (asked.valid m)

-- the bytes of a message whose telegrams are sent, with one more of its block to send
pub record Sending (size : ℕ) (m : List ℕ) : Type 0 where
  pub long : length m ≡ out_size
  pub valid : T (out.valid m)
  pub which : get_or m 0 0 ≡ 1
  pub more : (b : Block) → out.get m ≡ sends b → b.taken < block_of size b.rest
