-- The oldest written message of a channel, in the bytes of the written messages and as code reads it. Assumes nothing.
use Rattle.std.specs.Prelude.{◌≡◌, ℕ, Bool, false, List, ◌∷◌, drop, T}
use Rattle.std.proofs.Math.Option.{none}
use Rattle.machine.specs.Message.{Rec, bit, id_of}
use Rattle.machine.specs.Filter.{any_slot}
use Rattle.iso.specs.Limits.{id_size}
use Rattle.iso.specs.Iso.{OpenIso, transmitting}
use Rattle.iso_launching.specs.Launch.{messages}

-- the bytes of written messages, one at least
pub record HeldIn (s : List ℕ) : Type 0 where
  pub flags : ℕ
  pub message : Rec
  pub rest : List Rec
  pub ok : T ((messages flags).ok (message ∷ rest))
  pub bytes : (messages flags).put (message ∷ rest) ≡ s

-- a message, by its width, its identifier and its payload
pub record Reads (m : Rec) (wide : Bool) (id : ℕ) (payload : List ℕ) : Type 0 where
  pub width : bit 0x100 m.tx ≡ wide
  pub identifier : id_of m.bytes ≡ id
  pub rest : drop id_size m.bytes ≡ payload

-- it is the oldest that the channel holds
pub record OldestIs (o : OpenIso) (wide : Bool) (id : ℕ) (payload : List ℕ) : Type 0 where
  pub message : Rec
  pub rest : List Rec
  pub is : o.written ≡ message ∷ rest
  pub reads : Reads message wide id payload

-- nothing is in flight, and no conversation transmits
pub record Calm (o : OpenIso) : Type 0 where
  pub rests : o.flight ≡ none
  pub quiet : any_slot (λ c. transmitting c.transfer) o.talks ≡ false
