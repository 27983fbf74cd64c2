-- A frame meets the connection of its line before the filters. Assumes nothing.
use mathlib.Core.Path.{◌≡◌, refl, sym, ap, ◌∙◌}
use Prim.Native.Nat.{ℕ}
use mathlib.Core.Bool.{Bool, true, false}
use mathlib.Core.List.{List}
use lib.ListN.{take, drop}
use lib.Dec.{T}
use borrow.Rule.Slice.PartMut.{put_mid}
use Rattle.codec.specs.Plain.{all, is_byte}
use Rattle.link.specs.Connection.{Connection, hears}
use Rattle.link_layout.specs.Sizes.{link_size}
use Rattle.link_layout.specs.Connection.{connection_part}
use Rattle.link_layout.proofs.Moves.{hears_held}
use Rattle.machine.specs.Channel.{Open, heard_by, with_link, offered}
use Rattle.layout.specs.Sizes.{link_at}
use Rattle.layout.specs.Memory.{region}
use Rattle.layout.specs.Promise.{Opened}
use Rattle.layout.proofs.Region.{open_of}
use Rattle.layout.proofs.Link.{turned_open, turned_is}

module _ (r : List ℕ) (f : Opened r) (clock : ℕ) (w : Bool) (id : ℕ) (b all_bytes : List ℕ) where
  -- a wide frame is none of the connection's
  pub wide_met : w ≡ true → {last : List ℕ} → last ≡ region.put (offered clock (open_of r) w all_bytes) → last ≡ region.put (offered clock (heard_by (open_of r) w id b) w all_bytes)
  unfolding heard_by with_link
  wide_met e q = q ∙ sym (ap (λ (x : Bool). region.put (offered clock (heard_by (open_of r) x id b) w all_bytes)) e)

  module _ (e : w ≡ false) (k : T (all is_byte b)) {zs : List ℕ} (h : zs ≡ connection_part.put (hears (connection_part.get (take link_size (drop link_at r))) id b)) where
    pub heard_open : Opened (put_mid link_at link_size r zs)
    heard_open = turned_open r f (λ c. hears c id b) (unfold hears in refl) (λ c t. hears_held c id b k t) h

    pub narrow_met : {last : List ℕ} → last ≡ region.put (offered clock (open_of (put_mid link_at link_size r zs)) w all_bytes) → last ≡ region.put (offered clock (heard_by (open_of r) w id b) w all_bytes)
    unfolding heard_by
    narrow_met q =
        q
        ∙ ap (λ (o : Open). region.put (offered clock o w all_bytes)) (turned_is r f (λ c. hears c id b) (unfold hears in refl) (λ c t. hears_held c id b k t) h)
        ∙ sym (ap (λ (x : Bool). region.put (offered clock (heard_by (open_of r) x id b) w all_bytes)) e)
