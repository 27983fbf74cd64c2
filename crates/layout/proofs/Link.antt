-- The connection's part of a region: what it is for a channel of these flags to hold a connection; moves of a connection that keep it; and the
-- part's bytes, told from those of the connection alone by the state, its first byte. Assumes nothing.
use mathlib.Core.Path.{◌≡◌, refl, sym, ap, ◌∙◌, subst}
use Prim.Native.Nat.{ℕ, ◌+◌}
use mathlib.Core.Logic.{◌⊎◌, inl, inr}
use mathlib.Core.Bool.{Bool, true, false, not, ◌&&◌, ◌||◌}
use mathlib.Core.Option.{Option, none, some}
use mathlib.Core.List.{List}
use lib.ListN.{length, get_or, take, drop}
use lib.Dec.{T, eqb}
use borrow.Rule.Slice.PartMut.{put_mid}
use Rattle.codec.specs.Plain.{zeros}
use Rattle.codec.specs.Code.{such}
use Rattle.codec.proofs.Tests.{left, right, join, or_right, true_T}
use Rattle.codec.proofs.Place.{Place, inside, in_such}
use Rattle.codec.proofs.Part.{part as part_of}
use Rattle.link.specs.Connection.{Connection, absent, opening, connecting, standing, leaving, Offer, offer, state_of}
use Rattle.link_layout.specs.Connection.{connection_part}
use Rattle.link_layout.specs.Sizes.{link_size}
use Rattle.link_layout.specs.Turned.{LinkPart}
use Rattle.link_layout.proofs.Lawful.{connection_lawful}
use Rattle.link_layout.proofs.Bytes.{absent_bytes, state_byte}
use Rattle.link_layout.proofs.Talking.{Held, absent_held}
use Rattle.link_layout.proofs.Moves.{Offered, May, offer_held}
use Rattle.machine.specs.Message.{takes}
use Rattle.machine.specs.Channel.{Open, opened, listens, with_link}
use Rattle.layout.specs.Memory.{links_on, link_takes, link_part, region}
use Rattle.layout.specs.Promise.{Opened}
use Rattle.layout.specs.Sizes.{link_at}
use Rattle.layout.proofs.Sizes.{connection_size}
use Rattle.layout.proofs.Places.{fl, link_place, good}
use Rattle.layout.proofs.Good.{Good, good_ok, put_link}
use Rattle.layout.proofs.Region.{Part, open_of, kept, fine, opened_again, open_again}

-- ---- what can be held

module _ (flags : ℕ) where
  -- a connection within its limits, on a channel that may have it
  pub link_make : (c : Connection) → Held c → T (link_takes flags c) → T ((link_part flags).ok c)
  unfolding link_part such
  link_make c t u = join (connection_part.ok c) (link_takes flags c) t u

  pub link_held : (c : Connection) → T ((link_part flags).ok c) → Held c
  unfolding link_part such
  link_held c t = left (connection_part.ok c) (link_takes flags c) t

  pub link_taken : (c : Connection) → T ((link_part flags).ok c) → T (link_takes flags c)
  unfolding link_part such
  link_taken c t = right (connection_part.ok c) (link_takes flags c) t

  -- it is absent, or the channel takes narrow frames and is no listener
  pub absent_or_narrow : (c : Connection) → T (link_takes flags c) → (c ≡ absent) ⊎ T (links_on flags)
  unfolding link_takes state_of
  absent_or_narrow absent t = inl refl
  absent_or_narrow (opening a n s) t = inr t
  absent_or_narrow (connecting a tx n s) t = inr t
  absent_or_narrow (standing a tx l) t = inr t
  absent_or_narrow (leaving tx e) t = inr t

  pub narrow_of : T (links_on flags) → T (takes flags false)
  unfolding links_on
  narrow_of t = left (takes flags false) (not (listens flags)) t

  pub speaks_of : T (links_on flags) → T (not (listens flags))
  unfolding links_on
  speaks_of t = right (takes flags false) (not (listens flags)) t

  pub links_on_law : T (takes flags false) → T (not (listens flags)) → T (links_on flags)
  unfolding links_on
  links_on_law n s = join (takes flags false) (not (listens flags)) n s

  -- any connection on such a channel; none on any
  pub narrow_takes : (c : Connection) → T (links_on flags) → T (link_takes flags c)
  unfolding link_takes
  narrow_takes c t = or_right (eqb (state_of c) 0) (links_on flags) t

  pub absent_link : T ((link_part flags).ok absent)
  absent_link = link_make absent absent_held (unfold link_takes state_of in tt)

  -- a move that makes no connection of none
  pub link_moved : (f : Connection → Connection) → f absent ≡ absent → ((c : Connection) → Held c → Held (f c)) → (c : Connection) → T ((link_part flags).ok c) → T ((link_part flags).ok (f c))
  link_moved f e keeps c t = by (absent_or_narrow c (link_taken c t))
    where
      by : (c ≡ absent) ⊎ T (links_on flags) → T ((link_part flags).ok (f c))
      by (inl z) = subst (λ (d : Connection). T ((link_part flags).ok d)) (sym (ap f z ∙ e)) absent_link
      by (inr w) = link_make (f c) (keeps c (link_held c t)) (narrow_takes (f c) w)

  -- what it offers is narrow, and so is the channel, which is no listener
  abbrev pub MayGo : Option Offer → Type 0
  MayGo none = Unit {0}
  MayGo (some x) = Offered x × T (links_on flags)

  pub link_offers : (c : Connection) → T ((link_part flags).ok c) → MayGo (offer c)
  link_offers c t = by (absent_or_narrow c (link_taken c t))
    where
      both : (x : Option Offer) → May x → T (links_on flags) → MayGo x
      both none m w = tt
      both (some x) m w = (m, w)

      by : (c ≡ absent) ⊎ T (links_on flags) → MayGo (offer c)
      by (inl z) = subst (λ (d : Connection). MayGo (offer d)) (sym z) (unfold offer in tt)
      by (inr w) = both (offer c) (offer_held c (link_held c t)) w

-- ---- the bytes

-- no connection is zeros
pub absent_zeros : connection_part.put absent ≡ zeros link_size
absent_zeros = absent_bytes

-- the state is the first byte
pub state_at : (m : List ℕ) → LinkPart m → state_of (connection_part.get m) ≡ get_or m 0 0
state_at m p =
    sym (state_byte (connection_part.get m)) ∙ ap (λ (x : List ℕ). get_or x 0 0) (connection_lawful.put_get m (p.long ∙ sym connection_size) p.valid)

-- the part is valid where the connection's bytes are, and its state is 0 or the channel may have a connection
pub link_valid : (flags : ℕ) (m : List ℕ) → length m ≡ link_size → (link_part flags).valid m ≡ (connection_part.valid m && (eqb (get_or m 0 0) 0 || links_on flags))
unfolding link_part such link_takes
link_valid flags m l = by (connection_part.valid m) refl
  where
    by : (b : Bool) → connection_part.valid m ≡ b → (b && (eqb (state_of (connection_part.get m)) 0 || links_on flags)) ≡ (b && (eqb (get_or m 0 0) 0 || links_on flags))
    by false e = refl
    by true e = ap (λ (k : ℕ). eqb k 0 || links_on flags) (state_at m (record { long = l; valid = true_T (connection_part.valid m) e }))

-- ---- in the region of an open channel
module _ (r : List ℕ) (f : Opened r) where
  -- the connection's bytes, lent as a slice: they hold its connection, and with another one's there the region is that of the channel with it
  pub link_bytes : Part r connection_part link_at link_size (open_of r).link (λ c. opened (with_link (open_of r) c))
  unfolding link_part
  link_bytes =
      let o : Open = open_of r in
      let p : Place region connection_part (opened o) (link_at + 0) o.link (λ c. opened (with_link o c)) = inside (link_place o (fine r f)) (in_such (link_takes (fl o)) connection_part o.link) in
      part_of r (kept r f) link_size connection_size p connection_lawful
      (link_held (fl (open_of r)) (open_of r).link (good (open_of r) (fine r f)).link_ok)

  pub link_there : LinkPart (take link_size (drop link_at r))
  link_there = record { long = link_bytes.long; valid = link_bytes.valid }

  -- its connection is absent, or it may have one
  pub link_narrow : ((open_of r).link ≡ absent) ⊎ T (links_on (fl (open_of r)))
  link_narrow = absent_or_narrow (fl (open_of r)) (open_of r).link (link_taken (fl (open_of r)) (open_of r).link (good (open_of r) (fine r f)).link_ok)

  -- a move of the connection on its bytes: the region is that of the channel with the connection moved, and is that of an open channel again
  module _ (move : Connection → Connection) (none_stays : move absent ≡ absent) (keeps : (c : Connection) → Held c → Held (move c)) {zs : List ℕ}
      (e : zs ≡ connection_part.put (move (connection_part.get (take link_size (drop link_at r))))) where
    abbrev pub turned : Open
    turned = with_link (open_of r) (move (open_of r).link)

    pub link_turned : put_mid link_at link_size r zs ≡ region.put (opened turned)
    link_turned = link_bytes.becomes zs (move (open_of r).link) (e ∙ ap (λ (c : Connection). connection_part.put (move c)) link_bytes.got)

    pub turned_good : Good turned
    turned_good =
        let g = good (open_of r) (fine r f) in
        put_link (open_of r) g (move (open_of r).link) (link_moved (fl (open_of r)) move none_stays keeps (open_of r).link g.link_ok)

    pub turned_open : Opened (put_mid link_at link_size r zs)
    turned_open = subst Opened (sym link_turned) (opened_again turned (good_ok turned turned_good))

    pub turned_is : open_of (put_mid link_at link_size r zs) ≡ turned
    turned_is = ap open_of link_turned ∙ open_again turned (good_ok turned turned_good)
