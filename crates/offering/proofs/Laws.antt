-- A connection asked for its telegram, on its bytes and in the region of an open channel. Assumes nothing.
use mathlib.Core.Path.{◌≡◌, refl, sym, ap, ◌∙◌, subst}
use Prim.Native.Nat.{ℕ, ◌≤◌, ◌<◌, ◌-◌}
use native.Mathlib.Omega.{arith}
use mathlib.Core.Bool.{Bool, true, false, not}
use mathlib.Core.Option.{Option, none, some}
use mathlib.Core.List.{List, ◌++◌}
use lib.ListN.{length, take, drop, length-append}
use lib.Seq.{take_at, length-take-le}
use lib.Dec.{T}
use borrow.Rule.Slice.PartMut.{put_mid}
use Rattle.codec.specs.Plain.{zeros}
use Rattle.codec.specs.Code.{such}
use Rattle.link.specs.Connection.{Connection, Offer, offer}
use Rattle.link_layout.specs.Sizes.{link_size}
use Rattle.link_layout.specs.Connection.{connection_part}
use Rattle.link_layout.specs.Turned.{LinkPart, is_there}
use Rattle.link_layout.proofs.Talking.{Held}
use Rattle.link_layout.proofs.Moves.{May, offer_held}
use Rattle.link_layout.proofs.Places.{fine}
use Rattle.link_telegrams.specs.declared.Given.{Given as GivenBytes}
use Rattle.link_telegrams.specs.Given.{Gave, given_of, given, nothing_given, taken_from}
use Rattle.machine.specs.Message.{id_bytes, received}
use Rattle.machine.specs.Limits.{most_places, most_bytes, record_size}
use Rattle.machine.specs.Channel.{Open, opened, with_link, telegram, may_go}
use Rattle.layout.specs.Sizes.{link_at}
use Rattle.layout.specs.Record.{rec36, out_cell}
use Rattle.layout.specs.Memory.{region}
use Rattle.layout.specs.Promise.{Opened}
use Rattle.layout.proofs.Memory.{shown_is, out_lawful}
use Rattle.layout.proofs.Sizes.{out_size_law}
use Rattle.layout.proofs.Calls.{telegram_ok}
use Rattle.layout.proofs.Held.{periodics_rows}
use Rattle.machine.proofs.Tables.{by_test}
use Rattle.layout.proofs.Good.{Fine, fl, Good, good_ok, put_link}
use Rattle.layout.proofs.Region.{open_of, kept, opened_again, open_again}
use Rattle.layout.proofs.Link.{link_make, narrow_takes, MayGo, link_offers, link_bytes, link_turned}
use Rattle.stores.proofs.Flight.{good}
use Rattle.pending.specs.Pending.{first_pending}
use Rattle.pending.proofs.Any.{any_pending, any_pending_law, none_pending}
use Rattle.offering.specs.Offering.{shown_or, without, Given, Offered}

-- ---- on the bytes of the connection

-- what is given, by what is offered
given_short : (x : Option Offer) → May x → (given_of x).len ≤ most_bytes
unfolding given_of given nothing_given
given_short none m = omega arith
given_short (some x) m = m.short

given_within : (x : Option Offer) → (given_of x).len ≤ length (given_of x).bytes
unfolding given_of given nothing_given
given_within none = omega arith
given_within (some x) = omega (arith, length-append x.bytes (zeros (8 - length x.bytes)))

given_none : (x : Option Offer) (m : List ℕ) → not (given_of x).there ≡ true → (false ≡ is_there x) × (m ≡ shown_or x m)
unfolding given_of given is_there shown_or
given_none none m e = (refl, refl)
given_none (some x) m e = absurd (subst T (sym e) tt)

given_some : (x : Option Offer) (m : List ℕ) → not (given_of x).there ≡ false → (true ≡ is_there x) × (rec36.put (received 0 0 (id_bytes (given_of x).id ++ take (given_of x).len (given_of x).bytes)) ≡ shown_or x m)
unfolding given_of given nothing_given is_there shown_or telegram received
given_some none m e = absurd (subst T e tt)
given_some (some x) m e =
    (refl, ap (λ (b : List ℕ). rec36.put (received 0 0 (id_bytes x.id ++ b))) (take_at x.bytes (zeros (8 - length x.bytes)) (length x.bytes) refl) ∙ sym (shown_is (telegram x)))

module _ {p p' : List ℕ} (l : LinkPart p) {g : GivenBytes} (e : Gave p g p') where
  abbrev x : Option Offer
  x = offer (connection_part.get p)

  given_fits : g.len ≤ most_bytes
  given_fits = subst (λ (y : GivenBytes). y.len ≤ most_bytes) (sym e.gives) (given_short x (offer_held (connection_part.get p) (fine p l)))

  pub given_there : g.len ≤ length g.bytes
  given_there = subst (λ (y : GivenBytes). y.len ≤ length y.bytes) (sym e.gives) (given_within x)

  pub given_part : length (take (g.len - 0) g.bytes) ≤ most_bytes
  given_part = omega (arith, given_fits, length-take-le (g.len - 0) g.bytes (omega (arith, given_there)))

  pub gave_none : not g.there ≡ true → (m : List ℕ) → Given p m false p' m
  gave_none n m =
      let k = given_none x m (sym (ap (λ (y : GivenBytes). not y.there) e.gives) ∙ n) in
      record { is = k.0; leaves = e.leaves; shows = k.1 }

  pub gave_some : not g.there ≡ false → (m : List ℕ) {m' : List ℕ} → m' ≡ rec36.put (received 0 0 (id_bytes g.id ++ take (g.len - 0) g.bytes)) → Given p m true p' m'
  gave_some n m s =
      let k = given_some x m (sym (ap (λ (y : GivenBytes). not y.there) e.gives) ∙ n) in
      let whole : g.len - 0 ≡ g.len = omega arith in
      record { is = k.0; leaves = e.leaves; shows = s ∙ ap (λ (n : ℕ). rec36.put (received 0 0 (id_bytes g.id ++ take n g.bytes))) whole ∙ ap (λ (y : GivenBytes). rec36.put (received 0 0 (id_bytes y.id ++ take y.len y.bytes))) e.gives ∙ k.1 }

-- ---- in the region of an open channel

abbrev moved : Connection → Connection
moved c = taken_from c (offer c)

moved_held : (c : Connection) → Held c → Held (moved c)
unfolding taken_from
moved_held c t = by (offer c) (offer_held c t)
  where
    by : (y : Option Offer) → May y → Held (taken_from c y)
    by none m = t
    by (some y) m = m.then_held

with_taken : (o : Open) (y : Option Offer) → with_link o (taken_from o.link y) ≡ without o y
unfolding with_link taken_from without
with_taken o none = refl
with_taken o (some y) = refl

module _ {r : List ℕ} (f : Opened r) where
  abbrev o : Open
  o = open_of r

  ten : length o.sending.periodics ≡ most_places
  ten = (periodics_rows (fl o)).count o.sending.periodics (good f).periodics_ok

  module _ {i : ℕ} (first : i ≡ first_pending o.sending.periodics) where
    pub may_not : i < most_places → may_go o ≡ none
    unfolding may_go
    may_not h = rw (any_pending_law o.sending.periodics ten first h) refl

    may_go_law : most_places ≤ i → may_go o ≡ offer o.link
    unfolding may_go
    may_go_law h = rw (none_pending o.sending.periodics ten first h) refl

    pub one_pending : i < most_places → (m : List ℕ) → Offered r m false r m
    unfolding is_there without shown_or
    one_pending h m =
        let e = may_not h in
        record {
          is = sym (ap is_there e);
          leaves = sym (kept r f) ∙ ap (λ (y : Option Offer). region.put (opened (without o y))) (sym e);
          shows = ap (λ (y : Option Offer). shown_or y m) (sym e);
        }

    pub asked : most_places ≤ i → {m m' p' : List ℕ} {there : Bool} → Given (take link_size (drop link_at r)) m there p' m' → Offered r m there (put_mid link_at link_size r p') m'
    asked h {m} {p' = p'} g =
        let c = (link_bytes r f).got in
        let e : offer (connection_part.get (take link_size (drop link_at r))) ≡ may_go o = ap offer c ∙ sym (may_go_law h) in
        record {
          is = g.is ∙ ap is_there e;
          leaves =
              link_turned r f moved (unfold offer taken_from in refl) moved_held g.leaves ∙ ap (λ (q : Open). region.put (opened q)) (with_taken o (offer o.link))
              ∙ ap (λ (y : Option Offer). region.put (opened (without o y))) (sym (may_go_law h));
          shows = g.shows ∙ ap (λ (y : Option Offer). shown_or y m) e;
        }

  -- ---- what is left: a channel that differs in its connection alone

  may_ok : MayGo (fl o) (may_go o)
  unfolding may_go
  may_ok = by_test (MayGo (fl o)) (any_pending o.sending.periodics) none (offer o.link) (λ t. tt) (link_offers (fl o) o.link (good f).link_ok)

  without_good : (y : Option Offer) → MayGo (fl o) y → Good (without o y)
  unfolding without
  without_good none m = good f
  without_good (some y) m = put_link o (good f) y.then' (link_make (fl o) y.then' m.0.then_held (narrow_takes (fl o) y.then' m.1))

  same_sending : (y : Option Offer) → (without o y).sending ≡ o.sending
  unfolding without with_link
  same_sending none = refl
  same_sending (some y) = refl

  shown_long : (y : Option Offer) → MayGo (fl o) y → (m : List ℕ) → length m ≡ record_size → length (shown_or y m) ≡ record_size
  unfolding shown_or out_cell such
  shown_long none g m l = l
  shown_long (some y) g m l = ap length (shown_is (telegram y)) ∙ (out_lawful (fl o)).long (telegram y) (telegram_ok (fl o) y g.0 g.1) ∙ out_size_law (fl o)

  pub left_fine : Fine (opened (without o (may_go o)))
  left_fine = good_ok _ (without_good (may_go o) may_ok)

  module _ {m r' m' : List ℕ} {there : Bool} (a : Offered r m there r' m') where
    pub left_open : Opened r'
    left_open = subst Opened (sym a.leaves) (opened_again _ left_fine)

    pub left_is : open_of r' ≡ without o (may_go o)
    left_is = ap open_of a.leaves ∙ open_again _ left_fine

    pub left_sending : (open_of r').sending ≡ o.sending
    left_sending = ap (λ (q : Open). q.sending) left_is ∙ same_sending (may_go o)

    pub left_long : length m ≡ record_size → length m' ≡ record_size
    left_long l = ap length a.shows ∙ shown_long (may_go o) may_ok m l
