-- Take: what the machine chooses, and the region of an open channel when it goes in flight. Assumes nothing.
use mathlib.Core.Path.{◌≡◌, refl, sym, ap, ◌∙◌, subst}
use Prim.Native.Nat.{ℕ, zero, suc, ◌≤◌, ◌<◌, ◌+◌}
use native.Mathlib.Nat.{suc-ne-zero}
use native.Mathlib.Omega.{arith}
use mathlib.Core.Bool.{Bool, true, false, ◌&&◌, not}
use mathlib.Core.Option.{Option, none, some}
use mathlib.Core.List.{List, [], ◌∷◌, ◌++◌}
use lib.ListN.{length, get_or, set, take, drop}
use lib.Seq.{take_at}
use lib.Dec.{T, eqb, leb, ltb, eqb→eq, leb→le}
use borrow.Author.Tests.{lt-ltb, le-ltb, le-leb, ltb-true, ltb-false}
use borrow.Rule.Slice.PartMut.{put_mid}
use Rattle.codec.proofs.Tests.{left, right, true_T}
use Rattle.machine.specs.Codes.{code_of}
use Rattle.machine.specs.Message.{Rec, shown}
use Rattle.machine.specs.Filter.{Slots}
use Rattle.machine.specs.Channel.{Chan, opened, Open, Sending, Periodic, Next, next, calm, with_sending, with_link, unless, shorter, take_next, giving, chosen, telegram, may_go, chosen_or, taking, on_take, on_open}
use Rattle.link.specs.Connection.{Offer}
use Rattle.link_layout.specs.Turned.{is_there}
use Rattle.machine.specs.Limits.{most_places, record_size}
use Rattle.layout.specs.Sizes.{flight_at, written_at, periodics_at, periodics_size, written_size, flight_size}
use Rattle.layout.specs.Memory.{periodics, region}
use Rattle.layout.specs.Promise.{Opened, gives, call_outcome}
use Rattle.layout.proofs.Memory.{shown_is}
use Rattle.layout.proofs.Held.{periodics_rows}
use Rattle.layout.proofs.Good.{Fine, fl, put_sending}
use Rattle.layout.proofs.Calls.{MayOk, NextOk, next_ok}
use Rattle.layout.proofs.Region.{open_of, is_open, kept, moves, stays, periodics_part, written_part}
use Rattle.stores.specs.Written.{written}
use Rattle.stores.proofs.Periodics.{lent_held}
use Rattle.stores.proofs.Written.{written_count, in_part}
use Rattle.stores.proofs.Flight.{good, none_flies, flies, put_in_flight}
use Rattle.pending.specs.Pending.{first_pending}
use Rattle.pending.proofs.Next.{waiting, next_pending, next_oldest}
use Rattle.pending.proofs.Next.{oldest as oldest_of}
use Rattle.pending.proofs.Marks.{changed_calm}
use Rattle.pending.proofs.Any.{none_pending}
use Rattle.offering.specs.Offering.{shown_or, without, Offered}
use Rattle.offering.proofs.Laws.{may_not, left_fine, left_open, left_is, left_sending, left_long}
use Rattle.choosing.specs.Choice.{next_shown, choice_shown, Choosing, freed}
use Rattle.choosing.proofs.Next.{several, of_telegram, of_others}

-- what goes in flight next, where it is no telegram, by the first pending place, and the channel without it
pub record Goes (o : Open) (i : ℕ) : Type 0 where
  pub one : Next
  pub is : next o.sending.periodics o.sending.written ≡ some one
  pub leaves : freed i false (opened o) ≡ with_sending o one.periodics one.written o.sending.flight

module _ (o : Open) (ten : length o.sending.periodics ≡ most_places) {i : ℕ} (first : i ≡ first_pending o.sending.periodics) where
  goes_pending : i < most_places → Goes o i
  unfolding freed
  goes_pending h =
      let ps : Slots Periodic = o.sending.periodics in
      let ws : List Rec = o.sending.written in
      let x = waiting ps ten i first h in
      record {
        one = record { chosen = x.one.message; periodics = set ps i (some (calm x.one)); written = ws };
        is = next_pending ps ten i first ws x.one x.there;
        leaves = rw (lt-ltb i most_places h) (ap (λ (p : Slots Periodic). with_sending o p ws o.sending.flight) (changed_calm ps i x.one x.there));
      }

  goes_oldest : most_places ≤ i → 0 < length o.sending.written → Goes o i
  unfolding freed
  goes_oldest h k =
      let ps : Slots Periodic = o.sending.periodics in
      let ws : List Rec = o.sending.written in
      let s = several ws k in
      record {
        one = record { chosen = s.oldest; periodics = ps; written = s.others };
        is = next_oldest ps ten i first ws h ∙ ap (oldest_of ps) s.are;
        leaves = rw (le-ltb i most_places h) (ap (λ (w : List Rec). with_sending o ps (drop 1 w) o.sending.flight) s.are);
      }

  pub goes : (most_places ≤ i → 0 < length o.sending.written) → Goes o i
  goes k = go (ltb i most_places) refl
    where
      go : (b : Bool) → ltb i most_places ≡ b → Goes o i
      go true e = goes_pending (ltb-true i most_places e)
      go false e = let h = ltb-false i most_places e in goes_oldest h (k h)

  goes_none : most_places ≤ i → length o.sending.written ≡ 0 → next o.sending.periodics o.sending.written ≡ none
  goes_none h e = next_oldest o.sending.periodics ten i first o.sending.written h ∙ go o.sending.written e
    where
      go : (ws : List Rec) → length ws ≡ 0 → oldest_of o.sending.periodics ws ≡ none
      go [] e = refl
      go (x ∷ ws) e = absurd (suc-ne-zero (length ws) e)

-- the test of the code: no periodic is pending, there is no telegram and nothing is written
pub nothing_left : (i n : ℕ) (there : Bool) → ((leb most_places i && not there) && eqb n 0) ≡ true → (most_places ≤ i) × (there ≡ false) × (n ≡ 0)
nothing_left i n there e =
    let t = true_T ((leb most_places i && not there) && eqb n 0) e in
    let u = left (leb most_places i && not there) (eqb n 0) t in
    (leb→le most_places i (left (leb most_places i) (not there) u), off there (right (leb most_places i) (not there) u), eqb→eq n 0 (right (leb most_places i && not there) (eqb n 0) t))
  where
    off : (c : Bool) → T (not c) → c ≡ false
    off true u = absurd u
    off false u = refl

pub something_left : (i n : ℕ) (there : Bool) → ((leb most_places i && not there) && eqb n 0) ≡ false → most_places ≤ i → there ≡ false → 0 < n
something_left i zero there e h n =
    let z : true ≡ false = sym (rw (le-leb most_places i h) (rw n refl)) ∙ e in
    absurd (subst T z tt)
something_left i (suc k) there e h n = omega arith

-- ---- what goes in flight, be it a telegram or not

-- the record that the choice shows; and the channel, with the bytes of its region, when that is in flight and no longer pending, given or held. o' is
-- the channel without the telegram t, where there is one
pub record Flown (o o' : Open) (i : ℕ) (there : Bool) (t : List ℕ) : Type 0 where
  pub one : Rec
  pub behind : Chan
  pub shows : choice_shown o.sending.periodics there t o.sending.written ≡ shown one
  pub put : {m ys : List ℕ} → m ≡ region.put (freed i there (opened o')) → ys ≡ 1 ∷ shown one → put_mid flight_at flight_size m ys ≡ region.put behind
  pub is : (b : List ℕ) → chosen_or o (may_go o) b ≡ (behind, giving one b)

none_there : (x : Option Offer) → is_there x ≡ false → x ≡ none
unfolding is_there
none_there none e = refl
none_there (some x) e = absurd (subst T e tt)

-- ---- the region of an open channel

module _ {r : List ℕ} (f : Opened r) where
  abbrev o : Open
  o = open_of r

  -- ---- take

  module _ (rates : List ℕ) (t : ℕ) (b : List ℕ) where
    pub take_short : length b < record_size → gives 0x04 0 b r ≡ call_outcome rates t r (take_next b)
    unfolding on_open on_take unless code_of shorter
    take_short h = stays r f rates t (take_next b) 0x04 0 b (rw (lt-ltb (length b) record_size h) refl)

    module _ (h : record_size ≤ length b) where
      takes : (x : Option Rec) → o.sending.flight ≡ x → on_open rates t o (take_next b) ≡ taking o x b
      unfolding on_open on_take unless code_of shorter
      takes x e = rw (le-ltb (length b) record_size h) (ap (λ (y : Option Rec). taking o y b) e)

      pub take_again : (get_or r flight_at 0 ≡ 0 → ⊥) → {ys : List ℕ} → ys ≡ take record_size (drop (flight_at + 1) r) → gives 0 0 (ys ++ drop record_size b) r ≡ call_outcome rates t r (take_next b)
      unfolding taking giving
      take_again n e =
          let x = flies f n in
          ap (λ (s : List ℕ). gives 0 0 (s ++ drop record_size b) r) (e ∙ x.shows ∙ sym (shown_is x.one))
          ∙ stays r f rates t (take_next b) 0 0 (shown x.one ++ drop record_size b) (takes (some x.one) x.is)

  module _ {i : ℕ} (first : i ≡ first_pending o.sending.periodics) where
    ten : length o.sending.periodics ≡ most_places
    ten = (periodics_rows (fl o)).count o.sending.periodics (good f).periodics_ok

    -- no telegram goes
    module _ (none-goes : may_go o ≡ none) (something : most_places ≤ i → 0 < length o.sending.written) where
      one_goes : Goes o i
      one_goes = goes o ten first something

      abbrev x : Next
      x = one_goes.one

      left_ok : NextOk (fl o) most_places x
      left_ok =
          subst (MayOk (fl o) most_places) one_goes.is
          (subst (λ (n : ℕ). MayOk (fl o) n (next o.sending.periodics o.sending.written)) ten
          (next_ok (fl o) o.sending.periodics o.sending.written ((periodics_rows (fl o)).each o.sending.periodics (good f).periodics_ok) (good f).written_ok))

      freed_fine : Fine (with_sending o x.periodics x.written o.sending.flight)
      freed_fine = put_sending o (good f) _ _ _ ((periodics_rows (fl o)).make x.periodics left_ok.count left_ok.each) left_ok.written_ok (good f).flight_ok

      other_flown : (m : List ℕ) → Flown o o i false m
      unfolding chosen_or chosen next_shown with_sending
      other_flown m =
          record {
            one = x.chosen;
            behind = with_sending o x.periodics x.written (some x.chosen);
            shows = of_others o.sending.periodics m o.sending.written refl ∙ ap next_shown one_goes.is;
            put = λ el ey. put_in_flight _ freed_fine x.chosen (el ∙ ap region.put one_goes.leaves) ey;
            is = λ b. ap (λ (y : Option Offer). chosen_or o y b) none-goes ∙ ap (λ (y : Option Next). chosen o y b) one_goes.is;
          }

    -- a telegram goes, so that no periodic is pending
    module _ (x : Offer) (goes-now : may_go o ≡ some x) where
      none_first : most_places ≤ i
      unfolding is_there
      none_first = by (ltb i most_places) refl
        where
          by : (b : Bool) → ltb i most_places ≡ b → most_places ≤ i
          by true e = let z : false ≡ true = ap is_there (sym (may_not f first (ltb-true i most_places e)) ∙ goes-now) in absurd (subst T (sym z) tt)
          by false e = ltb-false i most_places e

      telegram_flown : Flown o (with_link o x.then') i true (shown (telegram x))
      unfolding chosen_or freed with_link without
      telegram_flown =
          record {
            one = telegram x;
            behind = with_sending (with_link o x.then') o.sending.periodics o.sending.written (some (telegram x));
            shows = of_telegram o.sending.periodics (shown (telegram x)) o.sending.written (none_pending o.sending.periodics ten first none_first) refl;
            put =
                λ el ey.
                put_in_flight (with_link o x.then') (subst (λ (y : Option Offer). Fine (opened (without o y))) goes-now (left_fine f)) (telegram x)
                (el ∙ (rw (le-ltb i most_places none_first) refl)) ey;
            is = λ b. ap (λ (y : Option Offer). chosen_or o y b) goes-now;
          }

    flown : (m : List ℕ) (x : Option Offer) → may_go o ≡ x → (most_places ≤ i → is_there x ≡ false → 0 < length o.sending.written) → Flown o (without o x) i (is_there x) (shown_or x m)
    unfolding is_there shown_or without
    flown m none e something = other_flown e (λ h. something h refl) m
    flown m (some x) e something = telegram_flown x e

    -- ---- once the connection was asked

    module _ {m r' m' : List ℕ} {there : Bool} (a : Offered r m there r' m') where
      abbrev f' : Opened r'
      f' = left_open f a

      held_then : get_or r' written_at 0 ≡ length o.sending.written
      held_then = written_count f' ∙ ap (λ (s : Sending). length s.written) (left_sending f a)

      pub take_none : (rates : List ℕ) (t : ℕ) (b : List ℕ) → record_size ≤ length b → get_or r flight_at 0 ≡ 0 → (most_places ≤ i) × (there ≡ false) × (get_or r' written_at 0 ≡ 0) → gives 0x10 0 b r' ≡ call_outcome rates t r (take_next b)
      unfolding taking chosen_or chosen without
      take_none rates t b h z n =
          let e : may_go o ≡ none = none_there (may_go o) (sym a.is ∙ n.1) in
          let same : r' ≡ r = a.leaves ∙ ap (λ (y : Option Offer). region.put (opened (without o y))) e ∙ kept r f in
          ap (λ (s : List ℕ). gives 0x10 0 b s) same
          ∙ stays r f rates t (take_next b) 0x10 0 b
          (takes rates t b h none (none_flies f z) ∙ ap (λ (y : Option Offer). chosen_or o y b) e
          ∙ ap (λ (x : Option Next). chosen o x b) (goes_none o ten first n.0 (sym held_then ∙ n.2)))

      module _ (something : most_places ≤ i → there ≡ false → 0 < get_or r' written_at 0) where
        pub choosing : length m ≡ record_size → Choosing (take periodics_size (drop periodics_at r')) m' (take written_size (drop written_at r')) i there
        choosing l =
            record {
              part = record { flags = fl (open_of r'); long = (periodics_part r' f').long; valid = (periodics_part r' f').valid };
              one = left_long f a l;
              store = record { long = (written_part r' f').long; valid = (written_part r' f').valid };
              first = first ∙ sym (ap first_pending (lent_held r' f' ∙ ap (λ (s : Sending). s.periodics) (left_sending f a)));
              something = λ h n. omega (arith, in_part f', something h n);
            }

        goes_on : Flown o (without o (may_go o)) i there m'
        goes_on =
            subst (λ (c : Bool). Flown o (without o (may_go o)) i c m') (sym a.is)
            (subst (λ (s : List ℕ). Flown o (without o (may_go o)) i (is_there (may_go o)) s) (sym a.shows)
            (flown m (may_go o) refl (λ h n. omega (arith, held_then, something h (a.is ∙ n)))))

        -- c is the choice, zs its copy at the front of the buffer, `rest` the region without it, ys the flight store
        pub take_chosen : (rates : List ℕ) (t : ℕ) (b : List ℕ) {c zs rest ys : List ℕ} → record_size ≤ length b → get_or r flight_at 0 ≡ 0
            → ((k : ℕ) → c ≡ choice_shown ((periodics k).get (take periodics_size (drop periodics_at r'))) there m' ((written k).get (take written_size (drop written_at r')))) × (length c ≡ record_size) → zs ≡ c
            → rest ≡ region.put (freed i there (region.get r')) → ys ≡ 1 ∷ take record_size (zs ++ drop record_size b) → gives 0 0 (zs ++ drop record_size b) (put_mid flight_at flight_size rest ys) ≡ call_outcome rates t r (take_next b)
        unfolding taking giving
        take_chosen rates t b {zs = zs} {rest} {ys} h z em ez el ey =
            let g = goes_on in
            let shows : zs ≡ shown g.one =
            ez ∙ em.0 (fl (open_of r')) ∙ (λ j. choice_shown (lent_held r' f' j) there m' ((written_part r' f').got j))
            ∙ ap (λ (s : Sending). choice_shown s.periodics there m' s.written) (left_sending f a) ∙ g.shows in
            let flies : ys ≡ 1 ∷ shown g.one = ey ∙ ap {B = List ℕ} (λ (s : List ℕ). 1 ∷ s) (take_at zs (drop record_size b) record_size (ap length ez ∙ em.1) ∙ shows) in
            let left : rest ≡ region.put (freed i there (opened (without o (may_go o)))) = el ∙ ap (λ (c : Chan). region.put (freed i there c)) (is_open r' f' ∙ ap opened (left_is f a)) in
            ap (λ (s : List ℕ). gives 0 0 (s ++ drop record_size b) (put_mid flight_at flight_size rest ys)) shows
            ∙ moves r f rates t (take_next b) g.behind 0 0 (shown g.one ++ drop record_size b) (put_mid flight_at flight_size rest ys)
            (takes rates t b h none (none_flies f z) ∙ g.is b) (g.put left flies)

  -- the first pending place, as it is found
  pub first_is : {i : ℕ} → ((k : ℕ) → i ≡ first_pending ((periodics k).get (take periodics_size (drop periodics_at r)))) → i ≡ first_pending o.sending.periodics
  first_is first = first (fl o) ∙ ap first_pending (lent_held r f)
