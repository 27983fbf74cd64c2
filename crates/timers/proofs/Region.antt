-- What an advance does to the bytes of a region is what the machine does to the channel. Assumes nothing.
use mathlib.Core.Path.{◌≡◌, refl, sym, ap, ◌∙◌, subst}
use Prim.Native.Nat.{ℕ, zero, suc, ◌-◌, ◌≤◌}
use native.Mathlib.Omega.{arith}
use mathlib.Core.Bool.{true, false, not}
use mathlib.Core.List.{List, map}
use lib.ListN.{length, get_or, take, drop}
use lib.Seq.{take-take, drop-drop}
use lib.Dec.{T, eqb}
use borrow.Author.Tests.{le-leb}
use borrow.Rule.Slice.PartMut.{put_mid, mid_of, put_same}
use Rattle.codec.specs.Plain.{all_zero}
use Rattle.codec.specs.Code.{via, slot, get_slot, valid_slot}
use Rattle.codec.proofs.Tests.{true_T}
use Rattle.codec.proofs.Lists.{all_take, all_drop}
use Rattle.machine.specs.Filter.{has}
use Rattle.machine.specs.Channel.{Chan, closed, later_slot, opened, Open, with_sending, with_link, on_advance}
use Rattle.machine.specs.Limits.{most_advance}
use Rattle.layout.specs.Sizes.{region_size, periodics_at, periodics_size, phases_in}
use Rattle.layout.specs.Memory.{periodics, open_part, chan_back, region}
use Rattle.layout.specs.Promise.{Opened}
use Rattle.layout.proofs.Memory.{region_lawful}
use Rattle.layout.proofs.Sizes.{region_size_law}
use Rattle.layout.proofs.Region.{is_open}
use Rattle.stores.proofs.Periodics.{part_of, lent, lent_back}
use Rattle.timers.specs.Timed.{periodics_on}
use Rattle.timers.proofs.Moves.{nothing_moves}
use Rattle.layout.proofs.Good.{good_ok}
use Rattle.layout.proofs.Link.{link_there, link_turned, turned_good, turned_open}
use Rattle.layout.specs.Sizes.{link_at}
use Rattle.link.specs.Connection.{passing}
use Rattle.link_layout.specs.Sizes.{link_size}
use Rattle.link_layout.specs.Connection.{connection_part}
use Rattle.link_layout.specs.Turned.{LinkPart}
use Rattle.link_layout.proofs.Moves.{passing_held}

module _ (r : List ℕ) (long : length r ≡ region_size) (v : T (region.valid r)) (us : ℕ) where
  -- a closed channel's region is zeros, so one that is not has an open channel
  marked : (T (all_zero (take phases_in (drop periodics_at r))) → ⊥) → get_or r 0 0 ≡ 1
  unfolding region via slot
  marked n = go (get_or r 0 0) v
    where
      go : (k : ℕ) → T (valid_slot open_part k (drop 1 r)) → k ≡ 1
      go zero t = absurd (n (all_take (eqb 0) phases_in (drop periodics_at r) (subst (λ (x : List ℕ). T (all_zero x)) (drop-drop (periodics_at - 1) 1 r) (all_drop (eqb 0) (periodics_at - 1) (drop 1 r) t))))
      go (suc zero) t = refl
      go (suc (suc k)) t = absurd t

  pub not_closed : all_zero (take phases_in (drop periodics_at r)) ≡ false → Opened r
  not_closed e = record { long = long; valid = v; mark = marked (λ t. subst T e t) }

  pub moved_on : (o : Opened r) (ys : List ℕ) → ((flags : ℕ) → ys ≡ (periodics flags).put (map (later_slot us) ((periodics flags).get (part_of r))))
      → put_mid periodics_at periodics_size r ys ≡ region.put (periodics_on us (region.get r))
  unfolding periodics_on
  moved_on o ys e = lent_back r o (map (later_slot us)) ys e ∙ sym (ap (λ (c : Chan). region.put (periodics_on us c)) (is_open r o))

  still_open : T (all_zero (take phases_in (drop periodics_at r))) → get_or r 0 0 ≡ 1 → r ≡ region.put (periodics_on us (region.get r))
  still_open t e =
      let o : Opened r = record { long = long; valid = v; mark = e } in
      sym (put_same periodics_at periodics_size r)
      ∙ moved_on o (mid_of periodics_at periodics_size r) (nothing_moves (part_of r) (lent r o) us (subst (λ (x : List ℕ). T (all_zero x)) (sym (take-take phases_in periodics_size (drop periodics_at r) (omega arith))) t))

  still_closed : get_or r 0 0 ≡ 0 → r ≡ region.put (periodics_on us (region.get r))
  unfolding region via slot periodics_on
  still_closed e =
      let c : region.get r ≡ closed = ap (λ (k : ℕ). chan_back (get_slot open_part k (drop 1 r))) e in
      sym (region_lawful.put_get r (long ∙ sym region_size_law) v) ∙ ap region.put (c ∙ sym (ap (periodics_on us) c))

  pub stays_as_it_is : all_zero (take phases_in (drop periodics_at r)) ≡ true → r ≡ region.put (periodics_on us (region.get r))
  unfolding region via slot
  stays_as_it_is e = go (get_or r 0 0) refl v
    where
      go : (k : ℕ) → get_or r 0 0 ≡ k → T (valid_slot open_part k (drop 1 r)) → r ≡ region.put (periodics_on us (region.get r))
      go zero z t = still_closed z
      go (suc zero) z t = still_open (true_T _ e) z
      go (suc (suc k)) z t = absurd t

  -- ---- the whole channel

  pub closed_stays : get_or r 0 0 ≡ 0 → r ≡ region.put (on_advance us (region.get r))
  unfolding region via slot on_advance
  closed_stays e =
      let c : region.get r ≡ closed = ap (λ (k : ℕ). chan_back (get_slot open_part k (drop 1 r))) e in
      sym (region_lawful.put_get r (long ∙ sym region_size_law) v) ∙ ap region.put (c ∙ sym (ap (on_advance us) c))

  pub open_here : (get_or r 0 0 ≡ 0 → ⊥) → Opened r
  unfolding region via slot
  open_here n = record { long = long; valid = v; mark = go (get_or r 0 0) n v }
    where
      go : (k : ℕ) → (k ≡ 0 → ⊥) → T (valid_slot open_part k (drop 1 r)) → k ≡ 1
      go zero m t = absurd (m refl)
      go (suc zero) m t = refl
      go (suc (suc k)) m t = absurd t

  -- the connection first, then the periodics
  module _ (o : Opened r) {zs : List ℕ} (e : zs ≡ connection_part.put (passing us (connection_part.get (take link_size (drop link_at r))))) where
    pub both_moved : (u : us ≤ most_advance) {last : List ℕ} → last ≡ region.put (periodics_on us (region.get (put_mid link_at link_size r zs))) → last ≡ region.put (on_advance us (region.get r))
    unfolding on_advance periodics_on with_link
    both_moved u q =
        let t = turned_good r o (passing us) (unfold passing in refl) (passing_held us) e in
        q
        ∙ ap (λ (c : Chan). region.put (periodics_on us c))
        (ap region.get (link_turned r o (passing us) (unfold passing in refl) (passing_held us) e) ∙ region_lawful.get_put _ (good_ok _ t))
        ∙ sym (ap (λ (c : Chan). region.put (on_advance us c)) (is_open r o) ∙ rw (le-leb us most_advance u))
