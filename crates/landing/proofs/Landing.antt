-- Sent: the region of an open channel when what was in flight has landed, and with loopback on comes back. Assumes nothing.
use Rattle.std.specs.Prelude.{if◌then◌else◌}
use mathlib.Core.Path.{◌≡◌, refl, sym, ap, ◌∙◌, subst}
use Prim.Native.Nat.{ℕ, ◌+◌}
use native.Mathlib.Nat.{suc-ne-zero}
use mathlib.Core.Bool.{Bool, true, false}
use mathlib.Core.Option.{none}
use mathlib.Core.List.{List, []}
use lib.ListN.{length, get_or, take, drop}
use lib.Dec.{T}
use borrow.Rule.Slice.PartMut.{put_mid}
use Rattle.codec.specs.Plain.{zeros}
use Rattle.codec.specs.Code.{such, mark_of}
use Rattle.codec.proofs.Lawful.{such_under}
use Rattle.codec.proofs.Many.{one_none}
use Rattle.machine.specs.Message.{Rec, received}
use Rattle.machine.specs.Channel.{opened, Open, with_sending, with_link, sent, landed, sending, on_sent, on_open, done_with, arrive}
use Rattle.machine.specs.Limits.{record_size}
use Rattle.layout.specs.Sizes.{flight_at, loopback_at, link_at, flight_size}
use Rattle.layout.specs.Record.{rec36, outgoing, out_cell}
use Rattle.layout.specs.Memory.{region}
use Rattle.layout.specs.Promise.{Opened, gives, call_outcome}
use Rattle.layout.proofs.Memory.{rec_lawful, out_lawful, region_lawful}
use Rattle.layout.proofs.Sizes.{out_size_law}
use Rattle.layout.proofs.Good.{Fine, fl, Good, ok_good, good_ok, put_sending, put_link}
use Rattle.layout.proofs.Region.{open_of, moves, stays, mark_of_law, loopback_part, flight_part, opened_again, open_again}
use Rattle.layout.proofs.Link.{link_there, link_turned, link_moved}
use Rattle.link.specs.Connection.{was_sent}
use Rattle.link_layout.specs.Sizes.{link_size}
use Rattle.link_layout.specs.Connection.{connection_part}
use Rattle.link_layout.specs.Turned.{LinkPart}
use Rattle.link_layout.proofs.Moves.{sent_held}
use Rattle.queue.specs.Queue.{arrived}
use Rattle.receiving.specs.Outgoing.{Outgoing}
use Rattle.stores.proofs.Flight.{none_put, good, none_flies, flies}

-- a mark that is not 0 is on
mark_off : (b : Bool) → mark_of b ≡ 0 → b ≡ false
mark_off true e = absurd (suc-ne-zero 0 e)
mark_off false e = refl

mark_on : (b : Bool) → (mark_of b ≡ 0 → ⊥) → b ≡ true
mark_on true n = refl
mark_on false n = absurd (n refl)

module _ {r : List ℕ} (f : Opened r) where
  abbrev o : Open
  o = open_of r

  pub sent_nothing : (rates : List ℕ) (t : ℕ) → get_or r flight_at 0 ≡ 0 → gives 0x07 0 [] r ≡ call_outcome rates t r sent
  unfolding on_open on_sent sending
  sent_nothing rates t z = stays r f rates t sent 0x07 0 [] (ap (sending t o) (none_flies f z))

  -- the channel with its flight empty, before the connection learns of it
  abbrev emptied : Open
  emptied =
      record {
        config = o.config;
        filters = o.filters;
        sending = record { periodics = o.sending.periodics; written = o.sending.written; flight = none };
        receiving = o.receiving;
        last = o.last;
        link = o.link;
      }

  emptied_fine : Fine (opened emptied)
  unfolding with_sending
  emptied_fine = put_sending o (good f) o.sending.periodics o.sending.written none (good f).periodics_ok (good f).written_ok (one_none (out_cell (fl o)))

  landed_fine : Fine (opened (landed o))
  unfolding landed with_link
  landed_fine =
      good_ok (landed o) (put_link emptied (ok_good emptied emptied_fine) (was_sent o.link) (link_moved (fl o) was_sent (unfold was_sent in refl) sent_held o.link (good f).link_ok))

  module _ {ys : List ℕ} (e : ys ≡ zeros (length (take flight_size (drop flight_at r)))) where
    emptied_is : put_mid flight_at flight_size r ys ≡ region.put (opened emptied)
    unfolding with_sending
    emptied_is = (flight_part r f).becomes _ none (e ∙ ap (λ (k : ℕ). zeros k) (flight_part r f).long ∙ sym (none_put (fl o)))

    pub emptied_open : Opened (put_mid flight_at flight_size r ys)
    emptied_open = subst Opened (sym emptied_is) (opened_again emptied emptied_fine)

    pub link_lent : LinkPart (take link_size (drop link_at (put_mid flight_at flight_size r ys)))
    link_lent = link_there (put_mid flight_at flight_size r ys) emptied_open

    -- and the connection told
    pub lands : {zs : List ℕ} → zs ≡ connection_part.put (was_sent (connection_part.get (take link_size (drop link_at (put_mid flight_at flight_size r ys)))))
        → put_mid link_at link_size (put_mid flight_at flight_size r ys) zs ≡ region.put (opened (landed o))
    unfolding landed with_link
    lands {zs} q =
        let m : List ℕ = put_mid flight_at flight_size r ys in
        link_turned m emptied_open was_sent (unfold was_sent in refl) sent_held q
        ∙ ap (λ (x : Open). region.put (opened (with_link x (was_sent x.link)))) (ap open_of emptied_is ∙ open_again emptied emptied_fine)

  -- what has landed
  module _ {after : List ℕ} (landed_is : after ≡ region.put (opened (landed o))) (n : get_or r flight_at 0 ≡ 0 → ⊥) where
    abbrev x : Rec
    x = (flies f n).one

    sends : (rates : List ℕ) (t : ℕ) (b : Bool) → o.config.loopback ≡ b → on_open rates t o sent ≡ done_with (if b then arrive (landed o) (received t (x.tx + 1) x.bytes) else opened (landed o)) 0
    unfolding on_open on_sent sending
    sends rates t b h = ap (sending t o) (flies f n).is ∙ ap (λ (l : Bool). done_with (if l then arrive (landed o) (received t (x.tx + 1) x.bytes) else opened (landed o)) 0) h

    pub sent_quietly : (rates : List ℕ) (t : ℕ) → get_or r loopback_at 0 ≡ 0 → gives 0 0 [] after ≡ call_outcome rates t r sent
    unfolding done_with
    sent_quietly rates t z = moves r f rates t sent (opened (landed o)) 0 0 [] _ (sends rates t false (mark_off o.config.loopback (sym (mark_of_law (loopback_part r f)) ∙ z))) landed_is

    -- and the record comes back
    pub landed_open : Opened after
    landed_open = subst Opened (sym landed_is) (opened_again (landed o) landed_fine)

    module _ {m : List ℕ} (c : m ≡ take record_size (drop (flight_at + 1) r)) where
      shows : m ≡ rec36.put x
      shows = c ∙ (flies f n).shows

      pub outgoing_lent : Outgoing m
      unfolding out_cell such
      outgoing_lent =
          let l = out_lawful (fl o) in
          record { flags = fl o; long = ap length shows ∙ l.long x (flies f n).held ∙ out_size_law (fl o); valid = subst (λ (s : List ℕ). T ((out_cell (fl o)).valid s)) (sym shows) (l.valid_put x (flies f n).held) }

      got : rec36.get m ≡ x
      unfolding out_cell
      got = ap rec36.get shows ∙ rec_lawful.get_put x (such_under rec36 (outgoing (fl o)) x (flies f n).held)

      pub sent_back : (rates : List ℕ) (t : ℕ) {last : List ℕ} → (get_or r loopback_at 0 ≡ 0 → ⊥)
          → last ≡ region.put (arrived (received t ((rec36.get m).tx + 1) (rec36.get m).bytes) (region.get after)) → gives 0 0 [] last ≡ call_outcome rates t r sent
      unfolding done_with arrived
      sent_back rates t {last} z a =
          let mid : region.get after ≡ opened (landed o) = ap region.get landed_is ∙ region_lawful.get_put (opened (landed o)) landed_fine in
          moves r f rates t sent _ 0 0 [] last (sends rates t true (mark_on o.config.loopback (λ h. z (mark_of_law (loopback_part r f) ∙ h))))
          (a ∙ (λ j. region.put (arrived (received t ((got j).tx + 1) (got j).bytes) (mid j))))
