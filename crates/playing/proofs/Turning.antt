-- What the reader's answer says of the event, and how one turn of a replay is said. Assumes nothing.
use Rattle.std.specs.Prelude.{Some, None}
use Prim.Native.Nat.{ℕ, ◌-◌}
use mathlib.Core.Path.{◌≡◌, refl, sym, ap, ◌∙◌, subst}
use mathlib.Core.Option.{Option, none, some}
use mathlib.Core.Bool.{Bool, true, false}
use mathlib.Core.List.{List}
use lib.Dec.{T}
use lib.ListN.{length, drop}
use Rattle.codec.specs.Plain.{all, is_byte}
use Rattle.codec.proofs.Lists.{all_take, all_drop}
use Rattle.machine.specs.Step as machine
use Rattle.layout.specs.Reach.{Bytes}
use Rattle.layout.proofs.Calls.{Known, three_known, two_known}
use Rattle.number.specs.Place.{Written}
use Rattle.edition.specs.Edition.{marked, rates_of, mark_at}
use Rattle.edition.proofs.Marked.{new_rates, old_rates}
use Rattle.events.specs.declared.Plain.{Plain}
use Rattle.events.specs.declared.Plain.TheVariants as plain
use Rattle.events.specs.declared.Giving.{Giving}
use Rattle.events.specs.declared.Giving.TheVariants as giving
use Rattle.events.specs.declared.Event.{Event}
use Rattle.events.specs.declared.Event.TheVariants as event
use Rattle.events.specs.Events.{read_event}
use Rattle.events.specs.Found.{between, plain_of, giving_of, event_of, found_of, EventThere, Found, FoundThere, ReadsEvent}
use Rattle.playing.specs.Step.{Answered, TurnedAs, TurnedBy, Turned}

-- the rates of either edition are out of the three
pub edition_known : (s : List ℕ) → Known (rates_of s)
edition_known s = by_mark (marked s) refl
  where
    by_mark : (b : Bool) → marked s ≡ b → Known (rates_of s)
    by_mark true e = subst Known (sym (new_rates s e)) two_known
    by_mark false e = subst Known (sym (old_rates s e)) three_known

-- ---- what an event lends is bytes where the recording is

module _ (s : List ℕ) (t : T (all is_byte s)) where
  part_bytes : (from end : ℕ) → T (all is_byte (between s from end))
  part_bytes from end = all_take is_byte (end - from) (drop from s) (all_drop is_byte from s t)

  plain_lends : (e : Plain) → Bytes (plain_of s e)
  plain_lends (plain.Disconnect c) = tt
  plain_lends plain.Close = tt
  plain_lends (plain.Advance µs) = tt
  plain_lends (plain.Frame l w i f e) = part_bytes f e
  plain_lends (plain.StopFilter c n) = tt
  plain_lends (plain.StopPeriodic c n) = tt
  plain_lends (plain.Sent c) = tt
  plain_lends (plain.Clear c k) = tt
  plain_lends (plain.Set c p v) = tt

  giving_lends : (e : Giving) → Bytes (giving_of s e)
  giving_lends (giving.Connect l p f r) = tt
  giving_lends (giving.StartFilter c k m p e) = (part_bytes m p, part_bytes p e)
  giving_lends (giving.StartFlow c k m p f e) = (part_bytes m p, (part_bytes p f, part_bytes f e))
  giving_lends (giving.StartPeriodic c f e i) = part_bytes f e
  giving_lends (giving.Get c p) = tt

  pub event_lends : (e : Event) → Bytes (event_of s e)
  event_lends (event.Code e) = plain_lends e
  event_lends (event.Number e) = giving_lends e
  event_lends (event.Write c n f e) = part_bytes f e
  event_lends (event.Read c n) = tt
  event_lends (event.Take c) = tt

-- ---- what the reader's answer says

module _ (s : List ℕ) (at : ℕ) (r : Found) (a : ReadsEvent s at r) where
  pub read_bad : r ≡ None → read_event s at ≡ none
  read_bad q = sym a.is ∙ ap (λ (x : Found). found_of s x) q

  module _ {e : Event} {next : ℕ} (q : r ≡ Some (e, next)) where
    pub read_good : read_event s at ≡ some (event_of s e, next)
    read_good = sym a.is ∙ ap (λ (x : Found). found_of s x) q

    pub good_there : EventThere s e
    good_there = subst (λ (x : Found). FoundThere s x) q a.there

-- ---- how a turn is said
module _ (rates s : List ℕ) (at : ℕ) (m : List ℕ) where
  pub turned_bad : {buffer buffer' : List ℕ} {place place' : ℕ} → read_event s at ≡ none → Written buffer place 255 place' buffer' → TurnedAs rates (read_event s at) s m buffer place (length s) place' m buffer'
  unfolding TurnedAs
  turned_bad {buffer} {buffer'} {place} {place'} q w = subst (λ (x : Option (machine.Event × ℕ)). TurnedAs rates x s m buffer place (length s) place' m buffer') (sym q) (refl, refl, w)

  pub turned_good : {e : machine.Event} {buffer m' buffer' : List ℕ} {place next place' : ℕ} → read_event s at ≡ some (e, next) → Bytes e → Answered rates e m buffer place place' m' buffer' → TurnedAs rates (read_event s at) s m buffer place next place' m' buffer'
  unfolding TurnedAs
  turned_good {e} {buffer} {m'} {buffer'} {place} {next} {place'} q b a = subst (λ (x : Option (machine.Event × ℕ)). TurnedAs rates x s m buffer place next place' m' buffer') (sym q) (refl, b, a)

  pub turned_mark : (buffer : List ℕ) (place : ℕ) → mark_at s at ≡ true → Turned rates s at m buffer place 2 place m buffer
  unfolding Turned TurnedBy
  turned_mark buffer place e =
      subst (λ (b : Bool). TurnedBy b rates s at m buffer place 2 place m buffer) (sym e) (record { behind = refl; here = refl; memory = refl; output = refl })

  pub turned_event : (buffer m' buffer' : List ℕ) (place next place' : ℕ) → mark_at s at ≡ false
      → TurnedAs rates (read_event s at) s m buffer place next place' m' buffer' → Turned rates s at m buffer place next place' m' buffer'
  unfolding Turned TurnedBy
  turned_event buffer m' buffer' place next place' e w = subst (λ (b : Bool). TurnedBy b rates s at m buffer place next place' m' buffer') (sym e) w

-- the same set of rates
pub with_rates : {rates rates' m buffer m' buffer' : List ℕ} {e : machine.Event} {at next : ℕ} → rates ≡ rates' → Answered rates' e m buffer at next m' buffer' → Answered rates e m buffer at next m' buffer'
with_rates {rates} {rates'} {m} {buffer} {m'} {buffer'} {e} {at} {next} same a = subst (λ (r : List ℕ). Answered r e m buffer at next m' buffer') (sym same) a
