-- The choice, step by step, on the region of an open channel. Assumes nothing.
use Rattle.std.specs.Prelude.{if◌then◌else◌}
use mathlib.Core.Path.{◌≡◌, refl, sym, ap, ap₂, ◌∙◌, subst}
use Prim.Native.Nat.{ℕ, zero, suc, ◌+◌, ◌*◌, ◌<◌}
use native.Mathlib.Omega.{arith}
use mathlib.Core.Bool.{Bool, true, false, ◌||◌}
use mathlib.Core.Option.{Option, none, some}
use mathlib.Core.List.{List, [], ◌∷◌}
use lib.ListN.{get_or}
use lib.Dec.{ltb}
use Rattle.codec.specs.Plain.{zeros}
use Rattle.codec.specs.Word.{word}
use Rattle.codec.specs.Code.{byte, word32, both, via, such, mark, slot}
use Rattle.codec.proofs.Part.{byte_of}
use Rattle.machine.specs.Filter.{Slots, any_slot}
use Rattle.iso.specs.Limits.{most_talks}
use Rattle.iso.specs.Iso.{Stage, opens, awaits, flies, sends, Transfer, idle, refuses, receives, transmits, Talk, OpenIso, ready, Chosen, transmitting, lowest, starting, or_else, choice}
use Rattle.iso_layout.specs.Sizes.{talk_size, talks_at, transfer_in}
use Rattle.iso_layout.specs.Region.{stage_parts, transfer_parts, transfer_plain, transfer_code, talk_cell, transmits_in, iso_region}
use Rattle.iso_layout.specs.Promise.{IsoOpened}
use Rattle.iso_layout.proofs.Good.{fli, GoodIso}
use Rattle.iso_layout.proofs.Region.{ready_of, good, lies, talk_part}
use Rattle.iso_giving.specs.Giving.{channel_in, chose, taking, Chose, answers, segments}
use Rattle.iso_giving.proofs.Rules.{or_first, or_second, unmoved}
use Rattle.iso_sending.specs.Starting.{Calm}

-- ---- a conversation that transmits, by the kind of its transfer

zero_at : (n i : ℕ) → get_or (zeros n) i 0 ≡ 0
zero_at zero i = refl
zero_at (suc n) zero = refl
zero_at (suc n) (suc i) = zero_at n i

stage_sends : (p : List ℕ) (n : ℕ) (s : Stage) → ltb 2 (stage_parts p n s).0 ≡ true
stage_sends p n opens = refl
stage_sends p n (awaits run) = refl
stage_sends p n (flies l g) = refl
stage_sends p n (sends l g w) = refl

kind_sends : (x : Transfer) → ltb 2 (transfer_parts x).0 ≡ transmitting x
unfolding transmitting
kind_sends idle = refl
kind_sends refuses = refl
kind_sends (receives r) = refl
kind_sends (transmits t) = stage_sends t.payload t.taken t.stage

kind_there : (flags : ℕ) (c : Talk) → get_or ((slot (talk_cell flags)).put (some c)) transfer_in 0 ≡ (transfer_parts c.transfer).0
unfolding slot talk_cell transfer_code transfer_plain such via both mark byte word32 word
kind_there flags c = refl

none_there : (flags : ℕ) → get_or ((slot (talk_cell flags)).put none) transfer_in 0 ≡ 0
unfolding slot
none_there flags = zero_at (talk_cell flags).size 9

place_sends : (flags : ℕ) (x : Option Talk) → ltb 2 (get_or ((slot (talk_cell flags)).put x) transfer_in 0) ≡ transmits_in x
unfolding transmits_in
place_sends flags none = ap (ltb 2) (none_there flags)
place_sends flags (some c) = ap (ltb 2) (kind_there flags c) ∙ kind_sends c.transfer

or_false : (b : Bool) → b ≡ (b || false)
or_false true = refl
or_false false = refl

any_two : (a b : Option Talk) → (transmits_in a || transmits_in b) ≡ any_slot (λ c. transmitting c.transfer) (a ∷ b ∷ [])
unfolding transmits_in any_slot
any_two none none = refl
any_two none (some d) = or_false (transmitting d.transfer)
any_two (some c) none = refl
any_two (some c) (some d) = ap (λ (b : Bool). transmitting c.transfer || b) (or_false (transmitting d.transfer))

-- another name for what was chosen, and for whether it was
named : (r u : List ℕ) (x y : Option Chosen) → x ≡ y → (b c : Bool) → b ≡ c → Chose x b r u → Chose y c r u
named r u x y e b c q p = (sym q ∙ p.0 ∙ ap chose e, p.1 ∙ ap (λ (z : Option Chosen). iso_region.put (ready (taking (channel_in r) z))) e)

module _ (r : List ℕ) (f : IsoOpened r) where
  abbrev o : OpenIso
  o = ready_of r

  abbrev any : Slots Talk → Bool
  any ts = any_slot (λ c. transmitting c.transfer) ts

  kind_at : (k : ℕ) → k < most_talks → ltb 2 (get_or r (talks_at + k * talk_size + transfer_in) 0) ≡ transmits_in (get_or o.talks k none)
  kind_at k h = ap (ltb 2) (byte_of (talk_part o r (lies r f) k h) transfer_in (omega arith)) ∙ place_sends (fli o) (get_or o.talks k none)

  pub some_transmits : (ltb 2 (get_or r (talks_at + transfer_in) 0) || ltb 2 (get_or r (talks_at + talk_size + transfer_in) 0)) ≡ any_slot (λ c. transmitting c.transfer) (channel_in r).talks
  some_transmits =
      let g : GoodIso o = good r f in
      ap₂ (λ (a b : Bool). a || b) (kind_at 0 (omega arith)) (kind_at 1 (omega arith))
      ∙ ap (λ (ts : Slots Talk). transmits_in (get_or ts 0 none) || transmits_in (get_or ts 1 none)) g.talks_are ∙ any_two g.one g.two ∙ ap any (sym g.talks_are)

  abbrev flow : Option Chosen
  flow = lowest answers 0 o.talks o.written

  abbrev others : Bool → Option Chosen
  others b = if b then lowest segments 0 o.talks o.written else starting o.written o.talks

  choice_is : choice o.talks o.written ≡ or_else flow (others (any o.talks))
  unfolding choice
  choice_is = refl

  pub by_answer : (b : Bool) (u : List ℕ) → b ≡ true → Chose (lowest answers 0 (channel_in r).talks (channel_in r).written) b r u → Chose (choice (channel_in r).talks (channel_in r).written) true r u
  by_answer b u q p = named r u _ _ (sym (choice_is ∙ or_first flow (others (any o.talks)) (sym q ∙ p.0))) b true q p

  module _ (b : Bool) (u : List ℕ) (q : b ≡ false) (p : Chose (lowest answers 0 (channel_in r).talks (channel_in r).written) b r u) where
    same : u ≡ r
    same = unmoved r u f flow (named r u _ _ refl b false q p)

    pub still_open : IsoOpened u
    still_open = subst IsoOpened (sym same) f

    module _ (t : Bool) (et : t ≡ any_slot (λ c. transmitting c.transfer) (channel_in u).talks) where
      any_is : any o.talks ≡ t
      any_is = ap (λ (y : List ℕ). any (channel_in y).talks) (sym same) ∙ sym et

      choice_then : (v : Bool) → t ≡ v → choice o.talks o.written ≡ others v
      choice_then v e = choice_is ∙ or_second flow (others (any o.talks)) (sym q ∙ p.0) ∙ ap others (any_is ∙ e)

      pub by_segment : t ≡ true → (c : Bool) (w : List ℕ) → Chose (lowest segments 0 (channel_in u).talks (channel_in u).written) c u w → Chose (choice (channel_in r).talks (channel_in r).written) c r w
      by_segment e c w s = named r w _ _ (sym (choice_then true e)) c c refl (subst (λ (y : List ℕ). Chose (lowest segments 0 (channel_in y).talks (channel_in y).written) c y w) same s)

      pub by_message : t ≡ false → (c : Bool) (w : List ℕ) → Chose (starting (channel_in u).written (channel_in u).talks) c u w → Chose (choice (channel_in r).talks (channel_in r).written) c r w
      by_message e c w s = named r w _ _ (sym (choice_then false e)) c c refl (subst (λ (y : List ℕ). Chose (starting (channel_in y).written (channel_in y).talks) c y w) same s)

      pub calm : t ≡ false → (channel_in r).flight ≡ none → Calm (channel_in u)
      calm e n = record { rests = ap (λ (y : List ℕ). (channel_in y).flight) same ∙ n; quiet = sym et ∙ e }
