-- The lowest-numbered conversation that has something to give, of the two in a region. Assumes nothing.
use mathlib.Core.Path.{◌≡◌, refl, sym, ap, ◌∙◌, subst}
use Prim.Native.Nat.{ℕ}
use mathlib.Core.Bool.{Bool, true, false}
use mathlib.Core.Option.{Option, none}
use mathlib.Core.List.{List}
use lib.ListN.{get_or}
use Rattle.machine.specs.Message.{Rec}
use Rattle.machine.specs.Filter.{Slots}
use Rattle.iso.specs.Iso.{Talk, OpenIso, ready, Chosen, lowest, or_else}
use Rattle.iso_layout.specs.Region.{iso_region}
use Rattle.iso_layout.specs.Promise.{IsoOpened}
use Rattle.iso_layout.proofs.Good.{GoodIso}
use Rattle.iso_layout.proofs.Region.{ready_of, good}
use Rattle.iso_giving.specs.Giving.{channel_in, chose, taking, Chose, Rule, given_in, given_at, Segmented, Startable}
use Rattle.iso_giving.proofs.Rules.{or_first, or_second, unmoved, lowest_two}

-- another name for what was chosen, and for whether it was
named : (r u : List ℕ) (x y : Option Chosen) → x ≡ y → (b c : Bool) → b ≡ c → Chose x b r u → Chose y c r u
named r u x y e b c q p = (sym q ∙ p.0 ∙ ap chose e, p.1 ∙ ap (λ (z : Option Chosen). iso_region.put (ready (taking (channel_in r) z))) e)

module _ (r : List ℕ) (f : IsoOpened r) (R : Rule) where
  abbrev o : OpenIso
  o = ready_of r

  lowest_is : lowest R 0 o.talks o.written ≡ or_else (given_at R 0 o) (given_at R 1 o)
  unfolding given_at
  lowest_is =
      let g : GoodIso o = good r f in
      ap (λ (ts : Slots Talk). lowest R 0 ts o.written) g.talks_are ∙ lowest_two R o.written g.one g.two
      ∙ sym (ap (λ (ts : Slots Talk). or_else (given_in R 0 ts o.written (get_or ts 0 none)) (given_in R 1 ts o.written (get_or ts 1 none))) g.talks_are)

  pub first_there : (b : Bool) (u : List ℕ) → b ≡ true → Chose (given_at R 0 (channel_in r)) b r u → Chose (lowest R 0 (channel_in r).talks (channel_in r).written) true r u
  first_there b u q p = named r u _ _ (sym (lowest_is ∙ or_first (given_at R 0 o) (given_at R 1 o) (sym q ∙ p.0))) b true q p

  module _ (b : Bool) (u : List ℕ) (q : b ≡ false) (p : Chose (given_at R 0 (channel_in r)) b r u) where
    same : u ≡ r
    same = unmoved r u f (given_at R 0 o) (named r u _ _ refl b false q p)

    pub still_open : IsoOpened u
    still_open = subst IsoOpened (sym same) f

    pub second_there : (c : Bool) (w : List ℕ) → Chose (given_at R 1 (channel_in u)) c u w → Chose (lowest R 0 (channel_in r).talks (channel_in r).written) c r w
    second_there c w s =
        named r w _ _ (sym (lowest_is ∙ or_second (given_at R 0 o) (given_at R 1 o) (sym q ∙ p.0))) c c refl
        (subst (λ (y : List ℕ). Chose (given_at R 1 (channel_in y)) c y w) same s)

    module _ {wide : Bool} {id : ℕ} {payload : List ℕ} where
      pub still_segmented : (m : Rec) → Segmented (channel_in r).config.flags wide id payload m → Segmented (channel_in u).config.flags wide id payload m
      still_segmented m s = subst (λ (y : List ℕ). Segmented (channel_in y).config.flags wide id payload m) (sym same) s

      pub still_startable : Startable (channel_in r).config.flags wide id payload → Startable (channel_in u).config.flags wide id payload
      still_startable s = record { message = s.message; is = still_segmented s.message s.is }
