-- A listener: what it refuses, and that all else is as on any channel. Assumes nothing.
use Rattle.std.specs.Prelude.{if◌then◌else◌}
use mathlib.Core.Path.{◌≡◌, refl, sym, ap, ◌∙◌}
use Prim.Native.Nat.{ℕ, ◌+◌}
use mathlib.Core.Bool.{Bool, true, false, ◌&&◌}
use mathlib.Core.List.{List, [], ◌∷◌}
use lib.Dec.{T}
use Rattle.codec.specs.Plain.{member}
use Rattle.codec.proofs.Lists.{of_member}
use Rattle.machine.specs.Message.{bit, takes}
use Rattle.machine.specs.Channel.{Open, opened, Call, listens, speaks_out, muted, is_flags, is_raw_flags, lent, says, on_open, on_call}

module _ (rates : List ℕ) (now : ℕ) (o : Open) (x : Call) where
  -- ASKED TO SPEAK OUT IT SAYS 0x01, whatever else is wrong with the call, and nothing changes
  pub listener_refuses : listens o.config.flags ≡ true → speaks_out x ≡ true → on_call rates now (opened o) x ≡ (opened o, says 0x01 0 (lent x))
  unfolding on_call
  listener_refuses l s = let m : muted o x ≡ true = λ j. s j && l j in rw m refl

  -- EVERYTHING ELSE AS BEFORE: any other call, and every call on a channel that is no listener
  pub else_as_before : speaks_out x ≡ false → on_call rates now (opened o) x ≡ on_open rates now o x
  unfolding on_call
  else_as_before s = let m : muted o x ≡ false = λ j. s j && listens o.config.flags in rw m refl

  pub speaker_as_before : listens o.config.flags ≡ false → on_call rates now (opened o) x ≡ on_open rates now o x
  unfolding on_call
  speaker_as_before l = go (speaks_out x) refl
    where
      go : (b : Bool) → speaks_out x ≡ b → (if muted o x then (opened o, says 0x01 0 (lent x)) else on_open rates now o x) ≡ on_open rates now o x
      go true s = let m : muted o x ≡ false = λ j. s j && l j in rw m refl
      go false s = let m : muted o x ≡ false = λ j. s j && listens o.config.flags in rw m refl

-- ITS FLAG TAKES NO PART IN THE WIDTHS: beside other flags it hears what they let a channel hear, alone what flags 0 do
pub hears_alike : (f : ℕ) → T (is_flags f) → (wide : Bool) → takes (f + 0x1000_0000) wide ≡ takes f wide
unfolding is_flags takes bit
hears_alike f t wide = of_member (λ (n : ℕ). takes (n + 0x1000_0000) wide ≡ takes n wide) (0 ∷ 0x100 ∷ 0x800 ∷ 0x900 ∷ []) (refl, (refl, (refl, (refl, tt)))) f t

-- and it is the listeners' alone
pub listener_flags : (f : ℕ) → T (is_flags f) → T (is_raw_flags (f + 0x1000_0000)) × T (listens (f + 0x1000_0000))
unfolding is_flags is_raw_flags listens bit member
listener_flags f t =
    of_member (λ (n : ℕ). T (is_raw_flags (n + 0x1000_0000)) × T (listens (n + 0x1000_0000))) (0 ∷ 0x100 ∷ 0x800 ∷ 0x900 ∷ [])
    ((tt, tt), ((tt, tt), ((tt, tt), ((tt, tt), tt)))) f t
