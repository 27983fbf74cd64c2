-- Configuring, on the region of an open ISO 15765 channel, and its last code: the answers of `iso`. Assumes nothing.
use mathlib.Core.Path.{◌≡◌, refl, sym, ap, ◌∙◌}
use Prim.Native.Nat.{ℕ, zero, suc, ◌+◌}
use native.Mathlib.Omega.{arith}
use mathlib.Core.List.{List, []}
use lib.ListN.{length, get_or, set, take, drop}
use lib.Dec.{T}
use borrow.Rule.Slice.PartMut.{put_mid}
use Rattle.codec.specs.Code.{byte, such}
use Rattle.codec.proofs.Part.{Part, byte_of}
use Rattle.machine.specs.Channel.{Config, says, get_in, set_in, get_parameter, set_parameter, last_error}
use Rattle.layout.specs.Sizes.{flags_at, config_size}
use Rattle.layout.specs.Memory.{config}
use Rattle.layout.specs.Promise.{gives}
use Rattle.iso.specs.Iso.{OpenIso, ready, did, set_config, on_ready, on_iso_get, on_iso_set, iso_set_to}
use Rattle.iso_layout.specs.Sizes.{iso_last_at}
use Rattle.iso_layout.specs.Region.{iso_last_part, iso_region}
use Rattle.iso_layout.specs.Promise.{IsoOpened, iso_outcome}
use Rattle.iso_layout.proofs.Region.{ready_of, moves, stays, lies, config_part, last_part_law}
use Rattle.memory.specs.Promise.{noted_in}

module _ (r : List ℕ) (f : IsoOpened r) where
  abbrev o : OpenIso
  o = ready_of r

  abbrev s : List ℕ
  s = take config_size (drop flags_at r)

  configured : Part iso_region r config flags_at config_size (ready_of r).config (λ c. ready (set_config (ready_of r) c))
  configured = config_part o r (lies r f)

  -- what get and set ask of the nine bytes
  pub lent : (length (take config_size (drop flags_at r)) ≡ config_size) × T (config.valid (take config_size (drop flags_at r)))
  lent = (configured.long, configured.valid)

  pub got : (rates : List ℕ) (t p k v : ℕ) → get_in (config.get (take config_size (drop flags_at r))) p ≡ (k, v) → gives k v [] r ≡ iso_outcome rates t r (get_parameter p)
  unfolding on_ready on_iso_get
  got rates t p k v e =
      let g : get_in o.config p ≡ (k, v) = ap (λ (c : Config). get_in c p) (sym configured.got) ∙ e in
      stays r f rates t (get_parameter p) k v [] (ap (λ (x : ℕ × ℕ). (ready o, says x.0 x.1 [])) g)

  pub stored : (rates : List ℕ) (t p v k : ℕ) (ys : List ℕ)
      → (k ≡ (set_in rates (config.get (take config_size (drop flags_at r))) p v).0) × (ys ≡ config.put (set_in rates (config.get (take config_size (drop flags_at r))) p v).1)
      → gives k 0 [] (put_mid flags_at config_size r ys) ≡ iso_outcome rates t r (set_parameter p v)
  unfolding on_ready on_iso_set iso_set_to
  stored rates t p v k ys e =
      let c : Config = config.get s in
      moves r f rates t (set_parameter p v) (ready (set_config o (set_in rates c p v).1)) k 0 [] _
      (ap (λ (c : Config). iso_set_to o (set_in rates c p v)) (sym configured.got) ∙ ap (λ (k : ℕ). (ready (set_config o (set_in rates c p v).1), says k 0 [])) (sym e.0))
      (configured.becomes ys _ e.1)

  -- ---- the last code

  last_is : get_or r iso_last_at 0 ≡ o.last
  unfolding iso_last_part such byte
  last_is = byte_of (last_part_law o r (lies r f)) 0 (omega arith)

  pub told : (rates : List ℕ) (t n : ℕ) → n ≡ get_or r iso_last_at 0 → gives 0 n [] r ≡ iso_outcome rates t r last_error
  unfolding on_ready did
  told rates t n e = ap (λ (k : ℕ). gives 0 k [] r) (e ∙ last_is) ∙ stays r f rates t last_error 0 o.last [] refl

-- ---- a code is noted, 0x00 not

pub not_noted : (at code : ℕ) (m : List ℕ) → code ≡ 0 → m ≡ noted_in iso_last_at at code m
unfolding noted_in
not_noted at code m e = sym (ap (λ (k : ℕ). noted_in iso_last_at at k m) e)

pub noted : (at code : ℕ) (m : List ℕ) → (code ≡ 0 → ⊥) → set m (at + iso_last_at) code ≡ noted_in iso_last_at at code m
unfolding noted_in
noted at zero m n = absurd (n refl)
noted at (suc k) m n = refl
