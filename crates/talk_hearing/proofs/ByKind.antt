-- What a transfer is by the kind of its head, and what it then does with frames that mean nothing to it. Assumes nothing.
use mathlib.Core.Path.{◌≡◌, refl, ap}
use Prim.Native.Nat.{ℕ, zero, suc, ◌≤◌, ◌<◌}
use native.Mathlib.Omega.{arith}
use mathlib.Core.Bool.{true, false}
use mathlib.Core.List.{List, []}
use Rattle.iso.specs.Iso.{Talk, receives, transmits, awaits, becomes, ended, transmitting, on_flow_of, on_flow, on_consecutive}
use Rattle.iso_layout.specs.Region.{transfer_on}
use Rattle.talk_head.specs.declared.Head.{Head}
use Rattle.talk_head.specs.Headed.{headed}

module _ (h : Head) (p : List ℕ) where
  pub receiving : h.kind ≡ 2 → headed h p ≡ receives (record { size = h.n; bytes = p; run = h.time; go_on = h.waits })
  unfolding headed
  receiving e = ap (λ (k : ℕ). transfer_on k h.n h.time h.left h.gap h.waits p) e

  pub awaiting : h.kind ≡ 4 → headed h p ≡ transmits (record { payload = p; taken = h.n; stage = awaits h.time })
  unfolding headed
  awaiting e = ap (λ (k : ℕ). transfer_on k h.n h.time h.left h.gap h.waits p) e

  -- a transmission, or none
  pub sends_on : 2 < h.kind → transmitting (headed h p) ≡ true
  unfolding headed transmitting
  sends_on = go h.kind
    where
      go : (k : ℕ) → 2 < k → transmitting (transfer_on k h.n h.time h.left h.gap h.waits p) ≡ true
      go zero l = absurd (omega arith)
      go (suc zero) l = absurd (omega arith)
      go (suc (suc zero)) l = absurd (omega arith)
      go (suc (suc (suc zero))) l = refl
      go (suc (suc (suc (suc zero)))) l = refl
      go (suc (suc (suc (suc (suc zero))))) l = refl
      go (suc (suc (suc (suc (suc (suc k)))))) l = refl

  pub sends_not : h.kind ≤ 2 → transmitting (headed h p) ≡ false
  unfolding headed transmitting
  sends_not = go h.kind
    where
      go : (k : ℕ) → k ≤ 2 → transmitting (transfer_on k h.n h.time h.left h.gap h.waits p) ≡ false
      go zero l = refl
      go (suc zero) l = refl
      go (suc (suc zero)) l = refl
      go (suc (suc (suc k))) l = absurd (omega arith)

  -- no reception ends; none goes on; no flow frame is awaited
  pub ends_not : h.kind ≤ 2 → (h.kind ≡ 2 → ⊥) → ended (headed h p) ≡ headed h p
  unfolding headed ended
  ends_not = go h.kind
    where
      go : (k : ℕ) → k ≤ 2 → (k ≡ 2 → ⊥) → ended (transfer_on k h.n h.time h.left h.gap h.waits p) ≡ transfer_on k h.n h.time h.left h.gap h.waits p
      go zero l n = refl
      go (suc zero) l n = refl
      go (suc (suc zero)) l n = absurd (n refl)
      go (suc (suc (suc k))) l n = absurd (omega arith)

  pub goes_not_on : h.kind < 2 → (t : ℕ) (c : Talk) (b : List ℕ) → on_consecutive t c (headed h p) b ≡ becomes (headed h p) []
  unfolding headed on_consecutive
  goes_not_on l t c b = go h.kind l
    where
      go : (k : ℕ) → k < 2 → on_consecutive t c (transfer_on k h.n h.time h.left h.gap h.waits p) b ≡ becomes (transfer_on k h.n h.time h.left h.gap h.waits p) []
      go zero l = refl
      go (suc zero) l = refl
      go (suc (suc k)) l = absurd (omega arith)

  pub awaits_not : (h.kind ≡ 4 → ⊥) → (b : List ℕ) → on_flow_of (headed h p) b ≡ headed h p
  unfolding headed on_flow_of on_flow
  awaits_not n b = go h.kind n
    where
      go : (k : ℕ) → (k ≡ 4 → ⊥) → on_flow_of (transfer_on k h.n h.time h.left h.gap h.waits p) b ≡ transfer_on k h.n h.time h.left h.gap h.waits p
      go zero n = refl
      go (suc zero) n = refl
      go (suc (suc zero)) n = refl
      go (suc (suc (suc zero))) n = refl
      go (suc (suc (suc (suc zero)))) n = absurd (n refl)
      go (suc (suc (suc (suc (suc zero))))) n = refl
      go (suc (suc (suc (suc (suc (suc k)))))) n = refl
