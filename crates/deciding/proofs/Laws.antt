-- What code finds out about a width and an identifier is what the machine answers, and the region stays. Assumes nothing.
use Rattle.std.specs.Prelude.{if◌then◌else◌}
use mathlib.Core.Path.{◌≡◌, refl, sym, ap, ◌∙◌}
use Prim.Native.Nat.{ℕ, suc, zero}
use mathlib.Core.Bool.{Bool, true, false}
use mathlib.Core.List.{List, []}
use lib.ListN.{take, drop}
use lib.Dec.{eqb}
use Rattle.codec.specs.Word.{word_at}
use Rattle.machine.specs.Message.{id_bytes, takes}
use Rattle.machine.specs.Filter.{Slots, Filter}
use Rattle.machine.specs.Early.{drops, early, early_number}
use Rattle.machine.specs.Channel.{Open, opened, says, unless, done_with, frame_code, decided, on_decide, on_raw_call, on_open, decide}
use Rattle.layout.specs.Sizes.{filters_at, filters_size}
use Rattle.layout.specs.Memory.{filters}
use Rattle.layout.specs.Promise.{gives, Opened, call_outcome}
use Rattle.layout.proofs.Region.{open_of, stays, word_of, flags_part}
use Rattle.filterbank.proofs.Lent.{held_is}

module _ {r : List ℕ} (f : Opened r) (w id : ℕ) (rates : List ℕ) (t : ℕ) where
  abbrev o : Open
  o = open_of r

  -- refused by a frame's own tests
  pub refused : {k n : ℕ} → k ≡ frame_code w id [] → (k ≡ 0 → ⊥) → n ≡ 0 → gives k n [] r ≡ call_outcome rates t r (decide w id)
  unfolding on_open on_raw_call on_decide unless
  refused {k} {n} e z q =
      stays r f rates t (decide w id) k n []
      (ap (λ (c : ℕ). unless c (opened o) [] (done_with (opened o) (early_number (decided o (eqb w 1) id)))) (sym e) ∙ by k z)
    where
      by : (k : ℕ) → (k ≡ 0 → ⊥) → unless k (opened o) [] (done_with (opened o) (early_number (decided o (eqb w 1) id))) ≡ (opened o, says k n [])
      by zero z = absurd (z refl)
      by (suc k) z = ap (λ (v : ℕ). (opened o, says (suc k) v [])) (sym q)

  -- the answer of a good width and identifier
  told : {k n : ℕ} → k ≡ frame_code w id [] → k ≡ 0 → n ≡ early_number (decided o (eqb w 1) id) → gives 0 n [] r ≡ call_outcome rates t r (decide w id)
  unfolding on_open on_raw_call on_decide unless done_with
  told {k} {n} e z q =
      stays r f rates t (decide w id) 0 n []
      (ap (λ (c : ℕ). unless c (opened o) [] (done_with (opened o) (early_number (decided o (eqb w 1) id)))) (sym e ∙ z) ∙ ap (λ (v : ℕ). (opened o, says 0 v [])) (sym q))

  -- the width as code finds it out
  width_is : {n : ℕ} {b : Bool} → n ≡ word_at 1 r → b ≡ takes n (eqb w 1) → b ≡ takes o.config.flags (eqb w 1)
  width_is e k = k ∙ ap (λ (n : ℕ). takes n (eqb w 1)) (e ∙ word_of (flags_part r f))

  -- a width that the connection doesn't take
  pub not_taken : {k n m : ℕ} {b : Bool} → k ≡ frame_code w id [] → k ≡ 0 → m ≡ word_at 1 r → b ≡ takes m (eqb w 1) → b ≡ false → n ≡ 0
      → gives 0 n [] r ≡ call_outcome rates t r (decide w id)
  unfolding decided early_number
  not_taken e z m b x q =
      told e z (q ∙ ap (λ (y : Bool). early_number (if y then early o.filters (eqb w 1) (id_bytes id) else drops)) (sym x ∙ width_is m b))

  -- else what the filters answer
  pub answered : {k n m : ℕ} {b : Bool} → k ≡ frame_code w id [] → k ≡ 0 → m ≡ word_at 1 r → b ≡ takes m (eqb w 1) → b ≡ true
      → ((flags : ℕ) → n ≡ early_number (early ((filters flags).get (take filters_size (drop filters_at r))) (eqb w 1) (id_bytes id)))
      → gives 0 n [] r ≡ call_outcome rates t r (decide w id)
  unfolding decided
  answered e z m b x q =
      told e z
      (q 0
      ∙ ap (λ (fs : Slots Filter). early_number (early fs (eqb w 1) (id_bytes id))) (held_is r f 0)
      ∙ ap (λ (y : Bool). early_number (if y then early o.filters (eqb w 1) (id_bytes id) else drops)) (sym x ∙ width_is m b))
