-- A message out of a conversation's place and its payload in a buffer. Assumes nothing.
use Rattle.std.specs.Prelude.{if◌then◌else◌}
use mathlib.Core.Path.{◌≡◌, refl, sym, ap, ◌∙◌, subst}
use Prim.Native.Nat.{ℕ, ◌+◌, ◌-◌}
use native.Mathlib.Omega.{arith}
use mathlib.Core.Bool.{Bool}
use mathlib.Core.List.{List, [], ◌∷◌, ◌++◌}
use lib.ListN.{length, get_or, take, drop}
use lib.Seq.{take_at}
use lib.Dec.{T, eqb}
use Rattle.codec.specs.Word.{word_at}
use Rattle.machine.specs.Message.{Rec, width_flag}
use Rattle.iso.specs.Iso.{framed}
use Rattle.iso_layout.specs.Sizes.{talk_size, flow_in}
use Rattle.iso_layout.specs.Region.{payload508}
use Rattle.talk_head.specs.Headed.{payload_on, bytes_on, payload_at}
use Rattle.talk_head.proofs.Bytes.{eqb_sym, payload_is}
use Rattle.talk_landing.specs.Landed.{wide_at, flow_at, whole_if}
use Rattle.iso_done.specs.Done.{message_of}
use Rattle.talk_message.specs.declared.Sent.{Sent}
use Rattle.talk_message.specs.Sent.{messages}

module _ (t : List ℕ) (l : length t ≡ talk_size) (v : T (payload508.valid (drop payload_on t))) where
  -- so many bytes from where the payload's begin
  payload_front : (size : ℕ) (ys rest : List ℕ) → size ≡ length (payload_at t) → ys ≡ take (bytes_on + size - bytes_on) (drop bytes_on t) → take size (ys ++ rest) ≡ payload_at t
  payload_front size ys rest s y =
      let n : bytes_on + size - bytes_on ≡ length (payload_at t) = omega (arith, s) in
      let same : ys ≡ payload_at t = y ∙ ap (λ (k : ℕ). take k (drop bytes_on t)) n ∙ payload_is t l v in
      ap (λ (x : List ℕ). take size (x ++ rest)) same ∙ take_at (payload_at t) rest size (sym s)

  pub message_read : (whole : Bool) (tx id size : ℕ) (ys rest : List ℕ) → tx ≡ width_flag (eqb (get_or t 1 0) 1) → id ≡ word_at flow_in t → size ≡ length (payload_at t)
      → ys ≡ take (bytes_on + size - bytes_on) (drop bytes_on t) → whole_if whole t ≡ messages (record { whole = whole; tx = tx; id = id; size = size }) (ys ++ rest)
  unfolding whole_if messages message_of framed wide_at flow_at
  message_read whole tx id size ys rest et ei s y =
      let flag : width_flag (eqb 1 (get_or t 1 0)) ≡ tx = ap width_flag (sym (eqb_sym (get_or t 1 0))) ∙ sym et in
      λ i. if whole then message_of (flag i) (sym ei i) (sym (payload_front size ys rest s y) i) ∷ [] else []
