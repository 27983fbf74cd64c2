-- The oldest of written messages, in their bytes. Assumes nothing.
use mathlib.Core.Path.{◌≡◌, refl, sym, ap, ap₂, ◌∙◌}
use Prim.Native.Nat.{ℕ, suc, ◌+◌, ◌-◌, ◌*◌, ◌/◌, ◌%◌, ◌^◌, ◌≤◌, ◌<◌}
use native.Mathlib.Omega.{arith}
use mathlib.Core.List.{List, [], ◌∷◌, ◌++◌, append_assoc}
use lib.ListN.{length, take, drop, length-drop}
use lib.Seq.{take_at, drop-append-le, drop-drop}
use lib.Dec.{eqb}
use Rattle.codec.specs.Plain.{zeros}
use Rattle.codec.specs.Word.{word, word_at}
use Rattle.codec.specs.Code.{byte, word32, both, via, such, many, put_all, up_to}
use Rattle.codec.proofs.Tests.{left}
use Rattle.codec.proofs.Lists.{of_member}
use Rattle.codec.proofs.Word.{word_back}
use Rattle.codec.proofs.Many.{up_to_each, up_to_lawful}
use Rattle.machine.specs.Message.{Rec, bit, id_of}
use Rattle.layout.proofs.Memory.{bytes_put}
use Rattle.iso.specs.Limits.{most_messages, iso_protocol, id_size, iso_data}
use Rattle.iso.specs.Iso.{padded}
use Rattle.iso_layout.specs.Sizes.{messages_size}
use Rattle.iso_layout.specs.Record.{extra_is, iso_parts, rec536, message_cell}
use Rattle.iso_layout.proofs.Sizes.{messages_size_law}
use Rattle.iso_layout.proofs.Lawful.{message_lawful}
use Rattle.iso_layout.proofs.Held.{ToSend, sending_sound}
use Rattle.iso_sending.specs.Starting.{HeldIn, Reads}

-- an identifier in front
id_front : (b z : List ℕ) → 4 ≤ length b → id_of (b ++ z) ≡ id_of b
unfolding id_of
id_front [] z h = absurd (omega arith)
id_front (x ∷ []) z h = absurd (omega arith)
id_front (x ∷ y ∷ []) z h = absurd (omega arith)
id_front (x ∷ y ∷ w ∷ []) z h = absurd (omega arith)
id_front (x ∷ y ∷ w ∷ v ∷ b) z h = refl

module _ {s : List ℕ} (h : HeldIn s) where
  abbrev m : Rec
  m = h.message

  abbrev b : List ℕ
  b = m.bytes

  sendable : ToSend h.flags iso_data m
  unfolding message_cell
  sendable = sending_sound h.flags iso_data m (left ((message_cell h.flags).ok m) _ (up_to_each most_messages (message_cell h.flags) (m ∷ h.rest) h.ok))

  few : length b ≤ iso_data
  few = sendable.fit.most

  five : 5 ≤ length b
  five = sendable.fit.least

  tx_small : m.tx < 2 ^ 32
  tx_small = of_member (λ (n : ℕ). n < 2 ^ 32) (0 ∷ 0x100 ∷ []) ((omega arith), ((omega arith), tt)) m.tx sendable.flag

  abbrev z : List ℕ
  z = zeros (iso_data - length b)

  abbrev q : List ℕ
  q = put_all (message_cell h.flags) h.rest

  abbrev end : List ℕ
  end = zeros ((most_messages - suc (length h.rest)) * (message_cell h.flags).size)

  abbrev front : List ℕ
  front = suc (length h.rest) ∷ (word iso_protocol ++ (word m.rx ++ (word m.tx ++ (word m.time ++ (word (length b) ++ word (extra_is m.rx (length b)))))))

  laid : s ≡ front ++ (((b ++ z) ++ q) ++ end)
  unfolding up_to message_cell rec536 via such both byte word32 many iso_parts padded word
  laid = sym h.bytes ∙ ap (λ (x : List ℕ). front ++ ((x ++ q) ++ end)) (bytes_put (b ++ z))

  pub held_long : length s ≡ messages_size
  held_long = ap length (sym h.bytes) ∙ (up_to_lawful (message_lawful h.flags) most_messages).long (m ∷ h.rest) h.ok ∙ messages_size_law h.flags

  tx_is : word_at 9 s ≡ m.tx
  unfolding word word_at
  tx_is = ap (word_at 9) laid ∙ word_back m.tx tx_small

  pub size_is : word_at 17 s ≡ length b
  unfolding word word_at
  size_is = let k : length b < 2 ^ 32 = omega (arith, few) in ap (word_at 17) laid ∙ word_back (length b) k

  bytes_there : drop 25 s ≡ b ++ (z ++ (q ++ end))
  unfolding word
  bytes_there = ap (λ (x : List ℕ). drop 25 x) laid ∙ append_assoc (b ++ z) q end ∙ append_assoc b z (q ++ end)

  pub size_least : 5 ≤ word_at 17 s
  size_least = omega (arith, size_is, five)

  pub size_most : word_at 17 s ≤ iso_data
  size_most = omega (arith, size_is, few)

  payload_is : (size : ℕ) (ys rest : List ℕ) → size ≡ word_at 17 s - 4 → ys ≡ take (29 + size - 29) (drop 29 s) → drop id_size b ≡ take size (ys ++ rest)
  payload_is size ys rest e y =
      let n : 29 + size - 29 ≡ size = omega arith in
      let h4 : 4 ≤ length b = omega (arith, five) in
      let long : length (drop 4 b) ≡ size = length-drop 4 b ∙ omega (arith, size_is) in
      let there : drop 29 s ≡ drop 4 b ++ (z ++ (q ++ end)) = sym (drop-drop 4 25 s) ∙ ap (λ (x : List ℕ). drop 4 x) bytes_there ∙ drop-append-le 4 b _ h4 in
      let same : ys ≡ drop 4 b = y ∙ ap₂ (λ (k : ℕ) (x : List ℕ). take k x) n there ∙ take_at (drop 4 b) _ size long in
      sym (ap (λ (x : List ℕ). take size (x ++ rest)) same ∙ take_at (drop 4 b) rest size long)

  pub oldest_read : (tx id size : ℕ) (ys rest : List ℕ) → tx ≡ word_at 9 s → id ≡ id_of (drop 25 s) → size ≡ word_at 17 s - 4 → ys ≡ take (29 + size - 29) (drop 29 s)
      → Reads h.message (eqb (tx / 0x100 % 2) 1) id (take size (ys ++ rest))
  unfolding bit
  oldest_read tx id size ys rest et ei es y =
      let h4 : 4 ≤ length b = omega (arith, five) in
      record {
        width = ap (bit 0x100) (sym (et ∙ tx_is));
        identifier = sym (ei ∙ ap id_of bytes_there ∙ id_front b _ h4);
        rest = payload_is size ys rest es y;
      }
