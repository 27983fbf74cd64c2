-- The frame of a single-frame message in the bytes of a flight, and the message that it was. Assumes nothing.
use mathlib.Core.Path.{◌≡◌, refl, sym, ap, ap₂, ◌∙◌, subst}
use Prim.Native.Nat.{ℕ, suc, ◌+◌, ◌-◌, ◌^◌, ◌≤◌, ◌<◌}
use native.Mathlib.Omega.{arith}
use mathlib.Core.Bool.{true}
use mathlib.Core.Option.{some}
use mathlib.Core.List.{List, [], ◌∷◌, ◌++◌}
use lib.ListN.{length, take, drop, length-drop, length-append}
use lib.Seq.{take_at, drop-append-le, drop-drop}
use lib.Dec.{T}
use Rattle.codec.specs.Plain.{all, is_byte, member, zeros}
use Rattle.codec.specs.Word.{word, word_at}
use Rattle.codec.specs.Code.{byte, word32, both, via, such, many, slot}
use Rattle.codec.proofs.Lists.{of_member, all_append, zeros_bytes}
use Rattle.codec.proofs.Word.{word_back}
use Rattle.machine.specs.Message.{Rec, id_bytes, id_of}
use Rattle.layout.proofs.Memory.{bytes_put}
use Rattle.receiving.proofs.Sent.{id_there}
use Rattle.iso.specs.Limits.{iso_protocol, id_size, iso_data, most_payload}
use Rattle.iso.specs.Iso.{Flight, padded, un_single}
use Rattle.iso_layout.specs.Sizes.{iso_flight_size}
use Rattle.iso_layout.specs.Region.{extra_is, iso_parts, rec536, frame_cell, owner_parts, flight_code}
use Rattle.iso_layout.proofs.Sizes.{iso_flight_size_law}
use Rattle.iso_layout.proofs.Lawful.{flight_lawful}
use Rattle.iso_layout.proofs.Taking.{FlightOk, flight_sound}
use Rattle.codec.proofs.Many.{slot_lawful}
use Rattle.iso_done.specs.Done.{message_of}
use Rattle.talk_message.specs.Sent.{messages}
use Rattle.talk_message.specs.declared.Sent.{Sent}
use Rattle.iso_single.specs.Single.{SingleIn}

-- an identifier in front
id_front : (b z : List ℕ) → 4 ≤ length b → T (all is_byte (b ++ z)) → id_bytes (id_of (b ++ z)) ≡ take id_size b
id_front [] z h t = absurd (omega arith)
id_front (x ∷ []) z h t = absurd (omega arith)
id_front (x ∷ y ∷ []) z h t = absurd (omega arith)
id_front (x ∷ y ∷ w ∷ []) z h t = absurd (omega arith)
id_front (x ∷ y ∷ w ∷ v ∷ b) z h t = id_there x y w v (b ++ z) t

module _ {f : List ℕ} (s : SingleIn f) where
  abbrev frame : Rec
  frame = s.flight.frame

  abbrev b : List ℕ
  b = frame.bytes

  abbrev z : List ℕ
  z = zeros (iso_data - length b)

  sound : FlightOk s.flags s.flight
  sound = flight_sound s.flags s.flight s.ok

  few : length b ≤ 12
  few = sound.sendable.fit.most

  six : 6 ≤ length b
  six = sound.single s.owner

  tx_small : frame.tx < 2 ^ 32
  tx_small = of_member (λ (n : ℕ). n < 2 ^ 32) (0 ∷ 0x100 ∷ []) ((omega arith), ((omega arith), tt)) frame.tx sound.sendable.flag

  abbrev front : List ℕ
  front =
      1 ∷ owner_parts s.flight.owner ∷ (word iso_protocol ++ (word frame.rx ++ (word frame.tx ++ (word frame.time ++ (word (length b) ++ word (extra_is frame.rx (length b)))))))

  laid : f ≡ front ++ (b ++ z)
  unfolding slot flight_code frame_cell rec536 via such both byte word32 many iso_parts padded word
  laid = sym s.bytes ∙ ap (λ (m : List ℕ). front ++ m) (bytes_put (b ++ z))

  pub flight_long : length f ≡ iso_flight_size
  unfolding slot
  flight_long = ap length (sym s.bytes) ∙ (slot_lawful (flight_lawful s.flags)).long (some s.flight) s.ok ∙ iso_flight_size_law s.flags

  tx_is : word_at 10 f ≡ frame.tx
  unfolding word word_at
  tx_is = ap (word_at 10) laid ∙ word_back frame.tx tx_small

  pub size_is : word_at 18 f ≡ length b
  unfolding word word_at
  size_is = let k : length b < 2 ^ 32 = omega (arith, few) in ap (word_at 18) laid ∙ word_back (length b) k

  bytes_there : drop 26 f ≡ b ++ z
  unfolding word
  bytes_there = ap (λ (m : List ℕ). drop 26 m) laid

  pub size_least : 5 ≤ word_at 18 f
  size_least = omega (arith, size_is, six)

  pub size_most : word_at 18 f ≤ 12
  size_most = omega (arith, size_is, few)

  id_is : id_bytes (id_of (drop 26 f)) ≡ take id_size b
  id_is =
      let h : 4 ≤ length b = omega (arith, six) in
      ap (λ (m : List ℕ). id_bytes (id_of m)) bytes_there ∙ id_front b z h (all_append is_byte b z sound.sendable.fit.bytes (zeros_bytes (iso_data - length b)))

  payload_is : (size : ℕ) (ys rest : List ℕ) → size ≡ word_at 18 f - 5 → ys ≡ take (31 + size - 31) (drop 31 f) → take size (ys ++ rest) ≡ drop (suc id_size) b
  payload_is size ys rest e y =
      let n : 31 + size - 31 ≡ size = omega arith in
      let h : 5 ≤ length b = omega (arith, six) in
      let long : length (drop 5 b) ≡ size = length-drop 5 b ∙ omega (arith, size_is) in
      let there : drop 31 f ≡ drop 5 b ++ z = sym (drop-drop 5 26 f) ∙ ap (λ (m : List ℕ). drop 5 m) bytes_there ∙ drop-append-le 5 b z h in
      let same : ys ≡ drop 5 b = y ∙ ap₂ (λ (k : ℕ) (m : List ℕ). take k m) n there ∙ take_at (drop 5 b) z size long in
      ap (λ (m : List ℕ). take size (m ++ rest)) same ∙ take_at (drop 5 b) rest size long

  pub single_read : (tx id size : ℕ) (ys rest : List ℕ) → tx ≡ word_at 10 f → id ≡ id_of (drop 26 f) → size ≡ word_at 18 f - 5 → ys ≡ take (31 + size - 31) (drop 31 f)
      → messages (record { whole = true; tx = tx; id = id; size = size }) (ys ++ rest) ≡ un_single frame ∷ []
  unfolding messages message_of un_single
  single_read tx id size ys rest et ei es y =
      λ i. record { rx = 0; tx = (et ∙ tx_is) i; time = 0; bytes = (ap id_bytes ei ∙ id_is) i ++ payload_is size ys rest es y i } ∷ []
