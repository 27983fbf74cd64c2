-- The bytes of a flight, and of the written messages without the oldest. Assumes nothing.
use mathlib.Core.Path.{◌≡◌, refl, sym, ap, ap₂, ◌∙◌}
use Prim.Native.Nat.{ℕ, ◌*◌, ◌-◌, ◌<◌}
use native.Mathlib.Omega.{arith}
use mathlib.Core.List.{List, [], ◌∷◌, ◌++◌, append-nil}
use lib.ListN.{length, get_or, set, take, drop, drop_of_length-le}
use lib.Dec.{T}
use borrow.Rule.Slice.PartMut.{put_mid}
use Rattle.codec.specs.Plain.{zeros}
use Rattle.codec.specs.Code.{byte, both, via, such, slot}
use Rattle.codec.proofs.Many.{up_to_lawful}
use Rattle.codec.proofs.Store.{count_at, oldest_gone}
use Rattle.machine.specs.Message.{Rec}
use Rattle.iso.specs.Limits.{most_messages, iso_record_size}
use Rattle.iso.specs.Iso.{Owner}
use Rattle.iso_layout.specs.Sizes.{messages_size, iso_flight_size}
use Rattle.iso_layout.specs.Record.{rec536, frame_cell}
use Rattle.iso_layout.specs.Region.{message_cell, owner_parts, flight_code}
use Rattle.iso_layout.proofs.Sizes.{message_size, messages_size_law}
use Rattle.iso_layout.proofs.Lawful.{message_lawful}
use Rattle.iso_launching.specs.Launch.{messages, flown}

-- ---- the flight

flown_is : (flags : ℕ) (r : Rec) (w : Owner) → flown flags r w ≡ 1 ∷ owner_parts w ∷ rec536.put r
unfolding flown slot flight_code frame_cell via such both byte
flown_is flags r w = refl

two_stored : (f ys : List ℕ) (a b : ℕ) → length f ≡ iso_flight_size → set (set (put_mid 2 iso_record_size f ys) 0 a) 1 b ≡ a ∷ b ∷ ys
two_stored [] ys a b l = absurd (omega arith)
two_stored (x ∷ []) ys a b l = absurd (omega arith)
two_stored (x ∷ y ∷ f) ys a b l =
    let none_left : drop iso_record_size f ≡ [] = drop_of_length-le f {i = iso_record_size} (omega arith) in
    ap {B = List ℕ} (λ (s : List ℕ). a ∷ b ∷ (ys ++ s)) none_left ∙ ap {B = List ℕ} (λ (s : List ℕ). a ∷ b ∷ s) (append-nil ys)

pub two_there : (f ys : List ℕ) (k a : ℕ) → length f ≡ iso_flight_size → 1 < length (set (put_mid 2 k f ys) 0 a)
two_there [] ys k a l = absurd (omega arith)
two_there (x ∷ []) ys k a l = absurd (omega arith)
two_there (x ∷ y ∷ f) ys k a l = omega arith

pub launched : (f ys : List ℕ) (owner : ℕ) (r : Rec) → length f ≡ iso_flight_size → ys ≡ rec536.put r → (flags : ℕ) (w : Owner) → owner_parts w ≡ owner
    → set (set (put_mid 2 iso_record_size f ys) 0 1) 1 owner ≡ flown flags r w
launched f ys owner r l e flags w ew = two_stored f ys 1 owner l ∙ ap₂ (λ (x : ℕ) (y : List ℕ). 1 ∷ x ∷ y) (sym ew) e ∙ sym (flown_is flags r w)

-- ---- the messages without the oldest

module _ (s : List ℕ) (long : length s ≡ messages_size) (some_held : 0 < get_or s 0 0) {ys : List ℕ} (k : ℕ) (ek : k ≡ get_or s 0 0 * iso_record_size)
    (moved : ys ≡ drop iso_record_size (take k (drop 1 s)) ++ zeros iso_record_size) where
  pub without_oldest : (flags : ℕ) → T ((messages flags).valid s) → set (put_mid 1 k s ys) 0 (get_or s 0 0 - 1) ≡ (messages flags).put (drop 1 ((messages flags).get s))
  without_oldest flags v =
      let sized : length s ≡ (messages flags).size = long ∙ sym (messages_size_law flags) in
      let held : List Rec = (messages flags).get s in
      let is : s ≡ (messages flags).put held = sym ((up_to_lawful (message_lawful flags) most_messages).put_get s sized v) in
      let count : get_or s 0 0 ≡ length held = count_at (message_cell flags) most_messages held is in
      let one : 1 * iso_record_size ≡ iso_record_size = refl in
      oldest_gone (message_lawful flags) most_messages iso_record_size (message_size flags) held is ((up_to_lawful (message_lawful flags) most_messages).ok_get s sized v) 1 k (get_or s 0 0 - 1) (omega arith)
      (ek ∙ ap (λ (n : ℕ). n * iso_record_size) count) moved (omega arith)
