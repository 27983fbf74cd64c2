-- What a conversation told, in the receive queue. Assumes nothing.
use mathlib.Core.Path.{◌≡◌, sym, ap, ap₂, ◌∙◌}
use Prim.Native.Nat.{ℕ, ◌+◌, ◌-◌, ◌≤◌}
use native.Mathlib.Omega.{arith}
use mathlib.Core.Bool.{Bool, true, false}
use mathlib.Core.List.{List, [], ◌∷◌, ◌++◌, append-nil}
use lib.ListN.{length, take, length-take}
use lib.Dec.{T}
use Rattle.machine.specs.Message.{width_flag, id_bytes, Rec, received}
use Rattle.iso.specs.Limits.{most_payload}
use Rattle.iso.specs.Iso.{Talk, rx_start, arrived, arrive_iso}
use Rattle.iso_layout.specs.Sizes.{heard_size}
use Rattle.iso_layout.specs.Region.{heard_part}
use Rattle.iso_layout.proofs.Sizes.{heard_part_size}
use Rattle.iso_layout.proofs.Lawful.{heard_part_lawful}
use Rattle.talk_telling.specs.declared.Told.{Told}
use Rattle.talk_telling.specs.declared.Told.TheVariants.{Silence, Start, Message}
use Rattle.talk_telling.specs.Telling.{told}

module _ (q : List ℕ) (clock : ℕ) (wide : Bool) (id : ℕ) (s : List ℕ) (said : Told) where
  abbrev Passed : List ℕ → Type 0
  Passed u = (flags : ℕ) → T ((heard_part flags).valid q) → (c : Talk) → c.wide ≡ wide → c.pattern ≡ id → u ≡ (heard_part flags).put (arrive_iso ((heard_part flags).get q) (told said clock c s))

  pub none_passed : length q ≡ heard_size + 1 → said ≡ Silence → Passed q
  unfolding told arrive_iso
  none_passed long e flags v c w p =
      sym ((heard_part_lawful flags).put_get q (long ∙ sym (heard_part_size flags)) v)
      ∙ ap (λ (x : Told). (heard_part flags).put (arrive_iso ((heard_part flags).get q) (told x clock c s))) (sym e)

  -- one record, that of what is told
  one_passed : (u : List ℕ) (x : Rec) → ((flags : ℕ) → T ((heard_part flags).valid q) → u ≡ (heard_part flags).put (arrive_iso ((heard_part flags).get q) (x ∷ [])))
      → ((c : Talk) → c.wide ≡ wide → c.pattern ≡ id → x ∷ [] ≡ told said clock c s) → Passed u
  one_passed u x f e flags v c w p = f flags v ∙ ap (λ (rs : List Rec). (heard_part flags).put (arrive_iso ((heard_part flags).get q) rs)) (e c w p)

  pub start_passed : said ≡ Start → (rx : ℕ) → rx ≡ width_flag wide → (u : List ℕ)
      → ((flags : ℕ) → T ((heard_part flags).valid q) → u ≡ (heard_part flags).put (arrive_iso ((heard_part flags).get q) (received clock (rx + 2) (id_bytes id ++ []) ∷ []))) → Passed u
  unfolding told rx_start
  start_passed e rx er u f =
      one_passed u (received clock (rx + 2) (id_bytes id ++ [])) f
      (λ c w p.
      ap₂ (λ (n : ℕ) (b : List ℕ). received clock (n + 2) b ∷ []) (er ∙ ap width_flag (sym w)) (append-nil (id_bytes id) ∙ ap id_bytes (sym p))
      ∙ ap (λ (x : Told). told x clock c s) (sym e))

  pub message_passed : (n : ℕ) → said ≡ Message n → (rx : ℕ) → rx ≡ width_flag wide → (u : List ℕ)
      → ((flags : ℕ) → T ((heard_part flags).valid q) → u ≡ (heard_part flags).put (arrive_iso ((heard_part flags).get q) (received clock rx (id_bytes id ++ take (n - 0) s) ∷ []))) → Passed u
  unfolding told arrived
  message_passed n e rx er u f =
      let all : n - 0 ≡ n = omega arith in
      one_passed u (received clock rx (id_bytes id ++ take (n - 0) s)) f
      (λ c w p.
      ap₂ (λ (m k : ℕ). received clock m (id_bytes id ++ take k s) ∷ []) (er ∙ ap width_flag (sym w)) all
      ∙ ap (λ (k : ℕ). received clock (width_flag c.wide) (id_bytes k ++ take n s) ∷ []) (sym p)
      ∙ ap (λ (x : Told). told x clock c s) (sym e))

-- a width flag leaves room for two more bits, a part of the buffer is no longer than it
pub flag_small : (wide : Bool) → width_flag wide ≤ 0x100
unfolding width_flag
flag_small true = omega arith
flag_small false = omega arith

pub part_few : (n : ℕ) (s : List ℕ) → length s ≡ most_payload → length (take n s) ≤ most_payload
part_few n s e = omega (arith, length-take n s)
