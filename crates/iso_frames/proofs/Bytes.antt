-- Whether a frame concerns the conversation at a place, by the place's bytes. Assumes nothing.
use mathlib.Core.Path.{◌≡◌, refl, sym, ap, ap₂, ◌∙◌}
use Prim.Native.Nat.{ℕ, zero, suc}
use native.Mathlib.Omega.{arith}
use mathlib.Core.Bool.{Bool, ◌&&◌, beq}
use mathlib.Core.List.{List}
use lib.ListN.{get_or, take, drop}
use lib.Seq.{drop-drop, get_or-take, get_or-drop}
use lib.Dec.{T, eqb}
use Rattle.codec.specs.Word.{word_at}
use Rattle.codec.specs.Code.{byte, word32, both, via, such, mark, slot, get_slot, valid_slot}
use Rattle.codec.proofs.Word.{word_part}
use Rattle.iso_layout.specs.Sizes.{pattern_in}
use Rattle.iso_layout.specs.Region.{talk_cell}
use Rattle.talk_head.proofs.Bytes.{eqb_sym}
use Rattle.iso_frames.specs.Frame.{concerned}

-- width and pattern of a conversation behind its taken mark
module _ (flags : ℕ) (t : List ℕ) where
  pub wide_is : ((talk_cell flags).get (drop 1 t)).wide ≡ eqb 1 (get_or t 1 0)
  unfolding talk_cell such via both mark byte
  wide_is = ap (eqb 1) (get_or-take 1 (drop 1 t) 0 0 (omega arith) ∙ get_or-drop 1 t 0 0)

  pub pattern_is : ((talk_cell flags).get (drop 1 t)).pattern ≡ word_at pattern_in t
  unfolding talk_cell such via both mark byte word32
  pattern_is = ap (λ (m : List ℕ). word_at 0 (take 4 m)) (drop-drop 1 1 t) ∙ word_part pattern_in t

  pub is_concerned : (wide : Bool) (id v : ℕ) → v ≡ word_at pattern_in t → T ((slot (talk_cell flags)).valid t)
      → (eqb (get_or t 0 0) 1 && (beq wide (eqb (get_or t 1 0) 1) && eqb id v)) ≡ concerned wide id ((slot (talk_cell flags)).get t)
  unfolding slot concerned
  is_concerned wide id v e u = go (get_or t 0 0) u
    where
      go : (k : ℕ) → T (valid_slot (talk_cell flags) k (drop 1 t)) → (eqb k 1 && (beq wide (eqb (get_or t 1 0) 1) && eqb id v)) ≡ concerned wide id (get_slot (talk_cell flags) k (drop 1 t))
      go zero u = refl
      go (suc zero) u =
          ap₂ (λ (x : Bool) (y : ℕ). beq wide x && eqb id y) (eqb_sym (get_or t 1 0) ∙ sym wide_is) (e ∙ sym pattern_is)
      go (suc (suc k)) u = absurd u
