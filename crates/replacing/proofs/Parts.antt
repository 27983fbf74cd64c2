-- The filters with their maps, emptied and filled: what the bytes are then. Assumes nothing.
use Prim.Native.Nat.{ℕ}
use mathlib.Core.Path.{◌≡◌, sym, ap, subst, ◌∙◌}
use mathlib.Core.Option.{some}
use mathlib.Core.List.{List, map-id}
use native.Mathlib.Omega.{arith}
use lib.Dec.{T}
use lib.ListN.{length, take, length-replicate}
use lib.Seq.{length-take-le}
use borrow.Rule.Slice.PartMut.{put_mid}
use Rattle.codec.specs.Plain.{zeros}
use Rattle.number.specs.Laws.{Bytes}
use Rattle.machine.specs.Filter.{Slots, Filter}
use Rattle.machine.specs.Store.{slots_in}
use Rattle.machine.specs.Channel.{filter_in}
use Rattle.layout.specs.Sizes.{filters_size, mapped_size}
use Rattle.layout.specs.Memory.{filters, mapped}
use Rattle.layout.proofs.Memory.{filters_lawful}
use Rattle.layout.proofs.Sizes.{filters_size_law}
use Rattle.filterbank.specs.Part.{FilterPart, Unmapped}
use Rattle.filterbank.proofs.Remade.{lent_again, as_long}
use Rattle.store_filling.proofs.Walk.{slots_ok}
use Rattle.store_filling.proofs.TwoLists.{filters_kept}

-- filters that read can be held
pub filters_ok : (s : List ℕ) → Bytes s → (flags at : ℕ) (fs : Slots Filter) (next : ℕ) → slots_in (filter_in flags) s at ≡ some (fs, next) → T ((filters flags).ok fs)
filters_ok s b flags at fs next e =
    subst (λ (x : Slots Filter). T ((filters flags).ok x)) (map-id fs) (slots_ok filter_in (λ x. x) filters filters_size filters_kept s b flags at fs next e)

module _ (m : List ℕ) (l : length m ≡ mapped_size) (zs : List ℕ) (z : zs ≡ zeros (length (take filters_size m))) where
  zs_is : zs ≡ zeros filters_size
  zs_is = z ∙ ap (λ (n : ℕ). zeros n) (length-take-le filters_size m (omega arith))

  zs_long : length zs ≡ filters_size
  zs_long = ap length zs_is ∙ length-replicate {A = ℕ} filters_size 0

  abbrev zeroed : List ℕ
  zeroed = put_mid 0 filters_size m zs

  pub front_zero : take filters_size zeroed ≡ zeros filters_size
  front_zero = lent_again 0 filters_size m zs (omega arith) zs_long ∙ zs_is

  zeroed_long : length zeroed ≡ mapped_size
  zeroed_long = as_long 0 filters_size m zs (omega arith) zs_long (omega arith) ∙ l

  module _ (ys : List ℕ) (flags : ℕ) (fs : Slots Filter) (y : ys ≡ (filters flags).put fs) (t : T ((filters flags).ok fs)) where
    ys_long : length ys ≡ filters_size
    ys_long = ap length y ∙ (filters_lawful flags).long fs t ∙ filters_size_law flags

    front_filled : take filters_size (put_mid 0 filters_size zeroed ys) ≡ ys
    front_filled = let k = zeroed_long in lent_again 0 filters_size zeroed ys (omega arith) ys_long

    pub filled_unmapped : Unmapped (put_mid 0 filters_size zeroed ys)
    filled_unmapped =
        let k = zeroed_long in
        record {
          long = as_long 0 filters_size zeroed ys (omega arith) ys_long (omega arith) ∙ k;
          part =
              subst FilterPart (sym front_filled)
              (record { flags = flags; long = ys_long; valid = subst (λ (x : List ℕ). T ((filters flags).valid x)) (sym y) ((filters_lawful flags).valid_put fs t) });
        }

    pub filled_mapped : (ws : List ℕ) → ws ≡ (mapped flags).put ((filters flags).get (take filters_size (put_mid 0 filters_size zeroed ys))) → ws ≡ (mapped flags).put fs
    filled_mapped ws w = w ∙ ap (λ (x : List ℕ). (mapped flags).put ((filters flags).get x)) (front_filled ∙ y) ∙ ap (mapped flags).put ((filters_lawful flags).get_put fs t)
