-- The identifier of some digits. Assumes nothing.
use Rattle.std.specs.Prelude.{if◌then◌else◌, Some, None}
use Prim.Native.Nat.{ℕ, ◌≤◌, ◌<◌}
use mathlib.Core.Path.{◌≡◌, refl, sym, ap, ap₂, ◌∙◌}
use mathlib.Core.Bool.{Bool, true, false, not, ◌&&◌}
use mathlib.Core.List.{List}
use mathlib.Core.Option.{Option, none, some, bind}
use native.Mathlib.Omega.{arith}
use borrow.Author.Tests.{eqb-true, le-leb, lt-leb}
use lib.Dec.{eqb, leb}
use lib.ListN.{length}
use Rattle.machine.specs.Message.{id_limit}
use Rattle.text.specs.Text.{value_of}
use Rattle.text_reader.specs.Reading.{far, near, near_value}
use Rattle.text_reader.proofs.Digits.{NearNumber, number_there, number_missing, near_under, near_same}
use Rattle.candump.specs.Line.{only, width_in, id_in, both_in}
use Rattle.log_reader.specs.Reading.{identified}

-- every identifier is far below the far number
pub limit_most : (g : Bool) → id_limit g ≤ 0x1FFF_FFFF
unfolding id_limit
limit_most true = omega arith
limit_most false = omega arith

module _ (l : List ℕ) where
  neither : (not (eqb (length l) 8) && not (eqb (length l) 3)) ≡ true → width_in l ≡ none
  unfolding width_in
  neither = by (eqb (length l) 8) (eqb (length l) 3)
    where
      by : (g k : Bool) → (not g && not k) ≡ true → (if k then some false else if g then some true else none) ≡ none
      by true k e = let z : ◌≡◌ {A = ℕ} 0 1 = cc in absurd (omega arith)
      by false true e = let z : ◌≡◌ {A = ℕ} 0 1 = cc in absurd (omega arith)
      by false false e = refl

  one_of_both : (not (eqb (length l) 8) && not (eqb (length l) 3)) ≡ false → width_in l ≡ some (eqb (length l) 8)
  unfolding width_in
  one_of_both = by (eqb (length l) 8) refl (eqb (length l) 3) refl
    where
      by : (g : Bool) → eqb (length l) 8 ≡ g → (k : Bool) → eqb (length l) 3 ≡ k → (not g && not k) ≡ false → (if k then some false else if g then some true else none) ≡ some g
      by true p true q e = absurd (omega (arith, eqb-true (length l) 8 p, eqb-true (length l) 3 q))
      by true p false q e = refl
      by false p true q e = refl
      by false p false q e = let z : ◌≡◌ {A = ℕ} 0 1 = cc in absurd (omega arith)

  pub no_width : (not (eqb (length l) 8) && not (eqb (length l) 3)) ≡ true → identified None ≡ both_in l
  unfolding identified both_in bind
  no_width e = sym (rw (neither e))

  module _ (w : (not (eqb (length l) 8) && not (eqb (length l) 3)) ≡ false) where
    pub no_id : None ≡ near_value 16 l → identified None ≡ both_in l
    unfolding identified both_in id_in bind
    no_id e = sym (rw (one_of_both w, number_missing 16 l e))

    module _ (v : ℕ) (n : NearNumber 16 l v) where
      pub over_limit : id_limit (eqb (length l) 8) < v → identified None ≡ both_in l
      unfolding identified both_in id_in bind only
      over_limit h = sym (rw (one_of_both w, n.is, lt-leb n.exact (id_limit (eqb (length l) 8)) (omega (arith, near_under n.exact, n.nears))))

      pub is_id : v ≤ id_limit (eqb (length l) 8) → identified (Some (record { wide = eqb (length l) 8; id = v })) ≡ both_in l
      unfolding identified both_in id_in bind only
      is_id h =
          let same : n.exact ≡ v = sym (near_same n.exact (omega (arith, n.nears, limit_most (eqb (length l) 8)))) ∙ n.nears in
          sym (rw (one_of_both w, n.is, same, le-leb v (id_limit (eqb (length l) 8)) h))
