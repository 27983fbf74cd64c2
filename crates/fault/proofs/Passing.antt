-- What is known between two bytes of a bad number, and what is said of it at its end. Assumes nothing.
use Rattle.std.specs.Prelude.{if◌then◌else◌}
use Prim.Native.Nat.{ℕ, zero, suc, ◌+◌, ◌≤◌, ◌<◌}
use mathlib.Core.Bool.{true, false, not, ◌&&◌, and-false}
use mathlib.Core.List.{List, [], ◌∷◌, ◌++◌, append_assoc}
use mathlib.Core.Option.{Option, none, some, map}
use mathlib.Core.Path.{◌≡◌, refl, ◌∙◌}
use native.Mathlib.Numerals.{add-one}
use native.Mathlib.Omega.{arith}
use borrow.Author.Tests.{lt-leb, lt-ltb, le-ltb}
use lib.Dec.{ltb, eqb, eqb-suc-zero}
use lib.ListN.{length, get_or, drop, length-append, drop_of_length-le}
use lib.Seq.{drop-cons}
use Rattle.number.specs.Number.{front, shortest}
use Rattle.number.proofs.Groups.{front_more, front_last, highest_last}
use Rattle.fault.specs.Fault.{why_bad}

-- from `at` up to `place` lie the bytes g, each with its top bit set
pub record Passed (s : List ℕ) (at place : ℕ) : Type 0 where
  pub g : List ℕ
  pub size : place ≡ at + length g
  pub front_is : front (drop at s) ≡ map (g ++◌) (front (drop place s))

pub none_yet : (s : List ℕ) (at : ℕ) → Passed s at at
none_yet s at = record { g = []; size = omega arith; front_is = same (front (drop at s)) }
  where
    same : (o : Option (List ℕ)) → o ≡ map ([] ++◌) o
    same none = refl
    same (some g) = refl

-- nothing is left to read
pub cut_short : {s : List ℕ} {at place : ℕ} → Passed s at place → length s ≤ place → 1 ≡ why_bad (front (drop at s))
unfolding front why_bad
cut_short {s} p h = rw (p.front_is, drop_of_length-le s h)

map_last : (g : List ℕ) (b : ℕ) (o : Option (List ℕ)) → map (g ++◌) (map (b ∷◌) o) ≡ map ((g ++ (b ∷ [])) ++◌) o
map_last g b none = refl
map_last g b (some h) = rw (append_assoc g (b ∷ []) h)

-- the form is not the shortest if the last byte is 0 and not the only one
shortest_last : (g : List ℕ) (b at place : ℕ) → place ≡ at + length g → shortest (g ++ (b ∷ [])) ≡ not (eqb b 0 && ltb at place)
unfolding shortest
shortest_last [] b at place e = rw (le-ltb at place (omega arith), and-false)
shortest_last (a ∷ g) b at place e =
    let long : 1 < suc (length (g ++ (b ∷ []))) = omega (arith, length-append g (b ∷ [])) in
    rw (highest_last (a ∷ g) b, lt-leb (suc (length (g ++ (b ∷ [])))) 1 long, lt-ltb at place (omega arith)) (not_zero b)
  where
    not_zero : (b : ℕ) → ltb 0 b ≡ not (eqb b 0 && true)
    not_zero zero = refl
    not_zero (suc b) = rw (lt-ltb 0 (suc b) (omega arith), eqb-suc-zero b)

module _ {s : List ℕ} {at place : ℕ} (p : Passed s at place) (inside : place < length s) where
  abbrev b : ℕ
  b = get_or s place 0

  -- the bytes so far, with this one
  abbrev g : List ℕ
  g = p.g ++ (b ∷ [])

  here : drop place s ≡ b ∷ drop (place + 1) s
  here = rw (add-one place) (drop-cons s place 0 inside)

  -- more follow
  pub one_more : 128 ≤ b → Passed s at (place + 1)
  one_more m =
      record {
        g = g;
        size = omega (arith, length-append p.g (b ∷ []), p.size);
        front_is = p.front_is ∙ rw (here, front_more b (drop (place + 1) s) m) (map_last p.g b (front (drop (place + 1) s)));
      }

  front_last_is : b < 128 → front (drop at s) ≡ some g
  front_last_is m = p.front_is ∙ rw (here, front_last b (drop (place + 1) s) m)

  pub not_shortest : b < 128 → (eqb b 0 && ltb at place) ≡ true → 2 ≡ why_bad (front (drop at s))
  unfolding why_bad
  not_shortest m z = rw (front_last_is m, shortest_last p.g b at place p.size, z)

  pub too_large : b < 128 → (eqb b 0 && ltb at place) ≡ false → 3 ≡ why_bad (front (drop at s))
  unfolding why_bad
  too_large m z = rw (front_last_is m, shortest_last p.g b at place p.size, z)
