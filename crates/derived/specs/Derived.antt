-- A part that follows from another: its bytes lie behind those, and are valid only if they are the ones that follow. Assumes nothing.
use Rattle.std.specs.Prelude.{ℕ, ◌+◌, Bool, true, false, ◌&&◌, List, [], ◌∷◌, ◌++◌, take, drop, eqb}
use Rattle.codec.specs.Code.{Code}

-- the same bytes
unfoldable pub same_bytes : List ℕ → List ℕ → Bool
same_bytes [] [] = true
same_bytes [] (y ∷ ys) = false
same_bytes (x ∷ xs) [] = false
same_bytes (x ∷ xs) (y ∷ ys) = eqb x y && same_bytes xs ys

-- a value, then n bytes that follow from it. Nothing of them is read back: one value, one image
unfoldable pub derived : {A : Type 0} → ℕ → (A → List ℕ) → Code A → Code A
derived n f a =
    record {
      size = a.size + n;
      put = λ x. a.put x ++ f x;
      get = λ m. a.get (take a.size m);
      ok = a.ok;
      valid = λ m. a.valid (take a.size m) && same_bytes (drop a.size m) (f (a.get (take a.size m)));
    }
