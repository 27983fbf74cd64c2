-- What the readers of text answer: where a byte stands, the value of a digit, the number of digits. Assumes nothing.
use Rattle.std.specs.Prelude.{ℕ, zero, suc, ◌+◌, List, [], ◌∷◌, eqb, leb, ltb, length, drop, if◌then◌else◌, Option, Some, None}
use Rattle.std.proofs.Math.Option as maybe
use Rattle.text.specs.Text.{digit_in, value_of}

-- how many bytes stand before the first c; all where there is none
unfoldable pub before : ℕ → List ℕ → ℕ
before c [] = zero
before c (x ∷ xs) = if eqb x c then zero else suc (before c xs)

-- the place of the first c from a place on; none where there is none
unfoldable pub first_at : ℕ → List ℕ → ℕ → Option ℕ
first_at c s from = if ltb (from + before c (drop from s)) (length s) then Some (from + before c (drop from s)) else None

-- what stands for no digit
abbrev pub no_digit : ℕ
no_digit = 255

unfoldable pub or_none : maybe.Option ℕ → ℕ
or_none maybe.none = no_digit
or_none (maybe.some v) = v

-- a hexadecimal digit's value
unfoldable pub digit_of : ℕ → ℕ
digit_of c = or_none (digit_in c)

-- a number past every one that counts
abbrev pub far : ℕ
far = 10_000_000_000

-- a number, or the far one if it is larger
unfoldable pub near : ℕ → ℕ
near v = if leb v far then v else far

-- what code answers for a number that may be missing
unfoldable pub valued : maybe.Option ℕ → Option ℕ
valued maybe.none = None
valued (maybe.some v) = Some v

-- THE NUMBER of these digits, no larger than the far one
unfoldable pub near_value : ℕ → List ℕ → Option ℕ
near_value base l = valued (maybe.map near (value_of base 0 l))
