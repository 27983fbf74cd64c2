-- What a tag of 0, 1 or 2 chooses of three answers; no other is one. Assumes nothing.
use Rattle.std.specs.Prelude.{ℕ, zero, suc, Bool, false}

unfoldable pub by_tag : ℕ → Bool → Bool → Bool → Bool
by_tag zero a b c = a
by_tag (suc zero) a b c = b
by_tag (suc (suc zero)) a b c = c
by_tag (suc (suc (suc k))) a b c = false
