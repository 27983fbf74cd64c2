-- How a record is put together. Assumes nothing.
use Prim.Native.Nat.{ℕ}
use mathlib.Core.Path.{◌≡◌, sym, ap}
use mathlib.Core.List.{List, ◌∷◌, ◌++◌}
use lib.ListN.{length, get_or}
use borrow.Rule.Slice.PartMut.{put_mid}
use Rattle.codec.specs.Word.{word}
use Rattle.codec.specs.Plain.{zeros}
use Rattle.telegram.proofs.Tests.{listed}
use Rattle.telegram_record.specs.Record.{words, packed}

-- what is carried, then the kind and the five fields before it
pub put_all : (kind n : ℕ) (fields seven a b c d e f g : List ℕ) → length fields ≡ 5 → a ≡ zeros 24 ++ n ∷ seven
    → b ≡ put_mid 0 4 a (word kind)
    → c ≡ put_mid 4 4 b (word (get_or fields 0 0)) → d ≡ put_mid 8 4 c (word (get_or fields 1 0)) → e ≡ put_mid 12 4 d (word (get_or fields 2 0))
    → f ≡ put_mid 16 4 e (word (get_or fields 3 0)) → g ≡ put_mid 20 4 f (word (get_or fields 4 0))
    → g ≡ packed kind fields n seven
unfolding packed words word
put_all kind n fields seven a b c d e f g five p0 p1 p2 p3 p4 p5 p6 =
    rw (p6, p5, p4, p3, p2, p1, p0) (ap (λ (l : List ℕ). packed kind l n seven) (sym (listed fields 5 five)))
