-- `iso_sending::oldest` meets its contract: numbers read, bytes copied. Assumes nothing.
use mathlib.Core.Path.{ap}
use Prim.Native.Nat.{ℕ, ◌-◌}
use native.Mathlib.Omega.{arith}
use Rattle.iso_sending.proofs.Reading.{held_long, size_least, size_most, oldest_read}
use Rattle.iso_sending.proofs.oldest.Goals as goal

pub word_at-requires : goal.word_at-requires
word_at-requires c = omega (arith, held_long c.requires.0)

pub overflow_sub-size : goal.overflow_sub-size
overflow_sub-size c = omega (arith, c.word_at.ensures.0, size_least c.requires.0)

pub slice_bounds-copy-end : goal.slice_bounds-copy-end
slice_bounds-copy-end c = omega (arith, c.word_at.ensures.0, size_most c.requires.0, c.requires.1)

pub slice_bounds-copy-end-2 : goal.slice_bounds-copy-end-2
slice_bounds-copy-end-2 c = omega (arith, c.word_at.ensures.0, size_most c.requires.0, held_long c.requires.0)

pub word_at-requires-2 : goal.word_at-requires-2
word_at-requires-2 c = omega (arith, held_long c.requires.0)

pub id_at-id-requires : goal.id_at-id-requires
id_at-id-requires c = omega (arith, held_long c.requires.0)

pub returns : goal.returns
returns c =
    let size = c.word_at in
    let copied = c.copy in (
      λ h.
          oldest_read h c.word_at-2.result c.id_at-id.result (size.result - 4) copied.new.d _ c.word_at-2.ensures.0 c.id_at-id.ensures (ap (λ (k : ℕ). k - 4) size.ensures.0) copied.ensures,
      omega (arith, size.ensures.0, size_least c.requires.0),
      omega (arith, size.ensures.0, size_most c.requires.0),
    )
