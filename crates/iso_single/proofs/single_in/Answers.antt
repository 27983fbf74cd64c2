-- `iso_single::single_in` meets its contract: numbers read, bytes copied. Assumes nothing.
use mathlib.Core.Path.{ap}
use Prim.Native.Nat.{ℕ, ◌-◌}
use native.Mathlib.Omega.{arith}
use Rattle.iso_single.proofs.Single.{flight_long, size_least, size_most, single_read}
use Rattle.iso_single.proofs.single_in.Goals as goal

pub word_at-requires : goal.word_at-requires
word_at-requires c = omega (arith, flight_long c.requires.0)

pub overflow_sub-size : goal.overflow_sub-size
overflow_sub-size c = omega (arith, c.word_at.ensures.0, size_least c.requires.0)

pub slice_bounds-copy-end : goal.slice_bounds-copy-end
slice_bounds-copy-end c = omega (arith, c.word_at.ensures.0, size_most c.requires.0, c.requires.1)

pub slice_bounds-copy-end-2 : goal.slice_bounds-copy-end-2
slice_bounds-copy-end-2 c = omega (arith, c.word_at.ensures.0, size_most c.requires.0, flight_long c.requires.0)

pub word_at-tx-requires : goal.word_at-tx-requires
word_at-tx-requires c = omega (arith, flight_long c.requires.0)

pub id_at-id-requires : goal.id_at-id-requires
id_at-id-requires c = omega (arith, flight_long c.requires.0)

pub returns : goal.returns
returns c =
    let size = c.word_at in
    let copied = c.copy in (
      λ s.
          single_read s c.word_at-tx.result c.id_at-id.result (size.result - 5) copied.new.d _ c.word_at-tx.ensures.0 c.id_at-id.ensures (ap (λ (k : ℕ). k - 5) size.ensures.0) copied.ensures,
      omega (arith, size.ensures.0, size_most c.requires.0),
    )
