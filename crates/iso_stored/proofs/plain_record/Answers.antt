-- `iso_stored::plain_record` meets its contract. Assumes nothing.
use Rattle.iso_stored.proofs.Records.{rec_small, rec_large, rec_good}
use Rattle.machine.specs.Limits.{data_in}
use Rattle.iso.specs.Limits.{iso_protocol}
use Rattle.iso_layout.specs.Record.{extra_is}
use Rattle.codec.specs.Word.{word_at}
use native.Mathlib.Omega.{arith}
use lib.ListN.{length}
use lib.Dec.{eqb}
use Prim.Native.Nat.{ℕ, ◌+◌, ◌-◌}
use mathlib.Core.List.{List}
use mathlib.Core.Bool.{◌&&◌}
use mathlib.Core.Path.{ap, ◌∙◌, refl}
use Rattle.iso_stored.proofs.plain_record.Goals as goal

pub returns-then-size-lt-ID_SIZE : goal.returns-then-size-lt-ID_SIZE
returns-then-size-lt-ID_SIZE c = let w = c.word_at-size.ensures in
    rec_small c.args.s.now c.requires w.1 (omega arith)

pub returns-then-size-gt-MOST_DATA : goal.returns-then-size-gt-MOST_DATA
returns-then-size-gt-MOST_DATA c = let w = c.word_at-size.ensures in
    rec_large c.args.s.now c.requires w.1 (omega arith)

pub returns : goal.returns
returns c = let s : List ℕ = c.args.s.now in
    let w = c.word_at-size.ensures in
    let n : ℕ = c.word_at-size.result in
    let e = c.extra.ensures ∙ ap (λ (rx : ℕ). extra_is rx n) c.word_at-3.ensures.0 in
    (λ j. eqb (c.word_at.ensures.0 j) iso_protocol && eqb (c.word_at-2.ensures.0 j) (e j) && c.all_zero.ensures j)
    ∙ rec_good s c.requires w.1 n (data_in + n) (length s - (data_in + n)) w.0 (omega arith) (omega arith) refl (omega arith)
