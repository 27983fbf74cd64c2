-- `message::put_bytes` meets its contract: six numbers, then the data and zeros. Assumes nothing.
use mathlib.Core.Path.{refl, ap, ◌∙◌}
use native.Mathlib.Omega.{arith}
use Rattle.machine.specs.Message.{size_of, width_flag}
use Rattle.message.proofs.Laws.{data_fits_law, bytes_put}
use Rattle.message.proofs.put_bytes.Goals as goal

pub slice_bounds-put_padded-end-2 : goal.slice_bounds-put_padded-end-2
unfolding size_of
slice_bounds-put_padded-end-2 c = omega (arith, c.word_at-size.ensures.0)

pub put_padded-requires : goal.put_padded-requires
unfolding size_of
put_padded-requires c =
    let size = c.word_at-size in
    let head = c.put_numbers in
    data_fits_law _ c.args.cell.now head.new.h c.args.m.now _ _ size.result c.requires.0 (omega (arith, size.ensures.0, c.requires.1)) head.ensures refl

pub returns : goal.returns
unfolding size_of
returns c =
    let size = c.word_at-size in
    let flag = c.width_flag-tx in
    let head = c.put_numbers in
    let tail = c.put_padded in
    bytes_put _ c.args.cell.now head.new.h tail.new.d c.args.m.now _ flag.result size.result c.requires.0 (omega (arith, size.ensures.0, c.requires.1))
    (flag.ensures ∙ ap width_flag c.is_wide.ensures) size.ensures.0 head.ensures refl tail.ensures
