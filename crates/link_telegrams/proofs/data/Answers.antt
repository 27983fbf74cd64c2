-- `link_telegrams::data` meets its contract: the bytes are those of the next telegram. Assumes nothing.
use mathlib.Core.Path.{◌∙◌, sym, ap}
use Prim.Native.Nat.{ℕ, ◌+◌, ◌*◌, min}
use native.Mathlib.Omega.{arith}
use Rattle.telegram.specs.Telegram.{Telegram, fits, on_wire}
use Rattle.telegram_types.specs.Face.{channel_said}
use Rattle.link_telegrams.specs.Given.{given}
use Rattle.link_telegrams.proofs.Next.{telegram_is, telegram_fits, there, few, begins_inside}
use Rattle.link_telegrams.proofs.data.Goals as goal

pub end_of-requires : goal.end_of-requires
end_of-requires c =
    let f = few c.args.size c.args.s.now c.requires in
    let h = begins_inside c.args.size c.args.s.now c.requires in
    (omega (arith, c.wide-taken.ensures.0, c.word_at-n.ensures.0), omega (arith, c.word_at-n.ensures.0))

pub block_of-requires : goal.block_of-requires
block_of-requires c = let f = few c.args.size c.args.s.now c.requires in omega (arith, c.word_at-n.ensures.0)

pub telegrams-requires : goal.telegrams-requires
telegrams-requires c = let f = few c.args.size c.args.s.now c.requires in omega (arith, c.word_at-n.ensures.0)

pub slice_bounds-on_channel-count : goal.slice_bounds-on_channel-count
slice_bounds-on_channel-count c =
    let f = few c.args.size c.args.s.now c.requires in
    let h = begins_inside c.args.size c.args.s.now c.requires in
    omega (arith, c.wide-taken.ensures.0, c.word_at-n.ensures.0, c.end_of.ensures)

pub slice_bounds-on_channel-start : goal.slice_bounds-on_channel-start
slice_bounds-on_channel-start c =
    let f = few c.args.size c.args.s.now c.requires in
    let h = begins_inside c.args.size c.args.s.now c.requires in
    omega (arith, c.wide-taken.ensures.0, c.word_at-n.ensures.0, c.end_of.ensures)

pub slice_bounds-on_channel-end : goal.slice_bounds-on_channel-end
slice_bounds-on_channel-end c =
    let f = few c.args.size c.args.s.now c.requires in
    let h = begins_inside c.args.size c.args.s.now c.requires in
    omega (arith, c.wide-taken.ensures.0, c.word_at-n.ensures.0, c.end_of.ensures, c.requires.long)

pub on_channel-requires : goal.on_channel-requires
unfolding channel_said
on_channel-requires c =
    let s = there c.args.size c.args.s.now c.requires in
    ap fits (telegram_is c.args.size c.args.s.now c.requires s.0 s.1 c.args.sn c.wide.result c.wide-taken.result c.telegrams.result c.block_of.result c.end_of.result c.wide.ensures.0 c.wide-taken.ensures.0
    (λ rest e. c.block_of.ensures.0 rest (e ∙ sym c.word_at-n.ensures.0)) (λ rest e. c.telegrams.ensures.0 rest (e ∙ sym c.word_at-n.ensures.0))
    (c.end_of.ensures ∙ ap (λ (n : ℕ). min (7 * c.wide-taken.result + 7) n) c.word_at-n.ensures.0))
    ∙ telegram_fits c.args.size c.args.s.now c.requires s.0 s.1 c.args.sn

pub returns : goal.returns
unfolding channel_said
returns c =
    λ b e.
    c.on_channel.ensures
    ∙ ap (λ (x : Telegram). given c.args.id (on_wire x)) (telegram_is c.args.size c.args.s.now c.requires b e c.args.sn c.wide.result c.wide-taken.result c.telegrams.result c.block_of.result c.end_of.result c.wide.ensures.0 c.wide-taken.ensures.0
    (λ rest e. c.block_of.ensures.0 rest (e ∙ sym c.word_at-n.ensures.0)) (λ rest e. c.telegrams.ensures.0 rest (e ∙ sym c.word_at-n.ensures.0))
    (c.end_of.ensures ∙ ap (λ (n : ℕ). min (7 * c.wide-taken.result + 7) n) c.word_at-n.ensures.0))
