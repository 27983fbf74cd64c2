-- `link_telling::told` meets its contract: no telegram, one of another sort, or one on the channel. Assumes nothing.
use mathlib.Core.Path.{◌≡◌, ap, ◌∙◌}
use mathlib.Core.Option.{some}
use mathlib.Core.List.{List}
use Prim.Native.Nat.{ℕ}
use lib.ListN.{length}
use Rattle.telegram.specs.Telegram.{read_channel}
use Rattle.telegram_types.specs.Face.{said, channel_said}
use Rattle.telegram_types.proofs.Reading.{channel_read, channel_unread}
use Rattle.link_layout.specs.Connection.{connection_part}
use Rattle.link_telling.specs.Telling.{heeds}
use Rattle.link_telling.proofs.Read.{few, carried_few, whole_part, by_read}
use Rattle.link_telling.proofs.Turns.{ignored}
use borrow.Author.Rules.{rules}
use Rattle.link_telling.proofs.told.Goals as goal

pub returns-in_default : goal.returns-in_default
returns-in_default c =
    let m = c.args.part.now in
    let b = c.args.bytes.now in
    by_read b m _ (channel_unread c.in_default.field-0 (read_channel b) c.in_default.ensures) _ (ignored m c.requires.0 c.requires.1)

pub slice_bounds-tell-end : goal.slice_bounds-tell-end
slice_bounds-tell-end c = few c.in-Ok.answer _ c.in-Ok.ensures

pub tell-requires : goal.tell-requires
tell-requires c =
    let a = c.in-Ok.answer in
    let seven : length a.payload ≡ 7 = search rules in
    (c.requires.0, c.requires.1, carried_few a.len a.payload (few a _ c.in-Ok.ensures) seven)

pub returns-in-Opening : goal.returns-in-Opening
unfolding said
returns-in-Opening c =
    let m = c.args.part.now in
    let b = c.args.bytes.now in
    by_read b m _ (channel_read c.in-Ok.answer (read_channel b) c.in-Ok.ensures _ c.in-Opening.is) _ (ignored m c.requires.0 c.requires.1)

pub returns-in-Channel : goal.returns-in-Channel
unfolding said
returns-in-Channel c =
    let m = c.args.part.now in
    let a = c.in-Ok.answer in
    let b = c.args.bytes.now in
    by_read b m _ (channel_read a (read_channel b) c.in-Ok.ensures _ c.in-Channel.is) _
    (c.tell.ensures ∙ ap (λ (x : List ℕ). connection_part.put (heeds (some (channel_said c.in-Channel.t x)) (connection_part.get m))) (whole_part a.len a.payload))
