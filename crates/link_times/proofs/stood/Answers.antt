-- `link_times::stood` meets its contract: part by part, or the end. Assumes nothing.
use mathlib.Core.Path.{refl}
use Rattle.link_times.proofs.Stands.{out_lent, message_lost, message_ends, care_lent, test_lost, test_ends, stands_on}
use Rattle.link_times.proofs.stood.Goals as goal

pub out_later-requires : goal.out_later-requires
out_later-requires c =
    out_lent c.args.part.now c.requires.0 c.requires.1 c.args.us _ c.left_later.ensures _ c.space_later.ensures

pub end-requires : goal.end-requires
end-requires c =
    message_lost c.args.part.now c.requires.0 c.requires.1 c.args.us _ c.left_later.ensures _ c.space_later.ensures _ refl _ _ c.out_later.ensures c.if-not-out_later.true

pub returns-then-not-out_later : goal.returns-then-not-out_later
returns-then-not-out_later c =
    message_ends c.args.part.now c.requires.0 c.requires.1 c.args.us _ c.left_later.ensures _ c.space_later.ensures _ refl _ _ c.out_later.ensures c.if-not-out_later.true _ c.end.ensures

pub care_later-requires : goal.care_later-requires
care_later-requires c =
    care_lent c.args.part.now c.requires.0 c.requires.1 c.args.us _ c.left_later.ensures _ c.space_later.ensures _ refl _ _ c.out_later.ensures c.if-not-out_later.false

pub end-requires-then-not-care_later : goal.end-requires-then-not-care_later
end-requires-then-not-care_later c =
    test_lost c.args.part.now c.requires.0 c.requires.1 c.args.us _ c.left_later.ensures _ c.space_later.ensures _ refl _ _ c.out_later.ensures c.if-not-out_later.false _ _ c.care_later.ensures c.if-not-care_later.true

pub returns-then-not-care_later : goal.returns-then-not-care_later
returns-then-not-care_later c =
    test_ends c.args.part.now c.requires.0 c.requires.1 c.args.us _ c.left_later.ensures _ c.space_later.ensures _ refl _ _ c.out_later.ensures c.if-not-out_later.false _ _ c.care_later.ensures c.if-not-care_later.true _ c.end-then-not-care_later.ensures

pub returns-else-not-care_later : goal.returns-else-not-care_later
returns-else-not-care_later c =
    stands_on c.args.part.now c.requires.0 c.requires.1 c.args.us _ c.left_later.ensures _ c.space_later.ensures _ refl _ _ c.out_later.ensures c.if-not-out_later.false _ _ c.care_later.ensures c.if-not-care_later.false
