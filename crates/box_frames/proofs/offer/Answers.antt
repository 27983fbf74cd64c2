-- `box_frames::offer` meets its contract. Assumes nothing.
use Rattle.iso_frames.proofs.Region.{short_frame, small_id}
use Rattle.box_frames.proofs.Laws.{not_closed, offer_closed, offer_open}
use Rattle.box_frames.proofs.offer.Goals as goal

pub meet-requires : goal.meet-requires
meet-requires c =
    (not_closed _ c.requires.0 c.requires.1 c.if-r-eq0.false, short_frame _ _ _ c.requires.2, small_id _ _ _ c.requires.2)

pub returns : goal.returns
returns c =
    offer_open _ c.requires.0 c.requires.1 _ _ _ _ c.requires.2 (not_closed _ c.requires.0 c.requires.1 c.if-r-eq0.false) _ c.meet.ensures

pub returns-then-r-eq0 : goal.returns-then-r-eq0
returns-then-r-eq0 c = offer_closed _ c.requires.0 c.requires.1 _ _ _ _ c.if-r-eq0.true
