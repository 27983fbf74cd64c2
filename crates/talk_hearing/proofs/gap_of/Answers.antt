use Rattle.talk_hearing.proofs.Laws.{gap_ms, gap_low, gap_us, gap_high}
use Rattle.talk_hearing.proofs.gap_of.Goals as goal

pub returns-then-v-le-MOST_MS : goal.returns-then-v-le-MOST_MS
returns-then-v-le-MOST_MS c = gap_ms _ c.if-v-le-MOST_MS.true

pub returns-then-v-le-NO_US : goal.returns-then-v-le-NO_US
returns-then-v-le-NO_US c = gap_low _ c.if-v-le-MOST_MS.false c.if-v-le-NO_US.true

pub returns-then-v-le-MOST_US : goal.returns-then-v-le-MOST_US
returns-then-v-le-MOST_US c = gap_us _ c.if-v-le-NO_US.false c.if-v-le-MOST_US.true

pub returns : goal.returns
returns c = gap_high _ c.if-v-le-MOST_US.false
