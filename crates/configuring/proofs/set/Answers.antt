-- `configuring::set` meets its contract. Assumes nothing.
use mathlib.Core.Path.{sym, ◌∙◌}
use Rattle.configuring.proofs.Laws.{set_rate_bad, set_rate, set_mark_bad, set_mark, set_unknown}
use Rattle.configuring.proofs.set.Goals as goal

pub returns-then-not-is_rate : goal.returns-then-not-is_rate
returns-then-not-is_rate c =
    set_rate_bad c.args.c.now c.requires c.args.rates.now _ _ c.if-parameter-eq1.true (sym c.is_rate.ensures ∙ c.if-not-is_rate.true)

pub returns-then-parameter-eq1 : goal.returns-then-parameter-eq1
returns-then-parameter-eq1 c =
    set_rate c.args.c.now c.requires c.args.rates.now _ _ _ c.if-parameter-eq1.true (sym c.is_rate.ensures ∙ c.if-not-is_rate.false) c.put_word.ensures

pub returns-then-value-gt1 : goal.returns-then-value-gt1
returns-then-value-gt1 c =
    set_mark_bad c.args.c.now c.requires c.args.rates.now _ _ c.if-parameter-eq3.true c.if-value-gt1.true

pub returns-then-parameter-eq3 : goal.returns-then-parameter-eq3
returns-then-parameter-eq3 c =
    set_mark c.args.c.now c.requires c.args.rates.now _ _ c.if-parameter-eq3.true c.if-value-gt1.false

pub returns : goal.returns
returns c =
    set_unknown c.args.c.now c.requires c.args.rates.now _ _ c.if-parameter-eq1.false c.if-parameter-eq3.false
