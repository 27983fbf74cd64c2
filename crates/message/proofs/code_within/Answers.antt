-- `message::code_within` meets its contract: the table of checks, test by test. Assumes nothing.
use mathlib.Core.Path.{◌≡◌, refl, sym, ap, ap₂, ◌∙◌}
use mathlib.Core.Bool.{true}
use Prim.Native.Nat.{◌≤◌}
use lib.Dec.{eqb, ltb}
use native.Mathlib.Omega.{arith}
use borrow.Author.Tests.{eq-eqb, ne_eqb, lt-ltb, le-ltb}
use Rattle.codec.specs.Plain.{within}
use Rattle.codec.specs.Word.{word_at}
use Rattle.codec.proofs.Tests.{below, above, between}
use Rattle.machine.specs.Limits.{size_in}
use Rattle.machine.specs.Message.{takes, wide_of, data_of, id_of, id_limit}
use Rattle.message.proofs.Laws.{checks, id_of_data}
use Rattle.message.proofs.code_within.Goals as goal
use Rattle.message.proofs.code_within.Goals.{Else-not-takes_width, Else-size-most, Else-word_at-protocol}

-- what is known behind each test that has failed
can : (c : goal.Else-word_at-protocol) → eqb (word_at 0 c.args.m.now) c.args.protocol ≡ true
can c = eq-eqb _ _ (sym c.word_at.ensures.0 ∙ c.if-word_at-protocol.false)

sized : (c : goal.Else-size-most) → within c.args.least c.args.most (word_at size_in c.args.m.now) ≡ true
sized c = between _ _ _ ((let told : c.args.least ≤ word_at size_in c.args.m.now = omega (arith, c.word_at-size.ensures.0) in told)) (omega (arith, c.word_at-size.ensures.0))

fits : (c : goal.Else-not-takes_width) → takes c.args.flags (wide_of c.args.m.now) ≡ true
fits c = sym ((let told : c.takes_width.result ≡ takes c.args.flags (wide_of c.args.m.now) = c.takes_width.ensures ∙ ap (takes c.args.flags) c.is_wide-wide.ensures in told)) ∙ c.if-not-takes_width.false

pub returns-then-word_at-protocol : goal.returns-then-word_at-protocol
returns-then-word_at-protocol c =
    let args = c.args in
    checks args.protocol args.least args.most args.flags args.m.now (ne_eqb _ _ (λ e. c.if-word_at-protocol.true (c.word_at.ensures.0 ∙ e))) refl refl refl

pub returns-then-size-least : goal.returns-then-size-least
returns-then-size-least c =
    let args = c.args in
    checks args.protocol args.least args.most args.flags args.m.now (can (goal.at.returns-then-size-least c).Else-word_at-protocol) (below _ _ _ (omega (arith, c.word_at-size.ensures.0))) refl refl

pub returns-then-size-most : goal.returns-then-size-most
returns-then-size-most c =
    let args = c.args in
    checks args.protocol args.least args.most args.flags args.m.now (can (goal.at.returns-then-size-most c).Else-word_at-protocol) (above _ _ _ (omega (arith, c.word_at-size.ensures.0))) refl refl

pub returns-then-not-takes_width : goal.returns-then-not-takes_width
returns-then-not-takes_width c =
    let args = c.args in
    checks args.protocol args.least args.most args.flags args.m.now (can (goal.at.returns-then-not-takes_width c).Else-word_at-protocol) (sized (goal.at.returns-then-not-takes_width c).Else-size-most) (sym ((let told : c.takes_width.result ≡ takes c.args.flags (wide_of c.args.m.now) = c.takes_width.ensures ∙ ap (takes c.args.flags) c.is_wide-wide.ensures in told)) ∙ c.if-not-takes_width.true) refl

pub returns-then-id_limit-id_at : goal.returns-then-id_limit-id_at
returns-then-id_limit-id_at c =
    let args = c.args in
    checks args.protocol args.least args.most args.flags args.m.now (can (goal.at.returns-then-id_limit-id_at c).Else-word_at-protocol) (sized (goal.at.returns-then-id_limit-id_at c).Else-size-most) (fits (goal.at.returns-then-id_limit-id_at c).Else-not-takes_width) (sym ((let told : ltb c.id_limit.result c.id_at.result ≡ ltb (id_limit (wide_of c.args.m.now)) (id_of (data_of c.args.m.now)) = ap₂ ltb (c.id_limit.ensures ∙ ap id_limit c.is_wide-wide.ensures) (c.id_at.ensures ∙ sym (id_of_data _ (omega (arith, (let told : c.args.least ≤ word_at size_in c.args.m.now = omega (arith, c.word_at-size.ensures.0) in told), c.requires.1)))) in told)) ∙ lt-ltb _ _ c.if-id_limit-id_at.true)

pub returns : goal.returns
returns c =
    let args = c.args in
    checks args.protocol args.least args.most args.flags args.m.now (can (goal.at.returns c).Else-word_at-protocol) (sized (goal.at.returns c).Else-size-most) (fits (goal.at.returns c).Else-not-takes_width) (sym ((let told : ltb c.id_limit.result c.id_at.result ≡ ltb (id_limit (wide_of c.args.m.now)) (id_of (data_of c.args.m.now)) = ap₂ ltb (c.id_limit.ensures ∙ ap id_limit c.is_wide-wide.ensures) (c.id_at.ensures ∙ sym (id_of_data _ (omega (arith, (let told : c.args.least ≤ word_at size_in c.args.m.now = omega (arith, c.word_at-size.ensures.0) in told), c.requires.1)))) in told)) ∙ le-ltb _ _ c.if-id_limit-id_at.false)
