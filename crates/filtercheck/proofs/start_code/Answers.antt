-- `filtercheck::start_code` meets its contract: its tests are those of a start, in their order. Assumes nothing.
use Rattle.std.specs.Prelude.{if◌then◌else◌}
use mathlib.Core.Path.{◌≡◌, sym, ap, ap₂, ◌∙◌}
use mathlib.Core.Bool.{Bool, not, ◌&&◌, ◌||◌}
use Prim.Native.Nat.{ℕ, ◌/◌, ◌%◌}
use lib.Dec.{eqb, leb}
use borrow.Author.Tests.{le-leb, lt-leb}
use Rattle.codec.specs.Plain.{within}
use Rattle.machine.specs.Limits.{most_data, most_places}
use Rattle.machine.specs.Message.{bit, protocol_of, size_of, tx_flags_of, wide_of, takes}
use Rattle.machine.specs.Filter.{free}
use Rattle.machine.specs.Channel.{Open, filter_code}
use Rattle.filtercheck.proofs.Laws.{bad_protocol, good_shape, short_mask, short_pattern, bad_type, bad_protocol_law, bad_shape, last_test}
use Rattle.filtercheck.proofs.start_code.Goals as goal
use Rattle.filtercheck.proofs.start_code.Goals.{After-takes_width, After-word_at-2, Else-not-same-fits}

-- what the first tests say, and what the protocols are
protocols : (c : goal.After-word_at-2) → let a = c.args in
    (not (eqb c.word_at.result 5) || not (eqb c.word_at-2.result 5)) ≡ bad_protocol a.flags a.kind a.mask.now a.pattern.now a.place
unfolding protocol_of
protocols c = ap₂ (λ (x y : ℕ). not (eqb x 5) || not (eqb y 5)) c.word_at.ensures.0 c.word_at-2.ensures.0

-- what the records' shape is
shape : (c : goal.After-takes_width)
    → let a = c.args in
    ((eqb c.word_at-size.result c.word_at-3.result
    && eqb c.word_at-tx.result c.word_at-4.result)
    && (c.between-2.result && c.takes_width.result))
    ≡ good_shape a.flags a.kind a.mask.now a.pattern.now a.place
unfolding size_of tx_flags_of wide_of bit
shape c =
    let a = c.args in
    let size = c.word_at-size.ensures.0 in
    let tx = c.word_at-tx.ensures.0 in
    let within_is = c.between-2.ensures ∙ ap (within 1 most_data) size in
    let takes_is = c.takes_width.ensures ∙ ap (λ (x : ℕ). takes a.flags (eqb (x / 256 % 2) 1)) tx in
    λ i. (eqb (size i) (c.word_at-3.ensures.0 i) && eqb (tx i) (c.word_at-4.ensures.0 i)) && (within_is i && takes_is i)

-- the last test
last : (c : goal.Else-not-same-fits) → let a = c.args in
    (o : Open) → o.config.flags ≡ a.flags → free o.filters ≡ a.place → (if leb most_places a.place then 0x0C else 0x00) ≡ filter_code o a.kind a.mask.now a.pattern.now
unfolding protocol_of size_of tx_flags_of wide_of bit
last c =
    let a = c.args in
    let size = c.word_at-size.ensures.0 in
    let tx = c.word_at-tx.ensures.0 in
    let within_is = c.between-2.ensures ∙ ap (within 1 most_data) size in
    let takes_is = c.takes_width.ensures ∙ ap (λ (x : ℕ). takes a.flags (eqb (x / 256 % 2) 1)) tx in
    let kinds : (not (eqb c.word_at.result 5) || not (eqb c.word_at-2.result 5)) ≡ bad_protocol a.flags a.kind a.mask.now a.pattern.now a.place =
    ap₂ (λ (x y : ℕ). not (eqb x 5) || not (eqb y 5)) c.word_at.ensures.0 c.word_at-2.ensures.0 in
    let alike : ((eqb c.word_at-size.result c.word_at-3.result && eqb c.word_at-tx.result c.word_at-4.result) && (c.between-2.result && c.takes_width.result))
    ≡ good_shape a.flags a.kind a.mask.now a.pattern.now a.place =
    λ i. (eqb (size i) (c.word_at-3.ensures.0 i) && eqb (tx i) (c.word_at-4.ensures.0 i)) && (within_is i && takes_is i) in
    λ o ef ep.
    last_test a.flags a.kind a.mask.now a.pattern.now a.place o ef ep c.if-mask-lt-RECORD.false c.if-pattern-lt-RECORD.false
    (sym c.between.ensures ∙ c.if-not-between.false) (sym kinds ∙ c.if-word_at.false) (ap not (sym alike ∙ c.if-not-same-fits.false))

pub returns-then-mask-lt-RECORD : goal.returns-then-mask-lt-RECORD
returns-then-mask-lt-RECORD c =
    let a = c.args in
    λ o ef ep. short_mask a.flags a.kind a.mask.now a.pattern.now a.place o ef ep c.if-mask-lt-RECORD.true

pub returns-then-pattern-lt-RECORD : goal.returns-then-pattern-lt-RECORD
returns-then-pattern-lt-RECORD c =
    let a = c.args in
    λ o ef ep. short_pattern a.flags a.kind a.mask.now a.pattern.now a.place o ef ep c.if-mask-lt-RECORD.false c.if-pattern-lt-RECORD.true

pub returns-then-not-between : goal.returns-then-not-between
returns-then-not-between c =
    let a = c.args in
    λ o ef ep.
    bad_type a.flags a.kind a.mask.now a.pattern.now a.place o ef ep c.if-mask-lt-RECORD.false c.if-pattern-lt-RECORD.false
    (sym c.between.ensures ∙ c.if-not-between.true)

pub returns-then-word_at : goal.returns-then-word_at
returns-then-word_at c =
    let a = c.args in
    λ o ef ep.
    bad_protocol_law a.flags a.kind a.mask.now a.pattern.now a.place o ef ep c.if-mask-lt-RECORD.false c.if-pattern-lt-RECORD.false
    (sym c.between.ensures ∙ c.if-not-between.false) (sym (protocols (goal.at.returns-then-word_at c).After-word_at-2) ∙ c.if-word_at.true)

pub returns-then-not-same-fits : goal.returns-then-not-same-fits
returns-then-not-same-fits c =
    let a = c.args in
    λ o ef ep.
    bad_shape a.flags a.kind a.mask.now a.pattern.now a.place o ef ep c.if-mask-lt-RECORD.false c.if-pattern-lt-RECORD.false
    (sym c.between.ensures ∙ c.if-not-between.false) (sym (protocols (goal.at.returns-then-not-same-fits c).After-word_at-2) ∙ c.if-word_at.false)
    (ap not (sym (shape (goal.at.returns-then-not-same-fits c).After-takes_width) ∙ c.if-not-same-fits.true))

pub returns-then-place-ge-PLACES : goal.returns-then-place-ge-PLACES
returns-then-place-ge-PLACES c = λ o ef ep. ap (λ (b : Bool). if b then 0x0C else 0x00) (sym (le-leb _ _ c.if-place-ge-PLACES.true)) ∙ last (goal.at.returns-then-place-ge-PLACES c).Else-not-same-fits o ef ep

pub returns : goal.returns
returns c = λ o ef ep. ap (λ (b : Bool). if b then 0x0C else 0x00) (sym (lt-leb _ _ c.if-place-ge-PLACES.false)) ∙ last (goal.at.returns c).Else-not-same-fits o ef ep
