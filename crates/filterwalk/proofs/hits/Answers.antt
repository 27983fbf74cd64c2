-- `filterwalk::hits` meets its contract. The outer loop's invariant: the places below f are looked at; the inner one's: each byte below b of the filter at f fits. Assumes nothing.
use mathlib.Core.Path.{refl, ◌∙◌}
use mathlib.Core.List.{[]}
use Prim.Native.Nat.{◌<◌}
use native.Mathlib.Omega.{arith}
use lib.ListN.{get_or}
use borrow.Author.Rules.{rules}
use borrow.Author.Tests.{eq-eqb, ne_eqb, not-true, not-false}
use Rattle.codec.specs.Plain.{all_below}
use Rattle.machine.specs.Limits.{most_places}
use Rattle.filterwalk.proofs.Looks.{all_more, looked_none, looked_end, other_type, other_width, too_long, other_byte, all_bytes, fits_first, longer, not_longer}
use Rattle.filterwalk.proofs.hits.Goals as goal

pub filters-init : goal.filters-init
filters-init c = looked_none _ _ _ _ _ _

pub filters-preserved-then-heads-f : goal.filters-preserved-then-heads-f
filters-preserved-then-heads-f c =
    let l = c.filters in
    let h : l.f < most_places = search rules in
    other_type _ _ _ _ _ _ l.f h l.invariant (c.requires.0.kinds l.f h) c.requires.1 c.requires.2 c.if-heads-f.true

pub filters-preserved-then-wide-heads : goal.filters-preserved-then-wide-heads
filters-preserved-then-wide-heads c =
    let l = c.filters in
    other_width _ _ _ _ _ _ l.f (search rules) l.invariant c.requires.1 c.if-heads-f.false (not-true _ c.if-wide-heads.true)

pub filters-preserved-then-size-len : goal.filters-preserved-then-size-len
filters-preserved-then-size-len c =
    let l = c.filters in
    too_long _ _ _ _ _ _ l.f (search rules) l.invariant c.requires.1 c.if-heads-f.false (longer _ c.args.len c.args.frame.now c.requires.3 c.if-size-len.true)

pub loop-b-init : goal.loop-b-init
unfolding all_below
loop-b-init c = (c.requires.0.sizes c.filters.f (search rules), refl)

pub filters-preserved : goal.filters-preserved
filters-preserved c =
    let l = c.filters in
    let i = c.loop-b in
    let low : i.b < c.args.len = omega (arith, c.if-size-len.false) in
    other_byte _ _ _ _ _ _ l.f (search rules) l.invariant c.requires.1 c.if-heads-f.false i.b (search rules)
    (fits_first c.args.len c.args.frame.now (get_or c.args.masks.now l.f []) (get_or c.args.patterns.now l.f []) i.b low
    ∙ ne_eqb _ _ c.if-frame-b.true)

pub loop-b-preserved : goal.loop-b-preserved
loop-b-preserved c =
    let l = c.filters in
    let i = c.loop-b in
    let low : i.b < c.args.len = omega (arith, c.if-size-len.false) in
    let fits =
    fits_first c.args.len c.args.frame.now (get_or c.args.masks.now l.f []) (get_or c.args.patterns.now l.f []) i.b low
    ∙ eq-eqb _ _ c.if-frame-b.false in
    (i.invariant.0, all_more _ _ i.invariant.1 fits)

pub returns-in-filters : goal.returns-in-filters
returns-in-filters c =
    let l = c.filters in
    let i = c.loop-b in
    all_bytes _ _ _ _ _ _ l.f (search rules) l.invariant c.requires.1 c.if-heads-f.false i.b (not-false _ c.if-wide-heads.false)
    (not_longer _ c.args.len c.args.frame.now c.requires.3 c.if-size-len.false) (search rules) i.invariant.1

pub returns : goal.returns
returns c =
    looked_end _ _ _ _ _ _ c.requires.1 c.requires.2 _ c.args.end c.filters.invariant (search rules) c.requires.5
