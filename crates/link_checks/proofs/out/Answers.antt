use mathlib.Core.Path.{sym, ◌∙◌}
use mathlib.Core.Bool.{true, ◌&&◌}
use lib.ListN.{get_or}
use lib.Dec.{eqb}
use Rattle.codec.proofs.Lists.{bytes_of_law}
use Rattle.link_checks.specs.Tagged.{by_tag}
use Rattle.link_checks.proofs.Parts.{out_over, out_good}
use Rattle.link_checks.proofs.out.Goals as goal

pub returns-then-not-store : goal.returns-then-not-store
returns-then-not-store c = let m = c.args.s.now in out_over m (bytes_of_law m (λ i. (c.shared_slice_known-1.given i).fits)) c.requires (sym c.if-not-store.true ∙ c.store.ensures)

pub returns : goal.returns
returns c =
    let m = c.args.s.now in
    let w = c.word_at-still.ensures in
    let n = c.word_at.ensures.0 in
    c.by_tag.ensures
    ∙ (λ j. by_tag (get_or m 0 0) (eqb (w.0 j) 0 && (eqb (get_or m 5 0) 0 && eqb (get_or m 6 0) 0 && eqb (get_or m 7 0) 0 && eqb (n j) 0)) (eqb (w.0 j) 0) true)
    ∙ out_good m w.1 c.requires (sym c.if-not-store.false ∙ c.store.ensures)
