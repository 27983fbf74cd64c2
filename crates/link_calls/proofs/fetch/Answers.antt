use mathlib.Core.Path.{◌≡◌, ap, sym, ◌∙◌}
use Prim.Native.Nat.{ℕ, ◌+◌, ◌-◌}
use mathlib.Core.List.{◌++◌}
use lib.ListN.{length, take, drop}
use native.Mathlib.Omega.{arith}
use Rattle.link_layout.proofs.Places.{held}
use Rattle.link_calls.proofs.Laws.{whole_there, store_valid, store_got, bytes_are, hear_valid, fetches}
use Rattle.link_calls.proofs.fetch.Goals as goal

pub count-n-requires : goal.count-n-requires
count-n-requires c =
    let m = c.args.part.now in
    let p = c.requires.0 in
    let w = whole_there (held m p) c.requires.1 in
    store_valid m p w.0 w.1.0 w.1.1.0 w.1.1.1.0

pub slice_bounds-copy-end : goal.slice_bounds-copy-end
slice_bounds-copy-end c =
    let m = c.args.part.now in
    let p = c.requires.0 in
    let w = whole_there (held m p) c.requires.1 in
    let n = c.count-n.ensures.0 ∙ ap length (store_got m p w.0 w.1.0 w.1.1.0 w.1.1.1.0 ∙ sym w.1.1.1.1) in omega (arith, n, c.requires.2)

pub empty-requires : goal.empty-requires
empty-requires c =
    let m = c.args.part.now in
    let p = c.requires.0 in
    let w = whole_there (held m p) c.requires.1 in
    hear_valid m p w.0 w.1.0 w.1.1.0 w.1.1.1.0

pub returns : goal.returns
returns c =
    let m = c.args.part.now in
    let p = c.requires.0 in
    let w = whole_there (held m p) c.requires.1 in
    let n = c.count-n.ensures.0 ∙ ap length (store_got m p w.0 w.1.0 w.1.1.0 w.1.1.1.0) in
    let j : 579 + c.count-n.result - 579 ≡ c.count-n.result = omega arith in
    let z : c.count-n.result - 0 ≡ c.count-n.result = omega arith in
    let b = c.copy.ensures ∙ ap (λ (k : ℕ). take k (drop 579 m)) j ∙ bytes_are m p w.0 w.1.0 w.1.1.0 w.1.1.1.0 _ n in
    ((λ i. (b ∙ sym w.1.1.1.1) i ++ drop ((z ∙ n ∙ ap length (sym w.1.1.1.1)) i) c.args.buffer.now), fetches m p w.0 w.1.0 w.1.1.0 w.1.1.1.0 _ c.empty.ensures)
