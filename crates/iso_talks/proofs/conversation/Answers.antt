-- `iso_talks::conversation` meets its contract. Assumes nothing.
use Rattle.iso_talks.proofs.Places.{talk_flat}
use Rattle.iso_layout.specs.Sizes.{transfer_in}
use lib.ListN.{get_or}
use lib.Dec.{eqb, leb}
use Prim.Native.Nat.{ℕ}
use mathlib.Core.List.{List}
use mathlib.Core.Bool.{◌&&◌, ◌||◌, not}
use mathlib.Core.Path.{◌∙◌}
use Rattle.iso_talks.proofs.conversation.Goals as goal

pub returns : goal.returns
returns c = let t : List ℕ = c.args.t.now in
    let p = c.word_at-pattern.ensures.0 in
    let f = c.word_at-flow.ensures.0 in
    let k : ℕ = get_or t transfer_in 0 in
    (λ j.
    leb (get_or t 1 0) 1 && c.transfer.ensures j
    && (c.takes_width.ensures j && leb (p j) (c.id_limit.ensures j) && leb (f j) (c.id_limit-2.ensures j) && not (eqb (p j) (f j) && (eqb k 1 || eqb k 2))))
    ∙ talk_flat t c.args.flags c.word_at-pattern.ensures.1
