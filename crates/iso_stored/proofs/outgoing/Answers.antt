-- `iso_stored::outgoing` meets its contract. Assumes nothing.
use Rattle.iso_stored.proofs.Records.{outgoing_is}
use Rattle.layout.specs.Record.{width_fits}
use Rattle.machine.specs.Limits.{data_in}
use Rattle.machine.specs.Message.{bit}
use Rattle.iso.specs.Limits.{least_message}
use Rattle.codec.specs.Plain.{member, within}
use lib.ListN.{drop}
use lib.Dec.{eqb}
use Prim.Native.Nat.{ℕ}
use mathlib.Core.List.{List, [], ◌∷◌}
use mathlib.Core.Bool.{Bool, ◌&&◌, ◌||◌, or-false}
use mathlib.Core.Path.{sym, ap, ◌∙◌}
use Rattle.iso_stored.proofs.outgoing.Goals as goal

pub returns : goal.returns
unfolding member within bit
returns c = let s : List ℕ = c.args.s.now in
    let tx : ℕ = c.word_at-tx.result in
    let e = c.word_at-tx.ensures.0 in
    let width = ap (λ (b : Bool). eqb tx 0 || b) (sym (or-false (eqb tx 0x100))) ∙ ap (λ (t : ℕ). member t (0 ∷ 0x100 ∷ [])) e in
    let fits = c.width_fits.ensures ∙ ap (λ (t : ℕ). width_fits c.args.flags (bit 0x100 t) (drop data_in s)) e in
    (λ j.
    eqb (c.word_at.ensures.0 j) 0 && width j && eqb (c.word_at-2.ensures.0 j) 0 && within least_message c.args.most (c.word_at-size.ensures.0 j)
    && fits j)
    ∙ outgoing_is s c.requires.long c.word_at-tx.ensures.1 c.requires.valid c.args.flags c.args.most
