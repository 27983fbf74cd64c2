-- `stored_records::outgoing` meets its contract. Assumes nothing.
use Rattle.stored_records.specs.Held.{fields_of}
use mathlib.Core.Bool.{or-false}
use Rattle.layout.specs.Record.{outgoing, width_fits}
use Rattle.machine.specs.Limits.{data_in}
use Rattle.machine.specs.Message.{bit}
use Rattle.codec.specs.Plain.{member}
use lib.ListN.{drop}
use lib.Dec.{eqb}
use Prim.Native.Nat.{ℕ}
use mathlib.Core.List.{[], ◌∷◌}
use mathlib.Core.Bool.{Bool, not, ◌&&◌, ◌||◌}
use mathlib.Core.Path.{sym, ap, ◌∙◌}
use Rattle.stored_records.proofs.outgoing.Goals as goal

pub returns : goal.returns
unfolding outgoing fields_of member bit
returns c =
    let tx : ℕ = c.word_at-tx.result in
    let e = c.word_at-tx.ensures.0 in
    let width = ap (λ (b : Bool). eqb tx 0 || b) (sym (or-false (eqb tx 0x100))) ∙ ap (λ (t : ℕ). member t (0 ∷ 0x100 ∷ [])) e in
    let fits = c.width_fits.ensures ∙ ap (λ (t : ℕ). width_fits c.args.flags (bit 0x100 t) (drop data_in c.args.s.now)) e in
    λ j. eqb (c.word_at.ensures.0 j) 0 && width j && eqb (c.word_at-2.ensures.0 j) 0 && fits j && not (c.listens.ensures j)
