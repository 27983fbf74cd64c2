-- `stored_records::incoming` meets its contract. Assumes nothing.
use Rattle.stored_records.specs.Held.{fields_of}
use mathlib.Core.Bool.{or-false}
use Rattle.layout.specs.Record.{incoming, width_fits}
use Rattle.machine.specs.Limits.{data_in}
use Rattle.machine.specs.Message.{bit}
use Rattle.codec.specs.Plain.{member}
use lib.ListN.{drop}
use lib.Dec.{eqb}
use Prim.Native.Nat.{ℕ}
use mathlib.Core.List.{[], ◌∷◌}
use mathlib.Core.Bool.{Bool, ◌&&◌, ◌||◌}
use mathlib.Core.Path.{sym, ap, ◌∙◌}
use Rattle.stored_records.proofs.incoming.Goals as goal

pub returns : goal.returns
unfolding incoming fields_of member bit
returns c = let rx : ℕ = c.word_at-rx.result in
    let e = c.word_at-rx.ensures.0 in
    let status = ap (λ (b : Bool). eqb rx 0 || (eqb rx 1 || (eqb rx 0x100 || b))) (sym (or-false (eqb rx 0x101))) ∙ ap (λ (t : ℕ). member t (0 ∷ 1 ∷ 0x100 ∷ 0x101 ∷ [])) e in
    let fits = c.width_fits.ensures ∙ ap (λ (t : ℕ). width_fits c.args.flags (bit 0x100 t) (drop data_in c.args.s.now)) e in
    λ j. status j && eqb (c.word_at.ensures.0 j) 0 && fits j
