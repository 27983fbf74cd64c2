-- `iso_stored::incoming` meets its contract. Assumes nothing.
use Rattle.std.specs.Prelude.{if◌then◌else◌}
use Rattle.iso_stored.proofs.Records.{incoming_is, chosen}
use Rattle.layout.specs.Record.{width_fits}
use Rattle.machine.specs.Limits.{data_in}
use Rattle.machine.specs.Message.{bit}
use Rattle.iso.specs.Limits.{id_size, least_message}
use Rattle.iso_layout.specs.Record.{indication}
use Rattle.codec.specs.Plain.{member}
use lib.ListN.{drop}
use lib.Dec.{eqb, leb}
use Prim.Native.Nat.{ℕ}
use mathlib.Core.List.{List, [], ◌∷◌}
use mathlib.Core.Bool.{Bool, ◌&&◌, ◌||◌, or-false}
use mathlib.Core.Path.{sym, ap, ap₂, ◌∙◌}
use Rattle.iso_stored.proofs.incoming.Goals as goal

pub returns : goal.returns
unfolding member bit
returns c = let s : List ℕ = c.args.s.now in
    let rx : ℕ = c.word_at-rx.result in
    let n : ℕ = c.word_at-size.result in
    let e = c.word_at-rx.ensures.0 in
    let status =
    ap (λ (b : Bool). eqb rx 0 || (eqb rx 1 || (eqb rx 2 || (eqb rx 9 || (eqb rx 0x100 || (eqb rx 0x101 || (eqb rx 0x102 || b))))))) (sym (or-false (eqb rx 0x109)))
    ∙ ap (λ (t : ℕ). member t (0 ∷ 1 ∷ 2 ∷ 9 ∷ 0x100 ∷ 0x101 ∷ 0x102 ∷ 0x109 ∷ [])) e in
    let long =
    chosen c.indication-alone.result (eqb n id_size) (leb least_message n)
    ∙ ap₂ (λ (b : Bool) (k : ℕ). if b then eqb k id_size else leb least_message k) (c.indication-alone.ensures ∙ ap indication e) c.word_at-size.ensures.0 in
    let fits = c.width_fits.ensures ∙ ap (λ (t : ℕ). width_fits c.args.flags (bit 0x100 t) (drop data_in s)) e in
    (λ j. status j && eqb (c.word_at.ensures.0 j) 0 && long j && fits j)
    ∙ incoming_is s c.requires.long c.word_at-rx.ensures.1 c.requires.valid c.args.flags
