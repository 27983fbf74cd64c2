-- `store_records::clean_end` meets its contract. Assumes nothing.
use Rattle.std.specs.Prelude.{if◌then◌else◌}
use mathlib.Core.Bool.{Bool}
use mathlib.Core.Option.{none, some}
use mathlib.Core.Path.{sym, ap, ◌∙◌}
use native.Mathlib.Omega.{arith}
use Prim.Native.Nat.{◌+◌}
use Rattle.machine.specs.Limits.{record_size}
use Rattle.store_records.specs.Places.{after_of}
use Rattle.store_records.proofs.Parts.{clean_cut, clean_by}
use Rattle.store_records.proofs.clean_end.Goals as goal

pub returns-then-store-at-lt-RECORD : goal.returns-then-store-at-lt-RECORD
unfolding after_of
returns-then-store-at-lt-RECORD c =
    let low = c.requires in
    let short = c.if-store-at-lt-RECORD.true in
    sym (ap after_of (clean_cut c.args.store.now c.args.at (omega arith)))

pub returns-then-not-is_clean : goal.returns-then-not-is_clean
returns-then-not-is_clean c =
    let a = c.args in
    let long = c.if-store-at-lt-RECORD.false in
    let low = c.requires in
    sym (clean_by a.store.now a.at _ (omega arith) c.is_clean.ensures ∙ ap (λ (b : Bool). if b then some (a.at + record_size) else none) {x = c.is_clean.result} c.if-not-is_clean.true)

pub returns : goal.returns
returns c =
    let a = c.args in
    let long = c.if-store-at-lt-RECORD.false in
    let low = c.requires in
    sym (clean_by a.store.now a.at _ (omega arith) c.is_clean.ensures ∙ ap (λ (b : Bool). if b then some (a.at + record_size) else none) {x = c.is_clean.result} c.if-not-is_clean.false)
