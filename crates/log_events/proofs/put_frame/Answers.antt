-- `log_events::put_frame` meets its contract. Assumes nothing.
use Prim.Native.Nat.{ℕ, ◌+◌, ◌/◌, ◌≤◌}
use mathlib.Core.List.{List, ◌++◌}
use mathlib.Core.Path.{◌≡◌, sym, subst}
use native.Mathlib.Omega.{arith}
use lib.ListN.{length}
use Rattle.number.specs.Number.{bytes_of}
use Rattle.number.specs.Place.{Written}
use Rattle.answers.specs.Put.{Put}
use Rattle.log_reader.specs.Reading.{data_of}
use Rattle.log_reader.proofs.Data.{data_size}
use Rattle.log_events.specs.Data.{mark_of, GoodData}
use Rattle.log_events.proofs.Putting.{line_fits, id_fits, count_fits, data_fits_law, frame_put}
use Rattle.log_events.proofs.put_frame.Goals as goal

-- as many bytes as pairs of digits
count : (text : List ℕ) → GoodData text → length text / 2 ≡ length (data_of text)
count text good = omega (arith, data_size text (data_of text) good)

pub overflow_cast-count : goal.overflow_cast-count
overflow_cast-count c = record { fits = omega (arith, count c.args.text.now c.requires.0, c.requires.1) }

pub put_pair-named-requires : goal.put_pair-named-requires
put_pair-named-requires c = line_fits c.args.out.now c.args.at c.args.line (mark_of c.args.wide) c.args.id (data_of c.args.text.now) c.requires.2

-- the event's number and its line were written
pub put_pair-identified-requires : goal.put_pair-identified-requires
put_pair-identified-requires c =
    subst (λ (m : ℕ). c.put_pair-named.result + length (bytes_of m ++ bytes_of c.args.id) ≤ length c.put_pair-named.new.out) (sym c.mark.ensures)
    (id_fits c.args.out.now c.args.at c.args.line (mark_of c.args.wide) c.args.id (data_of c.args.text.now) c.requires.2 c.put_pair-named.result c.put_pair-named.new.out c.put_pair-named.ensures)

-- its mark and its identifier
pub put_number-counted-requires : goal.put_number-counted-requires
put_number-counted-requires c =
    let identified : Put c.put_pair-named.new.out c.put_pair-named.result (bytes_of (mark_of c.args.wide) ++ bytes_of c.args.id) c.put_pair-identified.result c.put_pair-identified.new.out =
    subst (λ (m : ℕ). Put c.put_pair-named.new.out c.put_pair-named.result (bytes_of m ++ bytes_of c.args.id) c.put_pair-identified.result c.put_pair-identified.new.out) c.mark.ensures c.put_pair-identified.ensures in
    subst (λ (m : ℕ). c.put_pair-identified.result + length (bytes_of m) ≤ length c.put_pair-identified.new.out) (sym (count c.args.text.now c.requires.0))
    (count_fits c.args.out.now c.args.at c.args.line (mark_of c.args.wide) c.args.id (data_of c.args.text.now) c.requires.2 c.put_pair-named.result c.put_pair-named.new.out c.put_pair-named.ensures c.put_pair-identified.result c.put_pair-identified.new.out identified)

-- and its count
pub put_data-requires : goal.put_data-requires
put_data-requires c =
    let identified : Put c.put_pair-named.new.out c.put_pair-named.result (bytes_of (mark_of c.args.wide) ++ bytes_of c.args.id) c.put_pair-identified.result c.put_pair-identified.new.out =
    subst (λ (m : ℕ). Put c.put_pair-named.new.out c.put_pair-named.result (bytes_of m ++ bytes_of c.args.id) c.put_pair-identified.result c.put_pair-identified.new.out) c.mark.ensures c.put_pair-identified.ensures in
    let counted : Written c.put_pair-identified.new.out c.put_pair-identified.result (length (data_of c.args.text.now)) c.put_number-counted.result c.put_number-counted.new.out =
    subst (λ (m : ℕ). Written c.put_pair-identified.new.out c.put_pair-identified.result m c.put_number-counted.result c.put_number-counted.new.out) (count c.args.text.now c.requires.0) c.put_number-counted.ensures in (
      c.requires.0,
      data_fits_law c.args.out.now c.args.at c.args.line (mark_of c.args.wide) c.args.id (data_of c.args.text.now) c.requires.2 c.put_pair-named.result c.put_pair-named.new.out c.put_pair-named.ensures c.put_pair-identified.result c.put_pair-identified.new.out identified c.put_number-counted.result c.put_number-counted.new.out counted,
    )

pub returns : goal.returns
returns c =
    let identified : Put c.put_pair-named.new.out c.put_pair-named.result (bytes_of (mark_of c.args.wide) ++ bytes_of c.args.id) c.put_pair-identified.result c.put_pair-identified.new.out =
    subst (λ (m : ℕ). Put c.put_pair-named.new.out c.put_pair-named.result (bytes_of m ++ bytes_of c.args.id) c.put_pair-identified.result c.put_pair-identified.new.out) c.mark.ensures c.put_pair-identified.ensures in
    let counted : Written c.put_pair-identified.new.out c.put_pair-identified.result (length (data_of c.args.text.now)) c.put_number-counted.result c.put_number-counted.new.out =
    subst (λ (m : ℕ). Written c.put_pair-identified.new.out c.put_pair-identified.result m c.put_number-counted.result c.put_number-counted.new.out) (count c.args.text.now c.requires.0) c.put_number-counted.ensures in
    frame_put c.args.out.now c.args.at c.args.line (mark_of c.args.wide) c.args.id (data_of c.args.text.now) c.requires.2 c.put_pair-named.result c.put_pair-named.new.out c.put_pair-named.ensures c.put_pair-identified.result c.put_pair-identified.new.out identified c.put_number-counted.result c.put_number-counted.new.out counted
    _ _ c.put_data.ensures
