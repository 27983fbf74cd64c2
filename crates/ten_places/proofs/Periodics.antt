-- What validity is of ten periodics in columns, periodic by periodic, as code finds it out. Assumes nothing.
use Rattle.std.specs.Prelude.{if◌then◌else◌}
use mathlib.Core.Path.{◌≡◌, refl, sym, ap, ◌∙◌}
use Prim.Native.Nat.{ℕ, ◌+◌, ◌*◌, ◌≤◌}
use native.Mathlib.Omega.{arith}
use mathlib.Core.Bool.{Bool, true, false, ◌&&◌, ◌||◌, not}
use mathlib.Core.Option.{none, some}
use mathlib.Core.List.{List}
use lib.ListN.{length, get_or, drop, length-drop}
use lib.Seq.{get_or-take, drop-drop, length-take-le}
use lib.Dec.{eqb, leb, ltb, eqb→eq}
use Rattle.codec.specs.Plain.{is_byte, within, all_zero, all_below}
use Rattle.codec.specs.Word.{word_at}
use Rattle.codec.specs.Code.{byte, word32, both, via, such, mark, many, vacant}
use Rattle.codec.proofs.Tests.{T_false, and_false}
use Rattle.codec.proofs.Lists.{all_at, all_take, all_drop}
use Rattle.codec.proofs.Lawful.{Lawful, word_lawful, mark_lawful}
use Rattle.codec.proofs.Many.{vacant_lawful}
use Rattle.machine.specs.Limits.{most_places, record_size, least_interval, most_interval}
use Rattle.layout.specs.Sizes.{number_size, phases_in, pending_in, messages_in}
use Rattle.layout.specs.Record.{row, body, rec36, out_cell}
use Rattle.layout.specs.Memory.{periodic_parts, periodic_back, timer_fits, periodic_fits, periodic_columns, periodics}
use Rattle.layout.proofs.Memory.{out_lawful, out_shows}
use Rattle.ten_places.specs.Place.{record_at, periodic_at, periodic_good}
use Rattle.stored_records.proofs.Parts.{Bytes, at_rest}
use Rattle.stored_records.proofs.Records.{out_none}
use Rattle.ten_places.proofs.Columns.{cell_at, cell_there, many_rows, beside_rows, each_rows, below_same, mark_row, mark_row_got, word_row, word_row_got}

record_there : (flags i : ℕ) (m x : List ℕ) → x ≡ drop messages_in m → cell_at (vacant (out_cell flags)) x i ≡ record_at i m
unfolding record_at vacant out_cell such rec36 body row via both many word32 byte
record_there flags i m x ex = cell_there (vacant (out_cell flags)) record_size messages_in i m x refl ex

module _ (flags : ℕ) (m : List ℕ) (t : Bytes m) where
  at_pending : drop phases_in (drop phases_in m) ≡ drop pending_in m
  at_pending = drop-drop phases_in phases_in m

  at_messages : drop most_places (drop phases_in (drop phases_in m)) ≡ drop messages_in m
  at_messages = ap (λ (x : List ℕ). drop most_places x) at_pending ∙ drop-drop most_places pending_in m

  pub periodics_flat : all_below most_places (λ i. periodic_good flags i m) ≡ (periodics flags).valid m
  unfolding periodics periodic_columns periodic_good periodic_at mark via such byte word32
  periodics_flat =
      let r : Lawful (vacant (out_cell flags)) = vacant_lawful (out_lawful flags) (out_shows flags) in
      let rows = beside_rows most_places word_lawful 0 (beside_rows most_places word_lawful 0 (beside_rows most_places mark_lawful false (many_rows r most_places none))) in
      sym (each_rows most_places periodic_parts periodic_back periodic_fits rows m
      ∙ below_same most_places _ _ (λ i l.
      let first : 0 + i * number_size ≡ i * number_size = omega arith in
      (λ j.
      (word_row m t 0 i m refl j
      && (word_row m t phases_in i (drop phases_in m) refl j
      && (mark_row m t pending_in i (drop phases_in (drop phases_in m)) at_pending j
      && (vacant (out_cell flags)).valid (record_there flags i m (drop most_places (drop phases_in (drop phases_in m))) at_messages j))))
      && periodic_fits (
        (word_row_got m t 0 i m refl ∙ ap (λ (k : ℕ). word_at k m) first) j,
        (
          word_row_got m t phases_in i (drop phases_in m) refl j,
          (
            mark_row_got m t pending_in i (drop phases_in (drop phases_in m)) at_pending j,
            (vacant (out_cell flags)).get (record_there flags i m (drop most_places (drop phases_in (drop phases_in m))) at_messages j),
          ),
        ),
      ))))

-- ---- one periodic, as code finds it out: it is empty where its record begins with 0

module _ (flags i : ℕ) (m : List ℕ) (h : messages_in + i * record_size + record_size ≤ length m) (t : Bytes m) where
  abbrev interval : ℕ
  interval = word_at (i * number_size) m

  abbrev phase : ℕ
  phase = word_at (phases_in + i * number_size) m

  abbrev pending : ℕ
  pending = get_or m (pending_in + i) 0

  record_first : get_or (record_at i m) 0 0 ≡ get_or m (messages_in + i * record_size) 0
  unfolding record_at
  record_first = get_or-take record_size (drop (messages_in + i * record_size) m) 0 0 (omega arith) ∙ at_rest (messages_in + i * record_size) m

  pub periodic_empty : get_or m (messages_in + i * record_size) 0 ≡ 0
      → (leb pending 1 && all_zero (record_at i m) && (eqb interval 0 && eqb phase 0 && not (eqb 1 pending))) ≡ periodic_good flags i m
  unfolding periodic_good periodic_fits periodic_at record_at vacant
  periodic_empty e =
      let r : List ℕ = record_at i m in
      let bad : (out_cell flags).valid r ≡ false = out_none r (length-take-le record_size (drop (messages_in + i * record_size) m) (omega (arith, length-drop (messages_in + i * record_size) m))) (all_take is_byte record_size (drop (messages_in + i * record_size) m) (all_drop is_byte (messages_in + i * record_size) m t)) flags (record_first ∙ e) in
      go r (all_zero r) ((out_cell flags).valid r) bad
    where
      go : (r : List ℕ) (z v : Bool) → v ≡ false
          → (leb pending 1 && z && (eqb interval 0 && eqb phase 0 && not (eqb 1 pending)))
          ≡ (leb pending 1 && (z || v) && timer_fits interval phase (eqb 1 pending) (if z then none else some ((out_cell flags).get r)))
      go r true v e = refl
      go r false v e = rw e (rw (and_false (leb pending 1)))

  pub periodic_taken : (get_or m (messages_in + i * record_size) 0 ≡ 0 → ⊥)
      → (leb pending 1 && (out_cell flags).valid (record_at i m) && (leb least_interval interval && leb interval most_interval && ltb phase (1000 * interval))) ≡ periodic_good flags i m
  unfolding periodic_good periodic_fits periodic_at vacant within
  periodic_taken f =
      let r : List ℕ = record_at i m in
      let some_byte : all_zero r ≡ false = T_false (all_zero r) (λ z. f (sym record_first ∙ sym (eqb→eq 0 (get_or r 0 0) (all_at (eqb 0) r 0 0 tt z)))) in
      ap (λ (z : Bool). leb pending 1 && (z || (out_cell flags).valid r) && timer_fits interval phase (eqb 1 pending) (if z then none else some ((out_cell flags).get r))) (sym some_byte)
