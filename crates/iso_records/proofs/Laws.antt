-- The bytes of a record of 536 bytes as code writes them: six numbers, then data and zeros; the checks of a message. Assumes nothing.
use mathlib.Core.Path.{◌≡◌, refl, sym, ap, ap₂, ◌∙◌}
use Prim.Native.Nat.{ℕ, ◌+◌, ◌-◌, ◌≤◌}
use mathlib.Core.List.{List, ◌++◌}
use lib.ListN.{length, drop}
use borrow.Rule.Slice.PartMut.{put_mid, mid_of}
use Rattle.machine.specs.Limits.{data_in}
use Rattle.machine.specs.Message.{bit, id_bytes, Rec, size_of, clean}
use Rattle.iso.specs.Limits.{iso_protocol, iso_data, iso_record_size, least_message}
use Rattle.iso.specs.Iso.{extra_of, shown_iso, iso_message_code}
use Rattle.iso.specs.Iso.{padded as padded_iso}
use Rattle.iso_layout.specs.Record.{indication, extra_is, rec536}
use Rattle.iso_layout.proofs.Lawful.{shown_iso_is}
use Rattle.records.specs.Cell.{numbers, padded}
use Rattle.records.proofs.Laws.{two_parts, mid_long, numbers_long, framed_long}
use Rattle.message.specs.Check.{code_within, clean_bytes}
use Rattle.message.proofs.Laws.{size_within}
use Rattle.iso_records.specs.Told.{told}

-- ---- a record's bytes

pub record_is : (r : Rec) → numbers iso_protocol r.rx r.tx r.time (length r.bytes) (extra_is r.rx (length r.bytes)) ++ padded iso_data r.bytes ≡ rec536.put r
unfolding numbers padded padded_iso shown_iso extra_of extra_is indication
record_is r = shown_iso_is r

pub told_put : (cell ys zs : List ℕ) (rx tx time size extra id : ℕ) (b : List ℕ) → length cell ≡ iso_record_size → size ≡ 4 + length b → extra ≡ extra_is rx size → ys ≡ numbers iso_protocol rx tx time size extra
    → zs ≡ padded (length (mid_of data_in iso_data (ys ++ drop data_in cell))) (id_bytes id ++ b) → put_mid data_in iso_data (ys ++ drop data_in cell) zs ≡ rec536.put (told rx tx time (id_bytes id ++ b))
unfolding told
told_put cell ys zs rx tx time size extra id b h es ee y z =
    let l : length ys ≡ data_in = ap length y ∙ numbers_long iso_protocol rx tx time size extra in
    let n : size ≡ length (id_bytes id ++ b) = es ∙ sym (framed_long id b) in
    two_parts data_in iso_data cell ys zs h l
    ∙ ap₂ (λ (p q : List ℕ). p ++ q) (y ∙ ap (numbers iso_protocol rx tx time size) ee ∙ ap (λ (k : ℕ). numbers iso_protocol rx tx time k (extra_is rx k)) n)
    (z ∙ ap (λ (k : ℕ). padded k (id_bytes id ++ b)) (mid_long data_in iso_data cell ys h l))
    ∙ record_is (told rx tx time (id_bytes id ++ b))

-- ---- a written message

pub checks : (flags : ℕ) (m : List ℕ) → code_within iso_protocol least_message iso_data flags m ≡ iso_message_code flags m
unfolding code_within iso_message_code
checks flags m = refl

-- the size of a message without a code
pub size_of_good : (flags : ℕ) (m : List ℕ) → iso_message_code flags m ≡ 0 → (least_message ≤ size_of m) × (size_of m ≤ iso_data)
size_of_good flags m h = size_within iso_protocol least_message iso_data flags m (checks flags m ∙ h)

pub clean_put : (cell m : List ℕ) → length cell ≡ iso_record_size → clean_bytes iso_protocol (length cell - data_in) m ≡ rec536.put (clean m)
unfolding clean_bytes clean extra_is indication bit
clean_put cell m h = ap (λ (k : ℕ). clean_bytes iso_protocol (k - data_in) m) h ∙ record_is (clean m)
