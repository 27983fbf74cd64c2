-- What validity is of a stored record of an ISO 15765 channel, as code finds it out. Assumes nothing.
use Rattle.std.specs.Prelude.{if◌then◌else◌}
use mathlib.Core.Path.{◌≡◌, refl, sym, ap, ap₂, ◌∙◌, subst}
use Prim.Native.Nat.{ℕ, ◌+◌, ◌-◌, ◌≤◌, ◌<◌}
use native.Mathlib.Omega.{arith}
use mathlib.Core.Bool.{Bool, true, false, ◌&&◌, ◌||◌, not, or-false}
use mathlib.Core.List.{List, [], ◌∷◌}
use lib.ListN.{length, get_or, take, drop, length-drop}
use lib.Seq.{drop-drop, take_all, length-take-le, get_or-take, get_or-drop}
use lib.Dec.{T, eqb, leb, leb→le}
use Rattle.codec.specs.Plain.{within, member, all_zero}
use Rattle.codec.specs.Word.{word_at}
use Rattle.codec.specs.Code.{Code, byte, word32, both, via, such, many}
use Rattle.codec.proofs.Tests.{left, right, T_true, and_true, and_false, between, below, above, within_low}
use Rattle.machine.specs.Limits.{most_data, rx_status_in, tx_flags_in, timestamp_in, size_in, extra_index_in, data_in}
use Rattle.machine.specs.Message.{bit, id_of, id_limit, takes, Rec}
use Rattle.layout.specs.Record.{width_fits}
use Rattle.iso.specs.Limits.{iso_protocol, id_size, iso_data, iso_record_size, least_message}
use Rattle.iso_layout.specs.Record.{IsoParts, indication, extra_is, iso_back, iso_fits, rec536, iso_outgoing, iso_incoming, message_cell, frame_cell, heard_cell}
use Rattle.iso_layout.proofs.Sizes.{message_size, heard_size_law}
use Rattle.stored_records.proofs.Parts.{Bytes, less, row_valid, row_got}
use Rattle.stored_records.proofs.Records.{id_take}
use Rattle.iso_stored.specs.Held.{held}
use Rattle.iso_stored.proofs.Rows.{number_got, number_valid}

-- ---- a record, whatever it waits for

abbrev parts_at : List ℕ → IsoParts
parts_at m =
    (word_at 0 m, (word_at rx_status_in m, (word_at tx_flags_in m, (word_at timestamp_in m, (word_at size_in m, (word_at extra_index_in m, drop data_in m))))))

abbrev Data : Code (List ℕ)
Data = many iso_data byte

abbrev From5 : Code (ℕ × List ℕ)
From5 = both word32 Data

abbrev From4 : Code (ℕ × (ℕ × List ℕ))
From4 = both word32 From5

abbrev From3 : Code (ℕ × (ℕ × (ℕ × List ℕ)))
From3 = both word32 From4

abbrev From2 : Code (ℕ × (ℕ × (ℕ × (ℕ × List ℕ))))
From2 = both word32 From3

abbrev From1 : Code (ℕ × (ℕ × (ℕ × (ℕ × (ℕ × List ℕ)))))
From1 = both word32 From2

module _ (m : List ℕ) (h : length m ≡ iso_record_size) where
  data_long : length (drop data_in m) ≡ iso_data
  data_long = length-drop data_in m ∙ omega arith

  parts_got : (both word32 From1).get m ≡ parts_at m
  parts_got =
      number_got From1 0 4 m refl
      ∙ (λ i. (word_at 0 m, number_got From2 4 8 m refl i))
      ∙ (λ i. (word_at 0 m, (word_at 4 m, number_got From3 8 12 m refl i)))
      ∙ (λ i. (word_at 0 m, (word_at 4 m, (word_at 8 m, number_got From4 12 16 m refl i))))
      ∙ (λ i. (word_at 0 m, (word_at 4 m, (word_at 8 m, (word_at 12 m, number_got From5 16 20 m refl i)))))
      ∙ (λ i. (word_at 0 m, (word_at 4 m, (word_at 8 m, (word_at 12 m, (word_at 16 m, number_got Data 20 24 m refl i))))))
      ∙ (λ i. (word_at 0 m, (word_at 4 m, (word_at 8 m, (word_at 12 m, (word_at 16 m, (word_at 20 m, row_got iso_data (drop data_in m) data_long i)))))))

  rec_got : rec536.get m ≡ iso_back (parts_at m)
  unfolding rec536 via such
  rec_got = ap iso_back parts_got

  module _ (t : Bytes m) where
    parts_valid : (both word32 From1).valid m ≡ true
    parts_valid =
        number_valid From1 0 4 m refl t ∙ number_valid From2 4 8 m refl t ∙ number_valid From3 8 12 m refl t ∙ number_valid From4 12 16 m refl t
        ∙ number_valid From5 16 20 m refl t ∙ number_valid Data 20 24 m refl t ∙ row_valid iso_data (drop data_in m) (less data_in m t)

    rec_flat : rec536.valid m ≡ iso_fits (parts_at m)
    unfolding rec536 via such
    rec_flat = ap₂ (λ (a : Bool) (p : IsoParts). a && iso_fits p) parts_valid parts_got

    -- its tests, where that of the size is `x` and zeros follow the data
    abbrev tests : Bool → List ℕ → Bool
    tests x z = eqb (word_at 0 m) iso_protocol && x && eqb (word_at extra_index_in m) (extra_is (word_at rx_status_in m) (word_at size_in m)) && all_zero z

    rec_tests : rec536.valid m ≡ tests (within id_size iso_data (word_at size_in m)) (drop (word_at size_in m) (drop data_in m))
    unfolding iso_fits
    rec_tests = rec_flat

    -- a size out of range
    rec_bad : within id_size iso_data (word_at size_in m) ≡ false → false ≡ rec536.valid m
    rec_bad e =
        sym (rec_tests ∙ ap (λ (x : Bool). tests x (drop (word_at size_in m) (drop data_in m))) e
        ∙ ap (λ (x : Bool). x && eqb (word_at extra_index_in m) (extra_is (word_at rx_status_in m) (word_at size_in m)) && all_zero (drop (word_at size_in m) (drop data_in m))) (and_false (eqb (word_at 0 m) iso_protocol)))

    pub rec_small : word_at size_in m < id_size → false ≡ rec536.valid m
    rec_small b = rec_bad (below id_size iso_data (word_at size_in m) b)

    pub rec_large : iso_data < word_at size_in m → false ≡ rec536.valid m
    rec_large b = rec_bad (above id_size iso_data (word_at size_in m) b)

    -- a size in range: zeros from there on
    pub rec_good : (n z k : ℕ) → n ≡ word_at size_in m → id_size ≤ n → n ≤ iso_data → z ≡ data_in + n → iso_record_size ≤ z + k
        → (eqb (word_at 0 m) iso_protocol && eqb (word_at extra_index_in m) (extra_is (word_at rx_status_in m) n) && all_zero (take k (drop z m))) ≡ rec536.valid m
    rec_good n z k en a b ez hk =
        let p : Bool = eqb (word_at 0 m) iso_protocol in
        let e : take k (drop z m) ≡ drop n (drop data_in m) =
        take_all k (drop z m) (omega (arith, length-drop z m)) ∙ ap (λ (j : ℕ). drop j m) ez ∙ sym (drop-drop n data_in m) in
        (λ i. sym (and_true p) i && eqb (word_at extra_index_in m) (extra_is (word_at rx_status_in m) (en i)) && all_zero (e i))
        ∙ ap₂ (λ (x : Bool) (j : ℕ). tests x (drop j (drop data_in m))) (sym (between id_size iso_data n a b)) en
        ∙ ap (λ (j : ℕ). tests (within id_size iso_data j) (drop (word_at size_in m) (drop data_in m))) en
        ∙ sym rec_tests

    -- a record's size is in range
    module _ (v : T (rec536.valid m)) where
      size_fits : T (within id_size iso_data (word_at size_in m))
      size_fits =
          let p : Bool = eqb (word_at 0 m) iso_protocol in
          let w : Bool = within id_size iso_data (word_at size_in m) in
          let e : Bool = eqb (word_at extra_index_in m) (extra_is (word_at rx_status_in m) (word_at size_in m)) in
          let z : Bool = all_zero (drop (word_at size_in m) (drop data_in m)) in
          right p w (left (p && w) e (left (p && w && e) z (subst T rec_tests v)))

      bytes_long : length (take (word_at size_in m) (drop data_in m)) ≡ word_at size_in m
      unfolding within
      bytes_long =
          let n : ℕ = word_at size_in m in
          let most : n ≤ iso_data = leb→le n iso_data (right (leb id_size n) (leb n iso_data) size_fits) in
          length-take-le n (drop data_in m) (omega (arith, data_long))

      fits_same : (flags : ℕ) (wide : Bool) → width_fits flags wide (drop data_in m) ≡ width_fits flags wide (take (word_at size_in m) (drop data_in m))
      unfolding width_fits within
      fits_same flags wide =
          let n : ℕ = word_at size_in m in
          let least : id_size ≤ n = leb→le id_size n (left (leb id_size n) (leb n iso_data) size_fits) in
          ap (λ (k : ℕ). leb k (id_limit wide) && takes flags wide) (sym (id_take n (drop data_in m) least))

      -- HELD FOR SENDING, HELD FOR READING: by the numbers
      pub outgoing_is : (flags most : ℕ)
          → (eqb (word_at rx_status_in m) 0 && member (word_at tx_flags_in m) (0 ∷ 0x100 ∷ []) && eqb (word_at timestamp_in m) 0 && within least_message most (word_at size_in m)
          && width_fits flags (bit 0x100 (word_at tx_flags_in m)) (drop data_in m)) ≡ iso_outgoing flags most (rec536.get m)
      unfolding iso_outgoing iso_back
      outgoing_is flags most =
          (λ i.
          eqb (word_at rx_status_in m) 0 && member (word_at tx_flags_in m) (0 ∷ 0x100 ∷ []) && eqb (word_at timestamp_in m) 0 && within least_message most (sym bytes_long i)
          && fits_same flags (bit 0x100 (word_at tx_flags_in m)) i)
          ∙ sym (ap (iso_outgoing flags most) rec_got)

      pub incoming_is : (flags : ℕ)
          → (member (word_at rx_status_in m) (0 ∷ 1 ∷ 2 ∷ 9 ∷ 0x100 ∷ 0x101 ∷ 0x102 ∷ 0x109 ∷ []) && eqb (word_at tx_flags_in m) 0
          && (if indication (word_at rx_status_in m) then eqb (word_at size_in m) id_size else leb least_message (word_at size_in m))
          && width_fits flags (bit 0x100 (word_at rx_status_in m)) (drop data_in m)) ≡ iso_incoming flags (rec536.get m)
      unfolding iso_incoming iso_back
      incoming_is flags =
          (λ i.
          member (word_at rx_status_in m) (0 ∷ 1 ∷ 2 ∷ 9 ∷ 0x100 ∷ 0x101 ∷ 0x102 ∷ 0x109 ∷ []) && eqb (word_at tx_flags_in m) 0
          && (if indication (word_at rx_status_in m) then eqb (sym bytes_long i) id_size else leb least_message (sym bytes_long i))
          && fits_same flags (bit 0x100 (word_at rx_status_in m)) i)
          ∙ sym (ap (iso_incoming flags) rec_got)

    -- a frame in flight: as many bytes as its size, five or more, and the byte behind the identifier
    module _ (flags : ℕ) (v : T ((frame_cell flags).valid m)) where
      is_record : T (rec536.valid m)
      unfolding frame_cell such
      is_record = left (rec536.valid m) (iso_outgoing flags most_data (rec536.get m)) v

      pub frame_count : length ((frame_cell flags).get m).bytes ≡ word_at size_in m
      unfolding frame_cell such iso_back
      frame_count = ap (λ (r : Rec). length r.bytes) rec_got ∙ bytes_long is_record

      pub frame_least : least_message ≤ word_at size_in m
      unfolding frame_cell such
      frame_least =
          let x : Bool = eqb (word_at rx_status_in m) 0 && member (word_at tx_flags_in m) (0 ∷ 0x100 ∷ []) && eqb (word_at timestamp_in m) 0 in
          let y : Bool = within least_message most_data (word_at size_in m) in
          let z : Bool = width_fits flags (bit 0x100 (word_at tx_flags_in m)) (drop data_in m) in
          let u : T (iso_outgoing flags most_data (rec536.get m)) = right (rec536.valid m) (iso_outgoing flags most_data (rec536.get m)) v in
          within_low least_message most_data (word_at size_in m) (right x y (left (x && y) z (subst T (sym (outgoing_is is_record flags most_data)) u)))

      pub frame_told : get_or ((frame_cell flags).get m).bytes id_size 0 ≡ get_or m (data_in + id_size) 0
      unfolding frame_cell such iso_back
      frame_told =
          ap (λ (r : Rec). get_or r.bytes id_size 0) rec_got
          ∙ get_or-take (word_at size_in m) (drop data_in m) id_size 0 (omega (arith, frame_least)) ∙ get_or-drop data_in m id_size 0

-- a choice of two tests
pub chosen : (b x y : Bool) → ((b && x) || (not b && y)) ≡ (if b then x else y)
chosen true x y = or-false x
chosen false x y = refl

-- ---- a test on the record, where it is one

module _ (p : Rec → Bool) (m : List ℕ) where
  pub no_record : rec536.valid m ≡ false → false ≡ (such p rec536).valid m
  unfolding such
  no_record e = sym (ap (λ (b : Bool). b && p (rec536.get m)) e)

  pub a_record : rec536.valid m ≡ true → p (rec536.get m) ≡ (such p rec536).valid m
  unfolding such
  a_record e = sym (ap (λ (b : Bool). b && p (rec536.get m)) e)

pub held_size : (sending : Bool) (flags : ℕ) → (held sending flags).size ≡ iso_record_size
unfolding held
held_size true flags = message_size flags
held_size false flags = heard_size_law flags

pub no_held : (sending : Bool) (flags : ℕ) (m : List ℕ) → rec536.valid m ≡ false → false ≡ (held sending flags).valid m
unfolding held message_cell heard_cell
no_held true flags m e = no_record (iso_outgoing flags iso_data) m e
no_held false flags m e = no_record (iso_incoming flags) m e

pub a_held : (sending : Bool) (flags : ℕ) (m : List ℕ) → rec536.valid m ≡ true
    → (if sending then iso_outgoing flags iso_data (rec536.get m) else iso_incoming flags (rec536.get m)) ≡ (held sending flags).valid m
unfolding held message_cell heard_cell
a_held true flags m e = a_record (iso_outgoing flags iso_data) m e
a_held false flags m e = a_record (iso_incoming flags) m e
