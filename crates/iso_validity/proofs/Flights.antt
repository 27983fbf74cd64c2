-- What validity is of a flight, as code finds it out. Assumes nothing.
use mathlib.Core.Path.{◌≡◌, refl, sym, ap, ap₂, ◌∙◌}
use Prim.Native.Nat.{ℕ, ◌+◌, ◌-◌, ◌≤◌}
use native.Mathlib.Omega.{arith}
use mathlib.Core.Bool.{Bool, true, false, ◌&&◌, ◌||◌, not}
use mathlib.Core.List.{List}
use lib.ListN.{length, get_or, drop, length-drop}
use lib.Seq.{get_or-drop}
use lib.Dec.{T, eqb, leb}
use Rattle.codec.specs.Plain.{within}
use Rattle.codec.specs.Word.{word_at}
use Rattle.codec.specs.Code.{via, such}
use Rattle.codec.proofs.Tests.{true_T}
use Rattle.codec.proofs.Word.{word_drop}
use Rattle.machine.specs.Limits.{size_in, data_in}
use Rattle.machine.specs.Message.{Rec}
use Rattle.iso.specs.Limits.{id_size, least_message, iso_record_size}
use Rattle.iso_layout.specs.Sizes.{iso_flight_size}
use Rattle.iso_layout.specs.Region.{frame_cell, owned_fits, flight_code}
use Rattle.stored_records.proofs.Parts.{Bytes, less}
use Rattle.iso_stored.proofs.Rows.{byte_got, byte_then}
use Rattle.iso_stored.proofs.Records.{frame_count, frame_least, frame_told}

module _ (f : List ℕ) (h : length f ≡ iso_flight_size) (t : Bytes f) (flags : ℕ) where
  flight_flat : (flight_code flags).valid (drop 1 f) ≡ ((frame_cell flags).valid (drop 2 f) && owned_fits (get_or f 1 0, (frame_cell flags).get (drop 2 f)))
  unfolding flight_code via such
  flight_flat = ap₂ (λ (a : Bool) (p : ℕ × Rec). a && owned_fits p) (byte_then (frame_cell flags) 1 2 f refl t) (byte_got (frame_cell flags) 1 2 f refl)

  pub no_frame : (frame_cell flags).valid (drop 2 f) ≡ false → false ≡ (flight_code flags).valid (drop 1 f)
  no_frame e = sym (flight_flat ∙ ap (λ (a : Bool). a && owned_fits (get_or f 1 0, (frame_cell flags).get (drop 2 f))) e)

  module _ (v : (frame_cell flags).valid (drop 2 f) ≡ true) where
    long : length (drop 2 f) ≡ iso_record_size
    long = length-drop 2 f ∙ omega arith

    is_frame : T ((frame_cell flags).valid (drop 2 f))
    is_frame = true_T _ v

    pub five_bytes : least_message ≤ word_at (2 + size_in) f
    five_bytes = omega (arith, frame_least (drop 2 f) long (less 2 f t) flags is_frame, word_drop size_in 2 f)

    pub a_frame : (leb (get_or f 1 0) 3
        && (not (eqb (get_or f 1 0) 1) || ((leb 6 (word_at (2 + size_in) f) && leb (word_at (2 + size_in) f) 12) && eqb (get_or f (2 + data_in + id_size) 0) (word_at (2 + size_in) f - 5))))
        ≡ (flight_code flags).valid (drop 1 f)
    unfolding owned_fits within
    a_frame =
        let n : length ((frame_cell flags).get (drop 2 f)).bytes ≡ word_at (2 + size_in) f = frame_count (drop 2 f) long (less 2 f t) flags is_frame ∙ word_drop size_in 2 f in
        let b : get_or ((frame_cell flags).get (drop 2 f)).bytes id_size 0 ≡ get_or f (2 + data_in + id_size) 0 =
        frame_told (drop 2 f) long (less 2 f t) flags is_frame ∙ get_or-drop 2 f (data_in + id_size) 0 in
        sym (flight_flat ∙ ap (λ (a : Bool). a && owned_fits (get_or f 1 0, (frame_cell flags).get (drop 2 f))) v
        ∙ (λ i. leb (get_or f 1 0) 3 && (not (eqb (get_or f 1 0) 1) || ((leb 6 (n i) && leb (n i) 12) && eqb (b i) (n i - 5)))))
