-- What validity is of a conversation and of two, as code finds it out, and what a conversation's place holds. Assumes nothing.
use mathlib.Core.Path.{◌≡◌, refl, sym, ap, ap₂, ◌∙◌}
use Prim.Native.Nat.{ℕ, zero, suc, ◌≤◌}
use native.Mathlib.Omega.{arith}
use mathlib.Core.Bool.{Bool, true, false, ◌&&◌, ◌||◌, not}
use mathlib.Core.Option.{Option}
use mathlib.Core.List.{List, [], ◌∷◌}
use lib.ListN.{length, get_or, take, drop}
use lib.Dec.{eqb, leb}
use borrow.Author.Tests.{ne_eqb}
use Rattle.codec.specs.Word.{word_at}
use Rattle.codec.specs.Code.{Code, word32, both, via, such, mark, many, slot}
use Rattle.codec.proofs.Tests.{and_true}
use Rattle.machine.specs.Message.{takes, id_limit}
use Rattle.machine.specs.Filter.{Slots}
use Rattle.iso.specs.Iso.{Transfer, Talk}
use Rattle.iso_layout.specs.Sizes.{pattern_in, flow_in, transfer_in, talk_size, talks_size}
use Rattle.iso_layout.specs.Region.{transfer_on, transfer_back, Transferred, transfer_code, payload508, talk_back, segments_in, talk_fits, talk_cell, talks_code}
use Rattle.iso_layout.proofs.Sizes.{slot_size}
use Rattle.stored_records.proofs.Parts.{Bytes}
use Rattle.iso_stored.proofs.Rows.{number_got, number_valid, mark_then_got, mark_then}
use Rattle.iso_transfers.proofs.Transfers.{payload_of, parts_of, plain_got}

abbrev Flow : Code (ℕ × Transfer)
Flow = both word32 transfer_code

abbrev Pattern : Code (ℕ × (ℕ × Transfer))
Pattern = both word32 Flow

-- which kinds receive something segmented
kind_segments : (k n time block gap : ℕ) (w : Bool) (b : List ℕ) → segments_in (transfer_on k n time block gap w b) ≡ (eqb k 1 || eqb k 2)
unfolding segments_in
kind_segments zero n time block gap w b = refl
kind_segments (suc zero) n time block gap w b = refl
kind_segments (suc (suc zero)) n time block gap w b = refl
kind_segments (suc (suc (suc zero))) n time block gap w b = refl
kind_segments (suc (suc (suc (suc zero)))) n time block gap w b = refl
kind_segments (suc (suc (suc (suc (suc zero))))) n time block gap w b = refl
kind_segments (suc (suc (suc (suc (suc (suc k)))))) n time block gap w b =
    let j : ℕ = suc (suc (suc (suc (suc (suc k))))) in
    sym (ap₂ (λ (x y : Bool). x || y) (ne_eqb j 1 (λ e. absurd (omega arith))) (ne_eqb j 2 (λ e. absurd (omega arith))))

segments_is : (p : Transferred) → segments_in (transfer_back p) ≡ (eqb p.0 1 || eqb p.0 2)
segments_is p = kind_segments p.0 p.1.0 p.1.1.0 p.1.1.1.0 p.1.1.1.1.0 p.1.1.1.1.1.0 p.1.1.1.1.1.1

-- ---- what a conversation's place holds, behind its taken mark

abbrev pub talk_at : List ℕ → Talk
talk_at t = record { wide = eqb 1 (get_or t 1 0); pattern = word_at pattern_in t; flow = word_at flow_in t; transfer = transfer_back (parts_of t (payload508.get (payload_of t))) }

module _ (t : List ℕ) (flags : ℕ) where
  transfer_got : transfer_code.get (drop transfer_in t) ≡ transfer_back (parts_of t (payload508.get (payload_of t)))
  unfolding transfer_code via such
  transfer_got = ap transfer_back (plain_got t)

  pub talk_got : (talk_cell flags).get (drop 1 t) ≡ talk_at t
  unfolding talk_cell such via
  talk_got =
      let w : Bool = eqb 1 (get_or t 1 0) in
      ap talk_back
      (mark_then_got Pattern 1 2 t refl
      ∙ (λ i. (w, number_got Flow 2 6 t refl i))
      ∙ (λ i. (w, (word_at 2 t, number_got transfer_code 6 10 t refl i)))
      ∙ (λ i. (w, (word_at 2 t, (word_at 6 t, transfer_got i)))))

  cell_valid : (talk_cell flags).valid (drop 1 t) ≡ ((both mark Pattern).valid (drop 1 t) && talk_fits flags ((talk_cell flags).get (drop 1 t)))
  unfolding talk_cell such via
  cell_valid = refl

  fits_is : talk_fits flags (talk_at t)
      ≡ (takes flags (eqb 1 (get_or t 1 0)) && leb (word_at pattern_in t) (id_limit (eqb 1 (get_or t 1 0))) && leb (word_at flow_in t) (id_limit (eqb 1 (get_or t 1 0)))
      && not (eqb (word_at pattern_in t) (word_at flow_in t) && (eqb (get_or t transfer_in 0) 1 || eqb (get_or t transfer_in 0) 2)))
  unfolding talk_fits
  fits_is =
      let w : Bool = eqb 1 (get_or t 1 0) in
      let p : ℕ = word_at pattern_in t in
      let f : ℕ = word_at flow_in t in
      ap (λ (x : Bool). takes flags w && leb p (id_limit w) && leb f (id_limit w) && not (eqb p f && x)) (segments_is (parts_of t (payload508.get (payload_of t))))

  pub talk_flat : Bytes t
      → (leb (get_or t 1 0) 1 && transfer_code.valid (drop transfer_in t)
      && (takes flags (eqb 1 (get_or t 1 0)) && leb (word_at pattern_in t) (id_limit (eqb 1 (get_or t 1 0))) && leb (word_at flow_in t) (id_limit (eqb 1 (get_or t 1 0)))
      && not (eqb (word_at pattern_in t) (word_at flow_in t) && (eqb (get_or t transfer_in 0) 1 || eqb (get_or t transfer_in 0) 2)))) ≡ (talk_cell flags).valid (drop 1 t)
  talk_flat by =
      let v : (both mark Pattern).valid (drop 1 t) ≡ (leb (get_or t 1 0) 1 && transfer_code.valid (drop transfer_in t)) =
      mark_then Pattern 1 2 t refl by ∙ ap (λ (x : Bool). leb (get_or t 1 0) 1 && x) (number_valid Flow 2 6 t refl by ∙ number_valid transfer_code 6 10 t refl by) in
      sym (cell_valid ∙ ap₂ (λ (x : Bool) (c : Talk). x && talk_fits flags c) v talk_got ∙ ap (λ (x : Bool). leb (get_or t 1 0) 1 && transfer_code.valid (drop transfer_in t) && x) fits_is)

-- ---- both conversations

module _ (flags : ℕ) (s : List ℕ) where
  abbrev Place : Code (Option Talk)
  Place = slot (talk_cell flags)

  pub talks_flat : (Place.valid (take talk_size s) && Place.valid (take talk_size (drop talk_size s))) ≡ (talks_code flags).valid s
  unfolding talks_code many
  talks_flat =
      sym (ap (λ (k : ℕ). Place.valid (take k s) && (Place.valid (take k (drop k s)) && true)) (slot_size flags)
      ∙ ap (λ (x : Bool). Place.valid (take talk_size s) && x) (and_true (Place.valid (take talk_size (drop talk_size s)))))

  pub talks_got : (talks_code flags).get s ≡ Place.get (take talk_size s) ∷ Place.get (take talk_size (drop talk_size s)) ∷ []
  unfolding talks_code many
  talks_got = ap {B = Slots Talk} (λ (k : ℕ). Place.get (take k s) ∷ Place.get (take k (drop k s)) ∷ []) (slot_size flags)
