-- From what was played to the promise of a piece. Assumes nothing.
use Prim.Native.Nat.{ℕ, ◌+◌, ◌≤◌, ◌<◌}
use mathlib.Core.Bool.{true, false}
use mathlib.Core.Path.{◌≡◌, sym, ap, ap₂, ◌∙◌}
use mathlib.Core.List.{List, [], ◌++◌}
use native.Mathlib.Omega.{arith}
use borrow.Author.Tests.{lt-ltb, le-ltb, le-leb, lt-leb}
use lib.ListN.{length, drop}
use Rattle.codec.proofs.Tests.{true_T}
use Rattle.memory.specs.Memory.{load, valid}
use Rattle.memory.proofs.Memory.{image_load}
use Rattle.edition.specs.Edition.{rates_of}
use Rattle.number.specs.Number.{bytes_of, groups}
use Rattle.number.specs.Place.{Written}
use Rattle.recording_sizes.specs.Sizes.{longest, event_room}
use Rattle.std.specs.Prelude.{Result, Ok, Err}
use Rattle.codes.specs.Code.{number_of}
use Rattle.codes.specs.declared.Refusal.{Refusal}
use Rattle.recording.specs.declared.Played.{Played}
use Rattle.recording.specs.Replay.{bad_event, Piece, piece, goes_on, event_at, piece_of, Left, leaves, told, written, pieced}

-- what an answer says, where a caller knows which it is
module _ (at : ℕ) {r : Result Played Refusal} {m b : List ℕ} {x : Left} (e : told at r m b ≡ x) where
  pub told_ok : {played : Played} → r ≡ Ok played → leaves 0x00 played.at played.length m b ≡ x
  told_ok q = ap (λ (a : Result Played Refusal). told at a m b) (sym q) ∙ e

  pub told_err : {refusal : Refusal} → r ≡ Err refusal → leaves (number_of refusal) at 0 m b ≡ x
  told_err q = ap (λ (a : Result Played Refusal). told at a m b) (sym q) ∙ e

module _ (m s : List ℕ) (at : ℕ) (out : List ℕ) where
  -- no device memory
  pub not_memory : valid m ≡ false → leaves 0x1A at 0 m out ≡ pieced m s at out
  unfolding pieced
  not_memory e = sym (rw e)

  module _ (ok : valid m ≡ true) where
    -- no room
    pub no_room : length out < event_room → leaves 0x04 at 0 m out ≡ pieced m s at out
    unfolding pieced
    no_room h = sym (rw (ok, lt-ltb (length out) event_room h))

    module _ (room : event_room ≤ length out) where
      pub is_piece : written (piece_of (load m) s at (length out)) out ≡ pieced m s at out
      unfolding pieced
      is_piece = sym (rw (ok, le-ltb (length out) event_room room))

      -- at the end
      pub nothing_more : length s ≤ at → leaves 0x00 at 0 m out ≡ pieced m s at out
      unfolding piece_of written
      nothing_more h =
          let is : piece_of (load m) s at (length out) ≡ piece [] at (load m) = rw (le-leb (length s) at h) in
          ap (λ (x : List ℕ). leaves 0x00 at 0 x out) (sym (image_load m (true_T (valid m) ok))) ∙ ap (λ (p : Piece). written p out) (sym is) ∙ is_piece

      module _ (more : at < length s) where
        -- a recording that is too long
        module _ (long : longest < length s) where
          pub bad_fits : 0 + length (bytes_of 255) ≤ length out
          unfolding bytes_of groups
          bad_fits = omega arith

          pub too_long : {n : ℕ} {out' : List ℕ} → Written out 0 255 n out' → leaves 0x00 (length s) n m out' ≡ pieced m s at out
          unfolding piece_of written bad_event
          too_long {n} {out'} w =
              let is : piece_of (load m) s at (length out) ≡ piece (bytes_of 255) (length s) (load m) = rw (lt-leb (length s) at more, lt-ltb longest (length s) long) in
              let z : 0 + length (bytes_of 255) ≡ length (bytes_of 255) = omega arith in
              ap₂ (λ (k : ℕ) (b : List ℕ). leaves 0x00 (length s) k m b) (w.ends ∙ z) (w.holds ∙ ap (λ (k : ℕ). bytes_of 255 ++ drop k out) z)
              ∙ ap (λ (x : List ℕ). leaves 0x00 (length s) (length (bytes_of 255)) x (bytes_of 255 ++ drop (length (bytes_of 255)) out)) (sym (image_load m (true_T (valid m) ok)))
              ∙ ap (λ (p : Piece). written p out) (sym is) ∙ is_piece

        -- any other
        pub goes_piece : length s ≤ longest → {x : Left} → x ≡ written (goes_on (rates_of s) (length s) (load m) s (event_at s at) (length out)) out → x ≡ pieced m s at out
        unfolding piece_of
        goes_piece short e =
            let is : piece_of (load m) s at (length out) ≡ goes_on (rates_of s) (length s) (load m) s (event_at s at) (length out) = rw (lt-leb (length s) at more, le-ltb longest (length s) short) in
            e ∙ ap (λ (p : Piece). written p out) (sym is) ∙ is_piece
