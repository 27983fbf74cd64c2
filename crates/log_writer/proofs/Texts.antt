-- The texts of a line's pieces, as they are written. Assumes nothing.
use Rattle.std.specs.Prelude.{if◌then◌else◌}
use Prim.Native.Nat.{ℕ, zero, suc, ◌+◌, ◌/◌, ◌%◌, ◌≤◌, ◌<◌}
use mathlib.Core.Path.{◌≡◌, refl, sym, ap, ◌∙◌}
use mathlib.Core.Bool.{Bool, true, false}
use mathlib.Core.List.{List, [], ◌∷◌, ◌++◌, append_assoc, append-nil}
use native.Mathlib.Omega.{arith}
use native.Mathlib.Numerals.{add-one}
use lib.ListN.{length, get_or, take, drop, length-append, drop_of_length-le}
use lib.Seq.{drop-cons}
use Rattle.text.specs.Text.{fixed, decimal}
use Rattle.text.proofs.Text.{fixed_long}
use Rattle.candump.specs.Line.{second, hash, opens, point, closes, blank, can, nought, id_digits, data_text, frame_text, name_text, micro_text, line_text}
use Rattle.candump.specs.Log.{newline}
use Rattle.log_writer.specs.Pieces.{logged_as, time_text, name_part}
use Rattle.log_writer.proofs.Writing.{Writing}

pub time_pieces : (t : ℕ) → time_text t ≡ (opens ∷ []) ++ (decimal (t / second) ++ ((point ∷ []) ++ (fixed 10 6 (t % second) ++ ((closes ∷ []) ++ []))))
unfolding time_text micro_text
time_pieces t = refl

pub name_pieces : (line : ℕ) → name_part line ≡ (blank ∷ []) ++ ((0x63 ∷ []) ++ ((0x61 ∷ []) ++ ((0x6E ∷ []) ++ (((nought + line) ∷ []) ++ ((blank ∷ []) ++ [])))))
unfolding name_part name_text
name_pieces line = refl

pub narrow_digits : id_digits false ≡ 3
unfolding id_digits
narrow_digits = refl

pub wide_digits : id_digits true ≡ 8
unfolding id_digits
wide_digits = refl

-- the data from a place on
pub data_more : (l : List ℕ) (i : ℕ) → i < length l → data_text (drop i l) ≡ fixed 16 2 (get_or l i 0) ++ data_text (drop (i + 1) l)
unfolding data_text
data_more l i h = rw (add-one i, drop-cons l i 0 h)

pub data_end : (l : List ℕ) (i : ℕ) → length l ≤ i → data_text (drop i l) ≡ []
unfolding data_text
data_end l i h = ap data_text (drop_of_length-le l {i = i} h)

module _ (t line : ℕ) (wide : Bool) (id : ℕ) (b : List ℕ) where
  -- an identifier and data
  abbrev pub carried : List ℕ
  carried = fixed 16 (id_digits wide) id ++ (hash ∷ data_text b)

  pub line_pieces : line_text (logged_as t line wide id b) ++ (newline ∷ []) ≡ time_text t ++ (name_part line ++ (carried ++ ((newline ∷ []) ++ [])))
  unfolding line_text frame_text time_text name_part
  line_pieces = simp append_assoc
