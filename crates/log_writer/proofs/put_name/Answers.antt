-- `log_writer::put_name` meets its contract. Assumes nothing.
use Prim.Native.Nat.{ℕ, ◌+◌, ◌≤◌, ◌<◌}
use mathlib.Core.List.{List, [], ◌∷◌, ◌++◌}
use mathlib.Core.Path.{subst}
use native.Mathlib.Omega.{arith}
use Rattle.candump.specs.Line.{blank, nought}
use Rattle.log_writer.specs.Pieces.{name_part}
use Rattle.log_writer.proofs.Writing.{Writing, begun, fits, on, all_written}
use Rattle.log_writer.proofs.Texts.{name_pieces}
use lib.ListN.{length}
use Rattle.log_writer.proofs.put_name.Goals as goal

-- what is left behind each byte
module _ (line : ℕ) where
  abbrev r₅ : List ℕ
  r₅ = (blank ∷ []) ++ []

  abbrev r₄ : List ℕ
  r₄ = ((nought + line) ∷ []) ++ r₅

  abbrev r₃ : List ℕ
  r₃ = (0x6E ∷ []) ++ r₄

  abbrev r₂ : List ℕ
  r₂ = (0x61 ∷ []) ++ r₃

  abbrev r₁ : List ℕ
  r₁ = (0x63 ∷ []) ++ r₂

  start : (b : List ℕ) (at : ℕ) → at + length (name_part line) ≤ length b → Writing b at (name_part line) ((blank ∷ []) ++ r₁) at b
  start b at room = subst (λ (l : List ℕ). Writing b at (name_part line) l at b) (name_pieces line) (begun b at (name_part line) room)

-- one byte has room
one : (n m : ℕ) → n + 1 ≤ m → n < m
one n m h = omega arith

pub put_byte-a-requires : goal.put_byte-a-requires
put_byte-a-requires c =
    let w₀ = start c.args.line c.args.out.now c.args.at c.requires.1 in
    one _ _ (fits (blank ∷ []) (r₁ c.args.line) w₀)

pub put_byte-b-requires : goal.put_byte-b-requires
put_byte-b-requires c =
    let w₀ = start c.args.line c.args.out.now c.args.at c.requires.1 in
    let w₁ = on (blank ∷ []) (r₁ c.args.line) w₀ c.put_byte-a.ensures in
    one _ _ (fits (0x63 ∷ []) (r₂ c.args.line) w₁)

pub put_byte-c-requires : goal.put_byte-c-requires
put_byte-c-requires c =
    let w₀ = start c.args.line c.args.out.now c.args.at c.requires.1 in
    let w₁ = on (blank ∷ []) (r₁ c.args.line) w₀ c.put_byte-a.ensures in
    let w₂ = on (0x63 ∷ []) (r₂ c.args.line) w₁ c.put_byte-b.ensures in
    one _ _ (fits (0x61 ∷ []) (r₃ c.args.line) w₂)

pub put_byte-d-requires : goal.put_byte-d-requires
put_byte-d-requires c =
    let w₀ = start c.args.line c.args.out.now c.args.at c.requires.1 in
    let w₁ = on (blank ∷ []) (r₁ c.args.line) w₀ c.put_byte-a.ensures in
    let w₂ = on (0x63 ∷ []) (r₂ c.args.line) w₁ c.put_byte-b.ensures in
    let w₃ = on (0x61 ∷ []) (r₃ c.args.line) w₂ c.put_byte-c.ensures in
    one _ _ (fits (0x6E ∷ []) (r₄ c.args.line) w₃)

pub overflow_cast-line : goal.overflow_cast-line
overflow_cast-line c = record { fits = omega (arith, c.requires.0) }

pub overflow_add-line : goal.overflow_add-line
overflow_add-line c = record { fits = omega (arith, c.requires.0) }

pub put_byte-e-requires : goal.put_byte-e-requires
put_byte-e-requires c =
    let w₀ = start c.args.line c.args.out.now c.args.at c.requires.1 in
    let w₁ = on (blank ∷ []) (r₁ c.args.line) w₀ c.put_byte-a.ensures in
    let w₂ = on (0x63 ∷ []) (r₂ c.args.line) w₁ c.put_byte-b.ensures in
    let w₃ = on (0x61 ∷ []) (r₃ c.args.line) w₂ c.put_byte-c.ensures in
    let w₄ = on (0x6E ∷ []) (r₄ c.args.line) w₃ c.put_byte-d.ensures in
    one _ _ (fits ((nought + c.args.line) ∷ []) (r₅ c.args.line) w₄)

pub put_byte-requires : goal.put_byte-requires
put_byte-requires c =
    let w₀ = start c.args.line c.args.out.now c.args.at c.requires.1 in
    let w₁ = on (blank ∷ []) (r₁ c.args.line) w₀ c.put_byte-a.ensures in
    let w₂ = on (0x63 ∷ []) (r₂ c.args.line) w₁ c.put_byte-b.ensures in
    let w₃ = on (0x61 ∷ []) (r₃ c.args.line) w₂ c.put_byte-c.ensures in
    let w₄ = on (0x6E ∷ []) (r₄ c.args.line) w₃ c.put_byte-d.ensures in
    let w₅ = on ((nought + c.args.line) ∷ []) (r₅ c.args.line) w₄ c.put_byte-e.ensures in
    one _ _ (fits (blank ∷ []) [] w₅)

pub returns : goal.returns
returns c =
    let w₀ = start c.args.line c.args.out.now c.args.at c.requires.1 in
    let w₁ = on (blank ∷ []) (r₁ c.args.line) w₀ c.put_byte-a.ensures in
    let w₂ = on (0x63 ∷ []) (r₂ c.args.line) w₁ c.put_byte-b.ensures in
    let w₃ = on (0x61 ∷ []) (r₃ c.args.line) w₂ c.put_byte-c.ensures in
    let w₄ = on (0x6E ∷ []) (r₄ c.args.line) w₃ c.put_byte-d.ensures in
    let w₅ = on ((nought + c.args.line) ∷ []) (r₅ c.args.line) w₄ c.put_byte-e.ensures in
    all_written (on (blank ∷ []) [] w₅ c.put_byte.ensures)
