-- `log_writer::put_time` meets its contract. Assumes nothing.
use Prim.Native.Nat.{ℕ, ◌+◌, ◌/◌, ◌%◌, ◌≤◌, ◌<◌}
use mathlib.Core.List.{List, [], ◌∷◌, ◌++◌}
use mathlib.Core.Path.{◌≡◌, sym, ap, subst, ◌∙◌}
use native.Mathlib.Omega.{arith}
use lib.ListN.{length}
use Rattle.text.specs.Text.{fixed, decimal}
use Rattle.text.proofs.Text.{fixed_long}
use Rattle.answers.specs.Put.{Put}
use Rattle.candump.specs.Line.{second, opens, point, closes}
use Rattle.log_writer.specs.Pieces.{time_text}
use Rattle.log_writer.proofs.Writing.{Writing, begun, fits, on, all_written}
use Rattle.log_writer.proofs.Digits.{decimal_fixed}
use Rattle.log_writer.proofs.Texts.{time_pieces}
use Rattle.log_writer.proofs.put_time.Goals as goal

-- what is left behind each piece
module _ (time : ℕ) where
  abbrev r₄ : List ℕ
  r₄ = (closes ∷ []) ++ []

  abbrev r₃ : List ℕ
  r₃ = fixed 10 6 (time % second) ++ r₄

  abbrev r₂ : List ℕ
  r₂ = (point ∷ []) ++ r₃

  abbrev r₁ : List ℕ
  r₁ = decimal (time / second) ++ r₂

  start : (b : List ℕ) (at : ℕ) → at + length (time_text time) ≤ length b → Writing b at (time_text time) ((opens ∷ []) ++ r₁) at b
  start b at room = subst (λ (l : List ℕ). Writing b at (time_text time) l at b) (time_pieces time) (begun b at (time_text time) room)

  seconds_put : {b after : List ℕ} {at n digits : ℕ} → digits ≡ length (decimal (time / second)) → Put b at (fixed 10 digits (time / second)) n after → Put b at (decimal (time / second)) n after
  seconds_put {b} {after} {at} {n} {digits} e p =
      subst (λ (l : List ℕ). Put b at l n after) (ap (λ (k : ℕ). fixed 10 k (time / second)) e ∙ decimal_fixed (time / second)) p

-- one byte has room
one : (n m : ℕ) → n + 1 ≤ m → n < m
one n m h = omega arith

pub put_byte-opened-requires : goal.put_byte-opened-requires
put_byte-opened-requires c =
    let w₀ = start c.args.time c.args.out.now c.args.at c.requires in
    one _ _ (fits (opens ∷ []) (r₁ c.args.time) w₀)

pub put_fixed-whole-requires : goal.put_fixed-whole-requires
put_fixed-whole-requires c =
    let w₀ = start c.args.time c.args.out.now c.args.at c.requires in
    let w₁ = on (opens ∷ []) (r₁ c.args.time) w₀ c.put_byte-opened.ensures in
    (omega arith, omega arith, subst (λ (n : ℕ). c.put_byte-opened.result + n ≤ length c.put_byte-opened.new.out) (sym c.digits_of.ensures) (fits (decimal (c.args.time / second)) (r₂ c.args.time) w₁))

pub put_byte-pointed-requires : goal.put_byte-pointed-requires
put_byte-pointed-requires c =
    let w₀ = start c.args.time c.args.out.now c.args.at c.requires in
    let w₁ = on (opens ∷ []) (r₁ c.args.time) w₀ c.put_byte-opened.ensures in
    let w₂ = on (decimal (c.args.time / second)) (r₂ c.args.time) w₁ (seconds_put c.args.time c.digits_of.ensures c.put_fixed-whole.ensures) in
    one _ _ (fits (point ∷ []) (r₃ c.args.time) w₂)

pub put_fixed-parts-requires : goal.put_fixed-parts-requires
put_fixed-parts-requires c =
    let w₀ = start c.args.time c.args.out.now c.args.at c.requires in
    let w₁ = on (opens ∷ []) (r₁ c.args.time) w₀ c.put_byte-opened.ensures in
    let w₂ = on (decimal (c.args.time / second)) (r₂ c.args.time) w₁ (seconds_put c.args.time c.digits_of.ensures c.put_fixed-whole.ensures) in
    let w₃ = on (point ∷ []) (r₃ c.args.time) w₂ c.put_byte-pointed.ensures in
    (omega arith, omega arith, subst (λ (n : ℕ). c.put_byte-pointed.result + n ≤ length c.put_byte-pointed.new.out) (fixed_long 10 6 (c.args.time % second)) (fits (fixed 10 6 (c.args.time % second)) (r₄ c.args.time) w₃))

pub put_byte-requires : goal.put_byte-requires
put_byte-requires c =
    let w₀ = start c.args.time c.args.out.now c.args.at c.requires in
    let w₁ = on (opens ∷ []) (r₁ c.args.time) w₀ c.put_byte-opened.ensures in
    let w₂ = on (decimal (c.args.time / second)) (r₂ c.args.time) w₁ (seconds_put c.args.time c.digits_of.ensures c.put_fixed-whole.ensures) in
    let w₃ = on (point ∷ []) (r₃ c.args.time) w₂ c.put_byte-pointed.ensures in
    let w₄ = on (fixed 10 6 (c.args.time % second)) (r₄ c.args.time) w₃ c.put_fixed-parts.ensures in
    one _ _ (fits (closes ∷ []) [] w₄)

pub returns : goal.returns
returns c =
    let w₀ = start c.args.time c.args.out.now c.args.at c.requires in
    let w₁ = on (opens ∷ []) (r₁ c.args.time) w₀ c.put_byte-opened.ensures in
    let w₂ = on (decimal (c.args.time / second)) (r₂ c.args.time) w₁ (seconds_put c.args.time c.digits_of.ensures c.put_fixed-whole.ensures) in
    let w₃ = on (point ∷ []) (r₃ c.args.time) w₂ c.put_byte-pointed.ensures in
    let w₄ = on (fixed 10 6 (c.args.time % second)) (r₄ c.args.time) w₃ c.put_fixed-parts.ensures in
    all_written (on (closes ∷ []) [] w₄ c.put_byte.ensures)
