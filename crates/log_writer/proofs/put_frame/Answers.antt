-- `log_writer::put_frame` meets its contract. Assumes nothing.
use Prim.Native.Nat.{ℕ, ◌+◌, ◌≤◌, ◌<◌}
use mathlib.Core.List.{List, [], ◌∷◌, ◌++◌, append-nil}
use mathlib.Core.Path.{sym, subst, ◌∙◌}
use native.Mathlib.Omega.{arith}
use lib.ListN.{length}
use Rattle.text.specs.Text.{fixed}
use Rattle.text.proofs.Text.{fixed_long}
use Rattle.answers.specs.Put.{Put}
use Rattle.candump.specs.Line.{hash, id_digits, data_text}
use Rattle.log_writer.proofs.Writing.{Writing, begun, fits, on, all_written}
use Rattle.log_writer.proofs.put_frame.Goals as goal

-- one byte has room
one : (n m : ℕ) → n + 1 ≤ m → n < m
one n m h = omega arith

-- what is left behind each piece
pub put_fixed-named-requires : goal.put_fixed-named-requires
put_fixed-named-requires c =
    let w₀ = begun c.args.out.now c.args.at ((fixed 16 (id_digits c.args.wide) c.args.id) ++ (hash ∷ (data_text c.args.bytes.now))) c.requires in (
      omega arith,
      omega arith,
      subst (λ (n : ℕ). c.args.at + n ≤ length c.args.out.now) (fixed_long 16 (id_digits c.args.wide) c.args.id ∙ sym c.id_digits.ensures)
          (fits (fixed 16 (id_digits c.args.wide) c.args.id) (hash ∷ (data_text c.args.bytes.now)) w₀),
    )

pub put_byte-marked-requires : goal.put_byte-marked-requires
put_byte-marked-requires c =
    let w₀ = begun c.args.out.now c.args.at ((fixed 16 (id_digits c.args.wide) c.args.id) ++ (hash ∷ (data_text c.args.bytes.now))) c.requires in
    let p₁ : Put c.args.out.now c.args.at (fixed 16 (id_digits c.args.wide) c.args.id) c.put_fixed-named.result c.put_fixed-named.new.out =
    subst (λ (n : ℕ). Put c.args.out.now c.args.at (fixed 16 n c.args.id) c.put_fixed-named.result c.put_fixed-named.new.out) c.id_digits.ensures c.put_fixed-named.ensures in
    let w₁ = on (fixed 16 (id_digits c.args.wide) c.args.id) (hash ∷ (data_text c.args.bytes.now)) w₀ p₁ in
    one _ _ (fits (hash ∷ []) (data_text c.args.bytes.now) w₁)

pub put_data-requires : goal.put_data-requires
put_data-requires c =
    let w₀ = begun c.args.out.now c.args.at ((fixed 16 (id_digits c.args.wide) c.args.id) ++ (hash ∷ (data_text c.args.bytes.now))) c.requires in
    let p₁ : Put c.args.out.now c.args.at (fixed 16 (id_digits c.args.wide) c.args.id) c.put_fixed-named.result c.put_fixed-named.new.out =
    subst (λ (n : ℕ). Put c.args.out.now c.args.at (fixed 16 n c.args.id) c.put_fixed-named.result c.put_fixed-named.new.out) c.id_digits.ensures c.put_fixed-named.ensures in
    let w₁ = on (fixed 16 (id_digits c.args.wide) c.args.id) (hash ∷ (data_text c.args.bytes.now)) w₀ p₁ in
    let w₂ : Writing c.args.out.now c.args.at ((fixed 16 (id_digits c.args.wide) c.args.id) ++ (hash ∷ (data_text c.args.bytes.now))) ((data_text c.args.bytes.now) ++ []) c.put_byte-marked.result c.put_byte-marked.new.out =
    subst (λ (l : List ℕ). Writing c.args.out.now c.args.at ((fixed 16 (id_digits c.args.wide) c.args.id) ++ (hash ∷ (data_text c.args.bytes.now))) l c.put_byte-marked.result c.put_byte-marked.new.out) (sym (append-nil (data_text c.args.bytes.now)))
    (on (hash ∷ []) (data_text c.args.bytes.now) w₁ c.put_byte-marked.ensures) in
    fits (data_text c.args.bytes.now) [] w₂

pub returns : goal.returns
returns c =
    let w₀ = begun c.args.out.now c.args.at ((fixed 16 (id_digits c.args.wide) c.args.id) ++ (hash ∷ (data_text c.args.bytes.now))) c.requires in
    let p₁ : Put c.args.out.now c.args.at (fixed 16 (id_digits c.args.wide) c.args.id) c.put_fixed-named.result c.put_fixed-named.new.out =
    subst (λ (n : ℕ). Put c.args.out.now c.args.at (fixed 16 n c.args.id) c.put_fixed-named.result c.put_fixed-named.new.out) c.id_digits.ensures c.put_fixed-named.ensures in
    let w₁ = on (fixed 16 (id_digits c.args.wide) c.args.id) (hash ∷ (data_text c.args.bytes.now)) w₀ p₁ in
    let w₂ : Writing c.args.out.now c.args.at ((fixed 16 (id_digits c.args.wide) c.args.id) ++ (hash ∷ (data_text c.args.bytes.now))) ((data_text c.args.bytes.now) ++ []) c.put_byte-marked.result c.put_byte-marked.new.out =
    subst (λ (l : List ℕ). Writing c.args.out.now c.args.at ((fixed 16 (id_digits c.args.wide) c.args.id) ++ (hash ∷ (data_text c.args.bytes.now))) l c.put_byte-marked.result c.put_byte-marked.new.out) (sym (append-nil (data_text c.args.bytes.now)))
    (on (hash ∷ []) (data_text c.args.bytes.now) w₁ c.put_byte-marked.ensures) in
    all_written (on (data_text c.args.bytes.now) [] w₂ c.put_data.ensures)
