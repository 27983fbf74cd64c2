-- `log_writer::put_line` meets its contract. Assumes nothing.
use Prim.Native.Nat.{ℕ, ◌+◌, ◌≤◌, ◌<◌}
use mathlib.Core.List.{List, [], ◌∷◌, ◌++◌}
use mathlib.Core.Path.{subst}
use native.Mathlib.Omega.{arith}
use Rattle.candump.specs.Line.{line_text}
use Rattle.candump.specs.Log.{newline}
use Rattle.log_writer.specs.Pieces.{logged_as, time_text, name_part}
use Rattle.log_writer.proofs.Writing.{Writing, begun, fits, on, all_written}
use Rattle.log_writer.proofs.Texts.{carried, line_pieces}
use mathlib.Core.Bool.{Bool}
use lib.ListN.{length}
use Rattle.log_writer.proofs.put_line.Goals as goal

-- what is left behind each piece
module _ (time line : ℕ) (wide : Bool) (id : ℕ) (bytes : List ℕ) where
  abbrev text : List ℕ
  text = line_text (logged_as time line wide id bytes) ++ (newline ∷ [])

  abbrev frame : List ℕ
  frame = carried time line wide id bytes

  abbrev r₃ : List ℕ
  r₃ = (newline ∷ []) ++ []

  abbrev r₂ : List ℕ
  r₂ = frame ++ r₃

  abbrev r₁ : List ℕ
  r₁ = name_part line ++ r₂

  start : (b : List ℕ) (at : ℕ) → at + length text ≤ length b → Writing b at text (time_text time ++ r₁) at b
  start b at room = subst (λ (l : List ℕ). Writing b at text l at b) (line_pieces time line wide id bytes) (begun b at text room)

-- one byte has room
one : (n m : ℕ) → n + 1 ≤ m → n < m
one n m h = omega arith

pub put_time-timed-requires : goal.put_time-timed-requires
put_time-timed-requires c =
    let w₀ = start c.args.time c.args.line c.args.wide c.args.id c.args.bytes.now c.args.out.now c.args.at c.requires.1 in
    fits (time_text c.args.time) (r₁ c.args.time c.args.line c.args.wide c.args.id c.args.bytes.now) w₀

pub put_name-named-requires : goal.put_name-named-requires
put_name-named-requires c =
    let w₀ = start c.args.time c.args.line c.args.wide c.args.id c.args.bytes.now c.args.out.now c.args.at c.requires.1 in
    let w₁ = on (time_text c.args.time) (r₁ c.args.time c.args.line c.args.wide c.args.id c.args.bytes.now) w₀ c.put_time-timed.ensures in
    (c.requires.0, fits (name_part c.args.line) (r₂ c.args.time c.args.line c.args.wide c.args.id c.args.bytes.now) w₁)

pub put_frame-carried-requires : goal.put_frame-carried-requires
put_frame-carried-requires c =
    let w₀ = start c.args.time c.args.line c.args.wide c.args.id c.args.bytes.now c.args.out.now c.args.at c.requires.1 in
    let w₁ = on (time_text c.args.time) (r₁ c.args.time c.args.line c.args.wide c.args.id c.args.bytes.now) w₀ c.put_time-timed.ensures in
    let w₂ = on (name_part c.args.line) (r₂ c.args.time c.args.line c.args.wide c.args.id c.args.bytes.now) w₁ c.put_name-named.ensures in
    fits (frame c.args.time c.args.line c.args.wide c.args.id c.args.bytes.now) (r₃ c.args.time c.args.line c.args.wide c.args.id c.args.bytes.now) w₂

pub put_byte-requires : goal.put_byte-requires
put_byte-requires c =
    let w₀ = start c.args.time c.args.line c.args.wide c.args.id c.args.bytes.now c.args.out.now c.args.at c.requires.1 in
    let w₁ = on (time_text c.args.time) (r₁ c.args.time c.args.line c.args.wide c.args.id c.args.bytes.now) w₀ c.put_time-timed.ensures in
    let w₂ = on (name_part c.args.line) (r₂ c.args.time c.args.line c.args.wide c.args.id c.args.bytes.now) w₁ c.put_name-named.ensures in
    let w₃ = on (frame c.args.time c.args.line c.args.wide c.args.id c.args.bytes.now) (r₃ c.args.time c.args.line c.args.wide c.args.id c.args.bytes.now) w₂ c.put_frame-carried.ensures in
    one _ _ (fits (newline ∷ []) [] w₃)

pub returns : goal.returns
returns c =
    let w₀ = start c.args.time c.args.line c.args.wide c.args.id c.args.bytes.now c.args.out.now c.args.at c.requires.1 in
    let w₁ = on (time_text c.args.time) (r₁ c.args.time c.args.line c.args.wide c.args.id c.args.bytes.now) w₀ c.put_time-timed.ensures in
    let w₂ = on (name_part c.args.line) (r₂ c.args.time c.args.line c.args.wide c.args.id c.args.bytes.now) w₁ c.put_name-named.ensures in
    let w₃ = on (frame c.args.time c.args.line c.args.wide c.args.id c.args.bytes.now) (r₃ c.args.time c.args.line c.args.wide c.args.id c.args.bytes.now) w₂ c.put_frame-carried.ensures in
    all_written (on (newline ∷ []) [] w₃ c.put_byte.ensures)
