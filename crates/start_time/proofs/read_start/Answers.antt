-- `start_time::read_start` meets its contract. Assumes nothing.
use Prim.Native.Nat.{ℕ, ◌+◌, ◌-◌, ◌≤◌, ◌<◌}
use mathlib.Core.Path.{◌≡◌, sym, ap, ◌∙◌}
use mathlib.Core.List.{List}
use native.Mathlib.Omega.{arith}
use lib.ListN.{length, take, drop, length-drop}
use lib.Seq.{length-take-le, take_all}
use Rattle.text_reader.specs.Reading.{before, valued}
use Rattle.std.specs.Prelude.{Some}
use Rattle.text_reader.proofs.Finding.{found_inside, first_or_end}
use Rattle.text_reader.proofs.Digits.{NearNumber, number_there, valued_some}
use Rattle.candump.specs.Line.{point}
use Rattle.start_time.specs.Start.{decimals_in}
use Rattle.start_time.proofs.Units.{decimals_most}
use Rattle.start_time.proofs.Starting.{no_seconds, bad_seconds, whole_seconds, bad_rest, both_parts}
use Rattle.start_time.proofs.read_start.Goals as goal

-- the point that was found is inside the text
dot_inside : (text : List ℕ) (dot : ℕ) → dot ≡ 0 + before point (drop 0 text) → dot ≤ length text
dot_inside text dot is = (found_inside point text 0 dot (omega arith) is).1

-- a part to the end is all that is left
to_end : (l : List ℕ) (from : ℕ) → take (length l - from) (drop from l) ≡ drop from l
to_end l from = take_all (length l - from) (drop from l) (omega (arith, length-drop from l))

pub returns-then-dot-lt1 : goal.returns-then-dot-lt1
returns-then-dot-lt1 c = no_seconds _ _ (c.unwrap_or-dot.ensures ∙ first_or_end point c.args.text.now 0 c.find.result c.find.ensures (omega arith)) c.if-dot-lt1.true

pub slice_bounds-number-end : goal.slice_bounds-number-end
slice_bounds-number-end c = sym (length-take-le _ _ (dot_inside c.args.text.now c.unwrap_or-dot.result (c.unwrap_or-dot.ensures ∙ first_or_end point c.args.text.now 0 c.find.result c.find.ensures (omega arith))))

pub returns-in_default : goal.returns-in_default
returns-in_default c =
    bad_seconds _ _ (c.unwrap_or-dot.ensures ∙ first_or_end point c.args.text.now 0 c.find.result c.find.ensures (omega arith)) c.if-dot-lt1.false (dot_inside c.args.text.now c.unwrap_or-dot.result (c.unwrap_or-dot.ensures ∙ first_or_end point c.args.text.now 0 c.find.result c.find.ensures (omega arith))) c.in_default.ensures

pub overflow_mul-seconds : goal.overflow_mul-seconds
overflow_mul-seconds c =
    let seconds_are : NearNumber 10 (take c.unwrap_or-dot.result c.args.text.now) c.in-Some.seconds = number_there 10 _ c.in-Some.seconds c.in-Some.ensures in
    record { fits = omega (arith, seconds_are.small) }

pub returns-then-dot-text : goal.returns-then-dot-text
returns-then-dot-text c =
    let seconds_are : NearNumber 10 (take c.unwrap_or-dot.result c.args.text.now) c.in-Some.seconds = number_there 10 _ c.in-Some.seconds c.in-Some.ensures in
    c.bounded.ensures ∙ whole_seconds _ _ (c.unwrap_or-dot.ensures ∙ first_or_end point c.args.text.now 0 c.find.result c.find.ensures (omega arith)) c.if-dot-lt1.false (dot_inside c.args.text.now c.unwrap_or-dot.result (c.unwrap_or-dot.ensures ∙ first_or_end point c.args.text.now 0 c.find.result c.find.ensures (omega arith))) _ seconds_are c.if-dot-text.true

pub returns-in_default-read_decimals : goal.returns-in_default-read_decimals
returns-in_default-read_decimals c =
    let seconds_are : NearNumber 10 (take c.unwrap_or-dot.result c.args.text.now) c.in-Some.seconds = number_there 10 _ c.in-Some.seconds c.in-Some.ensures in
    bad_rest _ _ (c.unwrap_or-dot.ensures ∙ first_or_end point c.args.text.now 0 c.find.result c.find.ensures (omega arith)) c.if-dot-lt1.false (dot_inside c.args.text.now c.unwrap_or-dot.result (c.unwrap_or-dot.ensures ∙ first_or_end point c.args.text.now 0 c.find.result c.find.ensures (omega arith))) _ seconds_are c.if-dot-text.false
    (c.in_default-read_decimals.ensures ∙ ap (λ (l : List ℕ). valued (decimals_in l)) (to_end c.args.text.now (c.unwrap_or-dot.result + 1)))

-- ---- the decimals
pub overflow_mul-seconds-2 : goal.overflow_mul-seconds-2
overflow_mul-seconds-2 c =
    let seconds_are : NearNumber 10 (take c.unwrap_or-dot.result c.args.text.now) c.in-Some.seconds = number_there 10 _ c.in-Some.seconds c.in-Some.ensures in
    record { fits = omega (arith, seconds_are.small) }

pub overflow_add-seconds : goal.overflow_add-seconds
overflow_add-seconds c =
    let seconds_are : NearNumber 10 (take c.unwrap_or-dot.result c.args.text.now) c.in-Some.seconds = number_there 10 _ c.in-Some.seconds c.in-Some.ensures in
    let behind : List ℕ = drop (c.unwrap_or-dot.result + 1) c.args.text.now in
    let micro_is : Some c.in-Some-read_decimals.micro ≡ valued (decimals_in behind) =
    c.in-Some-read_decimals.ensures ∙ ap (λ (l : List ℕ). valued (decimals_in l)) (to_end c.args.text.now (c.unwrap_or-dot.result + 1)) in
    let micro_small : c.in-Some-read_decimals.micro < 1_000_000_000_000 = decimals_most behind c.in-Some-read_decimals.micro (valued_some (decimals_in behind) c.in-Some-read_decimals.micro micro_is) in
    record { fits = omega (arith, seconds_are.small, micro_small) }

pub returns : goal.returns
returns c =
    let seconds_are : NearNumber 10 (take c.unwrap_or-dot.result c.args.text.now) c.in-Some.seconds = number_there 10 _ c.in-Some.seconds c.in-Some.ensures in
    let behind : List ℕ = drop (c.unwrap_or-dot.result + 1) c.args.text.now in
    let micro_is : Some c.in-Some-read_decimals.micro ≡ valued (decimals_in behind) =
    c.in-Some-read_decimals.ensures ∙ ap (λ (l : List ℕ). valued (decimals_in l)) (to_end c.args.text.now (c.unwrap_or-dot.result + 1)) in
    c.bounded-2.ensures ∙ both_parts _ _ (c.unwrap_or-dot.ensures ∙ first_or_end point c.args.text.now 0 c.find.result c.find.ensures (omega arith)) c.if-dot-lt1.false (dot_inside c.args.text.now c.unwrap_or-dot.result (c.unwrap_or-dot.ensures ∙ first_or_end point c.args.text.now 0 c.find.result c.find.ensures (omega arith))) _ seconds_are c.if-dot-text.false c.in-Some-read_decimals.micro micro_is
