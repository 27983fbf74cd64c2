-- `link_measures::micros` meets its contract: a hundred times the unit times the count. Assumes nothing.
use mathlib.Core.Path.{◌≡◌}
use Prim.Native.Nat.{ℕ, ◌*◌, ◌%◌, ◌≤◌, ◌<◌}
use native.Mathlib.Omega.{arith}
use borrow.Author.Rules.{rules}
use Rattle.link.specs.Connection.{micros}
use Rattle.link_measures.proofs.Laws.{in_unit}
use Rattle.link_measures.proofs.micros.Goals as goal

pub returns-then-b-lt64 : goal.returns-then-b-lt64
returns-then-b-lt64 c =
    let b : ℕ = c.args.b in
    let h : b < 64 = c.if-b-lt64.true in
    let e : 100 * (1 * (b % 64)) ≡ micros b = in_unit b 0 (omega arith) in
    (omega (arith, e), omega arith)

pub returns-then-b-lt128 : goal.returns-then-b-lt128
returns-then-b-lt128 c =
    let b : ℕ = c.args.b in
    let l : 64 ≤ b = c.if-b-lt64.false in
    let h : b < 128 = c.if-b-lt128.true in
    let e : 100 * (10 * (b % 64)) ≡ micros b = in_unit b 1 (omega arith) in
    (omega (arith, e), omega arith)

pub returns-then-b-lt192 : goal.returns-then-b-lt192
returns-then-b-lt192 c =
    let b : ℕ = c.args.b in
    let l : 128 ≤ b = c.if-b-lt128.false in
    let h : b < 192 = c.if-b-lt192.true in
    let e : 100 * (100 * (b % 64)) ≡ micros b = in_unit b 2 (omega arith) in
    (omega (arith, e), omega arith)

pub returns : goal.returns
returns c =
    let b : ℕ = c.args.b in
    let l : 192 ≤ b = c.if-b-lt192.false in
    let h : b < 256 = search rules in
    let e : 100 * (1000 * (b % 64)) ≡ micros b = in_unit b 3 (omega arith) in
    (omega (arith, e), omega arith)
