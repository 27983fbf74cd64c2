-- What a frame makes of the connection is what the telegram does that the reader took; what its answer carries is short. Assumes nothing.
use mathlib.Core.Path.{◌≡◌, sym, ap, ◌∙◌}
use Prim.Native.Nat.{ℕ, ◌-◌, ◌≤◌}
use native.Mathlib.Omega.{arith}
use mathlib.Core.Option.{Option, none, some}
use mathlib.Core.List.{List}
use lib.ListN.{length, take, replicate, length-append}
use Rattle.telegram.specs.Telegram.{Telegram, AnyTelegram, read_channel}
use Rattle.std.specs.Prelude.{Ok}
use Rattle.telegram_types.specs.declared.Answer.{Answer}
use Rattle.telegram_types.specs.Face.{Told, told, answering, carried_by, padded}
use Rattle.link.specs.Connection.{longest}
use Rattle.link_layout.specs.Connection.{connection_part}
use Rattle.link_layout.proofs.Moves.{length_take_most}
use Rattle.link_telling.specs.Telling.{tells, heeds}

padded_long : (b : List ℕ) → length b ≤ length (padded b)
unfolding padded
padded_long b = omega (arith, length-append b (replicate (7 - length b) 0))

answered_few : (x : Option AnyTelegram) → (answering x).len ≤ length (answering x).payload
unfolding answering
answered_few none = omega arith
answered_few (some t) = padded_long (carried_by t)

pub few : (r : Answer) (x : Option AnyTelegram) → told (Ok r) ≡ answering x → r.len ≤ length r.payload
unfolding told
few r x e =
    let n : r.len ≡ (answering x).len = ap (λ (y : Told). y.len) e in
    let l : length r.payload ≡ length (answering x).payload = ap (λ (y : Told). length y.payload) e in
    omega (arith, answered_few x)

-- the bytes that are lent of it
pub carried_few : (n : ℕ) (b : List ℕ) → n ≤ length b → length b ≡ 7 → length (take (n - 0) b) ≤ longest
carried_few n b h l = let k = length_take_most (n - 0) b in omega arith

pub whole_part : (n : ℕ) (b : List ℕ) → take (n - 0) b ≡ take n b
whole_part n b = let k : n - 0 ≡ n = omega arith in ap (λ (i : ℕ). take i b) k

-- by the telegram that was read
pub by_read : (b m : List ℕ) (x : Option Telegram) → read_channel b ≡ x → (z : List ℕ) → z ≡ connection_part.put (heeds x (connection_part.get m)) → z ≡ connection_part.put (tells b (connection_part.get m))
unfolding tells heeds
by_read b m x e z q = q ∙ sym (ap (λ (y : Option Telegram). connection_part.put (heeds y (connection_part.get m))) e)
