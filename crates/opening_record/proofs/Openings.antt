-- Laws on the opening telegram that a record says. Assumes nothing.
use Rattle.std.specs.Prelude.{if◌then◌else◌}
use Prim.Native.Nat.{ℕ, ◌<◌, ◌^◌}
use mathlib.Core.Path.{◌≡◌, refl, ap, ◌∙◌}
use mathlib.Core.Bool.{Bool, true, false, ◌||◌, and-false}
use mathlib.Core.Option.{none, some}
use mathlib.Core.List.{List}
use native.Mathlib.Omega.{arith}
use lib.Dec.{eqb, leb}
use borrow.Author.Tests.{leb-true, eqb-true, eqb-false}
use Rattle.telegram.specs.Telegram.{AnyTelegram, opening, set_up, positive, negative, is_opening_id, is_destination, is_id, is_negative, any_fits, opening_fits, fields_fit}
use Rattle.telegram.proofs.Tests.{both, tested, stopped}
use Rattle.telegram_record.specs.Record.{kept}
use Rattle.telegram_record.proofs.Narrowed.{looser, application_small}

-- the fields of what the tables allow are small
pub set_up_small : (id d rx app : ℕ) → any_fits (opening id (set_up d rx app)) ≡ true → (leb d 0xFF ≡ true) × (rx < 2 ^ 16) × (leb app 0xFF ≡ true)
unfolding any_fits opening_fits fields_fit
set_up_small id d rx app fit =
    let p = both {a = is_destination d} (both {a = is_opening_id id} fit).1 in
    let q = both {a = is_id rx} p.1 in
    let rx_small = leb-true rx 0x7FF q.0 in
    (looser d 0xEF 0xFF (omega arith) p.0, omega arith, application_small app q.1)

pub positive_small : (id d tx rx app : ℕ) → any_fits (opening id (positive d tx rx app)) ≡ true → (leb d 0xFF ≡ true) × (tx < 2 ^ 16) × (rx < 2 ^ 16) × (leb app 0xFF ≡ true)
unfolding any_fits opening_fits fields_fit
positive_small id d tx rx app fit =
    let p = both {a = is_destination d} (both {a = is_opening_id id} fit).1 in
    let q = both {a = is_id tx} p.1 in
    let s = both {a = is_id rx} q.1 in
    let tx_small = leb-true tx 0x7FF q.0 in
    let rx_small = leb-true rx 0x7FF s.0 in
    (looser d 0xEF 0xFF (omega arith) p.0, omega arith, omega arith, application_small app s.1)

pub negative_small : (id d kind : ℕ) (carried : List ℕ) → any_fits (opening id (negative d kind carried)) ≡ true → (leb d 0xFF ≡ true) × (leb kind 0xFF ≡ true)
unfolding any_fits opening_fits fields_fit
negative_small id d kind carried fit =
    let p = both {a = is_destination d} (both {a = is_opening_id id} fit).1 in
    let q = both {a = is_negative kind} p.1 in
    (looser d 0xEF 0xFF (omega arith) p.0, looser kind 0xD8 0xFF (omega arith) (both {a = leb 0xD6 kind} q.0).1)

-- ---- the kinds of a negative reply

outside : (k : ℕ) → (k ≡ 0xD6 → ⊥) → (k ≡ 0xD7 → ⊥) → (k ≡ 0xD8 → ⊥) → is_negative k ≡ false
outside k x y z =
    tested (leb 0xD6 k)
    (λ p. tested (leb k 0xD8)
    (λ q. let l = leb-true 0xD6 k p in let m = leb-true k 0xD8 q in absurd (omega arith))
    (λ q. rw (p, q)))
    (λ p. rw p)

pub kinds : (k : ℕ) → is_negative k ≡ (eqb k 0xD6 || (eqb k 0xD7 || eqb k 0xD8))
kinds k =
    tested (eqb k 0xD6) (λ a. rw a (ap is_negative (eqb-true k 0xD6 a)))
    (λ a. tested (eqb k 0xD7) (λ b. rw (a, b) (ap is_negative (eqb-true k 0xD7 b)))
    (λ b. tested (eqb k 0xD8) (λ c. rw (a, b, c) (ap is_negative (eqb-true k 0xD8 c)))
    (λ c. rw (a, b, c) (outside k (eqb-false k 0xD6 a) (eqb-false k 0xD7 b) (eqb-false k 0xD8 c)))))

-- a test that fails only where the tables allow nothing
kept_if : (b : Bool) (t : AnyTelegram) → (b ≡ false → kept (some t) ≡ none) → kept (some t) ≡ kept (if b then some t else none)
unfolding kept
kept_if true t none-else = refl
kept_if false t none-else = none-else refl

-- a negative reply of another kind is none that the tables allow
pub only_negative : (id d kind : ℕ) (l : List ℕ)
    → kept (some (opening id (negative d kind l))) ≡ kept (if eqb kind 0xD6 || (eqb kind 0xD7 || eqb kind 0xD8) then some (opening id (negative d kind l)) else none)
unfolding kept any_fits opening_fits fields_fit
only_negative id d kind l =
    kept_if (is_negative kind) (opening id (negative d kind l)) (λ no. stopped (any_fits (opening id (negative d kind l))) _ (rw (no, and-false, and-false)))
    ∙ ap (λ b. kept (if b then some (opening id (negative d kind l)) else none)) (kinds kind)
