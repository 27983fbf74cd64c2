-- However far off a time is, it stops the import like any line that doesn't fit: the nearer time that was read does the same. Assumes nothing.
use Rattle.std.specs.Prelude.{if◌then◌else◌}
use Prim.Native.Nat.{ℕ, zero, suc, ◌+◌, ◌-◌, ◌*◌, ◌/◌, ◌%◌, ◌≤◌, ◌<◌}
use mathlib.Core.Path.{◌≡◌, refl, sym, ap, ◌∙◌, subst}
use mathlib.Core.Logic.{◌⊎◌, ⊎_elim}
use mathlib.Core.List.{List, [], ◌∷◌, ◌++◌}
use native.Mathlib.Omega.{arith}
use borrow.Author.Tests.{le-ltb, lt-ltb}
use lib.Dec.{ltb}
use lib.ListN.{length}
use Rattle.number.proofs.Groups.{below}
use Rattle.text_reader.specs.Reading.{far, near}
use Rattle.text_reader.proofs.Digits.{near_is, near_far}
use Rattle.candump.specs.Line.{second, Logged, Said, malformed, unknown, tells}
use Rattle.candump.specs.Log.{latest, room, event_bytes, bytes_all, full, frame_of, line_events, advances, does_not_fit}
use Rattle.candump.proofs.Cost.{cost, cost_some, price_is, length_both, length_more}
use Rattle.log_reader.specs.Reading.{near_time, near_logged, near_said}
use Rattle.importing.specs.Step.{Left, left, line_step}

-- what a line takes: its advances and its frame
pub line_bytes : (t : ℕ) (g : Logged) → length (bytes_all (line_events t g)) ≡ length (bytes_all (advances (g.time - t))) + length (event_bytes (frame_of g))
unfolding line_events bytes_all
line_bytes t g = omega (arith, length_both (advances (g.time - t)) (frame_of g ∷ []), length_more (frame_of g) [])

-- a second takes four bytes
seconds_cost : (n : ℕ) → 4 * (n / second) ≤ length (bytes_all (advances n))
seconds_cost n = omega (arith, price_is n)

-- and no byte carries more than a second
pub covers : (n : ℕ) → n ≤ second * length (bytes_all (advances n))
covers n = ⊎_elim (λ (h : n % full < 1). omega (arith, price_is n)) (λ (h : 1 ≤ n % full). omega (arith, price_is n, cost_some (n % full) (omega arith))) (below (n % full) 1)

module _ (t place : ℕ) (buffer : List ℕ) (early : t ≤ latest + second * room) where
  -- a time past the far number of seconds
  past : (g : Logged) → far * second ≤ g.time → line_step t place buffer (tells g) ≡ left does_not_fit place t buffer
  unfolding line_step
  past g h =
      let later : t ≤ g.time = omega arith in
      let over : room < place + length (bytes_all (line_events t g)) = omega (arith, line_bytes t g, seconds_cost (g.time - t)) in
      rw (le-ltb g.time t later, lt-ltb room (place + length (bytes_all (line_events t g))) over)

  near_tells : (g : Logged) → line_step t place buffer (tells (near_logged g)) ≡ line_step t place buffer (tells g)
  unfolding near_logged near_time
  near_tells g =
      ⊎_elim
      (λ (h : g.time / second < far).
      let same : near (g.time / second) * second + g.time % second ≡ g.time = omega (arith, near_is (g.time / second) (omega arith)) in
      ap (λ (n : ℕ). line_step t place buffer (tells (record { time = n; line = g.line; wide = g.wide; id = g.id; bytes = g.bytes }))) same)
      (λ (h : far ≤ g.time / second).
      let e : near (g.time / second) ≡ far = near_far (g.time / second) h in
      past (near_logged g) (omega arith) ∙ sym (past g (omega arith)))
      (below (g.time / second) far)

  -- THE LINE AS IT WAS READ does what the line does
  pub near_step : (s : Said) → line_step t place buffer (near_said s) ≡ line_step t place buffer s
  unfolding near_said
  near_step malformed = refl
  near_step unknown = refl
  near_step (tells g) = near_tells g
