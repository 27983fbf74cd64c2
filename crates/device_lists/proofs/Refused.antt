-- What a list is refused with before any pair. Assumes nothing.
use mathlib.Core.Path.{◌≡◌, sym, subst}
use Prim.Native.Nat.{ℕ, ◌<◌}
use mathlib.Core.List.{List}
use lib.ListN.{length}
use native.Mathlib.Omega.{arith}
use lib.Dec.{T}
use Rattle.std.specs.Prelude.{Err, Some}
use Rattle.codes.specs.Code.{number_of}
use Rattle.codes.specs.declared.Refusal.{Refusal}
use Rattle.machine.specs.Codes.{two_rates}
use Rattle.machine.specs.Limits.{most_pairs}
use Rattle.machine.specs.Channel.{Pairs, lent, get_list, set_list}
use Rattle.machine.specs.Step.{lent_by, call}
use Rattle.layout.specs.Promise as raw_promise
use Rattle.layout.proofs.Calls.{Known, two_known}
use Rattle.iso_layout.specs.Sizes.{iso_last_at}
use Rattle.memory.specs.Memory.{valid}
use Rattle.memory.specs.Promise.{noted_in, RawSeat, IsoSeat}
use Rattle.memory.proofs.Lists.{Ready, placed_ready, Over, raw_over, iso_over}
use Rattle.box_validity.specs.Checked.{Checked}
use Rattle.box_validity.proofs.Refused.{no_device}
use Rattle.seats.specs.Seated.{Seated, Refused}
use Rattle.seats.specs.declared.Seat.{Seat}
use Rattle.seats.specs.declared.Seat.TheVariants.{Raw, Iso}
use Rattle.device_lists.specs.Lists.{Kept}

pub known : Known two_rates
known = two_known

-- the channel in its seat is open
pub seated_ready : (m : List ℕ) → T (valid m) → (k : ℕ) (s : Seat) → Seated m k (Some s) → Ready m k
seated_ready m v k (Raw base) s =
    let low = s.low in
    let high = s.high in
    let is = s.is in
    placed_ready m v k base (record { refused = λ e. absurd (omega arith); raw = λ n l. s; iso = λ h. absurd (omega arith) }) (λ e. absurd (omega arith))
seated_ready m v k (Iso base) s =
    let is = s.is in
    placed_ready m v k base (record { refused = λ e. absurd (omega arith); raw = λ n l. absurd (omega arith); iso = λ h. s }) (λ e. absurd (omega arith))

module _ (m : List ℕ) (k n : ℕ) where
  pub no_memory : (e : Refusal) → Checked m (Err e) → Kept m k n (number_of e) m
  unfolding lent_by lent
  no_memory e h = record { set_refused = λ ps l. no_device two_rates m (call k (set_list ps)) e h; get_refused = λ ps l. no_device two_rates m (call k (get_list ps)) e h }

  pub no_channel : Refused m k → Kept m k n 0x02 m
  unfolding lent
  no_channel none = record { set_refused = λ ps l. none two_rates (set_list ps); get_refused = λ ps l. none two_rates (get_list ps) }

  module _ (v : T (valid m)) (base : ℕ) where
    over : {m' : List ℕ} → ((ps : Pairs) (l : most_pairs < length ps) → Over m v k base two_rates ps l m') → most_pairs < n → Kept m k n 0x04 m'
    over {m'} said h =
        let longer : (ps : Pairs) → length ps ≡ n → most_pairs < length ps = λ ps e. subst (λ (j : ℕ). most_pairs < j) (sym e) h in
        record { set_refused = λ ps e. (said ps (longer ps e)).0; get_refused = λ ps e. (said ps (longer ps e)).1 }

    -- the code of too many pairs is noted, by the kind of region, and that is all that is left
    pub raw_too_many : RawSeat m k base → most_pairs < n → {m' : List ℕ} → m' ≡ raw_promise.noted_in base 0x04 m → Kept m k n 0x04 m'
    raw_too_many s h {m'} noted = over (λ ps l. raw_over m v k base two_rates ps l m' s noted) h

    pub iso_too_many : IsoSeat m k base → most_pairs < n → {m' : List ℕ} → m' ≡ noted_in iso_last_at base 0x04 m → Kept m k n 0x04 m'
    iso_too_many s h {m'} noted = over (λ ps l. iso_over m v k base two_rates ps l m' s noted) h
