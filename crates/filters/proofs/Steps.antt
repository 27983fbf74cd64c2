-- What is stored of a filter, and what the machine does when one is started or stopped. Assumes nothing.
use mathlib.Core.Path.{◌≡◌, refl, sym, ap, ◌∙◌}
use Prim.Native.Nat.{ℕ, zero, suc, ◌+◌, ◌-◌, ◌/◌, ◌%◌, ◌≤◌}
use native.Mathlib.Omega.{arith}
use mathlib.Core.Bool.{true, false}
use mathlib.Core.Option.{none, some}
use mathlib.Core.List.{List, []}
use lib.Dec.{eqb}
use lib.ListN.{set, take, drop}
use Rattle.codec.specs.Word.{word_at}
use Rattle.machine.specs.Codes.{code_of}
use Rattle.machine.specs.Limits.{tx_flags_in, size_in, data_in}
use Rattle.machine.specs.Message.{bit, size_of, tx_flags_of, wide_of, data_of, twelve}
use Rattle.machine.specs.Filter.{free, has}
use Rattle.machine.specs.Channel.{Open, opened, with_filters, start_filter, stop_filter, says, unless, done_with, filter_code, filter_of, on_start_filter, on_stop_filter, on_open}
use Rattle.layout.specs.Memory.{type_of, filter_parts}
use Rattle.filtercheck.specs.Checked.{Checked}

-- ---- what is stored

type_is : (kind : ℕ) → 1 ≤ kind → kind ≤ 2 → type_of (eqb kind 2) ≡ kind
type_is zero l h = absurd (omega arith)
type_is (suc zero) l h = refl
type_is (suc (suc zero)) l h = refl
type_is (suc (suc (suc n))) l h = absurd (omega arith)

-- what is stored of it
pub parts_are : (kind : ℕ) (mask pattern : List ℕ) → Checked kind mask pattern → (size tx : ℕ) (m p : List ℕ) → size ≡ word_at size_in mask → tx ≡ word_at tx_flags_in mask
    → m ≡ twelve (take size (drop data_in mask)) → p ≡ twelve (take size (drop data_in pattern))
    → filter_parts (some (filter_of kind mask pattern)) ≡ (kind, (eqb (tx / 256 % 2) 1, (size, (m, p))))
unfolding filter_of wide_of bit tx_flags_of size_of data_of
parts_are kind mask pattern c size tx m p es ex em ep =
    let q : word_at size_in pattern ≡ size = sym (es ∙ c.same) in
    λ i. (
      type_is kind c.low c.high i,
      (
        eqb (sym ex i / 256 % 2) 1,
        (sym es i, ((ap (λ (k : ℕ). twelve (take k (drop data_in mask))) (sym es) ∙ sym em) i, (ap (λ (k : ℕ). twelve (take k (drop data_in pattern))) q ∙ sym ep) i)),
      ),
    )

-- ---- the steps

module _ (rates : List ℕ) (t : ℕ) (o : Open) where
  module _ (kind : ℕ) (mask pattern : List ℕ) where
    pub start_refused : (k : ℕ) → k ≡ filter_code o kind mask pattern → (k ≡ 0 → ⊥) → on_open rates t o (start_filter kind mask pattern) ≡ (opened o, says k 0 [])
    unfolding on_open on_start_filter unless
    start_refused zero e n = absurd (n refl)
    start_refused (suc k) e n = rw (← e)

    pub start_done : 0 ≡ filter_code o kind mask pattern
        → on_open rates t o (start_filter kind mask pattern) ≡ (with_filters o (set o.filters (free o.filters) (some (filter_of kind mask pattern))), says 0 (free o.filters + 1) [])
    unfolding on_open on_start_filter unless done_with
    start_done e = rw (← e)

  module _ (number : ℕ) where
    pub stop_refused : has o.filters number ≡ false → on_open rates t o (stop_filter number) ≡ (opened o, says 0x16 0 [])
    unfolding on_open on_stop_filter unless code_of
    stop_refused e = rw e

    pub stop_done : has o.filters number ≡ true → on_open rates t o (stop_filter number) ≡ (with_filters o (set o.filters (number - 1) none), says 0 0 [])
    unfolding on_open on_stop_filter unless done_with code_of
    stop_done e = rw e
