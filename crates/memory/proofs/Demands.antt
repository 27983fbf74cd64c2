-- THE DEMANDS, IN BYTES, over the whole box. A public call on the lent memory m gives and leaves `outcome two_rates m e`; of calls in a row `results` is what
-- each gives and `leaves` the memory after them (specs/Runs). m is whatever bytes are lent: zeros, a box in use, garbage. The one thing asked of the events
-- is that the bytes lent to them are bytes (`AllBytes`), which no caller of the code can break. Each demand is said of every memory, and then of a box from
-- power-on on, for any set of rates out of the three. Assumes nothing.
use mathlib.Core.Path.{◌≡◌, refl, sym, ap, ◌∙◌, subst}
use mathlib.Core.Logic.{◌≢◌}
use Prim.Native.Nat.{ℕ, ◌<◌}
use mathlib.Core.Bool.{true}
use mathlib.Core.List.{List, [], ◌∷◌, ◌++◌}
use lib.ListN.{length}
use lib.Dec.{T, eqb}
use borrow.Author.Tests.{eq-eqb, ne_eqb}
use Rattle.codec.specs.Plain.{zeros, member}
use Rattle.machine.specs.Codes.{three_rates, two_rates}
use Rattle.machine.specs.Channel.{Call, Pairs, get_list, set_list}
use Rattle.machine.specs.Step.{Event, call}
use Rattle.layout.specs.Promise.{Result, gives, answer_of}
use Rattle.layout.specs.Reach.{AllBytes}
use Rattle.layout.proofs.Calls.{Known, three_known, two_known}
use Rattle.machine.proofs.Tables.{by_test}
use Rattle.whole.specs.Device.{channels, power_on}
use Rattle.whole.specs.Demands.{pair_codes, refusal, Apart, Names, SameToEach}
use Rattle.whole.proofs.Isolation.{calls_apart, different_apart}
use Rattle.memory.specs.Sizes.{box_size}
use Rattle.memory.specs.Memory.{memory, image, load, valid}
use Rattle.memory.specs.Promise.{outcome, power_on_outcome}
use Rattle.memory.specs.Runs.{leaves, switched_on, NothingElseChanged, SetListEnded, GetListEnded, AsMachine, Untouched, Commute, Reordered}
use Rattle.memory.proofs.Memory.{memory_size, power_on_zeros, valid_image}
use Rattle.memory.proofs.Reach.{power_on_ok}
use Rattle.memory.proofs.Unique.{refusal_leaves, valid_answered}
use Rattle.memory.proofs.Lists.{set_list_ended as set_ended, get_list_ended as get_ended}
use Rattle.memory.proofs.Isolation.{image_runs, runs, stays_valid, struck, exchanged, rearranged}

-- any bytes of the right size: done, and every byte is 0
pub started : (m : List ℕ) → length m ≡ box_size → power_on_outcome m ≡ gives 0x00 0 [] (zeros box_size)
unfolding power_on_outcome
started m h = rw (eq-eqb (length m) memory.size (h ∙ sym memory_size)) (ap (gives 0x00 0 []) power_on_zeros)

-- any others: 0x1A, and they stay
pub not_started : (m : List ℕ) → length m ≢ box_size → power_on_outcome m ≡ gives 0x1A 0 [] m
unfolding power_on_outcome
not_started m h = rw (ne_eqb (length m) memory.size (λ e. h (e ∙ memory_size)))

-- power-on, called on any bytes of the right size, leaves the memory of a box with nothing open and clock 0, which is zeros
pub switched_on_law : (bytes : List ℕ) → length bytes ≡ box_size → switched_on bytes ≡ zeros box_size
switched_on_law bytes right = ap (λ (r : Result). r.memory) (started bytes right)

-- power-on lends no buffer: where its code is not 0x00 the bytes stay
pub refused_power_on : (bytes : List ℕ) → (power_on_outcome bytes).code ≢ 0x00 → (power_on_outcome bytes).memory ≡ bytes
unfolding power_on_outcome
refused_power_on bytes = by_test (λ (r : Result). r.code ≢ 0x00 → r.memory ≡ bytes) (eqb (length bytes) memory.size) _ _ (λ t n. absurd (n refl)) (λ n. refl)

module _ (rates : List ℕ) (known : Known rates) where
  -- ---- DEMAND 1: a refused call changes neither the device memory nor any lent buffer, but for the last code of the channel that it names, a byte

  -- on whatever bytes are lent as the memory, 0x1A among the refusals
  pub refused_changes_nothing_else : (m : List ℕ) (e : Event) → refusal e (answer_of (outcome rates m e)) ≡ true → NothingElseChanged rates m e
  refused_changes_nothing_else = refusal_leaves rates

  -- from power-on on: after any calls es, a call e that is refused
  pub refused_from_power_on : (bytes : List ℕ) (es : List Event) (e : Event)
      → refusal e (answer_of (outcome rates (leaves rates (switched_on bytes) es) e)) ≡ true → NothingElseChanged rates (leaves rates (switched_on bytes) es) e
  refused_from_power_on bytes es e = refused_changes_nothing_else (leaves rates (switched_on bytes) es) e

  -- a list of parameters that a pair ended (02, P2, amends the demand for lists only), on whatever bytes are lent as the memory: a set leaves what its
  -- accepted pairs leave, a get leaves the refused pair and all behind it
  pub set_list_ended : (m : List ℕ) (k : ℕ) (ps : Pairs) → member (outcome rates m (call k (set_list ps))).code pair_codes ≡ true → SetListEnded rates m k ps
  set_list_ended = set_ended rates known

  pub get_list_ended : (m : List ℕ) (k : ℕ) (ps : Pairs) → member (outcome rates m (call k (get_list ps))).code pair_codes ≡ true → GetListEnded rates m k ps
  get_list_ended = get_ended rates known

  -- ---- DEMAND 2: every call gives the answer and leaves the memory of the plain machine

  -- on any device memory
  pub as_machine : (m : List ℕ) → T (valid m) → (es : List Event) → AllBytes es → AsMachine rates m (load m) es
  as_machine = runs rates known

  -- from power-on on
  pub as_machine_from_power_on : (bytes : List ℕ) → length bytes ≡ box_size → (es : List Event) → AllBytes es → AsMachine rates (switched_on bytes) power_on es
  as_machine_from_power_on bytes right es b =
      subst (λ (m : List ℕ). AsMachine rates m power_on es) (power_on_zeros ∙ sym (switched_on_law bytes right)) (image_runs rates known es power_on power_on_ok b)

  -- every memory reached from power-on is valid, and no call on it gives 0x1A
  pub valid_from_power_on : (bytes : List ℕ) → length bytes ≡ box_size → (es : List Event) → AllBytes es → T (valid (leaves rates (switched_on bytes) es))
  valid_from_power_on bytes right es b =
      stays_valid rates known (switched_on bytes)
      (subst (λ (m : List ℕ). T (valid m)) (power_on_zeros ∙ sym (switched_on_law bytes right)) (valid_image power_on power_on_ok)) es b

  pub answered_from_power_on : (bytes : List ℕ) → length bytes ≡ box_size → (es : List Event) → AllBytes es
      → (e : Event) → (outcome rates (leaves rates (switched_on bytes) es) e).code ≢ 0x1A
  answered_from_power_on bytes right es b e = valid_answered rates (leaves rates (switched_on bytes) es) e (valid_from_power_on bytes right es b)

  -- ---- DEMAND 3, strike: striking out what does not concern a channel changes nothing that the channel receives or holds

  -- on whatever bytes are lent as the memory
  pub untouched : (m : List ℕ) (i : ℕ) → i < channels → (es : List Event) → AllBytes es → Untouched rates i m es
  untouched = struck rates known

  -- from power-on on
  pub untouched_from_power_on : (bytes : List ℕ) (i : ℕ) → i < channels → (es : List Event) → AllBytes es → Untouched rates i (switched_on bytes) es
  untouched_from_power_on bytes = untouched (switched_on bytes)

  -- ---- DEMAND 3, exchange: neighbouring calls on different channels commute

  -- two neighbours that concern no channel both, on whatever bytes are lent as the memory
  pub apart_commute : (m : List ℕ) (xs : List Event) (e e' : Event) (ys : List Event) → AllBytes (xs ++ e ∷ e' ∷ ys) → Apart e e' → Commute rates m xs e e' ys
  apart_commute = exchanged rates known

  -- two that name different channels: calls, connects
  pub different_commute : (m : List ℕ) (xs : List Event) (e e' : Event) (ys : List Event) → AllBytes (xs ++ e ∷ e' ∷ ys)
      → (k k' : ℕ) → Names e k → Names e' k' → k ≢ k' → Commute rates m xs e e' ys
  different_commute m xs e e' ys b k k' n n' h = apart_commute m xs e e' ys b (different_apart n n' h)

  -- from power-on on
  pub different_commute_from_power_on : (bytes : List ℕ) (xs : List Event) (e e' : Event) (ys : List Event) → AllBytes (xs ++ e ∷ e' ∷ ys)
      → (k k' : ℕ) → Names e k → Names e' k' → k ≢ k' → Commute rates (switched_on bytes) xs e e' ys
  different_commute_from_power_on bytes = different_commute (switched_on bytes)

  -- from power-on on, two calls on channels k and k'
  pub calls_commute_from_power_on : (bytes : List ℕ) (xs ys : List Event) (k k' : ℕ) (x x' : Call) → AllBytes (xs ++ call k x ∷ call k' x' ∷ ys)
      → k ≢ k' → Commute rates (switched_on bytes) xs (call k x) (call k' x') ys
  calls_commute_from_power_on bytes xs ys k k' x x' b h = apart_commute (switched_on bytes) xs (call k x) (call k' x') ys b (calls_apart k k' x x' h)

  -- ---- DEMAND 3, arrangement: any two sequences that leave each channel the same events in the same order

  -- on whatever bytes are lent as the memory
  pub reordered : (m : List ℕ) (es zs : List Event) → AllBytes es → AllBytes zs → SameToEach es zs → Reordered rates m es zs
  reordered = rearranged rates known

  -- from power-on on
  pub reordered_from_power_on : (bytes : List ℕ) (es zs : List Event) → AllBytes es → AllBytes zs → SameToEach es zs → Reordered rates (switched_on bytes) es zs
  reordered_from_power_on bytes = reordered (switched_on bytes)

-- ---- P12: 125,000 is retired

-- "Memory holding the old rate stays valid": whatever calls with the three rates left, calls with the two of now keep valid
pub old_rate_stays_valid : (bytes : List ℕ) → length bytes ≡ box_size → (es zs : List Event) → AllBytes es → AllBytes zs
    → T (valid (leaves two_rates (leaves three_rates (switched_on bytes) es) zs))
old_rate_stays_valid bytes right es zs b b' =
    stays_valid two_rates two_known (leaves three_rates (switched_on bytes) es) (valid_from_power_on three_rates three_known bytes right es b) zs b'

-- "and the channel runs": they are the machine's calls on the device that holds it
pub old_rate_runs : (bytes : List ℕ) → length bytes ≡ box_size → (es zs : List Event) → AllBytes es → AllBytes zs
    → AsMachine two_rates (leaves three_rates (switched_on bytes) es) (load (leaves three_rates (switched_on bytes) es)) zs
old_rate_runs bytes right es zs b = as_machine two_rates two_known (leaves three_rates (switched_on bytes) es) (valid_from_power_on three_rates three_known bytes right es b) zs
