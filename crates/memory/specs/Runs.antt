-- CALLS IN A ROW on one lent memory: what each gives, what they leave, what of both is one channel's, and the words of the three demands over them,
-- in bytes, over the whole box. Channels go by their place: place i is channel number i + 1. Assumes nothing.
use Rattle.std.specs.Prelude.{ℕ, zero, suc, ◌+◌, ◌-◌, ◌*◌, ◌<◌, ◌≡◌, List, [], ◌∷◌, ◌++◌, get_or, set, take, drop, eqb, ltb, if◌then◌else◌}
use Rattle.std.proofs.Math.Option.{Option, none, some}
use Rattle.codec.specs.Plain.{member}
use Rattle.machine.specs.Limits.{lines}
use Rattle.machine.specs.Channel.{Answer, Pairs, flat, get_parameter, set_parameter, get_list, set_list}
use Rattle.machine.specs.Step.{Event, connect, call, frame, advance, close, lent_by}
use Rattle.layout.specs.Sizes.{number_size, region_size, last_at}
use Rattle.layout.specs.Promise.{answer_of}
use Rattle.iso_layout.specs.Sizes.{iso_region_size, iso_last_at}
use Rattle.whole.specs.Device.{channels, Device, run, answers, connected}
use Rattle.whole.specs.Demands.{concerns, strike}
use Rattle.memory.specs.Sizes.{raw_at, iso_at_byte}
use Rattle.memory.specs.Memory.{image}
use Rattle.memory.specs.Promise.{outcome, power_on_outcome}

-- ---- calls in a row: each starts from the memory that the one before it left

-- what each gives, in order: code, value, lent buffer
unfoldable pub results : List ℕ → List ℕ → List Event → List Answer
results rates m [] = []
results rates m (e ∷ es) = answer_of (outcome rates m e) ∷ results rates (outcome rates m e).memory es

-- the memory after them all
unfoldable pub leaves : List ℕ → List ℕ → List Event → List ℕ
leaves rates m [] = m
leaves rates m (e ∷ es) = leaves rates (outcome rates m e).memory es

-- the memory once power-on was called on the lent bytes
abbrev pub switched_on : List ℕ → List ℕ
switched_on bytes = (power_on_outcome bytes).memory

-- ---- what of this is one channel's

-- of one result for each event, those of the events that concern channel i
unfoldable pub of_those : ℕ → List Event → List Answer → List Answer
of_those i [] rs = []
of_those i (e ∷ es) [] = []
of_those i (e ∷ es) (r ∷ rs) = if concerns i e then r ∷ of_those i es rs else of_those i es rs

-- what channel i receives
unfoldable pub results_of : List ℕ → ℕ → List ℕ → List Event → List Answer
results_of rates i m es = of_those i es (results rates m es)

-- where the region of place i begins, and its size
unfoldable pub place_at : ℕ → ℕ
place_at i = if ltb i lines then raw_at i else iso_at_byte (i - lines)

unfoldable pub size_at : ℕ → ℕ
size_at i = if ltb i lines then region_size else iso_region_size

-- what channel i holds: the bytes of its region
abbrev pub region_of : ℕ → List ℕ → List ℕ
region_of i m = take (size_at i) (drop (place_at i) m)

-- the bytes of the clock, which all channels see
abbrev pub clock_of : List ℕ → List ℕ
clock_of m = take number_size m

-- ---- DEMAND 1

-- where in its region the last code of place i lies
unfoldable pub last_in : ℕ → ℕ
last_in i = if ltb i lines then last_at else iso_last_at

-- the memory, and only the last code of the channel at a place has become this one; where the channel isn't open, the memory
unfoldable pub last_becomes : ℕ → ℕ → List ℕ → List ℕ
last_becomes i code m = if eqb (get_or m (place_at i) 0) 1 then set m (place_at i + last_in i) code else m

unfoldable pub becomes_by : Option ℕ → ℕ → List ℕ → List ℕ
becomes_by none code m = m
becomes_by (some i) code m = last_becomes i code m

-- ALL THAT A REFUSAL LEAVES BEHIND in the memory, a byte: its code, as the last of the open channel that a call names (neither 0x02 nor 0x1A names
-- one), or that a connect finds in use
unfoldable pub remembered : Event → ℕ → List ℕ → List ℕ
remembered (connect l p f r) code m = if eqb code 0x14 then becomes_by (connected l p) code m else m
remembered (call k x) code m = if member code (0x02 ∷ 0x1A ∷ []) then m else last_becomes (k - 1) code m
remembered (frame l w n b) code m = m
remembered (advance t) code m = m
remembered close code m = m

-- the call changes neither the memory nor the lent buffer, but for that byte
pub record NothingElseChanged (rates m : List ℕ) (e : Event) : Type 0 where
  pub memory : (outcome rates m e).memory ≡ remembered e (outcome rates m e).code m
  pub buffer : (outcome rates m e).buffer ≡ lent_by e

-- A LIST OF PARAMETERS THAT A PAIR ENDED (02, P2, amends the demand for lists only): in front of that pair stand accepted ones. A set gives and leaves
-- what those alone do, and then the set of the refused pair alone
pub record SetListEnded (rates m : List ℕ) (k : ℕ) (ps : Pairs) : Type 0 where
  pub before : Pairs
  pub refused : ℕ × ℕ
  pub behind : Pairs
  pub is : ps ≡ before ++ refused ∷ behind
  pub accepted : (outcome rates m (call k (set_list before))).code ≡ 0x00
  pub leaves : outcome rates m (call k (set_list ps)) ≡ outcome rates (outcome rates m (call k (set_list before))).memory (call k (set_parameter refused.0 refused.1))

-- a get leaves what those alone leave, and then the get of the refused pair's parameter, whose code it gives; their values stand in the list, and
-- the refused pair and all behind it stay
pub record GetListEnded (rates m : List ℕ) (k : ℕ) (ps : Pairs) : Type 0 where
  pub before : Pairs
  pub refused : ℕ × ℕ
  pub behind : Pairs
  pub is : ps ≡ before ++ refused ∷ behind
  pub accepted : (outcome rates m (call k (get_list before))).code ≡ 0x00
  pub memory : (outcome rates m (call k (get_list ps))).memory ≡ (outcome rates (outcome rates m (call k (get_list before))).memory (call k (get_parameter refused.0))).memory
  pub code : (outcome rates m (call k (get_list ps))).code ≡ (outcome rates (outcome rates m (call k (get_list before))).memory (call k (get_parameter refused.0))).code
  pub list : (outcome rates m (call k (get_list ps))).buffer ≡ (outcome rates m (call k (get_list before))).buffer ++ flat (refused ∷ behind)

-- ---- DEMAND 2

-- each call gives the answer of the plain machine, started in the state d, and they leave the bytes of its state
pub record AsMachine (rates m : List ℕ) (d : Device) (es : List Event) : Type 0 where
  pub answer : results rates m es ≡ answers rates d es
  pub memory : leaves rates m es ≡ image (run rates d es)

-- ---- DEMAND 3

-- STRIKE OUT all that does not concern channel i, and nothing changes that it receives (the code, the value and the lent buffer of each of its
-- events, in order) or holds (every byte of its region); nor does the clock
pub record Untouched (rates : List ℕ) (i : ℕ) (m : List ℕ) (es : List Event) : Type 0 where
  pub receives : results_of rates i m es ≡ results rates m (strike i es)
  pub holds : region_of i (leaves rates m es) ≡ region_of i (leaves rates m (strike i es))
  pub clock : clock_of (leaves rates m es) ≡ clock_of (leaves rates m (strike i es))

-- THE NEIGHBOURS e and e', anywhere in a sequence, change places: every byte of the memory ends the same, and each event gets the same code, value
-- and lent buffer: those before them, the two themselves, and those after them
pub record Commute (rates m : List ℕ) (xs : List Event) (e e' : Event) (ys : List Event) : Type 0 where
  pub memory : leaves rates m (xs ++ e ∷ e' ∷ ys) ≡ leaves rates m (xs ++ e' ∷ e ∷ ys)
  pub to_e : Answer
  pub to_e' : Answer
  pub to_ys : List Answer
  pub one_way : results rates m (xs ++ e ∷ e' ∷ ys) ≡ results rates m xs ++ to_e ∷ to_e' ∷ to_ys
  pub other_way : results rates m (xs ++ e' ∷ e ∷ ys) ≡ results rates m xs ++ to_e' ∷ to_e ∷ to_ys

-- TWO SEQUENCES end in the same memory, every byte of it, and each channel receives the same
pub record Reordered (rates m : List ℕ) (es zs : List Event) : Type 0 where
  pub memory : leaves rates m es ≡ leaves rates m zs
  pub receives : (i : ℕ) → i < channels → results_of rates i m es ≡ results_of rates i m zs
