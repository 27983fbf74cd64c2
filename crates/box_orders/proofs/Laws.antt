-- A start filter with a third record and one without: the same where the channel is raw, and where the third record is empty. Assumes
-- nothing.
use Rattle.std.specs.Prelude.{if◌then◌else◌}
use mathlib.Core.Path.{◌≡◌, refl, sym, ap, ◌∙◌}
use Prim.Native.Nat.{ℕ, ◌+◌, ◌-◌, ◌≤◌, ◌<◌}
use mathlib.Core.Bool.{not, ◌&&◌, ◌||◌}
use mathlib.Core.Option.{Option, none, some}
use mathlib.Core.List.{List, []}
use native.Mathlib.Omega.{arith}
use lib.ListN.{length, take, drop_of_length-le}
use lib.Seq.{take-nil}
use lib.Dec.{T, eqb, ltb}
use borrow.Rule.Slice.PartMut.{mid_of}
use Rattle.codec.specs.Plain.{within}
use Rattle.machine.specs.Limits.{lines}
use Rattle.machine.specs.Channel.{Chan, closed, opened, Call, raw_only, Answer, says, lent, start_filter, start_flow, on_open, on_call, noted}
use Rattle.machine.specs.Step as raw_step
use Rattle.machine.specs.Step.{call, chan_step, clock_after}
use Rattle.layout.specs.Memory.{region}
use Rattle.layout.specs.Promise.{gives, answered, region_gives, call_outcome}
use Rattle.iso.specs.Iso.{Iso, shut, ready, on_ready, on_iso_call, iso_noted}
use Rattle.iso.specs.Step.{iso_step}
use Rattle.whole.specs.Device.{Device, Any, raw, iso, channels, any_at, nameable, touches, speaker, numbered, own_answer, any_step, moved, after, answer_by, answer, step}
use Rattle.memory.specs.Memory.{valid, load, image}
use Rattle.memory.specs.Promise.{outcome}

-- ---- on a raw channel the third record isn't looked at

raw_same : (rates : List ℕ) (t : ℕ) (c : Chan) (type : ℕ) (mask pattern flow : List ℕ) → on_call rates t c (start_filter type mask pattern) ≡ on_call rates t c (start_flow type mask pattern flow)
unfolding on_call on_open lent
raw_same rates t closed type mask pattern flow = refl
raw_same rates t (opened o) type mask pattern flow = refl

pub no_look : (rates : List ℕ) (t : ℕ) (r : List ℕ) (type : ℕ) (mask pattern flow : List ℕ) → call_outcome rates t r (start_filter type mask pattern) ≡ call_outcome rates t r (start_flow type mask pattern flow)
unfolding call_outcome on_open
no_look rates t r type mask pattern flow = refl

-- ---- on an ISO 15765 channel a start without a third record is one with an empty one

iso_same : (rates : List ℕ) (t : ℕ) (c : Iso) (type : ℕ) (mask pattern : List ℕ) → on_iso_call rates t c (start_filter type mask pattern) ≡ on_iso_call rates t c (start_flow type mask pattern [])
unfolding on_iso_call on_ready lent
iso_same rates t shut type mask pattern = refl
iso_same rates t (ready o) type mask pattern = refl

-- ---- two calls that are the same on every channel, and can name the same ones, are the same to the box

module _ (x y : Call) (raws : (rates : List ℕ) (t : ℕ) (c : Chan) → on_call rates t c x ≡ on_call rates t c y) (isos : (rates : List ℕ) (t : ℕ) (c : Iso) → on_iso_call rates t c x ≡ on_iso_call rates t c y)
    (lends : lent x ≡ lent y) (name : raw_only x ≡ raw_only y) (rates : List ℕ) (d : Device) (k : ℕ) where
  any_same : (t : ℕ) (c : Any) → (any_step rates t c (call k x)).1 ≡ (any_step rates t c (call k y)).1
  unfolding any_step chan_step iso_step noted iso_noted
  any_same t (raw c) = ap (λ (o : Chan × Answer). o.1) (raws rates t c)
  any_same t (iso c) = ap (λ (o : Iso × Answer). o.1) (isos rates t c)

  answer_same : (s : Option ℕ) → answer_by s rates d (call k x) ≡ answer_by s rates d (call k y)
  unfolding answer_by own_answer raw_step.own_answer
  answer_same none = ap (λ (b : List ℕ). says 0x02 0 b) lends
  answer_same (some i) = any_same d.clock (any_at i d)

  speaker_same : speaker (call k x) ≡ speaker (call k y)
  unfolding speaker numbered nameable
  speaker_same = λ i. if within 1 channels k && (not (name i) || ltb (k - 1) lines) then some (k - 1) else none

  step_same : step rates d (call k x) ≡ step rates d (call k y)
  unfolding step after answer clock_after touches nameable chan_step iso_step
  step_same =
      λ i. (
        record {
          clock = d.clock;
          chans = moved (λ j. eqb k (j + 1) && (not (name i) || ltb j lines)) (λ c. (noted (raws rates d.clock c i)).0) 0 d.chans;
          isos = moved (λ j. eqb k (j + 1) && (not (name i) || ltb j lines)) (λ c. (iso_noted (isos rates d.clock c i)).0) lines d.isos;
        },
        (ap (λ (s : Option ℕ). answer_by s rates d (call k x)) speaker_same ∙ answer_same (speaker (call k y))) i,
      )

pub no_third_record : (rates m : List ℕ) (k type : ℕ) (mask pattern flow : List ℕ) → flow ≡ [] → outcome rates m (call k (start_flow type mask pattern flow)) ≡ outcome rates m (call k (start_filter type mask pattern))
unfolding outcome raw_step.lent_by lent
no_third_record rates m k type mask pattern flow e =
    ap (λ (b : List ℕ). outcome rates m (call k (start_flow type mask pattern b))) e
    ∙ (λ i.
    let s : Device × Answer = step_same (start_flow type mask pattern []) (start_filter type mask pattern) (λ rates t c. sym (raw_same rates t c type mask pattern [])) (λ rates t c. sym (iso_same rates t c type mask pattern)) refl refl rates (load m) k i in
    if valid m then answered s.1 (image s.0) else gives 0x1A 0 [] m)

-- what is lent behind the end of some bytes
pub nothing_behind : (b : List ℕ) → mid_of (length b) (length b - length b) b ≡ []
nothing_behind b = ap (take (length b - length b)) (drop_of_length-le b {i = length b} (omega arith)) ∙ take-nil (length b - length b)
