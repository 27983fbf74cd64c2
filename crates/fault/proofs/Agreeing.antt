-- What is looked at agrees with what is read, part by part, for each event and for a recording. Assumes nothing.
use Rattle.std.specs.Prelude.{if◌then◌else◌}
use Prim.Native.Nat.{ℕ, zero, suc, ◌+◌, ◌*◌, ◌≤◌, ◌<◌}
use mathlib.Core.Bool.{Bool, true, false, true≢false}
use mathlib.Core.List.{List, [], ◌∷◌}
use mathlib.Core.Logic.{◌⊎◌, inl, inr, ⊎_elim}
use mathlib.Core.Option.{Option, none, some, map, bind}
use mathlib.Core.Path.{◌≡◌, refl, sym, ap, ◌∙◌, subst}
use native.Mathlib.Omega.{arith}
use borrow.Author.Tests.{le-leb, ltb-true, ltb-false, eq-eqb}
use lib.Dec.{leb, ltb, eqb, eqb→eq}
use lib.ListN.{length, get_or, take, drop}
use Rattle.codec.specs.Plain.{zeros}
use Rattle.codec.proofs.Tests.{true_T}
use Rattle.recording_sizes.specs.Sizes.{on_iso, record_on}
use Rattle.machine.specs.Cases.{◌&◌}
use Rattle.machine.specs.Channel.{disconnect, start_filter, start_flow, stop_filter, start_periodic, stop_periodic, write, read, take_next, sent, clear, get_parameter, set_parameter}
use Rattle.machine.specs.Step.{Event, connect, call, frame, advance, close}
use Rattle.number.specs.Number as numbers
use Rattle.number.specs.Number.{front, shortest}
use Rattle.number.specs.Place.{answer, number_at}
use Rattle.edition.specs.Edition.{start_of}
use Rattle.events.specs.Events.{Reads, ◌>>=◌, done, bad, number, bytes, record_in, start_in, at_most64, arguments, arguments_of, read_event}
use Rattle.events.proofs.Reading.{number_ends, NoneUpTo, unknown}
use Rattle.fault.specs.declared.Spot.{Spot}
use Rattle.fault.specs.Fault.{spot, and_then, told, channel_at, why_bad, number_then, number_after, two_after, bytes_from, bytes_after, record_after, pieces_from, pieces_after, no_more, flow_after, looks, arguments_after, edition_fault, kind_then, event_fault, fault, nothing, met, fault_from, fault_in}
use Rattle.fault.specs.Laws.{Agrees, EventsAgree, FaultsHaveReasons}
use Rattle.fault.proofs.Parts.{stays}

-- ---- one part

-- what was wrong stays so
abbrev Keeps : (List ℕ → Spot → Spot) → Type 0
Keeps f = (s : List ℕ) (x : Spot) → (x.reason ≡ 0 → ⊥) → f s x ≡ x

-- what is read, and how it is looked at
record Steps {A : Type 0} (p : Reads A) (f : List ℕ → Spot → Spot) : Type 0 where
  agrees : (s : List ℕ) (at : ℕ) → Agrees (p s at) (f s (spot 0 at))

nothing_keeps : Keeps no_more
unfolding no_more
nothing_keeps s x n = refl

number_keeps : Keeps number_after
unfolding number_after
number_keeps s x n = sym (stays (λ (at : ℕ). number_then s at (λ v n. spot 0 n) (number_at s at)) x n)

bytes_keeps : (size : ℕ) → Keeps (bytes_after size)
unfolding bytes_after
bytes_keeps size s x n = sym (stays (bytes_from size s) x n)

record_keeps : (channel : ℕ) → Keeps (record_after channel)
unfolding record_after
record_keeps channel = bytes_keeps (record_on channel)

flow_keeps : (channel : ℕ) → Keeps (flow_after channel)
unfolding flow_after
flow_keeps channel = go (on_iso channel)
  where
    go : (t : Bool) → Keeps (if t then record_after channel else no_more)
    go true = record_keeps channel
    go false = nothing_keeps

pieces_keeps : (unit : ℕ) → Keeps (pieces_after unit)
unfolding pieces_after
pieces_keeps unit s x n = sym (stays (λ (at : ℕ). number_then s at (pieces_from unit s at) (number_at s at)) x n)

done_steps : {A : Type 0} (a : A) → Steps (done a) no_more
unfolding done no_more
done_steps a = record { agrees = λ s at. refl }

why_not : (o : Option (List ℕ)) → why_bad o ≡ 0 → ⊥
unfolding why_bad
why_not none e = omega arith
why_not (some g) e = go (shortest g) e
  where
    go : (t : Bool) → if◌then◌else◌ {A = ℕ} t 3 2 ≡ 0 → ⊥
    go true e = omega arith
    go false e = omega arith

number_steps : Steps number number_after
unfolding number number_after and_then number_then number_at answer
number_steps = record { agrees = λ s at. go s at (numbers.number_in (drop at s)) }
  where
    go : (s : List ℕ) (at : ℕ) (o : Option numbers.Found) → Agrees (map (λ f. (f.value, at + f.size)) o) (number_then s at (λ v n. spot 0 n) (answer at o))
    go s at none = why_not (front (drop at s))
    go s at (some f) = refl

bytes_steps : (size : ℕ) → Steps (bytes size) (bytes_after size)
unfolding bytes bytes_after and_then bytes_from
bytes_steps size = record { agrees = λ s at. go s at (leb (at + size) (length s)) }
  where
    go : (s : List ℕ) (at : ℕ) (t : Bool) → Agrees (if◌then◌else◌ {A = Option (List ℕ × ℕ)} t (some (take size (drop at s), at + size)) none) (if t then spot 0 (at + size) else spot 1 at)
    go s at true = refl
    go s at false = λ e. omega arith

record_steps : (channel : ℕ) → Steps (record_in channel) (record_after channel)
unfolding record_in record_after
record_steps channel = bytes_steps (record_on channel)

-- ---- one part and then another

then_steps : {A B : Type 0} (p : Reads A) (q : A → Reads B) (f g : List ℕ → Spot → Spot) → Steps p f → Keeps g → ((a : A) → Steps (q a) g) → Steps (p >>= q) (λ s x. g s (f s x))
unfolding ◌>>=◌ bind
then_steps {A} {B} p q f g x k y = record { agrees = λ s at. go s at (p s at) (x.agrees s at) }
  where
    go : (s : List ℕ) (at : ℕ) (o : Option (A × ℕ)) → Agrees o (f s (spot 0 at)) → Agrees (bind o (λ r. q r.0 s r.1)) (g s (f s (spot 0 at)))
    go s at none n = subst (λ (z : Spot). z.reason ≡ 0 → ⊥) (sym (k s (f s (spot 0 at)) n)) n
    go s at (some r) e = rw e ((y r.0).agrees s r.1)

-- a channel, and then what depends on it
on_channel_law : {B : Type 0} (q : ℕ → Reads B) (g : ℕ → List ℕ → Spot → Spot) → ((c : ℕ) → Keeps (g c)) → ((c : ℕ) → Steps (q c) (g c)) → Steps (number >>= q) (λ s x. g (channel_at s x) s (number_after s x))
unfolding number ◌>>=◌ bind channel_at told number_after and_then number_then number_at answer
on_channel_law {B} q g k y = record { agrees = λ s at. go s at (numbers.number_in (drop at s)) }
  where
    go : (s : List ℕ) (at : ℕ) (o : Option numbers.Found) → Agrees (bind {A = ℕ × ℕ} (map (λ f. (f.value, at + f.size)) o) (λ r. q r.0 s r.1)) (g (told (answer at o)) s (number_then s at (λ v n. spot 0 n) (answer at o)))
    go s at none = let n = why_not (front (drop at s)) in subst (λ (z : Spot). z.reason ≡ 0 → ⊥) (sym (k 0 s (spot (why_bad (front (drop at s))) at) n)) n
    go s at (some f) = (y f.value).agrees s (at + f.size)

-- an n and so many pieces of raw bytes
pieces_steps : {A : Type 0} (unit : ℕ) (size : ℕ → ℕ) (a : ℕ → List ℕ → A) → ((n : ℕ) → size n ≡ unit * n) → Steps (do n ← at_most64; b ← bytes (size n); done (a n b)) (pieces_after unit)
unfolding at_most64 number ◌>>=◌ bind done bad bytes pieces_after and_then number_then number_at answer pieces_from bytes_from
pieces_steps {A} unit size a is = record { agrees = λ s at. go s at (numbers.number_in (drop at s)) }
  where
    raw : (s : List ℕ) (n next : ℕ) (t : Bool) → Agrees (bind (if◌then◌else◌ {A = Option (List ℕ × ℕ)} t (some (take (size n) (drop next s), next + size n)) none) (λ r. some (a n r.0, r.1))) (if t then spot 0 (next + size n) else spot 1 next)
    raw s n next true = refl
    raw s n next false = λ e. omega arith

    few : (s : List ℕ) (at n next : ℕ) (t : Bool) → Agrees (bind ((if t then done n else bad) s next) (λ r. bind (bytes (size r.0) s r.1) (λ q. done (a r.0 q.0) s q.1))) (if t then bytes_from (unit * n) s next else spot 4 at)
    few s at n next true = rw (← is n) (raw s n next (leb (next + size n) (length s)))
    few s at n next false = λ e. omega arith

    go : (s : List ℕ) (at : ℕ) (o : Option numbers.Found) → Agrees (bind (bind {A = ℕ × ℕ} (map (λ f. (f.value, at + f.size)) o) (λ r. (if leb r.0 64 then done r.0 else bad) s r.1)) (λ r. bind (bytes (size r.0) s r.1) (λ q. done (a r.0 q.0) s q.1))) (number_then s at (pieces_from unit s at) (answer at o))
    go s at none = why_not (front (drop at s))
    go s at (some f) = few s at f.value (at + f.size) (leb f.value 64)

-- an n alone: no bytes of it are missing
count_steps : {A : Type 0} (a : ℕ → A) → Steps (do n ← at_most64; done (a n)) (pieces_after 0)
unfolding at_most64 number ◌>>=◌ bind done bad pieces_after and_then number_then number_at answer pieces_from bytes_from
count_steps {A} a = record { agrees = λ s at. go s at (numbers.number_in (drop at s)) refl }
  where
    few : (s : List ℕ) (at n next : ℕ) → next ≤ length s → (t : Bool) → Agrees (bind ((if t then done n else bad) s next) (λ r. done (a r.0) s r.1)) (if t then bytes_from (0 * n) s next else spot 4 at)
    few s at n next h true =
        let none_more : next + 0 * n ≡ next = omega arith in
        rw (le-leb (next + 0 * n) (length s) (omega arith), none_more)
    few s at n next h false = λ e. omega arith

    go : (s : List ℕ) (at : ℕ) (o : Option numbers.Found) → numbers.number_in (drop at s) ≡ o → Agrees (bind (bind {A = ℕ × ℕ} (map (λ f. (f.value, at + f.size)) o) (λ r. (if leb r.0 64 then done r.0 else bad) s r.1)) (λ r. done (a r.0) s r.1)) (number_then s at (pieces_from 0 s at) (answer at o))
    go s at none q = why_not (front (drop at s))
    go s at (some f) q =
        let read : number s at ≡ some (f.value, at + f.size) = ap (map (λ (g : numbers.Found). (g.value, at + g.size))) q in
        few s at f.value (at + f.size) (number_ends s at read).inside (leb f.value 64)

-- ---- events

-- a number, a record, then more
more : {B : Type 0} (q : ℕ → Reads B) (g : List ℕ → Spot → Spot) → Keeps g → ((a : ℕ) → Steps (q a) g) → Steps (number >>= q) (λ s x. g s (number_after s x))
more q g k y = then_steps number q number_after g number_steps k y

more_record : {B : Type 0} (channel : ℕ) (q : List ℕ → Reads B) (g : List ℕ → Spot → Spot) → Keeps g → ((a : List ℕ) → Steps (q a) g) → Steps (record_in channel >>= q) (λ s x. g s (record_after channel s x))
more_record channel q g k y = then_steps (record_in channel) q (record_after channel) g (record_steps channel) k y

-- one look and then another keeps what was wrong
both_keep : (f g : List ℕ → Spot → Spot) → Keeps f → Keeps g → Keeps (λ s x. g s (f s x))
both_keep f g j k s x n = ap (g s) (j s x n) ∙ k s x n

one : {B : Type 0} (a : ℕ → B) → Steps (do x ← number; done (a x)) number_after
unfolding no_more
one a = more (λ x. done (a x)) no_more nothing_keeps (λ x. done_steps (a x))

two_steps : {B : Type 0} (a : ℕ → ℕ → B) → Steps (do x ← number; y ← number; done (a x y)) two_after
unfolding two_after
two_steps a = more (λ x. do y ← number; done (a x y)) number_after number_keeps (λ x. one (a x))

two_keeps : Keeps two_after
unfolding two_after
two_keeps = both_keep number_after number_after number_keeps number_keeps

three : {B : Type 0} (a : ℕ → ℕ → ℕ → B) → Steps (do x ← number; y ← number; z ← number; done (a x y z)) (λ s b. number_after s (two_after s b))
unfolding two_after
three a = more (λ x. do y ← number; z ← number; done (a x y z)) two_after two_keeps (λ x. two_steps (a x))

-- a filter's records keep what was wrong: the flow, with the pattern before it, with the mask before both
module _ (channel : ℕ) where
  abbrev pattern_on : List ℕ → Spot → Spot
  pattern_on s x = flow_after channel s (record_after channel s x)

  abbrev mask_on : List ℕ → Spot → Spot
  mask_on s x = pattern_on s (record_after channel s x)

  pattern_keeps : Keeps pattern_on
  pattern_keeps = both_keep (record_after channel) (flow_after channel) (record_keeps channel) (flow_keeps channel)

  mask_keeps : Keeps mask_on
  mask_keeps = both_keep (record_after channel) pattern_on (record_keeps channel) pattern_keeps

  start_steps : (type : ℕ) (mask pattern : List ℕ) → Steps (start_in channel type mask pattern) (flow_after channel)
  unfolding start_in flow_after no_more
  start_steps type mask pattern = go (on_iso channel)
    where
      go : (t : Bool) → Steps (if t then (record_in channel >>= λ flow. done (call channel (start_flow type mask pattern flow))) else done (call channel (start_filter type mask pattern))) (if t then record_after channel else no_more)
      go true = more_record channel _ no_more nothing_keeps (λ flow. done_steps (call channel (start_flow type mask pattern flow)))
      go false = done_steps (call channel (start_filter type mask pattern))

-- two tables agree, entry by entry
abbrev Both : List (Reads Event) → List (List ℕ → Spot → Spot) → Type 0
Both [] [] = Unit {0}
Both [] (f ∷ fs) = ⊥
Both (p ∷ ps) [] = ⊥
Both (p ∷ ps) (f ∷ fs) = Steps p f × Both ps fs

both_at : (ps : List (Reads Event)) (fs : List (List ℕ → Spot → Spot)) → Both ps fs → (k : ℕ) → k < length ps → Steps (get_or ps k bad) (get_or fs k no_more)
both_at [] [] b k h = absurd (omega arith)
both_at [] (f ∷ fs) b k h = absurd b
both_at (p ∷ ps) [] b k h = absurd b
both_at (p ∷ ps) (f ∷ fs) b zero h = b.0
both_at (p ∷ ps) (f ∷ fs) b (suc k) h = both_at ps fs b.1 k (omega arith)

-- the events 1 to 16
all_agree : Both (drop 1 arguments) (drop 1 looks)
unfolding arguments looks two_after no_more
all_agree =
    more _ _ (both_keep two_after number_after two_keeps number_keeps) (λ a. three (λ b c d. connect a b c d))
    & one (λ c. call c disconnect)
    & done_steps close
    & one (λ t. advance t)
    & more _ _ (both_keep two_after (pieces_after 1) two_keeps (pieces_keeps 1)) (λ l. more _ _ (both_keep number_after (pieces_after 1) number_keeps (pieces_keeps 1)) (λ w. more _ (pieces_after 1) (pieces_keeps 1) (λ i. pieces_steps 1 (λ n. n) (λ n b. frame l w i b) (λ n. omega arith))))
    & on_channel_law _ (λ c s x. mask_on c s (number_after s x)) (λ c. both_keep number_after (mask_on c) number_keeps (mask_keeps c))
    (λ c. more _ (mask_on c) (mask_keeps c) (λ t. more_record c _ (pattern_on c) (pattern_keeps c) (λ m. more_record c _ (flow_after c) (flow_keeps c) (λ p. start_steps c t m p))))
    & two_steps (λ c n. call c (stop_filter n))
    & on_channel_law _ (λ c s x. number_after s (record_after c s x)) (λ c. both_keep (record_after c) number_after (record_keeps c) number_keeps) (λ c. more_record c _ number_after number_keeps (λ m. one (λ i. call c (start_periodic m i))))
    & two_steps (λ c n. call c (stop_periodic n))
    & on_channel_law _ (λ c. pieces_after (record_on c)) (λ c. pieces_keeps (record_on c)) (λ c. pieces_steps (record_on c) (λ n. record_on c * n) (λ n b. call c (write n b)) (λ n. refl))
    & more _ (pieces_after 0) (pieces_keeps 0) (λ c. count_steps (λ n. call c (read n (zeros (record_on c * n)))))
    & one (λ c. call c (take_next (zeros (record_on c))))
    & one (λ c. call c sent)
    & two_steps (λ c k. call c (clear k))
    & two_steps (λ c p. call c (get_parameter p))
    & three (λ c p v. call c (set_parameter p v))
    & tt

-- a number that is an event's: 1 to 16
arguments_agree : (kind : ℕ) → (kind ≡ 0 → ⊥) → kind ≤ 16 → Steps (arguments_of kind) (arguments_after kind)
unfolding arguments_of arguments_after arguments looks
arguments_agree zero n h = absurd (n refl)
arguments_agree (suc k) n h = both_at (drop 1 arguments) (drop 1 looks) all_agree k (omega arith)

-- and one that is none
none_up : (n kind : ℕ) → (kind ≡ 0) ⊎ (n < kind) → NoneUpTo n kind
none_up zero kind h = tt
none_up (suc n) kind h = (none_up n kind (⊎_elim inl (λ (l : suc n < kind). inr (omega arith)) h), λ e. ⊎_elim (λ (z : kind ≡ 0). omega arith) (λ (l : suc n < kind). omega arith) h)

-- event 0 always has a reason
edition_bad : (s : List ℕ) (at next : ℕ) → (edition_fault s at next).reason ≡ 0 → ⊥
unfolding edition_fault number_then number_at answer
edition_bad s at next = by_place (eqb at 0) (numbers.number_in (drop next s))
  where
    by_place : (b : Bool) (o : Option numbers.Found) → (if b then number_then s next (λ edition after. spot 8 next) (answer next o) else spot 7 at).reason ≡ 0 → ⊥
    by_place true none = why_not (front (drop next s))
    by_place true (some f) = λ e. omega arith
    by_place false o = λ e. omega arith

-- AN EVENT IS GOOD, and ends there, exactly where the reader of events takes it
pub events_agree : EventsAgree
unfolding read_event ◌>>=◌ bind number event_fault number_then number_at answer kind_then
events_agree s at = go (numbers.number_in (drop at s))
  where
    kinds : (kind next : ℕ) (z t : Bool) → eqb kind 0 ≡ z → ltb 16 kind ≡ t → Agrees (arguments_of kind s next) (if z then edition_fault s at next else if t then spot 5 at else arguments_after kind s (spot 0 next))
    kinds kind next true t z e = rw (← unknown s next kind (none_up 16 kind (inl (eqb→eq kind 0 (true_T _ z))))) (edition_bad s at next)
    kinds kind next false true z e = rw (← unknown s next kind (none_up 16 kind (inr (ltb-true 16 kind e)))) (λ z. omega arith)
    kinds kind next false false z e = (arguments_agree kind (λ k. true≢false (sym (eq-eqb kind 0 k) ∙ z)) (ltb-false 16 kind e)).agrees s next

    go : (o : Option numbers.Found) → Agrees (bind {A = ℕ × ℕ} (map (λ f. (f.value, at + f.size)) o) (λ r. arguments_of r.0 s r.1)) (number_then s at (kind_then s at) (answer at o))
    go none = why_not (front (drop at s))
    go (some f) = kinds f.value (at + f.size) (eqb f.value 0) (ltb 16 f.value) refl refl

-- ---- a recording

-- what is to be shown of the events that follow
abbrev Later : ℕ → List ℕ → ℕ → Type 0
Later turns s n = (next : ℕ) → (fault_from turns s n next).reason ≡ 0 → fault_from turns s n next ≡ nothing

-- EVERY FAULT HAS A REASON
faults_from : (turns : ℕ) (s : List ℕ) (n at : ℕ) → (fault_from turns s n at).reason ≡ 0 → fault_from turns s n at ≡ nothing
unfolding fault_from met
faults_from zero s n at e = refl
faults_from (suc turns) s n at e = ends (λ next. faults_from turns s (n + 1) next) (leb (length s) at) e
  where
    events : Later turns s (n + 1) → (o : Option (Event × ℕ)) → Agrees o (event_fault s at) → (met o s n at (λ next. fault_from turns s (n + 1) next)).reason ≡ 0 → met o s n at (λ next. fault_from turns s (n + 1) next) ≡ nothing
    events later none a e = absurd (a e)
    events later (some r) a e = later r.1 e

    ends : Later turns s (n + 1) → (t : Bool) → (if t then nothing else met (read_event s at) s n at (λ next. fault_from turns s (n + 1) next)).reason ≡ 0 → (if t then nothing else met (read_event s at) s n at (λ next. fault_from turns s (n + 1) next)) ≡ nothing
    ends later true e = refl
    ends later false e = events later (read_event s at) (events_agree s at) e

pub faults_have_reasons : FaultsHaveReasons
unfolding fault_in
faults_have_reasons s e = go (ltb 32768 (length s)) e
  where
    go : (t : Bool) → (if t then fault 6 0 0 32768 else fault_from (length s) s 0 (start_of s)).reason ≡ 0 → (if t then fault 6 0 0 32768 else fault_from (length s) s 0 (start_of s)) ≡ nothing
    go true e = absurd (omega arith)
    go false e = faults_from (length s) s 0 (start_of s) e
