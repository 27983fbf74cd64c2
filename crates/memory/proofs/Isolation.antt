-- Calls in a row on a lent memory, in bytes: they give the machine's answers and leave the bytes of the machine's state, so demand 3 over the machine
-- is demand 3 over bytes. On bytes that are no device memory every call gives 0x1A and leaves them, so it holds there too. Assumes nothing.
use Rattle.std.specs.Prelude.{if◌then◌else◌}
use mathlib.Core.Path.{◌≡◌, refl, sym, ap, ap₂, ◌∙◌, subst}
use Prim.Native.Nat.{ℕ, ◌-◌, ◌≤◌, ◌<◌}
use native.Mathlib.Omega.{arith}
use mathlib.Core.Bool.{Bool, true, false}
use mathlib.Core.List.{List, [], ◌∷◌, ◌++◌, map, map-append}
use lib.ListN.{take, drop}
use borrow.Author.Tests.{ltb-true, ltb-false}
use lib.Dec.{T, ltb}
use Rattle.codec.specs.Word.{word}
use Rattle.codec.specs.Code.{word32}
use Rattle.codec.proofs.Tests.{true_T}
use Rattle.codec.proofs.Place.{slice_is}
use Rattle.machine.specs.Limits.{lines}
use Rattle.machine.specs.Channel.{Answer, says}
use Rattle.machine.specs.Step.{Event, lent_by}
use Rattle.layout.specs.Sizes.{number_size, region_size}
use Rattle.layout.specs.Memory.{region}
use Rattle.layout.specs.Promise.{Result, gives, answered, answer_of}
use Rattle.layout.specs.Reach.{AllBytes}
use Rattle.layout.proofs.Calls.{Known}
use Rattle.iso_layout.specs.Sizes.{iso_region_size}
use Rattle.iso_layout.specs.Region.{iso_region}
use Rattle.whole.specs.Device.{channels, Device, Any, raw, iso, chan_at, iso_at, any_at, step, run, answers}
use Rattle.whole.specs.Demands.{EightChannels, concerns, strike, answers_of, Apart, SameToEach}
use Rattle.whole.proofs.Isolation.{projection_from, exchange, arranged}
use Rattle.memory.specs.Sizes.{raw_at, iso_at_byte}
use Rattle.memory.specs.Memory.{device_parts, device_back, memory, image, load, valid}
use Rattle.memory.specs.Promise.{outcome}
use Rattle.memory.specs.Runs.{results, leaves, of_those, results_of, place_at, size_at, region_of, clock_of, AsMachine, Untouched, Commute, Reordered}
use Rattle.memory.proofs.Memory.{load_image, image_load, ok_load, valid_image}
use Rattle.memory.proofs.Reach.{ok_sane, step_ok, run_ok}
use Rattle.memory.proofs.Rows.{raws, isos, clock_place, not_valid, by_step, memory_put, region_is}

-- ---- the bytes of a device

-- a channel's bytes, whatever its kind
abbrev bytes_of : Any → List ℕ
bytes_of (raw c) = region.put c
bytes_of (iso c) = iso_region.put c

raw_holds : (i : ℕ) → i < lines → (d : Device) → T (memory.ok d) → take region_size (drop (raw_at i) (image d)) ≡ region.put (chan_at i d)
unfolding raws
raw_holds i h d t = region_is (image d) (valid_image d t) raws i h ∙ ap (λ (x : Device). region.put (chan_at i x)) (load_image d t)

iso_holds : (i : ℕ) → i < lines → (d : Device) → T (memory.ok d) → take iso_region_size (drop (iso_at_byte i) (image d)) ≡ iso_region.put (iso_at i d)
unfolding isos
iso_holds i h d t = region_is (image d) (valid_image d t) isos i h ∙ ap (λ (x : Device). iso_region.put (iso_at i x)) (load_image d t)

region_holds : (i : ℕ) → i < channels → (d : Device) → T (memory.ok d) → region_of i (image d) ≡ bytes_of (any_at i d)
unfolding place_at size_at any_at
region_holds i h d t = by (ltb i lines) refl
  where
    by : (b : Bool) → ltb i lines ≡ b
        → take (if b then region_size else iso_region_size) (drop (if b then raw_at i else iso_at_byte (i - lines)) (image d)) ≡ bytes_of (if b then raw (chan_at i d) else iso (iso_at (i - lines) d))
    by true q = raw_holds i (ltb-true i lines q) d t
    by false q = let out : lines ≤ i = ltb-false i lines q in iso_holds (i - lines) (omega arith) d t

clock_holds : (d : Device) → clock_of (image d) ≡ word32.put d.clock
unfolding word32 word
clock_holds d = ap (take number_size) (memory_put d) ∙ slice_is (clock_place d) refl

-- ---- what is left of bytes, or changes places, are bytes

strike_bytes : (i : ℕ) (es : List Event) → AllBytes es → AllBytes (strike i es)
unfolding strike
strike_bytes i [] b = tt
strike_bytes i (e ∷ es) b = go (concerns i e) (strike_bytes i es b.1)
  where
    go : (c : Bool) → AllBytes (strike i es) → AllBytes (if c then e ∷ strike i es else strike i es)
    go true r = (b.0, r)
    go false r = r

swap_bytes : (xs : List Event) (e e' : Event) (ys : List Event) → AllBytes (xs ++ e ∷ e' ∷ ys) → AllBytes (xs ++ e' ∷ e ∷ ys)
swap_bytes [] e e' ys b = (b.1.0, (b.0, b.1.1))
swap_bytes (x ∷ xs) e e' ys b = (b.0, swap_bytes xs e e' ys b.1)

first_bytes : (xs ys : List Event) → AllBytes (xs ++ ys) → AllBytes xs
first_bytes [] ys b = tt
first_bytes (x ∷ xs) ys b = (b.0, first_bytes xs ys b.1)

-- ---- the machine's answers to those that concern a channel

of_answers : (rates : List ℕ) (i : ℕ) (es : List Event) (d : Device) → of_those i es (answers rates d es) ≡ answers_of rates i d es
unfolding of_those answers answers_of
of_answers rates i [] d = refl
of_answers rates i (e ∷ es) d =
    ap (λ (l : List Answer). if concerns i e then (step rates d e).1 ∷ l else l) (of_answers rates i es (step rates d e).0)

-- ---- a valid memory

eight : (m : List ℕ) → T (valid m) → EightChannels (load m)
eight m v = (ok_sane (load m) (ok_load m v)).eight

module _ (rates : List ℕ) (known : Known rates) where
  -- a call on the bytes of a device answers as the machine does, and leaves the bytes of the machine's next state
  pub outcome_is : (d : Device) (e : Event) → T (memory.ok d) → outcome rates (image d) e ≡ answered (step rates d e).1 (image (step rates d e).0)
  outcome_is d e t = sym (by_step (image d) (valid_image d t) rates e (step rates d e).0 (step rates d e).1 (ap (λ (x : Device). step rates x e) (load_image d t)))

  -- CALLS IN A ROW give the machine's answers and leave the bytes of its state
  pub image_runs : (es : List Event) (d : Device) → T (memory.ok d) → AllBytes es → AsMachine rates (image d) d es
  unfolding results leaves answers run
  image_runs [] d t b = record { answer = refl; memory = refl }
  image_runs (e ∷ es) d t b =
      let q = image_runs es (step rates d e).0 (step_ok rates known d e t b.0) b.1 in
      record {
        answer = ap (λ (x : Result). answer_of x ∷ results rates x.memory es) (outcome_is d e t) ∙ ap (λ (l : List Answer). (step rates d e).1 ∷ l) q.answer;
        memory = ap (λ (x : Result). leaves rates x.memory es) (outcome_is d e t) ∙ q.memory;
      }

  module _ (m : List ℕ) (v : T (valid m)) where
    pub runs : (es : List Event) → AllBytes es → AsMachine rates m (load m) es
    runs es b = subst (λ (x : List ℕ). AsMachine rates x (load m) es) (image_load m v) (image_runs es (load m) (ok_load m v) b)

    runs_ok : (es : List Event) → AllBytes es → T (memory.ok (run rates (load m) es))
    runs_ok es b = run_ok rates known es (load m) (ok_load m v) b

    -- a valid memory stays valid, call after call
    pub stays_valid : (es : List Event) → AllBytes es → T (valid (leaves rates m es))
    stays_valid es b = subst (λ (x : List ℕ). T (valid x)) (sym (runs es b).memory) (valid_image (run rates (load m) es) (runs_ok es b))

    region_left : (i : ℕ) → i < channels → (es : List Event) → AllBytes es → region_of i (leaves rates m es) ≡ bytes_of (any_at i (run rates (load m) es))
    region_left i h es b = ap (region_of i) (runs es b).memory ∙ region_holds i h (run rates (load m) es) (runs_ok es b)

    clock_left : (es : List Event) → AllBytes es → clock_of (leaves rates m es) ≡ word32.put (run rates (load m) es).clock
    clock_left es b = ap clock_of (runs es b).memory ∙ clock_holds (run rates (load m) es)

    received : (i : ℕ) (es : List Event) → AllBytes es → results_of rates i m es ≡ answers_of rates i (load m) es
    unfolding results_of
    received i es b = ap (of_those i es) (runs es b).answer ∙ of_answers rates i es (load m)

    pub untouched_valid : (i : ℕ) → i < channels → (es : List Event) → AllBytes es → Untouched rates i m es
    untouched_valid i h es b =
        let q = projection_from rates i h es (load m) (eight m v) in
        let b' = strike_bytes i es b in
        record {
          receives = received i es b ∙ q.receives ∙ sym (runs (strike i es) b').answer;
          holds = region_left i h es b ∙ ap bytes_of q.ends.chan ∙ sym (region_left i h (strike i es) b');
          clock = clock_left es b ∙ ap word32.put q.ends.clock ∙ sym (clock_left (strike i es) b');
        }

    pub commute_valid : (xs : List Event) (e e' : Event) (ys : List Event) → AllBytes (xs ++ e ∷ e' ∷ ys) → Apart e e' → Commute rates m xs e e' ys
    commute_valid xs e e' ys b h =
        let q = exchange rates (load m) xs e e' ys (eight m v) h in
        let there = runs (xs ++ e ∷ e' ∷ ys) b in
        let back = runs (xs ++ e' ∷ e ∷ ys) (swap_bytes xs e e' ys b) in
        let start = sym (runs xs (first_bytes xs (e ∷ e' ∷ ys) b)).answer in
        record {
          memory = there.memory ∙ ap image q.device ∙ sym back.memory;
          to_e = q.to_e;
          to_e' = q.to_e';
          to_ys = q.to_ys;
          one_way = there.answer ∙ q.one_way ∙ ap (λ (l : List Answer). l ++ q.to_e ∷ q.to_e' ∷ q.to_ys) start;
          other_way = back.answer ∙ q.other_way ∙ ap (λ (l : List Answer). l ++ q.to_e' ∷ q.to_e ∷ q.to_ys) start;
        }

    pub reordered_valid : (es zs : List Event) → AllBytes es → AllBytes zs → SameToEach es zs → Reordered rates m es zs
    reordered_valid es zs b c same =
        let q = arranged rates (load m) es zs (eight m v) same in
        record {
          memory = (runs es b).memory ∙ ap image q.device ∙ sym (runs zs c).memory;
          receives = λ i h. received i es b ∙ q.receives i h ∙ sym (received i zs c);
        }

-- ---- bytes that are no device memory: 0x1A, the lent buffer as it was, call after call

abbrev refused : Event → Answer
refused e = says 0x1A 0 (lent_by e)

of_refused : (i : ℕ) (es : List Event) → of_those i es (map refused es) ≡ map refused (strike i es)
unfolding of_those strike
of_refused i [] = refl
of_refused i (e ∷ es) = go (concerns i e) (of_refused i es)
  where
    go : (c : Bool) → of_those i es (map refused es) ≡ map refused (strike i es)
        → (if c then refused e ∷ of_those i es (map refused es) else of_those i es (map refused es)) ≡ map refused (if c then e ∷ strike i es else strike i es)
    go true r = ap (λ (l : List Answer). refused e ∷ l) r
    go false r = r

module _ (rates m : List ℕ) (n : valid m ≡ false) where
  given : (es : List Event) → results rates m es ≡ map refused es
  unfolding results says
  given [] = refl
  given (e ∷ es) = ap (λ (x : Result). answer_of x ∷ results rates x.memory es) (sym (not_valid rates m e n)) ∙ ap (λ (l : List Answer). refused e ∷ l) (given es)

  left_alone : (es : List Event) → leaves rates m es ≡ m
  unfolding leaves
  left_alone [] = refl
  left_alone (e ∷ es) = ap (λ (x : Result). leaves rates x.memory es) (sym (not_valid rates m e n)) ∙ left_alone es

  left_both : (es zs : List Event) → leaves rates m es ≡ leaves rates m zs
  left_both es zs = left_alone es ∙ sym (left_alone zs)

  got_refused : (i : ℕ) (es : List Event) → results_of rates i m es ≡ map refused (strike i es)
  unfolding results_of
  got_refused i es = ap (of_those i es) (given es) ∙ of_refused i es

  untouched_not : (i : ℕ) (es : List Event) → Untouched rates i m es
  untouched_not i es =
      let same = left_both es (strike i es) in
      record { receives = got_refused i es ∙ sym (given (strike i es)); holds = ap (region_of i) same; clock = ap clock_of same }

  swapped : (xs : List Event) (e e' : Event) (ys : List Event) → results rates m (xs ++ e ∷ e' ∷ ys) ≡ results rates m xs ++ refused e ∷ refused e' ∷ map refused ys
  swapped xs e e' ys =
      given (xs ++ e ∷ e' ∷ ys) ∙ map-append refused xs (e ∷ e' ∷ ys) ∙ ap (λ (l : List Answer). l ++ refused e ∷ refused e' ∷ map refused ys) (sym (given xs))

  commute_not : (xs : List Event) (e e' : Event) (ys : List Event) → Commute rates m xs e e' ys
  commute_not xs e e' ys =
      record {
        memory = left_both (xs ++ e ∷ e' ∷ ys) (xs ++ e' ∷ e ∷ ys);
        to_e = refused e;
        to_e' = refused e';
        to_ys = map refused ys;
        one_way = swapped xs e e' ys;
        other_way = swapped xs e' e ys;
      }

  reordered_not : (es zs : List Event) → SameToEach es zs → Reordered rates m es zs
  reordered_not es zs same =
      record { memory = left_both es zs; receives = λ i h. got_refused i es ∙ ap (map refused) (same i h) ∙ sym (got_refused i zs) }

-- ---- DEMAND 3 IN BYTES, on whatever bytes are lent as the memory

by_valid : {P : Type 0} (m : List ℕ) → (T (valid m) → P) → (valid m ≡ false → P) → P
by_valid {P} m good bad = go (valid m) refl
  where
    go : (b : Bool) → valid m ≡ b → P
    go true e = good (true_T (valid m) e)
    go false e = bad e

module _ (rates : List ℕ) (known : Known rates) (m : List ℕ) where
  -- the projection: strike out what does not concern a channel
  pub struck : (i : ℕ) → i < channels → (es : List Event) → AllBytes es → Untouched rates i m es
  struck i h es b = by_valid m (λ v. untouched_valid rates known m v i h es b) (λ n. untouched_not rates m n i es)

  -- the exchange: neighbours that concern no channel both
  pub exchanged : (xs : List Event) (e e' : Event) (ys : List Event) → AllBytes (xs ++ e ∷ e' ∷ ys) → Apart e e' → Commute rates m xs e e' ys
  exchanged xs e e' ys b h = by_valid m (λ v. commute_valid rates known m v xs e e' ys b h) (λ n. commute_not rates m n xs e e' ys)

  -- the arrangements: two sequences that are the same to each channel
  pub rearranged : (es zs : List Event) → AllBytes es → AllBytes zs → SameToEach es zs → Reordered rates m es zs
  rearranged es zs b c same = by_valid m (λ v. reordered_valid rates known m v es zs b c same) (λ n. reordered_not rates m n es zs same)
