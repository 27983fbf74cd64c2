-- The bytes of an opening telegram with its repeats, some microseconds later. Assumes nothing.
use Rattle.std.specs.Prelude.{if◌then◌else◌}
use mathlib.Core.Path.{◌≡◌, refl, sym, ap, ◌∙◌, subst}
use Prim.Native.Nat.{ℕ, ◌+◌, ◌-◌, ◌≤◌, ◌<◌, ◌^◌}
use native.Mathlib.Omega.{arith}
use mathlib.Core.Bool.{Bool, true, false}
use mathlib.Core.Option.{none, some}
use mathlib.Core.List.{List, [], ◌∷◌, ◌++◌}
use lib.ListN.{length, get_or, set}
use lib.Dec.{T, ltb, leb, ltb→lt}
use borrow.Author.Tests.{lt-ltb, le-ltb, le-leb, lt-leb}
use borrow.Rule.Slice.PartMut.{put_mid}
use Rattle.codec.specs.Word.{word, word_at}
use Rattle.codec.specs.Code.{byte, word32, both, via, such}
use Rattle.codec.proofs.Tests.{left, right}
use Rattle.codec.proofs.Word.{word_back}
use Rattle.link.specs.Connection.{mntc, Trial, waits, flies, runs}
use Rattle.link_layout.specs.Sizes.{trials_size}
use Rattle.link_layout.specs.Connection.{trial_parts, trial, trials}
use Rattle.link_layout.specs.Turned.{is_there, put_or}
use Rattle.link_layout.proofs.Lawful.{trials_lawful}
use Rattle.link_layout.proofs.Bytes.{trials_size_law}
use Rattle.link_layout.proofs.Turning.{made, refused}
use Rattle.link_starts.proofs.Laws.{again, fine, trials_tag}
use Rattle.link_timers.specs.Timed.{trial_later, trials_later}

runs_bytes : (n k : ℕ) → trials.put (n, runs k) ≡ n ∷ 2 ∷ word k
unfolding trials trial via such both byte word32
runs_bytes n k = refl

waits_bytes : (n : ℕ) → trials.put (n, waits) ≡ n ∷ 0 ∷ word 0
unfolding trials trial via such both byte word32
waits_bytes n = refl

runs_small : (n k : ℕ) → T (trials.ok (n, runs k)) → k < 2 ^ 32
unfolding trials trial via such both word32
runs_small n k t = ltb→lt k (2 ^ 32) (search (left, right))

abbrev IsRunning : ℕ × Trial → Type 0
IsRunning p = (n : ℕ) × ((k : ℕ) × (p ≡ (n, runs k)))

is_running : (p : ℕ × Trial) → 2 ≤ (trial_parts p.1).0 → IsRunning p
is_running (n, waits) h = absurd (omega arith)
is_running (n, flies) h = absurd (omega arith)
is_running (n, (runs k)) h = (n, (k, refl))

module _ (us : ℕ) where
  stays : (p : ℕ × Trial) → (trial_parts p.1).0 < 2 → trials_later us p ≡ some p
  unfolding trials_later trial_later
  stays (n, waits) h = refl
  stays (n, flies) h = refl
  stays (n, (runs k)) h = absurd (omega arith)

  module _ (n k : ℕ) where
    later_is : (b c : Bool) → ltb us k ≡ b → leb mntc n ≡ c → trials_later us (n, runs k) ≡ (if b then some (n, runs (k - us)) else if c then none else some (n + 1, waits))
    unfolding trials_later trial_later
    later_is b c e f = λ i. if e i then some (n, runs (k - us)) else if f i then none else some (n + 1, waits)

  module _ (m : List ℕ) (long : length m ≡ trials_size) (v : T (trials.valid m)) where
    abbrev Later : Bool → List ℕ → Type 0
    Later r ys = (r ≡ is_there (trials_later us (trials.get m))) × (ys ≡ put_or trials (trials_later us (trials.get m)) m)

    is : trials.put (trials.get m) ≡ m
    is = again trials_lawful trials_size trials_size_law m long v

    tag : get_or m 1 0 ≡ (trial_parts (trials.get m).1).0
    tag = ap (λ (x : List ℕ). get_or x 1 0) (sym is) ∙ trials_tag (trials.get m)

    pub rests : get_or m 1 0 < 2 → Later true m
    rests h = let k : (trial_parts (trials.get m).1).0 < 2 = omega (arith, tag) in made trials _ m (trials.get m) m (stays (trials.get m) k) (sym is)

    module _ (h : 2 ≤ get_or m 1 0) where
      running : IsRunning (trials.get m)
      running = is_running (trials.get m) (omega (arith, tag))

      abbrev n : ℕ
      n = running.0

      abbrev k : ℕ
      k = running.1.0

      bytes : m ≡ n ∷ 2 ∷ word k
      bytes = sym is ∙ ap trials.put running.1.1 ∙ runs_bytes n k

      number : word_at 2 m ≡ k
      unfolding word word_at
      number =
          let small = runs_small n k (subst (λ (p : ℕ × Trial). T (trials.ok p)) running.1.1 (fine trials_lawful trials_size trials_size_law m long v)) in
          ap (word_at 2) bytes ∙ word_back k small

      repeats : get_or m 0 0 ≡ n
      repeats = ap (λ (x : List ℕ). get_or x 0 0) bytes

      by : (b c : Bool) → ltb us k ≡ b → leb mntc n ≡ c → trials_later us (trials.get m) ≡ (if b then some (n, runs (k - us)) else if c then none else some (n + 1, waits))
      by b c e f = ap (trials_later us) running.1.1 ∙ later_is n k b c e f

      pub goes_on : (l : ℕ) → l ≡ word_at 2 m → us < l → (x : List ℕ) → x ≡ word (l - us) → Later true (put_mid 2 4 m x)
      unfolding word
      goes_on l e q x y =
          made trials _ m (n, runs (k - us)) _ (by true (leb mntc n) (lt-ltb us k (omega (arith, e, number))) refl)
          (ap (λ (z : List ℕ). put_mid 2 4 z x) bytes
          ∙ ap {B = List ℕ} (λ (z : List ℕ). n ∷ 2 ∷ (z ++ [])) (y ∙ ap (λ (j : ℕ). word (j - us)) (e ∙ number))
          ∙ sym (runs_bytes n (k - us)))

      pub anew : (l : ℕ) → l ≡ word_at 2 m → l ≤ us → get_or m 0 0 < 10 → (x : List ℕ) → x ≡ 0 ∷ word 0 → Later true (set (put_mid 1 5 m x) 0 (get_or m 0 0 + 1))
      unfolding word
      anew l e q f x y =
          made trials _ m (n + 1, waits) _ (by false false (le-ltb us k (omega (arith, e, number))) (lt-leb mntc n (omega (arith, repeats))))
          (ap (λ (z : List ℕ). set (put_mid 1 5 z x) 0 (get_or z 0 0 + 1)) bytes
          ∙ ap {B = List ℕ} (λ (z : List ℕ). (n + 1) ∷ (z ++ [])) y
          ∙ sym (waits_bytes (n + 1)))

      pub over : (l : ℕ) → l ≡ word_at 2 m → l ≤ us → 10 ≤ get_or m 0 0 → Later false m
      over l e q f =
          refused trials _ m (by false true (le-ltb us k (omega (arith, e, number))) (le-leb mntc n (omega (arith, repeats))))
