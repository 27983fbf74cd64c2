-- A filter and a periodic of a store, part by part. Assumes nothing.
use Rattle.std.specs.Prelude.{if◌then◌else◌}
use Prim.Native.Nat.{ℕ, ◌≤◌}
use mathlib.Core.Path.{◌≡◌, refl, sym, ap, ◌∙◌}
use mathlib.Core.Bool.{Bool, true, false, ◌&&◌, not}
use mathlib.Core.List.{List}
use mathlib.Core.Option.{none, some, bind}
use borrow.Author.Tests.{le-ltb, eq-eqb, ne_eqb}
use lib.Dec.{eqb}
use lib.ListN.{length}
use Rattle.codec.specs.Plain.{within}
use Rattle.codec.proofs.Tests.{and_false}
use Rattle.number.specs.Reads.{◌>>=◌, done, bad, number, where_true}
use Rattle.machine.specs.Codes.{code_of}
use Rattle.machine.specs.Limits.{record_size, least_interval, most_interval}
use Rattle.machine.specs.Message.{message_code, clean}
use Rattle.machine.specs.Filter.{none_yet, free}
use Rattle.machine.specs.Store.{clean_in}
use Rattle.machine.specs.Channel.{Open, listens, shorter, blank, filter_code, filter_of, periodic_code, filter_in, periodic_in}
use Rattle.store_records.specs.Places.{after_of}

-- the place after a value that passes a test
after_test : {A : Type 0} (b : Bool) (a : A) (s : List ℕ) (n : ℕ) → after_of (where_true b a s n) ≡ (if b then some n else none)
unfolding after_of where_true done bad
after_test true a s n = refl
after_test false a s n = refl

-- ---- a filter: type, mask, pattern, then its tests
module _ (flags : ℕ) (s : List ℕ) (at : ℕ) where
  pub no_type : number s at ≡ none → none ≡ after_of (filter_in flags s at)
  unfolding filter_in ◌>>=◌ bind after_of
  no_type e = rw e

  module _ {type mask : ℕ} (t : number s at ≡ some (type, mask)) where
    pub no_mask : clean_in s mask ≡ none → none ≡ after_of (filter_in flags s at)
    unfolding filter_in ◌>>=◌ bind after_of
    no_mask e = rw (t, e)

    module _ {m : List ℕ} {pattern : ℕ} (a : clean_in s mask ≡ some (m, pattern)) where
      pub no_pattern : clean_in s pattern ≡ none → none ≡ after_of (filter_in flags s at)
      unfolding filter_in ◌>>=◌ bind after_of
      no_pattern e = rw (t, a, e)

      -- the code of a start on a channel without filters
      module _ {p : List ℕ} {next : ℕ} (b : clean_in s pattern ≡ some (p, next)) (code : ℕ)
          (is : (o : Open) → o.config.flags ≡ flags → free o.filters ≡ 0 → code ≡ filter_code o type m p) where
        tested : after_of (filter_in flags s at) ≡ (if eqb code 0 then some next else none)
        unfolding filter_in ◌>>=◌ bind none_yet free
        tested =
            rw (t, a, b)
            (after_test (eqb (filter_code (blank flags 0) type m p) 0) (filter_of type m p) s next ∙ ap (λ (k : ℕ). if eqb k 0 then some next else none) (sym (is (blank flags 0) refl refl)))

        pub filter_refused : (code ≡ 0 → ⊥) → none ≡ after_of (filter_in flags s at)
        filter_refused h = sym (tested ∙ ap (λ (c : Bool). if c then some next else none) (ne_eqb code 0 h))

        pub filter_taken : code ≡ 0 → some next ≡ after_of (filter_in flags s at)
        filter_taken h = sym (tested ∙ ap (λ (c : Bool). if c then some next else none) (eq-eqb code 0 h))

-- ---- a periodic: message, interval, then its tests
module _ (flags : ℕ) (s : List ℕ) (at : ℕ) where
  pub no_message : clean_in s at ≡ none → none ≡ after_of (periodic_in flags s at)
  unfolding periodic_in ◌>>=◌ bind after_of
  no_message e = rw e

  module _ {m : List ℕ} {end : ℕ} (a : clean_in s at ≡ some (m, end)) where
    pub no_interval : number s end ≡ none → none ≡ after_of (periodic_in flags s at)
    unfolding periodic_in ◌>>=◌ bind after_of
    no_interval e = rw (a, e)

    module _ {interval next : ℕ} (b : number s end ≡ some (interval, next)) (long : record_size ≤ length m) where
      -- the tests of a start on a channel without periodics
      code : (w : Bool) (k : ℕ) → within least_interval most_interval interval ≡ w → message_code flags m ≡ k → eqb (periodic_code (blank flags 0) m interval) 0 ≡ (w && eqb k 0)
      unfolding periodic_code code_of shorter none_yet free
      code w k e f = rw (le-ltb (length m) record_size long, e, f) (go w k)
        where
          go : (w : Bool) (k : ℕ) → eqb (if not w then 0x0B else if not (eqb k 0) then k else 0) 0 ≡ (w && eqb k 0)
          go false k = refl
          go true k = last (eqb k 0) refl
            where
              last : (t : Bool) → eqb k 0 ≡ t → eqb (if not t then k else 0) 0 ≡ t
              last true q = refl
              last false q = q

      tested_periodic : (w : Bool) (k : ℕ) (l : Bool) → within least_interval most_interval interval ≡ w → message_code flags m ≡ k → listens flags ≡ l
          → after_of (periodic_in flags s at) ≡ (if not l && (w && eqb k 0) then some next else none)
      unfolding periodic_in ◌>>=◌ bind
      tested_periodic w k l e f q =
          rw (a, b)
          (after_test (not (listens flags) && eqb (periodic_code (blank flags 0) m interval) 0) (clean m, interval) s next
          ∙ (λ j. if not (q j) && code w k e f j then some next else none))

      pub bad_interval : within least_interval most_interval interval ≡ false → none ≡ after_of (periodic_in flags s at)
      bad_interval e =
          sym (tested_periodic false (message_code flags m) (listens flags) e refl refl ∙ ap (λ (c : Bool). if c then some next else none) (and_false (not (listens flags))))

      module _ (k : ℕ) (e : within least_interval most_interval interval ≡ true) (f : k ≡ message_code flags m) where
        pub periodic_refused : (k ≡ 0 → ⊥) → none ≡ after_of (periodic_in flags s at)
        periodic_refused h =
            sym (tested_periodic true k (listens flags) e (sym f) refl ∙ ap (λ (c : Bool). if not (listens flags) && c then some next else none) (ne_eqb k 0 h)
            ∙ ap (λ (c : Bool). if c then some next else none) (and_false (not (listens flags))))

        -- a listener starts none
        pub none_starts : listens flags ≡ true → none ≡ after_of (periodic_in flags s at)
        none_starts q = sym (tested_periodic true k true e (sym f) q)

        pub periodic_taken : k ≡ 0 → listens flags ≡ false → some next ≡ after_of (periodic_in flags s at)
        periodic_taken h q = sym (tested_periodic true k false e (sym f) q ∙ ap (λ (c : Bool). if c then some next else none) (eq-eqb k 0 h))
