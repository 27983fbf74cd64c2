-- One part of an event after another: what was wrong stays so, what is good is looked at further. Assumes nothing.
use Prim.Native.Nat.{ℕ, zero, suc, ◌+◌, ◌*◌, ◌≤◌, ◌<◌}
use mathlib.Core.Bool.{Bool, true, false, true≢false}
use mathlib.Core.List.{List}
use mathlib.Core.Path.{◌≡◌, refl, sym, ap, ◌∙◌}
use native.Mathlib.Omega.{arith}
use borrow.Author.Tests.{leb-true, leb-false, le-leb, lt-leb, ne_eqb, eq-eqb, lt-ltb, le-ltb}
use lib.Dec.{leb}
use lib.ListN.{length, drop, get_or, get_or-eq_default}
use Rattle.recording_sizes.specs.Sizes.{record_on}
use Rattle.number.specs.declared.Number.{Number}
use Rattle.std.specs.Prelude.{Option, Some, None}
use Rattle.std.specs.Option.{is_some}
use Rattle.number.specs.Number.{front}
use Rattle.number.specs.Place.{number_at}
use Rattle.fault.specs.declared.Spot.{Spot}
use Rattle.fault.specs.Fault.{spot, and_then, why_bad, number_then, number_after, two_after, bytes_from, bytes_after, pieces_from, pieces_after, channel_at, record_after, no_more, flow_after, looks, arguments_after, edition_fault, kind_then}
use Rattle.events.proofs.Reading.{NoneUpTo}

module _ (look : ℕ → Spot) (before : Spot) where
  pub stays : (before.reason ≡ 0 → ⊥) → before ≡ and_then look before
  unfolding and_then
  stays n = rw (ne_eqb before.reason 0 n)

  pub goes_on : before.reason ≡ 0 → and_then look before ≡ look before.at
  unfolding and_then
  goes_on e = rw (eq-eqb before.reason 0 e)

module _ (size : ℕ) (s : List ℕ) (at : ℕ) where
  pub bytes_there : at + size ≤ length s → spot 0 (at + size) ≡ bytes_from size s at
  unfolding bytes_from
  bytes_there h = rw (le-leb (at + size) (length s) h)

  pub bytes_cut : length s < at + size → spot 1 at ≡ bytes_from size s at
  unfolding bytes_from
  bytes_cut h = rw (lt-leb (at + size) (length s) h)

-- a number and what comes after it, by what the reader of numbers answered
module _ (s : List ℕ) (at : ℕ) (more : ℕ → ℕ → Spot) (r : Option Number) (e : r ≡ number_at s at) where
  pub number_good : {n : Number} → r ≡ Some n → more n.value n.next ≡ number_then s at more (number_at s at)
  unfolding number_then
  number_good g = ap (number_then s at more) (sym g ∙ e)

  pub number_bad : {w : ℕ} → r ≡ None → w ≡ why_bad (front (drop at s)) → spot w at ≡ number_then s at more (number_at s at)
  unfolding number_then
  number_bad g h = ap (λ (x : ℕ). spot x at) h ∙ ap (number_then s at more) (sym g ∙ e)

-- the same, where it was only asked whether there is one
module _ (s : List ℕ) (at : ℕ) (x : Spot) (r : Option Number) (e : r ≡ number_at s at) where
  pub number_is : is_some r ≡ true → x ≡ number_then s at (λ v n. x) (number_at s at)
  unfolding number_then
  number_is g = go r g ∙ ap (number_then s at (λ v n. x)) e
    where
      go : (o : Option Number) → is_some o ≡ true → x ≡ number_then s at (λ v n. x) o
      go None h = absurd (true≢false (sym h))
      go (Some n) h = refl

  pub number_is_not : {w : ℕ} → is_some r ≡ false → w ≡ why_bad (front (drop at s)) → spot w at ≡ number_then s at (λ v n. x) (number_at s at)
  unfolding number_then
  number_is_not {w} g h = go r g ∙ ap (number_then s at (λ v n. x)) e
    where
      go : (o : Option Number) → is_some o ≡ false → spot w at ≡ number_then s at (λ v n. x) o
      go None q = ap (λ (y : ℕ). spot y at) h
      go (Some n) q = absurd (true≢false q)

-- an n, and n pieces of raw bytes
module _ (unit : ℕ) (s : List ℕ) (at n next : ℕ) where
  pub too_many : 64 < n → spot 4 at ≡ pieces_from unit s at n next
  unfolding pieces_from
  too_many h = rw (lt-leb n 64 h)

  pub few_enough : n ≤ 64 → bytes_after (unit * n) s (spot 0 next) ≡ pieces_from unit s at n next
  unfolding pieces_from bytes_after and_then
  few_enough h = rw (le-leb n 64 h)

-- the number of an event, and its arguments
module _ (s : List ℕ) (at kind next : ℕ) where
  pub an_edition : kind ≡ 0 → edition_fault s at next ≡ kind_then s at kind next
  unfolding kind_then
  an_edition e = sym (rw (eq-eqb kind 0 e))

  module _ (n : kind ≡ 0 → ⊥) where
    pub no_event : 16 < kind → spot 5 at ≡ kind_then s at kind next
    unfolding kind_then
    no_event h = sym (rw (ne_eqb kind 0 n, lt-ltb 16 kind h))

    pub an_event : kind ≤ 16 → arguments_after kind s (spot 0 next) ≡ kind_then s at kind next
    unfolding kind_then
    an_event h = sym (rw (ne_eqb kind 0 n, le-ltb 16 kind h))

-- event 0
module _ (s : List ℕ) (at next : ℕ) where
  pub elsewhere : (at ≡ 0 → ⊥) → spot 7 at ≡ edition_fault s at next
  unfolding edition_fault
  elsewhere n = sym (rw (ne_eqb at 0 n))

  pub at_start : at ≡ 0 → number_then s next (λ edition after. spot 8 next) (number_at s next) ≡ edition_fault s at next
  unfolding edition_fault
  at_start e = sym (rw (eq-eqb at 0 e))

-- the table's entry for a number
pub entry : (s : List ℕ) (before : Spot) (k : ℕ) (look : List ℕ → Spot → Spot) → get_or looks k no_more ≡ look → {kind : ℕ} → kind ≡ k → look s before ≡ arguments_after kind s before
unfolding arguments_after
entry s before k look h {kind} e = ap (λ (f : List ℕ → Spot → Spot). f s before) (sym h) ∙ ap (λ (j : ℕ). get_or looks j no_more s before) (sym e)

-- and those whose records go by the channel
module _ (s : List ℕ) (before : Spot) {channel size : ℕ} (named : channel ≡ channel_at s before) (sized : size ≡ record_on channel) where
  pub filter_entry_law : {kind : ℕ} → kind ≡ 6 → flow_after channel s (bytes_after size s (bytes_after size s (two_after s before))) ≡ arguments_after kind s before
  unfolding record_after looks
  filter_entry_law e = rw (sized, named) (entry s before 6 (λ s b. flow_after (channel_at s b) s (record_after (channel_at s b) s (record_after (channel_at s b) s (two_after s b)))) refl e)

  pub periodic_entry : {kind : ℕ} → kind ≡ 8 → number_after s (bytes_after size s (number_after s before)) ≡ arguments_after kind s before
  unfolding record_after looks
  periodic_entry e = rw (sized, named) (entry s before 8 (λ s b. number_after s (record_after (channel_at s b) s (number_after s b))) refl e)

  pub write_entry : {kind : ℕ} → kind ≡ 10 → pieces_after size s (number_after s before) ≡ arguments_after kind s before
  unfolding looks
  write_entry e = rw (sized, named) (entry s before 10 (λ s b. pieces_after (record_on (channel_at s b)) s (number_after s b)) refl e)

-- a number that is no event's has no arguments
pub no_arguments : (s : List ℕ) (before : Spot) (kind : ℕ) → NoneUpTo 16 kind → before ≡ arguments_after kind s before
unfolding arguments_after looks no_more
no_arguments s before kind h = go (leb kind 16) refl
  where
    zero_is : (n : ℕ) → NoneUpTo n kind → kind ≤ n → kind ≡ 0
    zero_is zero h l = omega arith
    zero_is (suc n) h l = let other = h.1 in zero_is n h.0 (omega arith)

    go : (b : Bool) → leb kind 16 ≡ b → before ≡ get_or looks kind no_more s before
    go true q = rw (zero_is 16 h (leb-true kind 16 q))
    go false q =
        let past : length looks ≤ kind = omega (arith, leb-false kind 16 q) in
        ap (λ (p : List ℕ → Spot → Spot). p s before) (sym (get_or-eq_default looks no_more past))
