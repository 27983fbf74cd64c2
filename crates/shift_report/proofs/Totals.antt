-- The numbers of a run: what one event adds and what is still to come, what is left at the end, and that none is large. Assumes nothing.
use Rattle.std.specs.Prelude.{if◌then◌else◌}
use Prim.Native.Nat.{ℕ, zero, suc, ◌+◌, ◌≤◌, ◌<◌}
use mathlib.Core.Path.{◌≡◌, refl, ap, ◌∙◌}
use mathlib.Core.Bool.{Bool, true, false}
use mathlib.Core.Option.{Option, none, some}
use mathlib.Core.List.{List, [], ◌∷◌, ◌++◌, map}
use native.Mathlib.Nat.{zero-add, le_trans}
use native.Mathlib.Omega.{arith}
use borrow.Author.Tests.{ltb-false}
use lib.Dec.{leb, ltb}
use lib.ListN.{length}
use Rattle.codec.proofs.Lists.{Each}
use Rattle.machine.specs.Step.{Event}
use Rattle.whole.specs.Device.{Device, chan_at, step, run}
use Rattle.recording_sizes.specs.Sizes.{longest}
use Rattle.edition.specs.Edition.{rates_of, start_of}
use Rattle.events.specs.Events.{read_event}
use Rattle.event_list.specs.Run.{and_then, events_from, events_of}
use Rattle.shift_places.specs.Places.{at_held}
use Rattle.shift.specs.Numbers.{Number, held, tally}
use Rattle.shift.specs.Report.{ten, eleven, of_four, numbers_of, all_numbers}
use Rattle.shift.proofs.Balance.{Small, all_small}
use Rattle.shift_cells.specs.Sums.{plus, cell, Below}
use Rattle.shift_cells.proofs.Plus.{plus_append, four_same, four_plus}
use Rattle.shift_counts.specs.Adds.{block, adds, on_each, held_at}
use Rattle.shift_report.specs.Counting.{everything}

-- ---- an event, and what is still to come

module _ (rates : List ℕ) (d : Device) where
  one_more : (i : ℕ) (e : Event) (es : List Event) → plus (block i (chan_at i d) e (step rates d e).1) (eleven rates i (step rates d e).0 es) ≡ eleven rates i d (e ∷ es)
  unfolding block eleven tally held run plus
  one_more i e es =
      plus_append (map (λ (f : Number). f i (chan_at i d) e (step rates d e).1) ten) (0 ∷ []) (map (λ (f : Number). tally f rates i (step rates d e).0 es) ten) (held rates i (step rates d e).0 es ∷ []) refl
      ∙ ap (λ (n : ℕ). map (λ (f : Number). tally f rates i d (e ∷ es)) ten ++ (n ∷ [])) (zero-add (held rates i (step rates d e).0 es))

  pub event_more : (e : Event) (es : List Event) → plus (adds rates d e) (everything rates (step rates d e).0 es) ≡ everything rates d (e ∷ es)
  unfolding adds everything block eleven
  event_more e es =
      four_plus (λ i. block i (chan_at i d) e (step rates d e).1) (λ i. eleven rates i (step rates d e).0 es) (λ i h. refl)
      ∙ four_same (λ i. plus (block i (chan_at i d) e (step rates d e).1) (eleven rates i (step rates d e).0 es)) (λ i. eleven rates i d (e ∷ es)) (λ i h. one_more i e es)

  pub none_more : everything rates d [] ≡ on_each (held_at at_held) d
  unfolding everything on_each eleven held_at cell tally held run
  none_more = four_same (λ i. eleven rates i d []) (λ i. held_at at_held (chan_at i d)) (λ i h. refl)

-- ---- none is large

few_events : (turns : ℕ) (s : List ℕ) (at : ℕ) → length (events_from turns s at) ≤ turns
unfolding events_from and_then
few_events zero s at = omega arith
few_events (suc turns) s at = by (λ next. few_events turns s next) (leb (length s) at) (read_event s at)
  where
    by : ((next : ℕ) → length (events_from turns s next) ≤ turns) → (b : Bool) (r : Option (Event × ℕ)) → length (if b then [] else and_then r (λ next. events_from turns s next)) ≤ suc turns
    by more true r = omega arith
    by more false none = omega arith
    by more false (some r) = omega (arith, more r.1)

pub events_few : (s : List ℕ) → length (events_of s) ≤ longest
unfolding events_of
events_few s = by (ltb longest (length s)) refl
  where
    by : (b : Bool) → ltb longest (length s) ≡ b → length (if b then [] else events_from (length s) s (start_of s)) ≤ longest
    by true q = omega arith
    by false q = let h : length s ≤ longest = ltb-false longest (length s) q in omega (arith, few_events (length s) s (start_of s))

module _ (b : ℕ) where
  below_each : (xs : List ℕ) → Each (λ (n : ℕ). n ≤ b) xs → Below b xs
  below_each [] h k = omega arith
  below_each (x ∷ xs) h zero = h.0
  below_each (x ∷ xs) h (suc k) = below_each xs h.1 k

  below_both : (xs ys : List ℕ) → Below b xs → Below b ys → Below b (xs ++ ys)
  below_both [] ys p q k = q k
  below_both (x ∷ xs) ys p q zero = p 0
  below_both (x ∷ xs) ys p q (suc k) = below_both xs ys (λ j. p (suc j)) q k

module _ (s : List ℕ) where
  abbrev es : List Event
  es = events_of s

  channel_below : (i : ℕ) → i < 4 → Below longest (numbers_of s i)
  unfolding numbers_of eleven
  channel_below i h =
      let t : Small (rates_of s) i es = all_small (rates_of s) i h es in
      let few : length es ≤ longest = events_few s in
      below_each longest (numbers_of s i)
      (le_trans t.offered_small few, (le_trans t.width_small few, (le_trans t.unmatched_small few, (le_trans t.blocked_small few, (le_trans t.passed_small few, (le_trans t.echoed_small few, (le_trans t.lost_small few, (le_trans t.reads_small few, (le_trans t.cleared_small few, (le_trans t.dropped_small few, (le_trans t.held_small few, tt)))))))))))

  pub all_below_law : Below longest (all_numbers s)
  unfolding all_numbers of_four
  all_below_law =
      below_both longest (numbers_of s 0) _ (channel_below 0 (omega arith))
      (below_both longest (numbers_of s 1) _ (channel_below 1 (omega arith))
      (below_both longest (numbers_of s 2) _ (channel_below 2 (omega arith)) (channel_below 3 (omega arith))))
