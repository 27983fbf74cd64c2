-- DEMANDS 1 AND 3 FROM POWER-ON, in the demands' own words: whatever has happened to the box since, and for any set of rates. No premise on the
-- device is left. Channels go by their place: place i is channel number i + 1. Assumes nothing.
use Prim.Native.Nat.{ℕ, ◌+◌, ◌≤◌, ◌<◌}
use mathlib.Core.Path.{◌≡◌, refl, ap, ◌∙◌}
use mathlib.Core.Logic.{◌≢◌}
use mathlib.Core.Bool.{Bool, true, false, ◌&&◌, and-false}
use mathlib.Core.List.{List, ◌∷◌}
use lib.ListN.{length}
use lib.Dec.{eqb}
use Rattle.codec.specs.Plain.{member}
use Rattle.machine.specs.Limits.{most_pairs}
use Rattle.machine.specs.Channel.{Call, Pairs, flat, get_parameter, set_parameter, get_list, set_list, says}
use Rattle.machine.specs.Step.{Event, call, lent_by}
use Rattle.whole.specs.Device.{channels, power_on, any_at, step, run, answers}
use Rattle.whole.specs.Demands.{EightChannels, pair_codes, refusal, SetEnded, GetEnded, remembers, names, concerns, strike, answers_of, Projected, Exchanged, SameToEach, Arranged, Ignored, Names}
use Rattle.whole.proofs.Dispatch.{run_channels_kept}
use Rattle.whole.proofs.Refusals.{refused_leaves}
use Rattle.whole.proofs.Lists.{set_ended, get_ended, set_at_once, get_at_once}
use Rattle.whole.proofs.Isolation.{projection_from, ignored, exchange, arranged, calls_apart, different_exchange}

eight_at_first : EightChannels power_on
unfolding power_on
eight_at_first = record { raws = refl; isos = refl }

module _ (rates : List ℕ) where
  -- a box reached from power-on has its eight channels
  pub eight : (es : List Event) → EightChannels (run rates power_on es)
  eight es = run_channels_kept rates power_on es eight_at_first

  -- ---- demand 1

  -- A REFUSED CALL CHANGES NOTHING BUT THE LAST CODE of the channel that it names, which becomes its code: after any events it leaves the whole box
  -- beside it and the lent buffer as they were
  pub refused_changes_nothing_else : (es : List Event) (e : Event) → refusal e (step rates (run rates power_on es) e).1 ≡ true
      → ((step rates (run rates power_on es) e).0 ≡ remembers e (step rates (run rates power_on es) e).1.code (run rates power_on es))
      × ((step rates (run rates power_on es) e).1.buffer ≡ lent_by e)
  refused_changes_nothing_else es e = refused_leaves rates (run rates power_on es) e (eight es)

  -- AMENDED FOR LISTS ONLY: a list of parameters that one of its pairs ended leaves what its accepted pairs leave, and then what the refused one
  -- leaves alone
  pub set_list_ended : (es : List Event) (k : ℕ) (ps : Pairs) → member (step rates (run rates power_on es) (call k (set_list ps))).1.code pair_codes ≡ true → SetEnded rates (run rates power_on es) k ps
  set_list_ended es k ps = set_ended rates (run rates power_on es) (eight es) k ps

  pub get_list_ended : (es : List Event) (k : ℕ) (ps : Pairs) → member (step rates (run rates power_on es) (call k (get_list ps))).1.code pair_codes ≡ true → GetEnded rates (run rates power_on es) k ps
  get_list_ended es k ps = get_ended rates (run rates power_on es) (eight es) k ps

  -- a list whose first pair is refused is the refusal of a single call
  pub set_list_at_once : (es : List Event) (k : ℕ) (p : ℕ × ℕ) (ps : Pairs) → length (p ∷ ps) ≤ most_pairs → (step rates (run rates power_on es) (call k (set_parameter p.0 p.1))).1.code ≢ 0x00
      → step rates (run rates power_on es) (call k (set_list (p ∷ ps))) ≡ step rates (run rates power_on es) (call k (set_parameter p.0 p.1))
  set_list_at_once es k p ps h = set_at_once rates (run rates power_on es) (eight es) k p ps h

  pub get_list_at_once : (es : List Event) (k : ℕ) (p : ℕ × ℕ) (ps : Pairs) → length (p ∷ ps) ≤ most_pairs → (step rates (run rates power_on es) (call k (get_parameter p.0))).1.code ≢ 0x00
      → step rates (run rates power_on es) (call k (get_list (p ∷ ps)))
      ≡ ((step rates (run rates power_on es) (call k (get_parameter p.0))).0, says (step rates (run rates power_on es) (call k (get_parameter p.0))).1.code 0 (flat (p ∷ ps)))
  get_list_at_once es k p ps h = get_at_once rates (run rates power_on es) (eight es) k p ps h

  -- ---- demand 3

  -- STRIKING OUT, from any sequence of events, all that does not concern a channel changes nothing that the channel receives or holds
  pub struck_out : (i : ℕ) (es : List Event) → i < channels → Projected rates i power_on power_on es
  struck_out i es h = projection_from rates i h es power_on eight_at_first

  -- it receives the same answers
  pub struck_out_receives : (i : ℕ) (es : List Event) → i < channels → answers_of rates i power_on es ≡ answers rates power_on (strike i es)
  struck_out_receives i es h = (struck_out i es h).receives

  -- it holds the same, whatever its kind
  pub struck_out_holds : (i : ℕ) (es : List Event) → i < channels → any_at i (run rates power_on es) ≡ any_at i (run rates power_on (strike i es))
  struck_out_holds i es h = (struck_out i es h).ends.chan

  -- NEIGHBOURING CALLS ON DIFFERENT CHANNELS COMMUTE, after any events and before any others: the whole box ends the same, and each event gets the
  -- same answer
  pub calls_commute : (before : List Event) (k k' : ℕ) (x x' : Call) (after : List Event) → k ≢ k'
      → Exchanged rates power_on before (call k x) (call k' x') after
  calls_commute before k k' x x' after h = exchange rates power_on before (call k x) (call k' x') after eight_at_first (calls_apart k k' x x' h)

  -- so do any two neighbours, calls or connects, that name different channels
  pub neighbours_commute : (before : List Event) {e e' : Event} {k k' : ℕ} (after : List Event) → Names e k → Names e' k' → k ≢ k'
      → Exchanged rates power_on before e e' after
  neighbours_commute before after n n' h = different_exchange rates power_on before after eight_at_first n n' h

  -- AN EVENT THAT CONCERNS NO CHANNEL, as a call that names none, changes nothing, and no state shows in its answer
  pub nobodys_event : (es : List Event) (e : Event) → ((i : ℕ) → i < channels → concerns i e ≡ false) → Ignored rates (run rates power_on es) e
  nobodys_event es e out = ignored rates (run rates power_on es) e (eight es) out

  -- such is a call that takes the number of a raw channel and has another, whatever channel is open under it
  pub unnamed_call : (es : List Event) (k : ℕ) (x : Call) → names x k ≡ false → Ignored rates (run rates power_on es) (call k x)
  unfolding concerns
  unnamed_call es k x out = nobodys_event es (call k x) (λ i h. ap (λ (b : Bool). eqb k (i + 1) && b) out ∙ and-false (eqb k (i + 1)))

  -- ARRANGEMENT. Two sequences that leave each channel the same events in the same order end in the same box, and each channel receives the same
  -- answers
  pub arranged_alike : (es zs : List Event) → SameToEach es zs → Arranged rates power_on es zs
  arranged_alike es zs same = arranged rates power_on es zs eight_at_first same
