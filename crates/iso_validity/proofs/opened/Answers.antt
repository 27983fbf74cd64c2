-- `iso_validity::opened` meets its contract. Assumes nothing.
use Rattle.iso_validity.proofs.Ready.{open_flat}
use Rattle.codec.specs.Plain.{member}
use Rattle.codec.specs.Code.{slot, up_to}
use Rattle.machine.specs.Channel.{listens}
use Rattle.iso.specs.Limits.{most_messages}
use Rattle.iso.specs.Iso.{iso_codes}
use Rattle.iso_layout.specs.Sizes.{talks_size, messages_size, iso_flight_size, heard_size, talks_at, messages_at, iso_flight_at, heard_at}
use Rattle.iso_layout.specs.Region.{talks_code, flight_code, heard_part}
use Rattle.iso_stored.specs.Held.{held}
use lib.ListN.{take, drop}
use Prim.Native.Nat.{ℕ, ◌+◌}
use mathlib.Core.List.{List}
use mathlib.Core.Bool.{true, ◌&&◌, not}
use mathlib.Core.Path.{ap, ◌∙◌}
use Rattle.iso_validity.proofs.opened.Goals as goal

pub returns : goal.returns
returns c =
    let r : List ℕ = c.args.r.now in
    let f = c.word_at-flags.ensures.0 in
    let two = c.talks.ensures ∙ ap (λ (k : ℕ). (talks_code k).valid (take talks_size (drop talks_at r))) f in
    let messages = c.store.ensures ∙ ap (λ (k : ℕ). (up_to most_messages (held true k)).valid (take messages_size (drop messages_at r))) f in
    let aloft = c.flight.ensures ∙ ap (λ (k : ℕ). (slot (flight_code k)).valid (take iso_flight_size (drop iso_flight_at r))) f in
    let queue = c.heard.ensures ∙ ap (λ (k : ℕ). (heard_part k).valid (take (heard_size + 1) (drop heard_at r))) f in
    let kept = c.is_kept.ensures ∙ ap (λ (k : ℕ). member k iso_codes) c.wide.ensures.0 in
    let quiet = c.listens.ensures ∙ ap listens f in
    (λ j. c.configuration.ensures j && (two j && (messages j && (aloft j && (queue j && kept j)))) && c.linked.result && not (quiet j))
    ∙ open_flat r c.word_at-flags.ensures.1 c.linked.result c.linked.ensures
