-- `validity::configuration` meets its contract. Assumes nothing.
use Rattle.validity.proofs.Region.{config_flat}
use Rattle.machine.specs.Channel.{is_raw_flags}
use Rattle.machine.specs.Codes.{three_rates}
use Rattle.codec.specs.Plain.{member}
use lib.ListN.{get_or}
use lib.Dec.{leb}
use Prim.Native.Nat.{ℕ}
use mathlib.Core.List.{List}
use mathlib.Core.Bool.{◌&&◌}
use mathlib.Core.Path.{ap, ◌∙◌}
use Rattle.validity.proofs.configuration.Goals as goal

pub returns : goal.returns
returns c = let s : List ℕ = c.args.s.now in
    let flags = c.is_raw_flags.ensures ∙ ap is_raw_flags c.word_at.ensures.0 in
    let rate = c.is_known_rate.ensures ∙ ap (λ (r : ℕ). member r three_rates) c.word_at-2.ensures.0 in
    (λ j. leb (get_or s 8 0) 1 && (flags j && rate j)) ∙ config_flat s c.word_at.ensures.1
