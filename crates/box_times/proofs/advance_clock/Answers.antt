-- `box_times::advance_clock` meets its contract. Assumes nothing.
use mathlib.Core.Path.{ap, ◌∙◌}
use Prim.Native.Nat.{ℕ, ◌+◌, ◌%◌}
use Rattle.codec.specs.Word.{word}
use Rattle.box_times.proofs.advance_clock.Goals as goal

pub returns : goal.returns
returns c =
    c.put_word.ensures ∙ ap word (c.advance-clock.ensures ∙ ap (λ (x : ℕ). (x + c.args.us) % 0x1_0000_0000) (c.at.ensures ∙ c.word_at.ensures.0))
