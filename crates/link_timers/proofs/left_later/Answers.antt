-- `link_timers::left_later` meets its contract: so much less. Assumes nothing.
use mathlib.Core.Path.{ap, ◌∙◌}
use Prim.Native.Nat.{◌-◌}
use Rattle.codec.specs.Word.{word}
use Rattle.link_timers.proofs.left_later.Goals as goal

pub returns : goal.returns
returns c = c.put_word.ensures ∙ ap word (c.less.ensures ∙ ap (λ n. n - c.args.us) c.word_at-left.ensures.0)
