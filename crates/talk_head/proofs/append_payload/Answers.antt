-- `talk_head::append_payload` meets its contract: the count, then the bytes behind those held. Assumes nothing.
use mathlib.Core.Path.{ap, ◌∙◌}
use Prim.Native.Nat.{ℕ, ◌+◌}
use lib.ListN.{length}
use Rattle.codec.specs.Word.{word}
use Rattle.talk_head.specs.Headed.{bytes_on}
use Rattle.talk_head.proofs.Bytes.{payload_longer, part_size}
use Rattle.talk_head.proofs.append_payload.Goals as goal

pub returns : goal.returns
returns c =
    let t = c.args.t.now in
    let b = c.args.bytes.now in
    let size = c.payload_size-held.ensures.0 in
    payload_longer t c.requires.0 c.requires.1 b c.put_word.new.s c.copy.new.d _ _ c.requires.2
    (ap (λ (k : ℕ). bytes_on + k) size) (part_size _ _ _)
    (c.put_word.ensures ∙ ap (λ (k : ℕ). word (k + length b)) size) c.copy.ensures
