-- `box_traffic::sent` meets its contract: the functions on the regions do what the call does. Assumes nothing.
use mathlib.Core.Path.{◌≡◌, refl}
use mathlib.Core.List.{[]}
use native.Mathlib.Omega.{arith}
use Rattle.std.proofs.Common.{rules}
use Rattle.machine.specs.Channel.{lent, sent}
use Rattle.codes.specs.Code.{code_of}
use Rattle.layout.specs.Promise.{gives, call_outcome}
use Rattle.iso_layout.specs.Promise.{iso_outcome}
use Rattle.memory.proofs.Memory.{valid_long}
use Rattle.box_traffic.proofs.Laws.{raw_at_clock, iso_at_clock}
use Rattle.box_traffic.proofs.sent.Goals as goal

pub returns : goal.returns
unfolding lent
returns c rates =
    c.on_channel.ensures rates sent (λ _. 0)
    (record { speaks_so = refl; done = λ r r' a o d. let e : gives (code_of a) 0 [] r' ≡ call_outcome rates c.word_at-now.result r sent = search rules in raw_at_clock _ c.requires rates _ _ _ _ _ _ _ c.word_at-now.ensures.0 e })
    (record { both = refl; done = λ r r' a o d. let e : gives (code_of a) 0 [] r' ≡ iso_outcome rates c.word_at-now.result r sent = search rules in iso_at_clock _ c.requires rates _ _ _ _ _ _ _ c.word_at-now.ensures.0 e })
    (λ _. refl) refl

pub word_at-now-requires : goal.word_at-now-requires
word_at-now-requires c = omega (arith, valid_long _ c.requires)
