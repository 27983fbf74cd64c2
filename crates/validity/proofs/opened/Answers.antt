-- `validity::opened` meets its contract. Assumes nothing.
use Rattle.validity.proofs.Region.{open_flat}
use Rattle.layout.specs.Memory.{mapped, sending_part, receiving_part, link_part}
use Rattle.layout.specs.Sizes.{mapped_size, sending_size, receiving_size, filters_at, periodics_at, receiving_at, link_at}
use Rattle.link_layout.specs.Sizes.{link_size}
use lib.ListN.{take, drop}
use Prim.Native.Nat.{ℕ}
use Rattle.codec.specs.Plain.{member}
use Rattle.machine.specs.Codes.{call_codes}
use mathlib.Core.List.{List}
use mathlib.Core.Bool.{Bool, ◌&&◌}
use mathlib.Core.Path.{ap, ap₂, ◌∙◌}
use Rattle.validity.proofs.opened.Goals as goal

pub returns : goal.returns
returns c = let s : List ℕ = c.args.s.now in
    let f = c.word_at-flags.ensures.0 in
    let filters = c.filters.ensures ∙ ap (λ (k : ℕ). (mapped k).valid (take mapped_size (drop filters_at s))) f in
    let sends = c.sending.ensures ∙ ap (λ (k : ℕ). (sending_part k).valid (take sending_size (drop periodics_at s))) f in
    let receives = c.receiving.ensures ∙ ap (λ (k : ℕ). (receiving_part k).valid (take receiving_size (drop receiving_at s))) f in
    let kept = c.is_kept.ensures ∙ ap (λ (k : ℕ). member k call_codes) c.wide.ensures.0 in
    let linked = c.link.ensures ∙ ap (λ (k : ℕ). (link_part k).valid (take link_size (drop link_at s))) f in
    ap₂ (λ (x y : Bool). x && y) c.configuration.ensures (ap₂ (λ (x y : Bool). x && y) filters (ap₂ (λ (x y : Bool). x && y) sends (ap₂ (λ (x y : Bool). x && y) receives (ap₂ (λ (x y : Bool). x && y) kept linked))))
    ∙ open_flat s c.word_at-flags.ensures.1 c.requires
