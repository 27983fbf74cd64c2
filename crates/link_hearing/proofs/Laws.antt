-- A frame that reaches a connection which stands, and one that reaches none or one that leaves. Assumes nothing.
use Rattle.std.specs.Prelude.{if◌then◌else◌}
use mathlib.Core.Path.{◌≡◌, refl, sym, ap, ◌∙◌}
use Prim.Native.Nat.{ℕ, ◌+◌}
use mathlib.Core.Bool.{Bool, true, false}
use mathlib.Core.List.{List}
use lib.ListN.{get_or}
use lib.Dec.{eqb}
use borrow.Author.Tests.{eq-eqb, ne_eqb}
use Rattle.codec.specs.Word.{word_at}
use Rattle.telegram.specs.Telegram.{read_channel}
use Rattle.link.specs.Connection.{Asked, Link, Connection, absent, opening, connecting, standing, leaving, state_of, on_link, told, hears}
use Rattle.link_layout.specs.Sizes.{asked_at, rx_id_in}
use Rattle.link_layout.specs.Connection.{connection_part}
use Rattle.link_layout.specs.Turned.{LinkPart}
use Rattle.link_layout.proofs.Places.{held, kept, state_is, is_standing, IsStanding, stands, asked_part}
use Rattle.link_layout.proofs.Asked.{rx_id_is}
use Rattle.link_telling.specs.Telling.{tells}

-- no frame changes a connection that is not there or leaves
unheard : (c : Connection) (id : ℕ) (b : List ℕ) → (state_of c ≡ 1 → ⊥) → (state_of c ≡ 2 → ⊥) → (state_of c ≡ 3 → ⊥) → hears c id b ≡ c
unfolding hears state_of
unheard absent id b o c s = refl
unheard (opening a n t) id b o c s = absurd (o refl)
unheard (connecting a tx n t) id b o c s = absurd (c refl)
unheard (standing a tx l) id b o c s = absurd (s refl)
unheard (leaving tx x) id b o c s = refl

module _ (m : List ℕ) (p : LinkPart m) (id : ℕ) (b : List ℕ) where
  pub passes : (get_or m 0 0 ≡ 1 → ⊥) → (get_or m 0 0 ≡ 2 → ⊥) → (get_or m 0 0 ≡ 3 → ⊥) → m ≡ connection_part.put (hears (held m p) id b)
  passes o c s =
      sym (kept m p)
      ∙ ap connection_part.put (sym (unheard (held m p) id b (λ e. o (state_is m p ∙ e)) (λ e. c (state_is m p ∙ e)) (λ e. s (state_is m p ∙ e))))

  -- ---- a connection that stands

  module _ (t : get_or m 0 0 ≡ 3) (rx : ℕ) (er : rx ≡ word_at (asked_at + rx_id_in) m) where
    abbrev k : IsStanding (held m p)
    k = is_standing (held m p) (sym (state_is m p) ∙ t)

    heard : (g : Bool) → eqb id rx ≡ g → hears (held m p) id b ≡ (if g then tells b (held m p) else held m p)
    unfolding hears tells on_link
    heard g e =
        let q = rx_id_is m k.0 (asked_part m p k.0 k.1.0 k.1.1.0 k.1.1.1) (stands m p k.0 k.1.0 k.1.1.0 k.1.1.1).asked_ok in
        ap (λ (c : Connection). hears c id b) k.1.1.1
        ∙ ap (λ (x : Bool). if x then told k.0 k.1.0 k.1.1.0 (read_channel b) else standing k.0 k.1.0 k.1.1.0) (ap (eqb id) (sym (er ∙ q)) ∙ e)
        ∙ ap (λ (c : Connection). if g then tells b c else c) (sym k.1.1.1)

    pub told_it : id ≡ rx → (y : List ℕ) → y ≡ connection_part.put (tells b (held m p)) → y ≡ connection_part.put (hears (held m p) id b)
    told_it e y f = f ∙ ap connection_part.put (sym (heard true (eq-eqb id rx e)))

    pub another : (id ≡ rx → ⊥) → m ≡ connection_part.put (hears (held m p) id b)
    another n = sym (kept m p) ∙ ap connection_part.put (sym (heard false (ne_eqb id rx n)))
