-- A frame that reaches a connection which connects: the bytes after it, by what the frame means. Assumes nothing.
use Rattle.std.specs.Prelude.{if◌then◌else◌}
use mathlib.Core.Path.{◌≡◌, sym, ap, ◌∙◌}
use Prim.Native.Nat.{ℕ, ◌+◌}
use mathlib.Core.Bool.{Bool, true, false}
use mathlib.Core.List.{List}
use lib.ListN.{get_or}
use lib.Dec.{eqb}
use borrow.Author.Tests.{eq-eqb, ne_eqb}
use Rattle.codec.specs.Word.{word_at}
use Rattle.telegram.specs.Telegram.{read_channel}
use Rattle.link.specs.Connection.{Asked, Trial, Connection, connecting, joined, hears}
use Rattle.link_layout.specs.Sizes.{asked_at, rx_id_in}
use Rattle.link_layout.specs.Connection.{connection_part}
use Rattle.link_layout.specs.Turned.{LinkPart}
use Rattle.link_layout.proofs.Places.{held, kept, state_is, is_connecting, IsConnecting, connects, connecting_asked_part}
use Rattle.link_layout.proofs.Asked.{rx_id_is}
use Rattle.link_joining.specs.declared.Turn.{Turn}
use Rattle.link_joining.specs.Meaning.{after_join}

module _ (m : List ℕ) (p : LinkPart m) (id : ℕ) (b : List ℕ) where
  module _ (t : get_or m 0 0 ≡ 2) (rx : ℕ) (er : rx ≡ word_at (asked_at + rx_id_in) m) where
    abbrev c : IsConnecting (held m p)
    c = is_connecting (held m p) (sym (state_is m p) ∙ t)

    abbrev a : Asked
    a = c.0

    heard_connecting : (g : Bool) → eqb id rx ≡ g → hears (held m p) id b ≡ (if g then joined a c.1.0 c.1.1.0 c.1.1.1.0 (read_channel b) else connecting a c.1.0 c.1.1.0 c.1.1.1.0)
    unfolding hears
    heard_connecting g e =
        let q = rx_id_is m a (connecting_asked_part m p a c.1.0 c.1.1.0 c.1.1.1.0 c.1.1.1.1) (connects m p a c.1.0 c.1.1.0 c.1.1.1.0 c.1.1.1.1).0.asked_ok in
        ap (λ (x : Connection). hears x id b) c.1.1.1.1
        ∙ ap (λ (x : Bool). if x then joined a c.1.0 c.1.1.0 c.1.1.1.0 (read_channel b) else connecting a c.1.0 c.1.1.0 c.1.1.1.0) (ap (eqb id) (sym (er ∙ q)) ∙ e)

    pub connecting_passes : (id ≡ rx → ⊥) → m ≡ connection_part.put (hears (held m p) id b)
    connecting_passes n = sym (kept m p) ∙ ap connection_part.put (c.1.1.1.1 ∙ sym (heard_connecting false (ne_eqb id rx n)))

    pub connecting_turns : id ≡ rx → (j : Turn) → ((a : Asked) (tx n : ℕ) (s : Trial) → after_join j a tx n s ≡ joined a tx n s (read_channel b)) → (y : List ℕ)
        → ((a : Asked) (tx n : ℕ) (s : Trial) → held m p ≡ connecting a tx n s → y ≡ connection_part.put (after_join j a tx n s)) → y ≡ connection_part.put (hears (held m p) id b)
    connecting_turns e j f y g =
        g a c.1.0 c.1.1.0 c.1.1.1.0 c.1.1.1.1
        ∙ ap connection_part.put (f a c.1.0 c.1.1.0 c.1.1.1.0 ∙ sym (heard_connecting true (eq-eqb id rx e)))
