-- A frame that reaches a connection which opens: the bytes after it, by what the frame means. Assumes nothing.
use Rattle.std.specs.Prelude.{if◌then◌else◌}
use mathlib.Core.Path.{◌≡◌, sym, ap, ◌∙◌}
use Prim.Native.Nat.{ℕ, ◌+◌}
use mathlib.Core.Bool.{Bool, true, false}
use mathlib.Core.List.{List}
use lib.ListN.{get_or}
use lib.Dec.{eqb}
use borrow.Author.Tests.{eq-eqb, ne_eqb}
use Rattle.codec.specs.Word.{word_at}
use Rattle.telegram.specs.Telegram.{read_opening}
use Rattle.link.specs.Connection.{Asked, Trial, Connection, opening, replied, hears}
use Rattle.link_layout.specs.Sizes.{asked_at, rx_id_in, destination_in, application_in}
use Rattle.link_layout.specs.Connection.{connection_part}
use Rattle.link_layout.specs.Turned.{LinkPart}
use Rattle.link_layout.proofs.Places.{held, kept, state_is, is_opening, IsOpening, opens, opening_asked_part}
use Rattle.link_layout.proofs.Asked.{own_is, destination_is, application_is, rx_id_is}
use Rattle.link_replies.specs.declared.Means.{Means}
use Rattle.link_replies.specs.Meaning.{Asks, after_reply}

module _ (m : List ℕ) (p : LinkPart m) (id : ℕ) (b : List ℕ) where
  module _ (t : get_or m 0 0 ≡ 1) (d : ℕ) (ed : d ≡ get_or m (asked_at + destination_in) 0) where
    abbrev o : IsOpening (held m p)
    o = is_opening (held m p) (sym (state_is m p) ∙ t)

    abbrev a : Asked
    a = o.0

    heard_opening : (g : Bool) → eqb id (0x200 + d) ≡ g → hears (held m p) id b ≡ (if g then replied a o.1.0 o.1.1.0 (read_opening id b) else opening a o.1.0 o.1.1.0)
    unfolding hears
    heard_opening g e =
        let q = destination_is m a (opening_asked_part m p a o.1.0 o.1.1.0 o.1.1.1) (opens m p a o.1.0 o.1.1.0 o.1.1.1).asked_ok in
        ap (λ (c : Connection). hears c id b) o.1.1.1
        ∙ ap (λ (x : Bool). if x then replied a o.1.0 o.1.1.0 (read_opening id b) else opening a o.1.0 o.1.1.0) (ap (λ (k : ℕ). eqb id (0x200 + k)) (sym (ed ∙ q)) ∙ e)

    pub opening_passes : (id ≡ 0x200 + d → ⊥) → m ≡ connection_part.put (hears (held m p) id b)
    opening_passes n = sym (kept m p) ∙ ap connection_part.put (o.1.1.1 ∙ sym (heard_opening false (ne_eqb id (0x200 + d) n)))

    pub opening_turns : id ≡ 0x200 + d → (rx : ℕ) → rx ≡ word_at (asked_at + rx_id_in) m → (r : Means)
        → ((a : Asked) (n : ℕ) (s : Trial) → Asks a (get_or m asked_at 0) rx (get_or m (asked_at + application_in) 0) → after_reply r a n s ≡ replied a n s (read_opening id b)) → (y : List ℕ)
        → ((a : Asked) (n : ℕ) (s : Trial) → held m p ≡ opening a n s → y ≡ connection_part.put (after_reply r a n s)) → y ≡ connection_part.put (hears (held m p) id b)
    opening_turns e rx er r f y g =
        let q = opening_asked_part m p a o.1.0 o.1.1.0 o.1.1.1 in
        let k = (opens m p a o.1.0 o.1.1.0 o.1.1.1).asked_ok in
        let asks : Asks a (get_or m asked_at 0) rx (get_or m (asked_at + application_in) 0) =
        record { own_is = own_is m a q k; rx_id_is = er ∙ rx_id_is m a q k; application_is = application_is m a q k } in
        g a o.1.0 o.1.1.0 o.1.1.1
        ∙ ap connection_part.put (f a o.1.0 o.1.1.0 asks ∙ sym (heard_opening true (eq-eqb id (0x200 + d) e)))
