-- The bytes of a connection that opened, once it connects. Assumes nothing.
use mathlib.Core.Path.{◌≡◌, refl, sym, ap, ◌∙◌, subst}
use Prim.Native.Nat.{ℕ}
use mathlib.Core.List.{List}
use lib.ListN.{length, set, take, drop}
use lib.Dec.{T}
use borrow.Rule.Slice.PartMut.{put_mid}
use Rattle.codec.specs.Plain.{zeros}
use Rattle.codec.specs.Word.{word}
use Rattle.codec.specs.Code.{word32}
use Rattle.codec.proofs.Lawful.{word_lawful}
use Rattle.codec.proofs.Part.{Part, part}
use Rattle.link.specs.Connection.{Asked, Trial, waits, opening, connecting}
use Rattle.link_layout.specs.Sizes.{tx_id_at, trials_at, trials_size}
use Rattle.link_layout.specs.Connection.{trials, connection_part}
use Rattle.link_layout.specs.Turned.{LinkPart}
use Rattle.link_layout.proofs.Lawful.{trials_lawful}
use Rattle.link_layout.proofs.Bytes.{trials_size_law, opening_bytes, connecting_bytes}
use Rattle.link_layout.proofs.Places.{held, kept, opens, opening_trials_part, connecting_tx, connecting_trials}
use Rattle.link_layout.proofs.Asked.{waits_zero}

module _ (m : List ℕ) (p : LinkPart m) (a : Asked) (n : ℕ) (s : Trial) (e : held m p ≡ opening a n s) where
  turned : connection_part.put (connecting a 0 n s) ≡ set m 0 2
  unfolding word
  turned = connecting_bytes a 0 n s ∙ ap (λ (x : List ℕ). set x 0 2) (sym (opening_bytes a n s) ∙ ap connection_part.put (sym e) ∙ kept m p)

  trials_fit : T (trials.ok (n, s))
  trials_fit =
      let q = opening_trials_part m p a n s e in
      subst (λ (x : ℕ × Trial). T (trials.ok x)) q.got (trials_lawful.ok_get _ (q.long ∙ sym trials_size_law) q.valid)

  module _ (tx : ℕ) (w : List ℕ) (ew : w ≡ word tx) where
    abbrev given : List ℕ
    given = put_mid tx_id_at 4 (set m 0 2) w

    given_is : given ≡ connection_part.put (connecting a tx n s)
    unfolding word32
    given_is =
        let q : Part connection_part (set m 0 2) word32 tx_id_at 4 0 (λ x. connecting a x n s) =
        part (set m 0 2) turned 4 refl (connecting_tx a (opens m p a n s e).asked_ok 0 n s) word_lawful tt in
        q.becomes w tx ew

    pub connected : (z : List ℕ) → z ≡ zeros (length (take trials_size (drop trials_at given))) → put_mid trials_at trials_size given z ≡ connection_part.put (connecting a tx 0 waits)
    connected z ez =
        let q : Part connection_part given trials trials_at trials_size (n, s) (λ x. connecting a tx x.0 x.1) =
        part given (sym given_is) trials_size trials_size_law (connecting_trials a (opens m p a n s e).asked_ok tx n s) trials_lawful trials_fit in
        q.becomes z (0, waits) (ez ∙ ap zeros q.long ∙ waits_zero)
