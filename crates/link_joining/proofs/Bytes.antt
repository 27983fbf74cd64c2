-- The bytes of a connection that connected, once it stands. Assumes nothing.
use mathlib.Core.Path.{◌≡◌, refl, sym, ap, ap₂, ◌∙◌}
use Prim.Native.Nat.{ℕ, ◌+◌, min}
use mathlib.Core.Bool.{false}
use mathlib.Core.Option.{none}
use mathlib.Core.List.{List, [], ◌∷◌, ◌++◌}
use lib.ListN.{length, set, take, drop, length-replicate}
use lib.Seq.{drop-drop}
use borrow.Rule.Slice.PartMut.{put_mid}
use Rattle.codec.specs.Plain.{zeros}
use Rattle.codec.specs.Word.{word}
use Rattle.codec.specs.Code.{byte, word32, both, via, such, mark, many, text, text_parts}
use Rattle.codec.proofs.Place.{overwritten}
use Rattle.link.specs.Connection.{t_test, Asked, Trial, waits, idle, spaced, Link, connecting, standing, anew}
use Rattle.link_layout.specs.Sizes.{left_in, care_in, pace_in, trials_at, trials_size, standing_at, standing_size}
use Rattle.link_layout.specs.Connection.{asked, wire, care, talk, out, block, hear, ack, link, connection_part}
use Rattle.link_layout.specs.Turned.{LinkPart}
use Rattle.link_layout.proofs.Bytes.{link_size_law, connecting_bytes, standing_bytes}
use Rattle.link_layout.proofs.Places.{held, connects, connecting_trials_part, standing_link}
use Rattle.link_layout.proofs.Asked.{waits_zero}

abbrev nothing : Link
nothing =
    record {
      block = 0;
      pace = 0;
      wire = spaced 0;
      talk = record { hold = 0; sn = 0; out = idle };
      hear = record { expected = 0; bytes = []; complete = false; acknowledges = none };
      care = record { answers = false; tests = false; unanswered = 0; left = 0 };
    }

nothing_zero : link.put nothing ≡ zeros standing_size
unfolding link wire care talk out block hear ack both via such mark text text_parts many word32 word byte
nothing_zero = refl

module _ (m : List ℕ) (p : LinkPart m) (a : Asked) (tx n : ℕ) (s : Trial) (e : held m p ≡ connecting a tx n s) (z : List ℕ) (ez : z ≡ zeros (length (take trials_size (drop trials_at m)))) where
  abbrev cleared : List ℕ
  cleared = put_mid trials_at trials_size m z

  cleared_is : cleared ≡ connection_part.put (connecting a tx 0 waits)
  cleared_is = let q = connecting_trials_part m p a tx n s e in q.becomes z (0, waits) (ez ∙ ap zeros q.long ∙ waits_zero)

  stands : set cleared 0 3 ≡ connection_part.put (standing a tx nothing)
  stands =
      ap (λ (x : List ℕ). set x 0 3) (cleared_is ∙ connecting_bytes a tx 0 waits)
      ∙ ap₂ (λ (x y : List ℕ). 3 ∷ (asked.put a ++ (word tx ++ (x ++ (zeros 5 ++ y))))) (sym waits_zero) (sym nothing_zero)
      ∙ sym (standing_bytes a tx nothing)

  pub stood : (l : Link) (y : List ℕ) → y ≡ link.put l → put_mid standing_at standing_size (set cleared 0 3) y ≡ connection_part.put (standing a tx l)
  stood l y ey =
      let long : length (link.put nothing) ≡ link.size = ap length nothing_zero ∙ length-replicate {A = ℕ} standing_size 0 ∙ sym link_size_law in
      ap₂ (λ (x z : List ℕ). put_mid standing_at standing_size x z) stands ey
      ∙ ap (λ (x : List ℕ). take standing_at (connection_part.put (standing a tx nothing)) ++ (link.put l ++ x))
      (drop-drop standing_size standing_at (connection_part.put (standing a tx nothing)) ∙ ap (λ (k : ℕ). drop (standing_at + k) (connection_part.put (standing a tx nothing))) (sym link_size_law))
      ∙ overwritten (standing_link a (connects m p a tx n s e).0.asked_ok tx nothing) long l

-- a standing connection anew
anew_bytes : (a : Asked) (bs pace : ℕ) → put_mid (care_in + left_in) 4 (set (set (zeros standing_size) 0 (min a.block_size bs)) pace_in pace) (word t_test) ≡ link.put (anew a bs pace)
unfolding anew link wire care talk out block hear ack both via such mark text text_parts many word32 word byte
anew_bytes a bs pace = refl

pub anew_is : (a : Asked) (bs b pace : ℕ) → b ≡ min a.block_size bs → (m z w : List ℕ) → length m ≡ standing_size → z ≡ zeros (length m) → w ≡ word t_test
    → put_mid (care_in + left_in) 4 (set (set z 0 b) pace_in pace) w ≡ link.put (anew a bs pace)
anew_is a bs b pace eb m z w l ez ew =
    ap₂ (λ (x y : List ℕ). put_mid (care_in + left_in) 4 (set (set x 0 b) pace_in pace) y) (ez ∙ ap zeros l) ew
    ∙ ap (λ (k : ℕ). put_mid (care_in + left_in) 4 (set (set (zeros standing_size) 0 k) pace_in pace) (word t_test)) eb
    ∙ anew_bytes a bs pace
