-- A text written piece after piece. Assumes nothing.
use Prim.Native.Nat.{ℕ, zero, suc, ◌+◌, ◌≤◌, ◌<◌}
use mathlib.Core.Path.{◌≡◌, refl, sym, ap, ◌∙◌, subst}
use mathlib.Core.List.{List, [], ◌∷◌, ◌++◌, append_assoc, append-nil}
use native.Mathlib.Omega.{arith}
use lib.ListN.{length, set, take, drop, length-append, take-append-drop}
use lib.Seq.{set_split}
use Rattle.answers.specs.Put.{Put}
use Rattle.answers.proofs.Put.{put_same, put_length, put_then}

-- a text's pieces up to a place were written, and these are left
pub record Writing (before : List ℕ) (at : ℕ) (text rest : List ℕ) (n : ℕ) (after : List ℕ) : Type 0 where
  pub done : List ℕ
  pub whole : done ++ rest ≡ text
  pub put : Put before at done n after
  pub room : at + length text ≤ length before

pub begun : (b : List ℕ) (at : ℕ) (text : List ℕ) → at + length text ≤ length b → Writing b at text text at b
begun b at text room =
    record {
      done = [];
      whole = refl;
      put = record { ends = omega arith; holds = sym (ap (λ (l : List ℕ). l ++ drop (at + 0) b) (append-nil (take at b)) ∙ ap (λ (k : ℕ). take at b ++ drop k b) z ∙ take-append-drop at b) };
      room = room;
    }
  where
    z : at + 0 ≡ at
    z = omega arith

module _ {before text after : List ℕ} {at n : ℕ} (xs rest : List ℕ) (w : Writing before at text (xs ++ rest) n after) where
  done_fits : at + length w.done ≤ length before
  done_fits = omega (arith, w.room, ap length w.whole, length-append w.done (xs ++ rest))

  -- there is room for the next
  pub fits : n + length xs ≤ length after
  fits =
      omega (
        arith,
        w.room,
        ap length w.whole,
        length-append w.done (xs ++ rest),
        length-append xs rest,
        w.put.ends,
        put_length w.put done_fits,
      )

  -- and it was written
  pub on : {later : List ℕ} {m : ℕ} → Put after n xs m later → Writing before at text rest m later
  on p = record { done = w.done ++ xs; whole = append_assoc w.done xs rest ∙ w.whole; put = put_then w.put done_fits p; room = w.room }

-- nothing is left
pub all_written : {before text after : List ℕ} {at n : ℕ} → Writing before at text [] n after → Put before at text n after
all_written w = put_same (sym (append-nil w.done) ∙ w.whole) w.put

-- a byte
pub byte_put : (b : List ℕ) (at x : ℕ) → at < length b → Put b at (x ∷ []) (at + 1) (set b at x)
byte_put b at x h =
    let e : at + 1 ≡ suc at = omega arith in
    record { ends = refl; holds = set_split b at x h ∙ sym (append_assoc (take at b) (x ∷ []) (drop (suc at) b)) ∙ ap (λ (k : ℕ). (take at b ++ (x ∷ [])) ++ drop k b) (sym e) }
