-- The flight store in the region of an open channel: one record, or zeros. Assumes nothing.
use mathlib.Core.Path.{◌≡◌, refl, sym, ap, ◌∙◌}
use Prim.Native.Nat.{ℕ, ◌*◌, ◌+◌}
use native.Mathlib.Nat.{suc-ne-zero, zero-mul}
use native.Mathlib.Omega.{arith}
use mathlib.Core.Option.{Option, none, some}
use mathlib.Core.List.{List, [], ◌∷◌, ◌++◌, append-nil}
use lib.ListN.{length, get_or, take, drop}
use lib.Seq.{drop-drop}
use lib.Dec.{T}
use borrow.Rule.Slice.PartMut.{put_mid}
use Rattle.codec.specs.Plain.{zeros}
use Rattle.codec.specs.Code.{via, such, up_to, list_of, up_to_one}
use Rattle.codec.proofs.Many.{some_one}
use Rattle.machine.specs.Message.{Rec, shown}
use Rattle.machine.specs.Channel.{opened, Open, with_sending}
use Rattle.machine.specs.Limits.{record_size}
use Rattle.layout.specs.Sizes.{flight_at, flight_size}
use Rattle.layout.specs.Record.{rec36, out_cell}
use Rattle.layout.specs.Memory.{region}
use Rattle.layout.specs.Promise.{Opened}
use Rattle.layout.proofs.Memory.{shown_is}
use Rattle.layout.proofs.Sizes.{out_size_law}
use Rattle.layout.proofs.Good.{Fine, fl, Good, ok_good}
use Rattle.layout.proofs.Region.{open_of, fine, byte_of, flight_part, opened_again, open_again}

-- ---- the flight store: one record, or zeros

pub one_put : (k : ℕ) (x : Rec) → (up_to_one (out_cell k)).put (some x) ≡ 1 ∷ rec36.put x
unfolding up_to_one via up_to out_cell such
one_put k x =
    ap {B = List ℕ} (λ (n : ℕ). 1 ∷ ((rec36.put x ++ []) ++ zeros n)) (zero-mul rec36.size)
    ∙ ap {B = List ℕ} (λ (s : List ℕ). 1 ∷ s) (append-nil (rec36.put x ++ []) ∙ append-nil (rec36.put x))

pub none_put : (k : ℕ) → (up_to_one (out_cell k)).put none ≡ zeros flight_size
unfolding up_to_one via up_to
none_put k = ap {B = List ℕ} (λ (n : ℕ). 0 ∷ zeros (1 * n)) (out_size_law k)

one_count : (k : ℕ) (x : Option Rec) → get_or ((up_to_one (out_cell k)).put x) 0 0 ≡ length (list_of x)
unfolding up_to_one via up_to
one_count k x = refl

behind_mark : (m : List ℕ) → take record_size (drop 1 m) ≡ drop 1 (take flight_size m)
behind_mark [] = refl
behind_mark (x ∷ m) = refl

-- a record in flight
pub record Flies (flags : ℕ) (x : Option Rec) (bytes : List ℕ) : Type 0 where
  pub one : Rec
  pub is : x ≡ some one
  pub shows : bytes ≡ rec36.put one
  pub held : T ((out_cell flags).ok one)

-- ---- the region of an open channel

module _ {r : List ℕ} (f : Opened r) where
  abbrev pub o : Open
  o = open_of r

  pub good : Good o
  good = ok_good o (fine r f)

  flight_count : get_or r flight_at 0 ≡ length (list_of o.sending.flight)
  flight_count = byte_of (flight_part r f) 0 (omega arith) ∙ one_count (fl o) o.sending.flight

  pub none_flies : get_or r flight_at 0 ≡ 0 → o.sending.flight ≡ none
  none_flies e = go o.sending.flight (sym flight_count ∙ e)
    where
      go : (x : Option Rec) → length (list_of x) ≡ 0 → x ≡ none
      go none h = refl
      go (some x) h = absurd (suc-ne-zero 0 h)

  pub flies : (get_or r flight_at 0 ≡ 0 → ⊥) → Flies (fl o) o.sending.flight (take record_size (drop (flight_at + 1) r))
  flies n = go o.sending.flight good.flight_ok (flight_part r f).is (λ e. n (flight_count ∙ e))
    where
      go : (x : Option Rec) → T ((up_to_one (out_cell (fl o))).ok x) → take flight_size (drop flight_at r) ≡ (up_to_one (out_cell (fl o))).put x → (length (list_of x) ≡ 0 → ⊥) → Flies (fl o) x (take record_size (drop (flight_at + 1) r))
      go none t e n = absurd (n refl)
      go (some x) t e n =
          record {
            one = x;
            is = refl;
            shows =
                ap (λ (m : List ℕ). take record_size m) (sym (drop-drop 1 flight_at r)) ∙ behind_mark (drop flight_at r)
                ∙ ap (λ (m : List ℕ). drop 1 m) (e ∙ one_put (fl o) x);
            held = some_one (out_cell (fl o)) x t;
          }

-- with a record in flight
pub put_in_flight : (o : Open) → Fine (opened o) → (x : Rec) {m ys : List ℕ} → m ≡ region.put (opened o) → ys ≡ 1 ∷ shown x
    → put_mid flight_at flight_size m ys ≡ region.put (with_sending o o.sending.periodics o.sending.written (some x))
put_in_flight o t x {ys = ys} is e =
    let r : List ℕ = region.put (opened o) in
    ap (λ (s : List ℕ). put_mid flight_at flight_size s ys) is
    ∙ (flight_part r (opened_again o t)).becomes ys (some x) (e ∙ ap {B = List ℕ} (λ (s : List ℕ). 1 ∷ s) (shown_is x) ∙ sym (one_put (fl (open_of r)) x))
    ∙ ap (λ (q : Open). region.put (with_sending q q.sending.periodics q.sending.written (some x))) (open_again o t)
