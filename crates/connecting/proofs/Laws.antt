-- What connecting and disconnecting do to the bytes of a region is what the machine does to the channel. Assumes nothing.
use mathlib.Core.Path.{◌≡◌, refl, sym, ap, ◌∙◌}
use Prim.Native.Nat.{ℕ, zero, suc, ◌+◌}
use native.Mathlib.Omega.{arith}
use mathlib.Core.Bool.{Bool, true, false, not}
use mathlib.Core.List.{List, [], ◌∷◌, ◌++◌}
use lib.ListN.{length, get_or, drop}
use lib.Dec.{T, eqb}
use borrow.Author.Tests.{eq-eqb, ne_eqb}
use Rattle.codec.specs.Plain.{member, zeros}
use Rattle.codec.specs.Word.{word}
use Rattle.codec.specs.Code.{via, slot, get_slot}
use Rattle.machine.specs.Codes.{code_of}
use Rattle.machine.specs.Channel.{Chan, closed, Outcome, says, unless, done_with, is_raw_flags, is_open, connect_code, fresh, on_connect, on_open, disconnect}
use Rattle.layout.specs.Sizes.{region_size, loopback_at}
use Rattle.layout.specs.Memory.{open_part, chan_back, region}
use Rattle.layout.specs.Promise.{gives, Opened, region_gives, call_outcome}
use Rattle.layout.proofs.Memory.{region_lawful}
use Rattle.layout.proofs.Sizes.{region_size_law, closed_zeros, fresh_is}
use Rattle.machine.proofs.Tables as tables
use Rattle.layout.proofs.Region.{moves}

closed_none : code_of ((is_open closed, 0x14) ∷ []) ≡ 0
unfolding code_of is_open
closed_none = refl

module _ (rates : List ℕ) (p f r : ℕ) where
  pub bad_protocol_law : (p ≡ 5 → ⊥) → 3 ≡ connect_code rates p f r []
  unfolding connect_code code_of
  bad_protocol_law h = rw (ne_eqb p 5 h)

  pub bad_flags : p ≡ 5 → is_raw_flags f ≡ false → 6 ≡ connect_code rates p f r []
  unfolding connect_code code_of
  bad_flags h g = rw (eq-eqb p 5 h) (rw g refl)

  pub bad_rate : p ≡ 5 → is_raw_flags f ≡ true → member r rates ≡ false → 25 ≡ connect_code rates p f r []
  unfolding connect_code code_of
  bad_rate h g m = rw (eq-eqb p 5 h) (rw g (rw m refl))

  pub good_connect : p ≡ 5 → is_raw_flags f ≡ true → member r rates ≡ true → 0 ≡ connect_code rates p f r []
  unfolding connect_code code_of
  good_connect h g m = rw (eq-eqb p 5 h) (rw g (rw m refl))

-- the tests of the line come into play where those three give no code
module _ (rates : List ℕ) (p f r : ℕ) (more : List (Bool × ℕ)) where
  abbrev three : List (Bool × ℕ)
  three = (not (eqb p 5), 0x03) ∷ (not (is_raw_flags f), 0x06) ∷ (not (member r rates), 0x19) ∷ []

  pub more_tests : connect_code rates p f r [] ≡ 0 → connect_code rates p f r more ≡ code_of more
  unfolding connect_code
  more_tests = tables.more_tests three more tt

  pub no_more_tests : (connect_code rates p f r [] ≡ 0 → ⊥) → connect_code rates p f r more ≡ connect_code rates p f r []
  unfolding connect_code
  no_more_tests = tables.no_more_tests three more

-- refused: by the tests, or since it is open
unless_code : (k : ℕ) (c : Chan) (b : List ℕ) (x : Outcome) → (k ≡ 0 → ⊥) → unless k c b x ≡ (c, says k 0 b)
unfolding unless
unless_code zero c b x n = absurd (n refl)
unless_code (suc k) c b x n = refl

unless_none : (k : ℕ) (c : Chan) (b : List ℕ) (x : Outcome) → k ≡ 0 → unless k c b x ≡ x
unfolding unless
unless_none zero c b x e = refl
unless_none (suc k) c b x e = absurd (omega arith)

module _ (m : List ℕ) (h : length m ≡ region_size) (v : T (region.valid m)) (rates : List ℕ) (line p f r : ℕ) where
  again : region.put (region.get m) ≡ m
  again = region_lawful.put_get m (h ∙ sym region_size_law) v

  pub connect_refused : (code : ℕ) → code ≡ connect_code rates p f r [] → (code ≡ 0 → ⊥) → gives code 0 [] m ≡ region_gives (on_connect rates (region.get m) line p f r)
  unfolding region_gives on_connect says
  connect_refused code e n =
      let k : connect_code rates p f r ((is_open (region.get m), 0x14) ∷ []) ≡ code = no_more_tests rates p f r _ (λ z. n (e ∙ z)) ∙ sym e in
      ap (λ (x : List ℕ). gives code 0 [] x) (sym again)
      ∙ sym (ap (λ (k : ℕ). region_gives (unless k (region.get m) [] (done_with (fresh f r) (line + 1)))) k ∙ ap region_gives (unless_code code (region.get m) [] _ n))

  opened_at : (get_or m 0 0 ≡ 0 → ⊥) → is_open (region.get m) ≡ true
  unfolding region via slot is_open
  opened_at n = go (get_or m 0 0) n
    where
      go : (k : ℕ) → (k ≡ 0 → ⊥) → is_open (chan_back (get_slot open_part k (drop 1 m))) ≡ true
      go zero n = absurd (n refl)
      go (suc k) n = refl

  closed_at : get_or m 0 0 ≡ 0 → region.get m ≡ closed
  unfolding region via slot
  closed_at e = ap (λ (k : ℕ). chan_back (get_slot open_part k (drop 1 m))) e

  pub connect_in_use : 0 ≡ connect_code rates p f r [] → (get_or m 0 0 ≡ 0 → ⊥) → gives 0x14 0 [] m ≡ region_gives (on_connect rates (region.get m) line p f r)
  unfolding region_gives on_connect says code_of
  connect_in_use e n =
      let k : connect_code rates p f r ((is_open (region.get m), 0x14) ∷ []) ≡ 0x14 = more_tests rates p f r _ (sym e) ∙ rw (opened_at n) refl in
      ap (λ (x : List ℕ). gives 0x14 0 [] x) (sym again)
      ∙ sym (ap (λ (k : ℕ). region_gives (unless k (region.get m) [] (done_with (fresh f r) (line + 1)))) k ∙ ap region_gives (unless_code 0x14 (region.get m) [] _ (λ z. omega arith)))

  pub connect_fresh : 0 ≡ connect_code rates p f r [] → get_or m 0 0 ≡ 0
      → gives 0 (line + 1) [] (1 ∷ (word f ++ (word r ++ drop loopback_at m))) ≡ region_gives (on_connect rates (region.get m) line p f r)
  unfolding region_gives on_connect done_with says
  connect_fresh e z =
      let c = closed_at z in
      let zs : m ≡ zeros region_size = sym again ∙ ap region.put c ∙ closed_zeros in
      let k : connect_code rates p f r ((is_open (region.get m), 0x14) ∷ []) ≡ 0 = more_tests rates p f r _ (sym e) ∙ closed_code c in
      ap (λ (x : List ℕ). gives 0 (line + 1) [] (1 ∷ (word f ++ (word r ++ drop loopback_at x)))) zs
      ∙ ap (λ (x : List ℕ). gives 0 (line + 1) [] x) (sym (fresh_is f r))
      ∙ sym (ap region_gives (unless_none _ (region.get m) [] (done_with (fresh f r) (line + 1)) k))
    where
      closed_code : region.get m ≡ closed → code_of ((is_open (region.get m), 0x14) ∷ []) ≡ 0
      closed_code c = ap (λ (x : Chan). code_of ((is_open x, 0x14) ∷ [])) c ∙ closed_none

-- ---- disconnect

pub disconnected : (r : List ℕ) (o : Opened r) (rates : List ℕ) (t : ℕ) (ys : List ℕ) → ys ≡ zeros (length r) → gives 0 0 [] ys ≡ call_outcome rates t r disconnect
unfolding on_open done_with
disconnected r o rates t ys e = moves r o rates t disconnect closed 0 0 [] ys refl (e ∙ ap (λ (n : ℕ). zeros n) o.long ∙ sym closed_zeros)
