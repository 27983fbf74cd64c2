-- What connecting and disconnecting do to the bytes of a region is what `iso` does to the channel. Assumes nothing.
use mathlib.Core.Path.{◌≡◌, refl, sym, ap, ◌∙◌}
use Prim.Native.Nat.{ℕ, zero, suc, ◌+◌}
use native.Mathlib.Omega.{arith}
use mathlib.Core.Bool.{Bool, true, false, not}
use mathlib.Core.List.{List, [], ◌∷◌, ◌++◌}
use lib.ListN.{length, get_or, drop}
use lib.Dec.{T, eqb}
use borrow.Author.Tests.{eq-eqb, ne_eqb}
use Rattle.codec.specs.Plain.{member, zeros}
use Rattle.codec.specs.Word.{word}
use Rattle.machine.specs.Codes.{code_of}
use Rattle.machine.specs.Channel.{says, listens, is_flags, connect_code, disconnect}
use Rattle.layout.specs.Sizes.{loopback_at}
use Rattle.layout.specs.Promise.{gives}
use Rattle.layout.proofs.Held.{listener_not_plain, raw_or_plain}
use Rattle.machine.proofs.Tables as tables
use Rattle.iso.specs.Limits.{iso_protocol, first_iso}
use Rattle.iso.specs.Iso.{Iso, shut, IsoOutcome, unless_iso, did, is_ready, iso_connect_code, fresh_iso, on_iso_connect, on_ready}
use Rattle.iso_layout.specs.Sizes.{iso_region_size}
use Rattle.iso_layout.specs.Region.{iso_region}
use Rattle.iso_layout.specs.Promise.{IsoOpened, iso_gives, iso_outcome}
use Rattle.iso_layout.proofs.Sizes.{shut_zeros, fresh_iso_is}
use Rattle.iso_layout.proofs.Region.{again, is_shut, shut_bytes, not_shut, is_ready_law, moves}

-- ---- the tests: but for the protocol and the listeners' flag those of any connect

module _ (rates : List ℕ) (p f r : ℕ) where
  pub bad_protocol_law : (p ≡ 6 → ⊥) → 3 ≡ iso_connect_code rates p f r []
  unfolding iso_connect_code code_of
  bad_protocol_law h = rw (ne_eqb p 6 h)

  -- a listener's flags are none's here
  pub no_listener : p ≡ 6 → listens f ≡ true → 6 ≡ iso_connect_code rates p f r []
  unfolding iso_connect_code code_of
  no_listener h l = rw (eq-eqb p 6 h) (rw (listener_not_plain f l) refl)

  -- all others are those of a raw connect
  pub good_protocol : p ≡ 6 → listens f ≡ false → (k : ℕ) → k ≡ connect_code rates 5 f r [] → k ≡ iso_connect_code rates p f r []
  unfolding iso_connect_code connect_code code_of
  good_protocol h l k e = e ∙ rw (eq-eqb p 6 h) (rw (raw_or_plain f l) refl)

-- the test of the line comes into play where those three give no code
module _ (rates : List ℕ) (p f r : ℕ) (more : List (Bool × ℕ)) where
  abbrev three : List (Bool × ℕ)
  three = (not (eqb p iso_protocol), 0x03) ∷ (not (is_flags f), 0x06) ∷ (not (member r rates), 0x19) ∷ []

  pub more_tests : iso_connect_code rates p f r [] ≡ 0 → iso_connect_code rates p f r more ≡ code_of more
  unfolding iso_connect_code
  more_tests = tables.more_tests three more tt

  pub no_more_tests : (iso_connect_code rates p f r [] ≡ 0 → ⊥) → iso_connect_code rates p f r more ≡ iso_connect_code rates p f r []
  unfolding iso_connect_code
  no_more_tests = tables.no_more_tests three more

-- refused, or not
unless_code : (k : ℕ) (c : Iso) (b : List ℕ) (x : IsoOutcome) → (k ≡ 0 → ⊥) → unless_iso k c b x ≡ (c, says k 0 b)
unfolding unless_iso
unless_code zero c b x n = absurd (n refl)
unless_code (suc k) c b x n = refl

unless_none : (k : ℕ) (c : Iso) (b : List ℕ) (x : IsoOutcome) → k ≡ 0 → unless_iso k c b x ≡ x
unfolding unless_iso
unless_none zero c b x e = refl
unless_none (suc k) c b x e = absurd (omega arith)

in_use_code : (c : Iso) → is_ready c ≡ true → code_of ((is_ready c, 0x14) ∷ []) ≡ 0x14
unfolding code_of
in_use_code c e = rw e refl

shut_code : (c : Iso) → c ≡ shut → code_of ((is_ready c, 0x14) ∷ []) ≡ 0
unfolding code_of is_ready
shut_code c e = ap (λ (x : Iso). code_of ((is_ready x, 0x14) ∷ [])) e

module _ (m : List ℕ) (h : length m ≡ iso_region_size) (v : T (iso_region.valid m)) (rates : List ℕ) (line p f r : ℕ) where
  abbrev c : Iso
  c = iso_region.get m

  abbrev code_there : ℕ
  code_there = iso_connect_code rates p f r ((is_ready c, 0x14) ∷ [])

  refused : (code : ℕ) → (code ≡ 0 → ⊥) → code_there ≡ code → gives code 0 [] m ≡ iso_gives (on_iso_connect rates (iso_region.get m) line p f r)
  unfolding iso_gives on_iso_connect says
  refused code n k =
      ap (λ (x : List ℕ). gives code 0 [] x) (sym (again m h v))
      ∙ sym (ap (λ (k : ℕ). iso_gives (unless_iso k c [] (did (fresh_iso f r) (line + first_iso)))) k ∙ ap iso_gives (unless_code code c [] _ n))

  pub connect_refused : (code : ℕ) → code ≡ iso_connect_code rates p f r [] → (code ≡ 0 → ⊥) → gives code 0 [] m ≡ iso_gives (on_iso_connect rates (iso_region.get m) line p f r)
  connect_refused code e n = refused code n (no_more_tests rates p f r _ (λ z. n (e ∙ z)) ∙ sym e)

  opened_at : (get_or m 0 0 ≡ 0 → ⊥) → is_ready (iso_region.get m) ≡ true
  unfolding is_ready
  opened_at n = ap is_ready (is_ready_law m (not_shut m h v n))

  pub connect_in_use : 0 ≡ iso_connect_code rates p f r [] → (get_or m 0 0 ≡ 0 → ⊥) → gives 0x14 0 [] m ≡ iso_gives (on_iso_connect rates (iso_region.get m) line p f r)
  connect_in_use e n = refused 0x14 (λ z. omega arith) (more_tests rates p f r _ (sym e) ∙ in_use_code c (opened_at n))

  pub connect_fresh : 0 ≡ iso_connect_code rates p f r [] → get_or m 0 0 ≡ 0
      → gives 0 (line + first_iso) [] (1 ∷ (word f ++ (word r ++ drop loopback_at m))) ≡ iso_gives (on_iso_connect rates (iso_region.get m) line p f r)
  unfolding iso_gives on_iso_connect did says
  connect_fresh e z =
      let k : code_there ≡ 0 = more_tests rates p f r _ (sym e) ∙ shut_code c (is_shut m h v z) in
      ap (λ (x : List ℕ). gives 0 (line + first_iso) [] (1 ∷ (word f ++ (word r ++ drop loopback_at x)))) (shut_bytes m h v z)
      ∙ ap (λ (x : List ℕ). gives 0 (line + first_iso) [] x) (sym (fresh_iso_is f r))
      ∙ sym (ap iso_gives (unless_none _ c [] (did (fresh_iso f r) (line + first_iso)) k))

-- ---- disconnect

pub disconnected : (r : List ℕ) (o : IsoOpened r) (rates : List ℕ) (t : ℕ) (ys : List ℕ) → ys ≡ zeros (length r) → gives 0 0 [] ys ≡ iso_outcome rates t r disconnect
unfolding on_ready
disconnected r o rates t ys e = moves r o rates t disconnect shut 0 0 [] ys refl (e ∙ ap (λ (n : ℕ). zeros n) o.long ∙ sym shut_zeros)
