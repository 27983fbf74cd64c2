-- The bytes of what is received: the SN expected, the acknowledge that waits, the complete mark, the message. Assumes nothing.
use Rattle.std.specs.Prelude.{if◌then◌else◌}
use mathlib.Core.Path.{◌≡◌, refl, sym, ap, ap₂, ◌∙◌}
use Prim.Native.Nat.{ℕ, ◌+◌, ◌%◌, ◌≤◌, ◌<◌}
use native.Mathlib.Omega.{arith}
use mathlib.Core.Bool.{Bool, true, false, not, ◌&&◌}
use mathlib.Core.Option.{Option, none, some}
use mathlib.Core.List.{List, ◌∷◌, ◌++◌}
use lib.ListN.{length, get_or, set, take, drop, length-append}
use lib.Dec.{T, eqb, ltb}
use borrow.Author.Tests.{eq-eqb, ne_eqb, lt-ltb, le-ltb}
use borrow.Rule.Slice.PartMut.{put_mid}
use Rattle.codec.specs.Code.{byte, both, via, such, mark, mark_of, text}
use Rattle.codec.proofs.Tests.{left, right}
use Rattle.codec.proofs.Present.{text_lawful}
use Rattle.codec.proofs.Place.{Place, inside, at, in_second, in_via}
use Rattle.codec.proofs.Part.{Part, part}
use Rattle.link.specs.Connection.{longest, Hear, heard_data, answering}
use Rattle.link_layout.specs.Sizes.{ack_in, complete_in, bytes_in, text_size, hear_size}
use Rattle.link_layout.specs.Connection.{ack_parts, ack, hear_parts, hear_back, hear}
use Rattle.link_layout.specs.Turned.{is_there, put_or}
use Rattle.link_layout.proofs.Lawful.{hear_lawful}
use Rattle.link_layout.proofs.Bytes.{hear_size_law}
use Rattle.link_layout.proofs.Turning.{made, refused}
use Rattle.link_store.proofs.Stores.{text_size_law}
use Rattle.link_data.specs.Hearing.{hearing}

-- ---- the bytes of each field, and another value there

bytes_are : (h : Hear) → hear.put h ≡ h.expected ∷ ack_parts h.acknowledges ∷ mark_of h.complete ∷ (text longest).put h.bytes
unfolding hear ack mark such via both byte
bytes_are h = refl

answer_set : (h : Hear) (ready : Bool) → set (hear.put h) ack_in (ack_parts (some ready)) ≡ hear.put (answering h ready)
unfolding hear ack mark such via both byte answering
answer_set h ready = refl

bytes_place : (h : Hear) → Place hear (text longest) h bytes_in h.bytes (λ x. record { expected = h.expected; acknowledges = h.acknowledges; complete = h.complete; bytes = x })
unfolding hear ack mark such via byte
bytes_place h =
    at (omega arith)
    (inside (in_via hear_parts hear_back (both byte (both ack (both mark (text longest)))) h (λ p. refl))
    (inside (in_second byte (both ack (both mark (text longest))) (hear_parts h) refl)
    (inside (in_second ack (both mark (text longest)) (hear_parts h).1 refl) (in_second mark (text longest) (hear_parts h).1.1 refl))))

bytes_ok : (h : Hear) → T (hear.ok h) → T ((text longest).ok h.bytes)
unfolding hear via both
bytes_ok h t = search (left, right) depth 9

-- another SN and another mark, and an acknowledge or none
heard_set : (h : Hear) (n : ℕ) (c : Bool) → set (set (hear.put h) complete_in (mark_of c)) 0 n ≡ hear.put (record { expected = n; acknowledges = h.acknowledges; complete = c; bytes = h.bytes })
unfolding hear ack mark such via both byte
heard_set h n c = refl

is_set : (c : Bool) → mark_of c ≡ 1 → c ≡ true
is_set true e = refl
is_set false e = absurd (omega arith)

is_unset : (c : Bool) → (mark_of c ≡ 1 → ⊥) → c ≡ false
is_unset true n = absurd (n refl)
is_unset false n = refl

-- ---- on its bytes

module _ (m : List ℕ) (long : length m ≡ hear_size) (v : T (hear.valid m)) where
  abbrev pub held : Hear
  held = hear.get m

  pub kept : hear.put held ≡ m
  kept = hear_lawful.put_get m (long ∙ sym hear_size_law) v

  pub fine : T (hear.ok held)
  fine = hear_lawful.ok_get m (long ∙ sym hear_size_law) v

  pub lent : Part hear m (text longest) bytes_in text_size held.bytes (λ x. record { expected = held.expected; acknowledges = held.acknowledges; complete = held.complete; bytes = x })
  lent = part m kept text_size text_size_law (bytes_place held) (text_lawful longest) (bytes_ok held fine)

  expected_is : get_or m 0 0 ≡ held.expected
  expected_is = ap (λ (x : List ℕ). get_or x 0 0) (sym kept ∙ bytes_are held)

  complete_is : get_or m complete_in 0 ≡ mark_of held.complete
  complete_is = ap (λ (x : List ℕ). get_or x complete_in 0) (sym kept ∙ bytes_are held)

  pub answers : (ready : Bool) (n : ℕ) → n ≡ ack_parts (some ready) → set m ack_in n ≡ hear.put (answering held ready)
  answers ready n e = ap₂ (λ (x : List ℕ) (k : ℕ). set x ack_in k) (sym kept) e ∙ answer_set held ready

  pub counted : (n : ℕ) → n ≡ length ((text longest).get (take text_size (drop bytes_in m))) → n ≡ length held.bytes
  counted n e = e ∙ ap length lent.got

  -- more bytes: k of them were there, c is the byte of the mark, n the next SN
  module _ (asking last : Bool) (b : List ℕ) (k c n : ℕ) (ys : List ℕ) (l : k ≡ length held.bytes) (mk : c ≡ mark_of (last && ltb 0 (k + length b)))
      (nx : n ≡ (get_or m 0 0 % 16 + 1) % 16) (q : ys ≡ (text longest).put ((text longest).get (take text_size (drop bytes_in m)) ++ b)) where
    all : Bool
    all = last && ltb 0 (length (held.bytes ++ b))

    said : c ≡ mark_of all
    unfolding all
    said = mk ∙ ap (λ (i : ℕ). mark_of (last && ltb 0 i)) (ap (λ (i : ℕ). i + length b) l ∙ sym (length-append held.bytes b))

    next : n ≡ (held.expected + 1) % 16
    next =
        let same : (get_or m 0 0 % 16 + 1) % 16 ≡ (get_or m 0 0 + 1) % 16 = omega arith in
        nx ∙ same ∙ ap (λ (i : ℕ). (i + 1) % 16) expected_is

    stored : set (set (put_mid bytes_in text_size m ys) complete_in c) 0 n
        ≡ hear.put (record { expected = (held.expected + 1) % 16; acknowledges = held.acknowledges; complete = all; bytes = held.bytes ++ b })
    stored =
        ap (λ (x : List ℕ). set (set x complete_in c) 0 n) (lent.becomes ys (held.bytes ++ b) (q ∙ ap (λ (x : List ℕ). (text longest).put (x ++ b)) lent.got))
        ∙ ap₂ (λ (i j : ℕ). set (set (hear.put (record { expected = held.expected; acknowledges = held.acknowledges; complete = held.complete; bytes = held.bytes ++ b })) complete_in i) 0 j) said next
        ∙ heard_set (record { expected = held.expected; acknowledges = held.acknowledges; complete = held.complete; bytes = held.bytes ++ b }) ((held.expected + 1) % 16) all

    pub heard : asking ≡ false → set (set (put_mid bytes_in text_size m ys) complete_in c) 0 n ≡ hear.put (heard_data held asking last b)
    unfolding heard_data all
    heard e = stored ∙ sym (ap (λ (x : Bool). hear.put (heard_data held x last b)) e)

    pub heard_asked : asking ≡ true → (i : ℕ) → i ≡ ack_parts (some true) → set (set (set (put_mid bytes_in text_size m ys) complete_in c) 0 n) ack_in i ≡ hear.put (heard_data held asking last b)
    unfolding heard_data all answering
    heard_asked e i a =
        ap₂ (λ (x : List ℕ) (k : ℕ). set x ack_in k) stored a
        ∙ answer_set (record { expected = (held.expected + 1) % 16; acknowledges = held.acknowledges; complete = all; bytes = held.bytes ++ b }) true
        ∙ sym (ap (λ (x : Bool). hear.put (heard_data held x last b)) e)

  -- data, in each way
  module _ (asking last : Bool) (sn : ℕ) (b : List ℕ) where
    abbrev Answers : Bool → List ℕ → Type 0
    Answers r ys = (r ≡ is_there (hearing asking last sn b held)) × (ys ≡ put_or hear (hearing asking last sn b held) m)

    abbrev Ways : Bool → Bool → Bool → Bool → Option Hear
    Ways full answer same long =
        if full then some (if answer then answering held false else held) else if not same then some (answering held true) else if long then none
        else some (heard_data held asking last b)

    module _ (full : get_or m complete_in 0 ≡ 1) where
      whole : (answer : Bool) → asking ≡ answer → hearing asking last sn b held ≡ some (if answer then answering held false else held)
      unfolding hearing
      whole answer e =
          ap₂ (λ (x y : Bool). Ways x y (eqb sn held.expected) (ltb longest (length held.bytes + length b))) (is_set held.complete (sym complete_is ∙ full)) e

      pub not_ready : asking ≡ true → (z : List ℕ) → z ≡ hear.put (answering held false) → Answers true z
      not_ready e z q = made hear _ m _ z (whole true e) q

      pub passed_over : asking ≡ false → Answers true m
      passed_over e = made hear _ m held m (whole false e) (sym kept)

    module _ (open' : get_or m complete_in 0 ≡ 1 → ⊥) where
      free : held.complete ≡ false
      free = is_unset held.complete (λ e. open' (complete_is ∙ e))

      pub another : (sn ≡ get_or m 0 0 → ⊥) → (z : List ℕ) → z ≡ hear.put (answering held true) → Answers true z
      unfolding hearing
      another n z q =
          made hear _ m _ z
          (ap₂ (λ (x y : Bool). Ways x asking y (ltb longest (length held.bytes + length b))) free (ne_eqb sn held.expected (λ e. n (e ∙ sym expected_is)))) q

      module _ (same : sn ≡ get_or m 0 0) (k : ℕ) (l : k ≡ length held.bytes) where
        awaited : (long : Bool) → ltb longest (length held.bytes + length b) ≡ long → hearing asking last sn b held ≡ Ways false asking true long
        unfolding hearing
        awaited long e =
            ap₂ (λ (x y : Bool). Ways x asking y (ltb longest (length held.bytes + length b))) free (eq-eqb sn held.expected (same ∙ expected_is))
            ∙ ap (λ (x : Bool). Ways false asking true x) e

        pub too_many : longest < k + length b → Answers false m
        too_many h = refused hear _ m (awaited true (lt-ltb longest (length held.bytes + length b) (omega (arith, l))))

        pub takes : k + length b ≤ longest → (z : List ℕ) → z ≡ hear.put (heard_data held asking last b) → Answers true z
        takes h z q = made hear _ m _ z (awaited false (le-ltb longest (length held.bytes + length b) (omega (arith, l)))) q
