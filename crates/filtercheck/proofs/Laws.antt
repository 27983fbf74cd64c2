-- A start's checks as code makes them, and what they say where nothing refuses the start. Assumes nothing.
use Rattle.std.specs.Prelude.{if◌then◌else◌}
use mathlib.Core.Path.{◌≡◌, refl, sym, ap, ap₂, ◌∙◌}
use Prim.Native.Nat.{ℕ, ◌≤◌, ◌<◌}
use mathlib.Core.Bool.{Bool, true, false, not, ◌&&◌, ◌||◌}
use mathlib.Core.List.{List, [], ◌∷◌}
use lib.Dec.{eqb, leb, ltb, eqb→eq, nleb→lt, nltb→le}
use lib.ListN.{length}
use borrow.Author.Tests.{lt-ltb, le-ltb}
use Rattle.codec.specs.Plain.{within}
use Rattle.codec.proofs.Tests.{within_low, within_high}
use Rattle.machine.specs.Codes.{code_of}
use Rattle.machine.specs.Limits.{record_size, most_data, most_places}
use Rattle.machine.specs.Message.{protocol_of, size_of, tx_flags_of, wide_of, takes}
use Rattle.machine.specs.Filter.{free}
use Rattle.machine.specs.Channel.{Open, shorter, filter_code}
use Rattle.machine.proofs.Tables.{failed, yes, neither}
use Rattle.filtercheck.specs.Checked.{Checked}

-- ---- a start's checks, those of one code together

abbrev in_order : Bool → Bool → Bool → Bool → Bool → ℕ
in_order short kind protocol shape full = code_of ((short, 0x04) ∷ (kind, 0x16) ∷ (protocol, 0x15) ∷ (shape, 0x0A) ∷ (full, 0x0C) ∷ [])

two : (a b : Bool) (k : ℕ) (ts : List (Bool × ℕ)) → code_of ((a, k) ∷ (b, k) ∷ ts) ≡ code_of ((a || b, k) ∷ ts)
unfolding code_of
two true b k ts = refl
two false b k ts = refl

four : (a b c d : Bool) (k : ℕ) (ts : List (Bool × ℕ)) → code_of ((not a, k) ∷ (not b, k) ∷ (not c, k) ∷ (not d, k) ∷ ts) ≡ code_of ((not ((a && c) && (b && d)), k) ∷ ts)
unfolding code_of
four false b c d k ts = refl
four true false false d k ts = refl
four true false true d k ts = refl
four true true false d k ts = refl
four true true true false k ts = refl
four true true true true k ts = refl

module _ (flags kind : ℕ) (mask pattern : List ℕ) (place : ℕ) where
  -- the tests, as code makes them
  abbrev pub bad_protocol : Bool
  bad_protocol = not (eqb (protocol_of mask) 5) || not (eqb (protocol_of pattern) 5)

  abbrev pub good_shape : Bool
  good_shape = (eqb (size_of mask) (size_of pattern) && eqb (tx_flags_of mask) (tx_flags_of pattern)) && (within 1 most_data (size_of mask) && takes flags (wide_of mask))

  module _ (o : Open) (ef : o.config.flags ≡ flags) (ep : free o.filters ≡ place) where
    grouped : filter_code o kind mask pattern ≡ in_order (shorter mask 1 || shorter pattern 1) (not (within 1 2 kind)) bad_protocol (not good_shape) (leb most_places place)
    unfolding filter_code code_of
    grouped =
        let s = eqb (size_of mask) (size_of pattern) in
        let n = within 1 most_data (size_of mask) in
        let x = eqb (tx_flags_of mask) (tx_flags_of pattern) in
        let w = takes flags (wide_of mask) in
        let full : List (Bool × ℕ) = (leb most_places place, 0x0C) ∷ [] in
        rw (ef, ep)
        (ap (λ (k : ℕ). if shorter mask 1 || shorter pattern 1 then 0x04 else if not (within 1 2 kind) then 0x16 else k)
        (two (not (eqb (protocol_of mask) 5)) (not (eqb (protocol_of pattern) 5)) 0x15 ((not s, 0x0A) ∷ (not n, 0x0A) ∷ (not x, 0x0A) ∷ (not w, 0x0A) ∷ full)
        ∙ ap (λ (k : ℕ). if bad_protocol then 0x15 else k) (four s n x w 0x0A full)))

    pub short_mask : length mask < record_size → 0x04 ≡ filter_code o kind mask pattern
    unfolding code_of shorter
    short_mask h = sym (grouped ∙ rw (lt-ltb (length mask) record_size h))

    module _ (lm : record_size ≤ length mask) where
      pub short_pattern : length pattern < record_size → 0x04 ≡ filter_code o kind mask pattern
      unfolding code_of shorter
      short_pattern h = sym (grouped ∙ rw (le-ltb (length mask) record_size lm, lt-ltb (length pattern) record_size h))

      module _ (lp : record_size ≤ length pattern) where
        long_enough : filter_code o kind mask pattern ≡ in_order false (not (within 1 2 kind)) bad_protocol (not good_shape) (leb most_places place)
        unfolding shorter
        long_enough = grouped ∙ rw (le-ltb (length mask) record_size lm, le-ltb (length pattern) record_size lp)

        pub bad_type : within 1 2 kind ≡ false → 0x16 ≡ filter_code o kind mask pattern
        unfolding code_of
        bad_type k = sym (long_enough ∙ rw k)

        module _ (k : within 1 2 kind ≡ true) where
          pub bad_protocol_law : bad_protocol ≡ true → 0x15 ≡ filter_code o kind mask pattern
          unfolding code_of
          bad_protocol_law p = sym (long_enough ∙ ap₂ (λ (a b : Bool). in_order false (not a) b (not good_shape) (leb most_places place)) k p)

          module _ (p : bad_protocol ≡ false) where
            pub bad_shape : not good_shape ≡ true → 0x0A ≡ filter_code o kind mask pattern
            unfolding code_of
            bad_shape g = sym (long_enough ∙ ap₂ (λ (a b : Bool). in_order false (not a) b (not good_shape) (leb most_places place)) k p ∙ ap (λ (b : Bool). in_order false false false b (leb most_places place)) g)

            pub last_test : not good_shape ≡ false → (if leb most_places place then 0x0C else 0x00) ≡ filter_code o kind mask pattern
            unfolding code_of
            last_test g = sym (long_enough ∙ ap₂ (λ (a b : Bool). in_order false (not a) b (not good_shape) (leb most_places place)) k p ∙ ap (λ (b : Bool). in_order false false false b (leb most_places place)) g)

-- ---- a start that nothing refuses

module _ (o : Open) (kind : ℕ) (mask pattern : List ℕ) (z : filter_code o kind mask pattern ≡ 0) where
  pub room : free o.filters < most_places
  unfolding filter_code
  room = nleb→lt most_places (free o.filters) (failed _ tt z).1.1.1.1.1.1.1.1.0

  pub checked : Checked kind mask pattern
  unfolding filter_code shorter
  checked =
      let f = failed _ tt z in
      let long = neither (ltb (length mask) record_size) (ltb (length pattern) record_size) f.0 in
      let kind_fits = yes (within 1 2 kind) f.1.0 in
      record {
        low = within_low 1 2 kind kind_fits;
        high = within_high 1 2 kind kind_fits;
        mask_long = nltb→le (length mask) record_size long.0;
        pattern_long = nltb→le (length pattern) record_size long.1;
        same = eqb→eq (size_of mask) (size_of pattern) (yes (eqb (size_of mask) (size_of pattern)) f.1.1.1.1.0);
        small = within_high 1 most_data (size_of mask) (yes (within 1 most_data (size_of mask)) f.1.1.1.1.1.0);
      }
