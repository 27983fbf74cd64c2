-- Starting a flow-control filter on the region of an open ISO 15765 channel: its code. Assumes nothing.
use Rattle.std.specs.Prelude.{if◌then◌else◌}
use mathlib.Core.Path.{◌≡◌, refl, sym, ap, ap₂, ◌∙◌, subst}
use Prim.Native.Nat.{ℕ, zero, suc, ◌+◌, ◌*◌, ◌≤◌, ◌<◌, ◌^◌, ◌/◌, ◌%◌}
use native.Mathlib.Omega.{arith}
use mathlib.Core.Bool.{Bool, true, false, not, ◌&&◌, ◌||◌}
use mathlib.Core.Option.{Option, none, some}
use mathlib.Core.List.{List, [], ◌∷◌, ◌++◌}
use lib.ListN.{length, get_or, take, drop}
use lib.Seq.{take-take}
use lib.Dec.{T, eqb, leb, ltb, eqb→eq, nltb→le}
use Rattle.codec.specs.Word.{word, word_at}
use Rattle.codec.specs.Code.{byte, word32, both, via, such, mark, slot}
use Rattle.codec.proofs.Tests.{left, right, true_T}
use Rattle.codec.proofs.Lawful.{ok_word}
use Rattle.codec.proofs.Word.{word_back, word_part}
use Rattle.codec.proofs.Many.{many_count}
use Rattle.codec.proofs.Part.{Part, byte_of}
use Rattle.machine.specs.Codes.{code_of}
use Rattle.machine.specs.Limits.{record_size, data_in}
use Rattle.machine.specs.Message.{bit, takes, id_limit, id_of, protocol_of, size_of, tx_flags_of, wide_of, data_of}
use Rattle.machine.specs.Filter.{Slots, any_slot, free, taken}
use Rattle.machine.specs.Channel.{Config}
use Rattle.layout.specs.Sizes.{flags_at, config_size}
use Rattle.layout.specs.Memory.{config}
use Rattle.machine.proofs.Tables as tables
use Rattle.message.proofs.Laws.{id_of_data}
use Rattle.iso.specs.Limits.{iso_protocol, id_size, most_talks, iso_record_size}
use Rattle.iso.specs.Iso.{Talk, OpenIso, Iso, ready, shorter_iso, knows, talk_code}
use Rattle.iso_layout.specs.Sizes.{talk_size, talks_at}
use Rattle.iso_layout.specs.Region.{talk_cell, talks_code, iso_region}
use Rattle.iso_layout.specs.Promise.{IsoOpened}
use Rattle.iso_layout.proofs.Good.{fli}
use Rattle.iso_layout.proofs.Region.{ready_of, is_ready_law, lies, config_part, talk_part}
use Rattle.talk_starts.specs.declared.Naming.{Naming}
use Rattle.talk_starts.specs.Starts.{naming_of, start_tests}

-- ---- the tests of a start are those of its records, then those of its conversations

behind : (s : Bool) (x y : ℕ) → (s ≡ true → x ≡ y) → (if not s then 0x0A else x) ≡ (if not s then 0x0A else y)
behind true x y e = e refl
behind false x y e = refl

pub each : (a b c : Bool) → (a && b && c) ≡ true → (a ≡ true) × ((b ≡ true) × (c ≡ true))
each true true true e = (refl, (refl, refl))
each true true false e = absurd (true_T false e)
each true false c e = absurd (true_T false e)
each false b c e = absurd (true_T false e)

-- of the two places
abbrev busy : Slots Talk → Bool → ℕ → ℕ → List (Bool × ℕ)
busy ts w p f = (any_slot (knows w p f) ts, 0x18) ∷ (leb most_talks (free ts), 0x0C) ∷ []

module _ (flags type : ℕ) (ts : Slots Talk) (mask pattern flow : List ℕ) where
  -- what follows the sizes, by the three identifiers
  abbrev tail : ℕ → ℕ → ℕ → ℕ
  tail m p f =
      code_of
      ((not (eqb m 0xFFFF_FFFF), 0x0A)
      ∷ (not (eqb (tx_flags_of mask) (tx_flags_of pattern) && eqb (tx_flags_of mask) (tx_flags_of flow)), 0x0A)
      ∷ (not (takes flags (wide_of mask)), 0x0A)
      ∷ (ltb (id_limit (wide_of mask)) p, 0x0A)
      ∷ (ltb (id_limit (wide_of mask)) f, 0x0A)
      ∷ busy ts (wide_of mask) p f)

  abbrev sized : Bool
  sized = eqb (size_of mask) id_size && eqb (size_of pattern) id_size && eqb (size_of flow) id_size

  id_is : (m : List ℕ) → eqb (size_of m) id_size ≡ true → id_of (data_of m) ≡ id_of (drop data_in m)
  unfolding size_of
  id_is m e = let s : size_of m ≡ id_size = eqb→eq (size_of m) id_size (true_T _ e) in id_of_data m (omega (arith, s))

  tails : sized ≡ true → tail (id_of (data_of mask)) (id_of (data_of pattern)) (id_of (data_of flow)) ≡ tail (id_of (drop data_in mask)) (id_of (drop data_in pattern)) (id_of (drop data_in flow))
  tails e =
      let s = each (eqb (size_of mask) id_size) (eqb (size_of pattern) id_size) (eqb (size_of flow) id_size) e in
      λ i. tail (id_is mask s.0 i) (id_is pattern s.1.0 i) (id_is flow s.1.1 i)

module _ (o : OpenIso) (type : ℕ) (mask pattern flow : List ℕ) where
  abbrev wide : Bool
  wide = bit 0x100 (tx_flags_of mask)

  abbrev fp : ℕ
  fp = id_of (drop data_in pattern)

  abbrev ff : ℕ
  ff = id_of (drop data_in flow)

  abbrev tests : List (Bool × ℕ)
  tests = start_tests o.config.flags type (naming_of mask) (naming_of pattern) (naming_of flow)

  abbrev short : Bool
  short = shorter_iso mask 1 || shorter_iso pattern 1 || shorter_iso flow 1

  pub too_short : (shorter_iso mask 1 || shorter_iso pattern 1 || shorter_iso flow 1) ≡ true → 0x04 ≡ talk_code o type mask pattern flow
  unfolding talk_code code_of
  too_short e = sym (rw e refl)

  long_enough : short ≡ false → talk_code o type mask pattern flow ≡ code_of (tests ++ busy o.talks wide fp ff)
  unfolding talk_code code_of start_tests naming_of wide_of
  long_enough e =
      rw e
      (ap
      (λ (k : ℕ).
      if not (eqb type 3) then 0x16
      else if not (eqb (protocol_of mask) iso_protocol) then 0x15
      else if not (eqb (protocol_of pattern) iso_protocol) then 0x15
      else if not (eqb (protocol_of flow) iso_protocol) then 0x15 else k)
      (behind (eqb (size_of mask) id_size && eqb (size_of pattern) id_size && eqb (size_of flow) id_size) _ _ (tails o.config.flags type o.talks mask pattern flow)))

  pub bad_records : short ≡ false → (k : ℕ) → k ≡ code_of tests → (k ≡ 0 → ⊥) → k ≡ talk_code o type mask pattern flow
  bad_records e k c n = c ∙ sym (long_enough e ∙ tables.no_more_tests tests (busy o.talks wide fp ff) (λ z. n (c ∙ z)))

  pub by_places : short ≡ false → 0 ≡ code_of tests → code_of (busy o.talks wide fp ff) ≡ talk_code o type mask pattern flow
  unfolding start_tests
  by_places e c = sym (long_enough e ∙ tables.more_tests tests (busy o.talks wide fp ff) tt (sym c))

-- ---- whole records

three_long : (a b c n : ℕ) → (ltb a n || ltb b n || ltb c n) ≡ false → (n ≤ a) × ((n ≤ b) × (n ≤ c))
three_long a b c n e =
    let t : T (not (ltb a n || ltb b n || ltb c n)) = subst (λ (x : Bool). T (not x)) (sym e) tt in
    let ab = tables.neither (ltb a n || ltb b n) (ltb c n) t in
    let two = tables.neither (ltb a n) (ltb b n) ab.0 in
    (nltb→le a n two.0, (nltb→le b n two.1, nltb→le c n ab.1))

pub records_long : (a b c : ℕ) → (ltb a iso_record_size || ltb b iso_record_size || ltb c iso_record_size) ≡ false → (record_size ≤ a) × ((record_size ≤ b) × (record_size ≤ c))
records_long a b c e = let l = three_long a b c iso_record_size e in (omega (arith, l.0), (omega (arith, l.1.0), omega (arith, l.1.1)))

-- ---- the two places, by their bytes

pair : (ts : Slots Talk) → length ts ≡ most_talks → ts ≡ get_or ts 0 none ∷ get_or ts 1 none ∷ []
pair [] h = absurd (omega arith)
pair (a ∷ []) h = absurd (omega arith)
pair (a ∷ b ∷ []) h = refl
pair (a ∷ b ∷ c ∷ ts) h = absurd (omega arith)

or_false : (b : Bool) → (b || false) ≡ b
or_false true = refl
or_false false = refl

either : (q : Talk → Bool) (a b : Option Talk) → any_slot q (a ∷ b ∷ []) ≡ (any_slot q (a ∷ []) || any_slot q (b ∷ []))
unfolding any_slot
either q none b = refl
either q (some c) b = ap (λ (x : Bool). x || any_slot q (b ∷ [])) (sym (or_false (q c)))

full : (a b : Option Talk) → leb most_talks (free (a ∷ b ∷ [])) ≡ (taken a && taken b)
unfolding free taken
full none b = refl
full (some a) none = refl
full (some a) (some b) = refl

first_byte : (flags : ℕ) (x : Option Talk) → not (eqb (get_or ((slot (talk_cell flags)).put x) 0 0) 0) ≡ taken x
unfolding slot taken
first_byte flags none = refl
first_byte flags (some c) = refl

module _ (r : List ℕ) (f : IsoOpened r) where
  abbrev o : OpenIso
  o = ready_of r

  pub flags_at_law : word_at flags_at r ≡ (ready_of r).config.flags
  unfolding config via such both word32 word word_at
  flags_at_law =
      let p = config_part o r (lies r f) in
      let small : o.config.flags < 2 ^ 32 = ok_word o.config.flags (search (left, (lies r f).config_ok)) in
      let same : word_at flags_at r ≡ word_at 0 (config.put o.config) = omega (arith, byte_of p 0 (omega arith), byte_of p 1 (omega arith), byte_of p 2 (omega arith), byte_of p 3 (omega arith)) in
      same ∙ word_back o.config.flags small

  pub two_places : length (ready_of r).talks ≡ most_talks
  unfolding talks_code
  two_places = many_count most_talks (slot (talk_cell (fli o))) o.talks (lies r f).talks_ok

  pub taken_at : (k : ℕ) → k < most_talks → not (eqb (get_or r (talks_at + k * talk_size) 0) 0) ≡ taken (get_or (ready_of r).talks k none)
  taken_at k h =
      let z : talks_at + k * talk_size ≡ talks_at + k * talk_size + 0 = omega arith in
      ap (λ (j : ℕ). not (eqb j 0)) (ap (λ (i : ℕ). get_or r i 0) z ∙ byte_of (talk_part o r (lies r f) k h) 0 (omega arith)) ∙ first_byte (fli o) (get_or o.talks k none)

  pub full_is : (not (eqb (get_or r talks_at 0) 0) && not (eqb (get_or r (talks_at + talk_size) 0) 0)) ≡ leb most_talks (free (ready_of r).talks)
  full_is =
      ap₂ (λ (x y : Bool). x && y) (taken_at 0 (omega arith)) (taken_at 1 (omega arith)) ∙ sym (ap (λ (ts : Slots Talk). leb most_talks (free ts)) (pair o.talks two_places) ∙ full _ _)

  known_at : (q : Talk → Bool) (k : ℕ) → k < most_talks → (b : Bool) → ((flags : ℕ) → b ≡ any_slot q ((slot (talk_cell flags)).get (take talk_size (drop (talks_at + k * talk_size) r)) ∷ [])) → b ≡ any_slot q (get_or o.talks k none ∷ [])
  known_at q k h b e = e (fli o) ∙ ap (λ (x : Option Talk). any_slot q (x ∷ [])) (talk_part o r (lies r f) k h).got

  pub known_is : (q : Talk → Bool) (a b : Bool) → ((flags : ℕ) → a ≡ any_slot q ((slot (talk_cell flags)).get (take talk_size (drop talks_at r)) ∷ []))
      → ((flags : ℕ) → b ≡ any_slot q ((slot (talk_cell flags)).get (take talk_size (drop (talks_at + talk_size) r)) ∷ [])) → (a || b) ≡ any_slot q (ready_of r).talks
  known_is q a b ea eb =
      ap₂ (λ (x y : Bool). x || y) (known_at q 0 (omega arith) a ea) (known_at q 1 (omega arith) b eb)
      ∙ sym (ap (any_slot q) (pair o.talks two_places) ∙ either q (get_or o.talks 0 none) (get_or o.talks 1 none))

  pub same_channel : (x : OpenIso) → iso_region.get r ≡ ready x → x ≡ ready_of r
  same_channel x e = let g : ready x ≡ ready (ready_of r) = sym e ∙ is_ready_law r f in cc g

-- ---- what the code finds out, and what it answers

module _ (r : List ℕ) (f : IsoOpened r) (type : ℕ) (mask pattern flow : List ℕ) where
  pub short_there : (ltb (length mask) iso_record_size || ltb (length pattern) iso_record_size || ltb (length flow) iso_record_size) ≡ true → (x : OpenIso) → 0x04 ≡ talk_code x type mask pattern flow
  unfolding shorter_iso
  short_there s x = too_short x type mask pattern flow s

  module _ (s : (ltb (length mask) iso_record_size || ltb (length pattern) iso_record_size || ltb (length flow) iso_record_size) ≡ false) (m p w : Naming) (em : m ≡ naming_of mask) (ep : p ≡ naming_of pattern) (ew : w ≡ naming_of flow)
      (flags : ℕ) (ef : flags ≡ word_at flags_at r) (k : ℕ) (ek : k ≡ code_of (start_tests flags type m p w)) where
    code_is : k ≡ code_of (start_tests (ready_of r).config.flags type (naming_of mask) (naming_of pattern) (naming_of flow))
    code_is = ek ∙ (λ i. code_of (start_tests ((ef ∙ flags_at_law r f) i) type (em i) (ep i) (ew i)))

    pub records_refuse : (k ≡ 0 → ⊥) → (x : OpenIso) → iso_region.get r ≡ ready x → k ≡ talk_code x type mask pattern flow
    unfolding shorter_iso
    records_refuse n x e = bad_records (ready_of r) type mask pattern flow s k code_is n ∙ ap (λ (y : OpenIso). talk_code y type mask pattern flow) (sym (same_channel r f x e))

    pub places_say : k ≡ 0 → (a b : Bool)
        → ((flags : ℕ) → a ≡ any_slot (knows (eqb (m.tx / 0x100 % 2) 1) p.id w.id) ((slot (talk_cell flags)).get (take talk_size (drop talks_at r)) ∷ []))
        → ((flags : ℕ) → b ≡ any_slot (knows (eqb (m.tx / 0x100 % 2) 1) p.id w.id) ((slot (talk_cell flags)).get (take talk_size (drop (talks_at + talk_size) r)) ∷ []))
        → (x : OpenIso) → iso_region.get r ≡ ready x
        → code_of ((a || b, 0x18) ∷ (not (eqb (get_or r talks_at 0) 0) && not (eqb (get_or r (talks_at + talk_size) 0) 0), 0x0C) ∷ []) ≡ talk_code x type mask pattern flow
    unfolding shorter_iso naming_of bit
    places_say z a b ea eb x e =
        let ts : Slots Talk = (ready_of r).talks in
        let known : (a || b) ≡ any_slot (knows (bit 0x100 (tx_flags_of mask)) (id_of (drop data_in pattern)) (id_of (drop data_in flow))) ts =
        known_is r f (knows (eqb (m.tx / 0x100 % 2) 1) p.id w.id) a b ea eb ∙ (λ i. any_slot (knows (eqb ((em i).tx / 0x100 % 2) 1) (ep i).id (ew i).id) ts) in
        ap₂ (λ (u v : Bool). code_of ((u, 0x18) ∷ (v, 0x0C) ∷ [])) known (full_is r f)
        ∙ by_places (ready_of r) type mask pattern flow s (sym z ∙ code_is)
        ∙ ap (λ (y : OpenIso). talk_code y type mask pattern flow) (sym (same_channel r f x e))
