-- Connect on the whole memory, once for both kinds of channel: what code does on the region of a line is what the box does. Assumes nothing.
use Rattle.std.specs.Prelude.{if◌then◌else◌}
use mathlib.Core.Path.{◌≡◌, refl, sym, ap, ap₂, ◌∙◌, subst}
use Prim.Native.Nat.{ℕ, ◌+◌, ◌*◌, ◌-◌, ◌≤◌, ◌<◌}
use native.Mathlib.Omega.{arith}
use mathlib.Core.Bool.{Bool, true, false, not, ◌||◌}
use mathlib.Core.Option.{Option, none}
use mathlib.Core.List.{List, [], ◌∷◌}
use lib.ListN.{length, get_or, set, take, drop}
use lib.Dec.{T, eqb, ltb}
use borrow.Author.Tests.{eq-eqb, ne_eqb, eqb-true, le-ltb}
use borrow.Rule.Slice.PartMut.{put_mid, mid_of, put_same}
use Rattle.codec.specs.Plain.{member}
use Rattle.codec.proofs.Tests.{T_true}
use Rattle.machine.specs.Limits.{lines, can_protocol}
use Rattle.machine.specs.Codes.{code_of}
use Rattle.machine.specs.Channel.{Answer, says, connect_code, on_connect, noted, noted_in_use}
use Rattle.machine.specs.Step.{connect}
use Rattle.machine.specs.Demands.{refusal, results, part_done}
use Rattle.machine.proofs.Refusals.{in_use_open, connect_fair}
use Rattle.layout.specs.Sizes.{region_size}
use Rattle.layout.specs.Memory.{region}
use Rattle.layout.specs.Promise as raw_promise
use Rattle.layout.specs.Promise.{Result, gives, region_gives}
use Rattle.connecting.proofs.Laws.{more_tests, no_more_tests}
use Rattle.iso_connecting.proofs.Laws as iso_laws
use Rattle.iso.specs.Limits.{iso_protocol}
use Rattle.iso.specs.Iso.{iso_connect_code, on_iso_connect, iso_noted, iso_noted_in_use}
use Rattle.iso.proofs.Fair.{in_use_ready, iso_connect_fair}
use Rattle.iso_layout.specs.Sizes.{iso_region_size, iso_last_at}
use Rattle.iso_layout.specs.Region.{iso_region}
use Rattle.iso_layout.specs.Promise.{iso_gives}
use Rattle.whole.specs.Device.{Device, connected, own_answer, step}
use Rattle.whole.specs.Demands.{EightChannels}
use Rattle.whole.proofs.Dispatch.{step_connect, step_iso_connect, step_no_connect}
use Rattle.memory.specs.Sizes.{raw_at, iso_at_byte}
use Rattle.memory.specs.Memory.{image, load, valid}
use Rattle.memory.specs.Promise.{outcome, noted_in}
use Rattle.memory.proofs.Memory.{ok_load}
use Rattle.memory.proofs.Reach.{ok_sane}
use Rattle.memory.proofs.Rows.{Row, raws, isos, row_gives, region_is, region_got, region_long, region_valid, region_ends, by_step, unmoved, entered}
use Rattle.memory.proofs.Entry.{Kind, raw_kind, iso_kind, marked_here, noted_image}

-- ---- a connect that names no channel

module _ (rates : List ℕ) (p f r : ℕ) where
  abbrev told : List (Bool × ℕ) → ℕ
  told more = if eqb p iso_protocol then iso_connect_code rates p f r more else connect_code rates p f r more

  pub of_iso : p ≡ iso_protocol → (k : ℕ) → k ≡ iso_connect_code rates p f r [] → k ≡ told []
  of_iso h k e = e ∙ sym (ap (λ (b : Bool). if b then iso_connect_code rates p f r [] else connect_code rates p f r []) (eq-eqb p iso_protocol h))

  pub of_others : (p ≡ iso_protocol → ⊥) → (k : ℕ) → k ≡ connect_code rates p f r [] → k ≡ told []
  of_others n k e = e ∙ sym (ap (λ (b : Bool). if b then iso_connect_code rates p f r [] else connect_code rates p f r []) (ne_eqb p iso_protocol n))

  -- the line comes into play where the tests of the protocol give no code
  more_told : (more : List (Bool × ℕ)) → told [] ≡ 0 → told more ≡ code_of more
  more_told more = by (eqb p iso_protocol)
    where
      by : (b : Bool) → (if b then iso_connect_code rates p f r [] else connect_code rates p f r []) ≡ 0 → (if b then iso_connect_code rates p f r more else connect_code rates p f r more) ≡ code_of more
      by true = iso_laws.more_tests rates p f r more
      by false = more_tests rates p f r more

  no_more_told : (more : List (Bool × ℕ)) → (told [] ≡ 0 → ⊥) → told more ≡ told []
  no_more_told more = by (eqb p iso_protocol)
    where
      by : (b : Bool) → ((if b then iso_connect_code rates p f r [] else connect_code rates p f r []) ≡ 0 → ⊥)
          → (if b then iso_connect_code rates p f r more else connect_code rates p f r more) ≡ (if b then iso_connect_code rates p f r [] else connect_code rates p f r [])
      by true = iso_laws.no_more_tests rates p f r more
      by false = no_more_tests rates p f r more

  module _ (m : List ℕ) (line : ℕ) (v : T (valid m)) (out : connected line p ≡ none) (c : ℕ) (e : c ≡ told []) where
    by_code : (k : ℕ) → k ≡ told ((true, 0x13) ∷ []) → gives k 0 [] m ≡ outcome rates m (connect line p f r)
    unfolding own_answer says
    by_code k z =
        ap (λ (n : ℕ). gives n 0 [] m) z
        ∙ unmoved m v rates (connect line p f r) (own_answer rates (connect line p f r)) (step_no_connect rates (load m) line p f r (ok_sane (load m) (ok_load m v)).eight out)

    pub refused : (c ≡ 0 → ⊥) → gives c 0 [] m ≡ outcome rates m (connect line p f r)
    refused n = by_code c (e ∙ sym (no_more_told ((true, 0x13) ∷ []) (λ z. n (e ∙ z))))

    pub no_such_line : c ≡ 0 → gives 0x13 0 [] m ≡ outcome rates m (connect line p f r)
    unfolding code_of
    no_such_line z = by_code 0x13 (sym (more_told ((true, 0x13) ∷ []) (sym e ∙ z)))

-- a line over the last names none, and so does a protocol that is neither
pub no_line : (l p : ℕ) → lines ≤ l → connected l p ≡ none
unfolding connected
no_line l p h = rw (le-ltb l lines h) refl

pub no_protocol : (l p : ℕ) → (p ≡ can_protocol → ⊥) → (p ≡ iso_protocol → ⊥) → connected l p ≡ none
unfolding connected
no_protocol l p n o = rw (ne_eqb p can_protocol n) (rw (ne_eqb p iso_protocol o) (by (ltb l lines)))
  where
    by : (b : Bool) → ◌≡◌ {A = Option ℕ} (if b then none else none) none
    by true = refl
    by false = refl

-- what is shown of a protocol's number is shown of a protocol that equals it
pub as_named : (rates m : List ℕ) (l p q f r : ℕ) (x : Result) → p ≡ q → x ≡ outcome rates m (connect l q f r) → x ≡ outcome rates m (connect l p f r)
as_named rates m l p q f r x e s = s ∙ ap (λ (n : ℕ). outcome rates m (connect l n f r)) (sym e)

-- ---- connecting a kind of channel

-- 0x14 alone is noted
abbrev pub in_use : {C : Type 0} → Kind C → C × Answer → C × Answer
in_use kind x = if eqb x.1.code 0x14 then (kind.notes x.1.code x.0, x.1) else x

pub record Connects {C : Type 0} (kind : Kind C) : Type 0 where
  pub protocol : ℕ
  pub on : List ℕ → C → ℕ → ℕ → ℕ → C × Answer
  pub steps : (rates : List ℕ) (d : Device) (l f r : ℕ) → EightChannels d → l < lines
      → step rates d (connect l protocol f r) ≡ (kind.row.put l (in_use kind (on rates (kind.row.chan l d) l f r)).0 d, (in_use kind (on rates (kind.row.chan l d) l f r)).1)
  pub busy : (rates : List ℕ) (c : C) (l f r : ℕ) → (on rates c l f r).1.code ≡ 0x14 → ((on rates c l f r).0 ≡ c) × T (kind.openly (on rates c l f r).0)

-- 0x14 refuses
pub is_refusal : (l p f r : ℕ) (a : Answer) → a.code ≡ 0x14 → T (refusal (connect l p f r) a)
unfolding refusal results member part_done
is_refusal l p f r a z = subst (λ (k : ℕ). T (not (member k results || part_done (connect l p f r) a))) (sym z) tt

unfoldable pub raw_connects : Connects raw_kind
unfolding raw_kind raws noted_in_use noted
raw_connects =
    record {
      protocol = can_protocol;
      on = λ rates c l f r. on_connect rates c l can_protocol f r;
      steps = λ rates d l f r w h. step_connect rates d l f r w h;
      busy =
          λ rates c l f r e.
          (((connect_fair rates c l can_protocol f r).leaves (is_refusal l can_protocol f r _ e)).0, in_use_open rates c l can_protocol f r e);
    }

unfoldable pub iso_connects : Connects iso_kind
unfolding iso_kind isos iso_noted_in_use iso_noted
iso_connects =
    record {
      protocol = iso_protocol;
      on = λ rates c l f r. on_iso_connect rates c l iso_protocol f r;
      steps = λ rates d l f r w h. step_iso_connect rates d l f r w h;
      busy =
          λ rates c l f r e.
          (((iso_connect_fair rates c l iso_protocol f r).leaves (is_refusal l iso_protocol f r _ e)).0, in_use_ready rates c l iso_protocol f r e);
    }

module _ {C : Type 0} (kind : Kind C) (way : Connects kind) (m : List ℕ) (v : T (valid m)) (l : ℕ) (h : l < lines) where
  abbrev w : Row C
  w = kind.row

  abbrev base : ℕ
  base = w.first + l * w.size

  abbrev span : ℕ
  span = base + w.size - base

  abbrev here : List ℕ
  here = mid_of base span m

  lies : here ≡ take w.size (drop base m)
  lies = let n : span ≡ w.size = omega arith in ap (λ (j : ℕ). mid_of base j m) n

  -- the region of the line, as it is lent
  pub line_ends : base + w.size ≤ length m
  line_ends = region_ends m v w l h

  pub line_lent : (length here ≡ w.size) × T (w.code.valid here) × (l < lines)
  line_lent = subst (λ (x : List ℕ). (length x ≡ w.size) × T (w.code.valid x) × (l < lines)) (sym lies) (region_long m v w l h, region_valid m v w l h, h)

  module _ (rates : List ℕ) (f r c u : ℕ) (ys : List ℕ) (s : gives c u [] ys ≡ row_gives w (way.on rates (w.code.get here) l f r)) where
    abbrev chan : C
    chan = w.chan l (load m)

    abbrev did : C × Answer
    did = way.on rates chan l f r

    shown : gives c u [] ys ≡ row_gives w did
    shown = s ∙ ap (λ (x : List ℕ). row_gives w (way.on rates (w.code.get x) l f r)) lies ∙ ap (λ (z : C). row_gives w (way.on rates z l f r)) (region_got m v w l h)

    same_code : c ≡ did.1.code
    same_code = ap (λ (z : Result). z.code) shown

    steps_there : step rates (load m) (connect l way.protocol f r) ≡ (w.put l (in_use kind did).0 (load m), (in_use kind did).1)
    steps_there = way.steps rates (load m) l f r (ok_sane (load m) (ok_load m v)).eight h

    -- its code is not 0x14, so nothing is noted
    pub connected_there : (c ≡ 0x14 → ⊥) → gives c u [] (put_mid base span m ys) ≡ outcome rates m (connect l way.protocol f r)
    connected_there n =
        let other : did ≡ in_use kind did = sym (ap (λ (b : Bool). if b then (kind.notes did.1.code did.0, did.1) else did) (ne_eqb did.1.code 0x14 (λ e. n (same_code ∙ e)))) in
        entered m v w l h rates (connect l way.protocol f r) (in_use kind did) steps_there c u [] ys (shown ∙ ap (row_gives w) other) base refl

    -- it is: the channel stays as it was, and notes it
    module _ (e : c ≡ 0x14) where
      code_is : did.1.code ≡ 0x14
      code_is = sym same_code ∙ e

      stays : did.0 ≡ chan
      stays = (way.busy rates chan l f r code_is).0

      same_memory : put_mid base span m ys ≡ m
      same_memory =
          ap (put_mid base span m) (ap (λ (z : Result). z.memory) shown ∙ ap w.code.put stays ∙ sym (region_is m v w l h) ∙ sym lies) ∙ put_same base span m

      pub note_lent : (base + w.size ≤ length (put_mid base span m ys)) × (c < 256)
      note_lent = (subst (λ (x : List ℕ). base + w.size ≤ length x) (sym same_memory) line_ends, omega arith)

      marked : get_or m base 0 ≡ 1
      marked =
          marked_here kind m v l h
          ∙ ap (λ (b : Bool). if b then 1 else 0) (ap kind.openly (sym stays) ∙ T_true (kind.openly did.0) (way.busy rates chan l f r code_is).1)

      pub connected_in_use : (zs : List ℕ) → zs ≡ set (put_mid base span m ys) (base + kind.last) 0x14 → gives c u [] zs ≡ outcome rates m (connect l way.protocol f r)
      connected_in_use zs z =
          let in_use_law : in_use kind did ≡ (kind.notes 0x14 chan, did.1) =
          ap (λ (b : Bool). if b then (kind.notes did.1.code did.0, did.1) else did) (eq-eqb did.1.code 0x14 code_is)
          ∙ ap₂ (λ (k : ℕ) (x : C). (kind.notes k x, did.1)) code_is stays in
          let bytes : zs ≡ image (w.put l (kind.notes 0x14 chan) (load m)) =
          z ∙ ap (λ (x : List ℕ). set x (base + kind.last) 0x14) same_memory
          ∙ sym (noted_image kind m v l h 0x13 ∙ ap (λ (n : ℕ). if eqb n 1 then set m (base + kind.last) 0x14 else m) marked) in
          ap₂ (λ (q : Result) (x : List ℕ). gives q.code q.value q.buffer x) shown bytes
          ∙ by_step m v rates (connect l way.protocol f r) (w.put l (kind.notes 0x14 chan) (load m)) did.1
          (steps_there ∙ ap (λ (x : C × Answer). (w.put l x.0 (load m), x.1)) in_use_law)

-- ---- as the functions on a region say it

module _ (m : List ℕ) (v : T (valid m)) (l : ℕ) (h : l < lines) where
  pub raw_ends : raw_at l + region_size ≤ length m
  unfolding raw_kind raws
  raw_ends = line_ends raw_kind raw_connects m v l h

  pub raw_lent_law : (length (mid_of (raw_at l) (raw_at l + region_size - raw_at l) m) ≡ region_size) × T (region.valid (mid_of (raw_at l) (raw_at l + region_size - raw_at l) m)) × (l < lines)
  unfolding raw_kind raws
  raw_lent_law = line_lent raw_kind raw_connects m v l h

  module _ (rates : List ℕ) (f r c u : ℕ) (ys : List ℕ) (s : gives c u [] ys ≡ region_gives (on_connect rates (region.get (mid_of (raw_at l) (raw_at l + region_size - raw_at l) m)) l can_protocol f r)) where
    pub raw_connected : (c ≡ 0x14 → ⊥) → gives c u [] (put_mid (raw_at l) (raw_at l + region_size - raw_at l) m ys) ≡ outcome rates m (connect l can_protocol f r)
    unfolding raw_kind raws raw_connects region_gives
    raw_connected = connected_there raw_kind raw_connects m v l h rates f r c u ys s

    pub raw_note_lent : c ≡ 0x14 → (raw_at l + region_size ≤ length (put_mid (raw_at l) (raw_at l + region_size - raw_at l) m ys)) × (c < 256)
    unfolding raw_kind raws raw_connects region_gives
    raw_note_lent = note_lent raw_kind raw_connects m v l h rates f r c u ys s

    pub raw_in_use : c ≡ 0x14 → (zs : List ℕ) → zs ≡ raw_promise.noted_in (raw_at l) c (put_mid (raw_at l) (raw_at l + region_size - raw_at l) m ys) → gives c u [] zs ≡ outcome rates m (connect l can_protocol f r)
    unfolding raw_kind raws raw_connects region_gives raw_promise.noted_in
    raw_in_use e zs z = connected_in_use raw_kind raw_connects m v l h rates f r c u ys s e zs (z ∙ ap (λ (k : ℕ). raw_promise.noted_in (raw_at l) k (put_mid (raw_at l) (raw_at l + region_size - raw_at l) m ys)) e)

  pub iso_ends : iso_at_byte l + iso_region_size ≤ length m
  unfolding iso_kind isos
  iso_ends = line_ends iso_kind iso_connects m v l h

  pub iso_lent : (length (mid_of (iso_at_byte l) (iso_at_byte l + iso_region_size - iso_at_byte l) m) ≡ iso_region_size) × T (iso_region.valid (mid_of (iso_at_byte l) (iso_at_byte l + iso_region_size - iso_at_byte l) m)) × (l < lines)
  unfolding iso_kind isos
  iso_lent = line_lent iso_kind iso_connects m v l h

  module _ (rates : List ℕ) (f r c u : ℕ) (ys : List ℕ) (s : gives c u [] ys ≡ iso_gives (on_iso_connect rates (iso_region.get (mid_of (iso_at_byte l) (iso_at_byte l + iso_region_size - iso_at_byte l) m)) l iso_protocol f r)) where
    pub iso_connected : (c ≡ 0x14 → ⊥) → gives c u [] (put_mid (iso_at_byte l) (iso_at_byte l + iso_region_size - iso_at_byte l) m ys) ≡ outcome rates m (connect l iso_protocol f r)
    unfolding iso_kind isos iso_connects iso_gives
    iso_connected = connected_there iso_kind iso_connects m v l h rates f r c u ys s

    pub iso_note_lent : c ≡ 0x14 → (iso_at_byte l + iso_region_size ≤ length (put_mid (iso_at_byte l) (iso_at_byte l + iso_region_size - iso_at_byte l) m ys)) × (c < 256)
    unfolding iso_kind isos iso_connects iso_gives
    iso_note_lent = note_lent iso_kind iso_connects m v l h rates f r c u ys s

    pub iso_in_use : c ≡ 0x14 → (zs : List ℕ) → zs ≡ noted_in iso_last_at (iso_at_byte l) c (put_mid (iso_at_byte l) (iso_at_byte l + iso_region_size - iso_at_byte l) m ys) → gives c u [] zs ≡ outcome rates m (connect l iso_protocol f r)
    unfolding iso_kind isos iso_connects iso_gives noted_in
    iso_in_use e zs z = connected_in_use iso_kind iso_connects m v l h rates f r c u ys s e zs (z ∙ ap (λ (k : ℕ). noted_in iso_last_at (iso_at_byte l) k (put_mid (iso_at_byte l) (iso_at_byte l + iso_region_size - iso_at_byte l) m ys)) e)
