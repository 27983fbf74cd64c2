-- DEMAND 1 IN BYTES over the whole box: what a refusal leaves of the memory and the lent buffer, and that every code is in the table. Assumes nothing.
use Rattle.std.specs.Prelude.{if◌then◌else◌}
use mathlib.Core.Path.{◌≡◌, refl, sym, ap, ap₂, ◌∙◌, subst}
use Prim.Native.Nat.{ℕ, zero, suc, ◌+◌, ◌-◌, ◌*◌, ◌≤◌, ◌<◌}
use native.Mathlib.Omega.{arith}
use mathlib.Core.Bool.{Bool, true, false, ◌||◌}
use mathlib.Core.Option.{Option, none, some}
use mathlib.Core.List.{List, [], ◌∷◌}
use borrow.Author.Tests.{ltb-true, ltb-false}
use lib.ListN.{get_or, set, get_or-eq_default}
use lib.Seq.{set_out}
use lib.Dec.{T, eqb, ltb}
use Rattle.codec.specs.Plain.{member}
use Rattle.codec.proofs.Tests.{true_T}
use Rattle.machine.specs.Limits.{lines}
use Rattle.machine.specs.Codes.{step_codes}
use Rattle.machine.specs.Channel.{Answer, notes}
use Rattle.machine.specs.Step.{Event, connect, call, frame, advance, close, lent_by}
use Rattle.machine.proofs.Refusals.{not_in, not_refused}
use Rattle.layout.specs.Sizes.{last_at}
use Rattle.layout.specs.Promise.{Result, gives, answered, answer_of}
use Rattle.machine.proofs.Tables.{by_test}
use Rattle.iso.specs.Iso.{iso_notes}
use Rattle.iso_layout.specs.Sizes.{iso_last_at}
use Rattle.whole.specs.Device.{Device, Any, raw, iso, chan_at, iso_at, any_at, connected, step}
use Rattle.whole.specs.Demands.{box_codes, box_table, refusal, with_any, any_notes, noted_at, noted_by, remembers}
use Rattle.whole.proofs.Dispatch.{with_iso, same_device}
use Rattle.whole.proofs.Refusals.{codes_in_table, step_codes_law, refused_leaves}
use Rattle.memory.specs.Sizes.{raw_at, iso_at_byte}
use Rattle.memory.specs.Memory.{image, load, valid}
use Rattle.memory.specs.Promise.{outcome}
use Rattle.memory.specs.Runs.{place_at, last_in, last_becomes, becomes_by, remembered, NothingElseChanged}
use Rattle.memory.proofs.Memory.{image_load, ok_load, valid_long}
use Rattle.memory.proofs.Reach.{ok_sane}
use Rattle.memory.proofs.Rows.{raws, isos, by_step}
use Rattle.memory.proofs.Entry.{Kind, raw_kind, iso_kind, noted_image}

-- a memory that is not valid notes nothing
nothing_noted : (m : List ℕ) (e : Event) → m ≡ remembered e 0x1A m
unfolding remembered member
nothing_noted m (connect l p f r) = refl
nothing_noted m (call k x) = refl
nothing_noted m (frame l w n b) = refl
nothing_noted m (advance t) = refl
nothing_noted m close = refl

-- a refusal has a code
refused_code : (e : Event) (a : Answer) → refusal e a ≡ true → a.code ≡ 0 → ⊥
refused_code e a h z = not_refused e a z (true_T (refusal e a) h)

module _ (m : List ℕ) (v : T (valid m)) where
  raw_byte : (i k : ℕ) → i < lines → image (with_any i (raw (notes (suc k) (chan_at i (load m)))) (load m)) ≡ (if eqb (get_or m (raw_at i) 0) 1 then set m (raw_at i + last_at) (suc k) else m)
  unfolding raw_kind raws with_any
  raw_byte i k h = noted_image raw_kind m v i h k

  iso_byte : (i k : ℕ) → i < lines → image (with_iso i (iso_notes (suc k) (iso_at i (load m))) (load m)) ≡ (if eqb (get_or m (iso_at_byte i) 0) 1 then set m (iso_at_byte i + iso_last_at) (suc k) else m)
  unfolding iso_kind isos
  iso_byte i k h = noted_image iso_kind m v i h k

  -- past the last channel there is none
  no_byte : (i k : ℕ) → lines ≤ i → image (with_iso i (iso_notes (suc k) (iso_at i (load m))) (load m)) ≡ (if eqb (get_or m (iso_at_byte i) 0) 1 then set m (iso_at_byte i + iso_last_at) (suc k) else m)
  no_byte i k out =
      let beyond : get_or m (iso_at_byte i) 0 ≡ 0 = get_or-eq_default m 0 (omega (arith, valid_long m v)) in
      ap image (same_device refl refl (set_out (load m).isos i _ (omega (arith, (ok_sane (load m) (ok_load m v)).eight.isos)))) ∙ image_load m v
      ∙ sym (ap (λ (n : ℕ). if eqb n 1 then set m (iso_at_byte i + iso_last_at) (suc k) else m) beyond)

  -- a channel that notes a code is a byte of the memory
  noted_byte : (i code : ℕ) → (code ≡ 0 → ⊥) → image (noted_at i code (load m)) ≡ last_becomes i code m
  unfolding noted_at any_notes any_at with_any last_becomes place_at last_in
  noted_byte i zero n = absurd (n refl)
  noted_byte i (suc k) n = by (ltb i lines) refl
    where
      late : lines ≤ i → (b : Bool) → ltb (i - lines) lines ≡ b
          → image (with_iso (i - lines) (iso_notes (suc k) (iso_at (i - lines) (load m))) (load m)) ≡ (if eqb (get_or m (iso_at_byte (i - lines)) 0) 1 then set m (iso_at_byte (i - lines) + iso_last_at) (suc k) else m)
      late out true q = iso_byte (i - lines) k (ltb-true (i - lines) lines q)
      late out false q = no_byte (i - lines) k (ltb-false (i - lines) lines q)

      by : (b : Bool) → ltb i lines ≡ b
          → image (with_any i (any_notes (suc k) (if b then raw (chan_at i (load m)) else iso (iso_at (i - lines) (load m)))) (load m))
          ≡ (if eqb (get_or m (if b then raw_at i else iso_at_byte (i - lines)) 0) 1 then set m ((if b then raw_at i else iso_at_byte (i - lines)) + (if b then last_at else iso_last_at)) (suc k) else m)
      by true q = raw_byte i k (ltb-true i lines q)
      by false q = late (ltb-false i lines q) (ltb (i - lines) lines) refl

  by_name : (o : Option ℕ) (code : ℕ) → (code ≡ 0 → ⊥) → image (noted_by o code (load m)) ≡ becomes_by o code m
  unfolding noted_by becomes_by
  by_name none code n = image_load m v
  by_name (some i) code n = noted_byte i code n

  either_image : (b : Bool) (x y : Device) → image (if b then x else y) ≡ (if b then image x else image y)
  either_image true x y = refl
  either_image false x y = refl

  remembered_image : (e : Event) (code : ℕ) → (code ≡ 0 → ⊥) → eqb code 0x1A ≡ false → image (remembers e code (load m)) ≡ remembered e code m
  unfolding remembers remembered member
  remembered_image (connect l p f r) code n out =
      either_image (eqb code 0x14) _ _ ∙ ap₂ (λ (x y : List ℕ). if eqb code 0x14 then x else y) (by_name (connected l p) code n) (image_load m v)
  remembered_image (call k x) code n out =
      either_image (eqb code 0x02) _ _ ∙ ap₂ (λ (x y : List ℕ). if eqb code 0x02 then x else y) (image_load m v) (noted_byte (k - 1) code n)
      ∙ go (eqb code 0x02) (eqb code 0x1A) out
    where
      go : (a b : Bool) → b ≡ false → (if a then m else last_becomes (k - 1) code m) ≡ (if a || (b || false) then m else last_becomes (k - 1) code m)
      go true b h = refl
      go false b h = ap (λ (c : Bool). if c || false then m else last_becomes (k - 1) code m) (sym h)
  remembered_image (frame l w n b) code z out = image_load m v
  remembered_image (advance t) code n out = image_load m v
  remembered_image close code n out = image_load m v

-- ---- every call

module _ (rates m : List ℕ) (e : Event) where
  -- what holds of a memory that is not valid, and of one that is, holds of the outcome
  by_memory : (P : Result → Type 0) → P (gives 0x1A 0 (lent_by e) m) → (T (valid m) → P (answered (step rates (load m) e).1 (image (step rates (load m) e).0))) → P (outcome rates m e)
  unfolding outcome
  by_memory P bad good = by_test P (valid m) _ _ good bad

  -- every code is in the table
  pub code_in_table : T (member (outcome rates m e).code box_table)
  code_in_table = by_memory (λ (r : Result). T (member r.code box_table)) (unfold member box_table box_codes step_codes in tt) (λ v. codes_in_table rates (load m) e)

  -- 0x1A IS GIVEN FOR NO VALID MEMORY
  pub valid_answered : T (valid m) → (outcome rates m e).code ≡ 0x1A → ⊥
  unfolding member box_codes step_codes
  valid_answered v h = subst (λ (c : ℕ). T (member c box_codes)) (ap (λ (r : Result). r.code) (by_step m v rates e _ _ refl) ∙ h) (step_codes_law rates (load m) e)

  -- A REFUSAL LEAVES THE MEMORY AND THE LENT BUFFER, 0x1A among them, but for the last code of the channel that it names
  pub refusal_leaves : refusal e (answer_of (outcome rates m e)) ≡ true → NothingElseChanged rates m e
  refusal_leaves h = let k = left_behind h in record { memory = k.0; buffer = k.1 }
    where
      left_behind : refusal e (answer_of (outcome rates m e)) ≡ true
          → ((outcome rates m e).memory ≡ remembered e (outcome rates m e).code m) × ((outcome rates m e).buffer ≡ lent_by e)
      left_behind =
          by_memory (λ (r : Result). refusal e (answer_of r) ≡ true → (r.memory ≡ remembered e r.code m) × (r.buffer ≡ lent_by e)) (λ h. (nothing_noted m e, refl))
          (λ v h.
          let k = refused_leaves rates (load m) e (ok_sane (load m) (ok_load m v)).eight h in
          let code : ℕ = (step rates (load m) e).1.code in
          (ap image k.0 ∙ remembered_image m v e code (refused_code e (step rates (load m) e).1 h) (not_in box_codes code 0x1A (step_codes_law rates (load m) e) (λ t. unfold member box_codes step_codes in t)), k.1))
