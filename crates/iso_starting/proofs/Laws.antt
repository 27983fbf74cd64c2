-- Starting a flow-control filter on the region of an open ISO 15765 channel: what a start that is not refused knows of its records and of the two places,
-- and what it leaves. Assumes nothing.
use mathlib.Core.Path.{◌≡◌, refl, sym, ap, ◌∙◌}
use Prim.Native.Nat.{ℕ, suc, zero, ◌+◌, ◌*◌, ◌≤◌, ◌<◌, ◌/◌, ◌%◌}
use native.Mathlib.Omega.{arith}
use mathlib.Core.Bool.{Bool, true, false, not, ◌&&◌}
use mathlib.Core.Option.{Option, none, some}
use mathlib.Core.List.{List, []}
use lib.ListN.{length, get_or, set, take, drop}
use lib.Dec.{T, eqb, leb, eqb→eq}
use borrow.Author.Tests.{ne_eqb, leb-false}
use borrow.Rule.Slice.PartMut.{put_mid}
use Rattle.codec.specs.Plain.{zeros}
use Rattle.codec.specs.Code.{slot}
use Rattle.codec.proofs.Tests.{true_T}
use Rattle.codec.proofs.Part.{Part}
use Rattle.machine.specs.Limits.{record_size, data_in}
use Rattle.machine.specs.Message.{bit, id_of, size_of, wide_of, data_of}
use Rattle.machine.specs.Filter.{Slots, free, taken}
use Rattle.machine.specs.Channel.{says, start_flow}
use Rattle.machine.proofs.Slots.{free_more, free_here}
use Rattle.message.proofs.Laws.{id_of_data}
use Rattle.layout.specs.Promise.{gives}
use Rattle.machine.proofs.Tables as tables
use Rattle.iso.specs.Limits.{id_size, most_talks}
use Rattle.iso.specs.Iso.{Talk, OpenIso, Iso, IsoOutcome, ready, idle, shorter_iso, did, unless_iso, set_talks, talk_code, talk_of, on_start_talk, on_ready}
use Rattle.iso_layout.specs.Sizes.{talk_size, talks_at}
use Rattle.iso_layout.specs.Region.{talk_cell, iso_region}
use Rattle.iso_layout.specs.Promise.{IsoOpened, iso_outcome}
use Rattle.iso_layout.proofs.Good.{fli}
use Rattle.iso_layout.proofs.Region.{ready_of, is_ready_law, lies, talk_part, moves, stays}
use Rattle.iso_clearing.proofs.Laws.{none_zeros}
use Rattle.talk_starts.specs.declared.Naming.{Naming}
use Rattle.talk_starts.specs.Starts.{naming_of}
use Rattle.talks.proofs.Laws.{each, records_long, two_places, taken_at}

-- ---- the first of two places that is free

not_T : (b : Bool) → T (not b) → b ≡ false
not_T true t = absurd t
not_T false t = refl

twice_T : (b : Bool) → T (not (not b)) → b ≡ true
twice_T true t = refl
twice_T false t = absurd t

is_none : (x : Option Talk) → taken x ≡ false → x ≡ none
unfolding taken
is_none none e = refl
is_none (some c) e = cc

abbrev At : Slots Talk → ℕ → Type 0
At ts k = (free ts ≡ k) × (get_or ts k none ≡ none)

module _ (ts : Slots Talk) (two : length ts ≡ most_talks) where
  first_free : taken (get_or ts 0 none) ≡ false → At ts 0
  first_free e = (sym (free_here ts 0 (omega arith) (omega arith) e), is_none _ e)

  second_free : leb most_talks (free ts) ≡ false → taken (get_or ts 0 none) ≡ true → At ts 1
  second_free l e = by (taken (get_or ts 1 none)) refl
    where
      front : free ts ≡ 0 + 1 + free (drop (0 + 1) ts)
      front = free_more ts 0 (omega arith) (omega arith) e

      by : (b : Bool) → taken (get_or ts 1 none) ≡ b → At ts 1
      by true q = absurd (omega (arith, free_more ts 1 (omega arith) front q, leb-false most_talks (free ts) l))
      by false q = (sym (free_here ts 1 (omega arith) front q), is_none _ q)

stopped : (k : ℕ) → (k ≡ 0 → ⊥) → (c : Iso) (b : List ℕ) (done : IsoOutcome) → unless_iso k c b done ≡ (c, says k 0 b)
unfolding unless_iso
stopped zero n c b done = absurd (n refl)
stopped (suc k) n c b done = refl

module _ (r : List ℕ) (f : IsoOpened r) (type : ℕ) (mask pattern flow : List ℕ) where
  abbrev o : OpenIso
  o = ready_of r

  -- ---- a start that is refused

  pub start_refused : (k : ℕ) → (k ≡ 0 → ⊥) → ((x : OpenIso) → iso_region.get r ≡ ready x → k ≡ talk_code x type mask pattern flow) → (rates : List ℕ) (t : ℕ)
      → gives k 0 [] r ≡ iso_outcome rates t r (start_flow type mask pattern flow)
  unfolding on_ready on_start_talk
  start_refused k n e rates t =
      stays r f rates t (start_flow type mask pattern flow) k 0 []
      (ap (λ (j : ℕ). unless_iso j (ready o) [] (did (set_talks o (set o.talks (free o.talks) (some (talk_of mask pattern flow)))) (free o.talks + 1))) (sym (e o (is_ready_law r f))) ∙ stopped k n (ready o) [] _)

  -- ---- one that is not

  module _ (k : ℕ) (none-wrong : k ≡ 0) (e : (x : OpenIso) → iso_region.get r ≡ ready x → k ≡ talk_code x type mask pattern flow) where
    code_zero : talk_code (ready_of r) type mask pattern flow ≡ 0
    code_zero = sym (e o (is_ready_law r f)) ∙ none-wrong

    pub whole_records : (record_size ≤ length mask) × ((record_size ≤ length pattern) × (record_size ≤ length flow))
    unfolding talk_code shorter_iso
    whole_records =
        let h = tables.failed _ tt code_zero in
        records_long (length mask) (length pattern) (length flow) (not_T _ h.0)

    room : leb most_talks (free o.talks) ≡ false
    unfolding talk_code
    room = let h = tables.failed _ tt code_zero in not_T _ h.1.1.1.1.1.1.1.1.1.1.1.1.0

    sized : (eqb (size_of mask) id_size && eqb (size_of pattern) id_size && eqb (size_of flow) id_size) ≡ true
    unfolding talk_code
    sized = let h = tables.failed _ tt code_zero in twice_T _ h.1.1.1.1.1.0

    id_is : (m : List ℕ) → eqb (size_of m) id_size ≡ true → id_of (data_of m) ≡ id_of (drop data_in m)
    unfolding size_of
    id_is m q = let s : size_of m ≡ id_size = eqb→eq (size_of m) id_size (true_T _ q) in id_of_data m (omega (arith, s))

    -- place k, the first that is free, lent as n bytes
    module _ (i : ℕ) (h : i < most_talks) (a : At (ready_of r).talks i) where
      abbrev at : ℕ
      at = talks_at + i * talk_size

      here : Part iso_region r (slot (talk_cell (fli o))) at talk_size (get_or o.talks i none) (λ x. ready (set_talks o (set o.talks i x)))
      here = talk_part o r (lies r f) i h

      pub free_zeros : (length (take talk_size (drop (talks_at + i * talk_size) r)) ≡ talk_size) × (take talk_size (drop (talks_at + i * talk_size) r) ≡ zeros talk_size)
      free_zeros = (here.long, here.is ∙ ap (λ (x : Option Talk). (slot (talk_cell (fli o))).put x) a.1 ∙ none_zeros (fli o))

      pub started : (m p w : Naming) → m ≡ naming_of mask → p ≡ naming_of pattern → w ≡ naming_of flow → (ys : List ℕ)
          → ((flags : ℕ) → ys ≡ (slot (talk_cell flags)).put (some (record { wide = eqb (m.tx / 0x100 % 2) 1; pattern = p.id; flow = w.id; transfer = idle })))
          → (rates : List ℕ) (t : ℕ) → gives 0 (i + 1) [] (put_mid (talks_at + i * talk_size) talk_size r ys) ≡ iso_outcome rates t r (start_flow type mask pattern flow)
      unfolding on_ready on_start_talk unless_iso did naming_of talk_of wide_of bit
      started m p w em ep ew ys y rates t =
          let s = each (eqb (size_of mask) id_size) (eqb (size_of pattern) id_size) (eqb (size_of flow) id_size) sized in
          let talk : Talk = talk_of mask pattern flow in
          let same : record { wide = eqb (m.tx / 0x100 % 2) 1; pattern = p.id; flow = w.id; transfer = idle } ≡ talk =
          λ j. record { wide = eqb ((em j).tx / 0x100 % 2) 1; pattern = (ap (λ (n : Naming). n.id) ep ∙ sym (id_is pattern s.1.0)) j; flow = (ap (λ (n : Naming). n.id) ew ∙ sym (id_is flow s.1.1)) j; transfer = idle } in
          moves r f rates t (start_flow type mask pattern flow) (ready (set_talks o (set o.talks i (some talk)))) 0 (i + 1) [] _
          (ap (λ (j : ℕ). unless_iso j (ready o) [] (did (set_talks o (set o.talks (free o.talks) (some talk))) (free o.talks + 1))) code_zero
          ∙ ap (λ (j : ℕ). did (set_talks o (set o.talks j (some talk))) (j + 1)) a.0)
          (here.becomes ys (some talk) (y (fli o) ∙ ap (λ (c : Talk). (slot (talk_cell (fli o))).put (some c)) same))

    -- by the first bytes
    pub first_place : get_or r talks_at 0 ≡ 0 → At (ready_of r).talks 0
    first_place b =
        let z : talks_at ≡ talks_at + 0 * talk_size = omega arith in
        first_free o.talks (two_places r f) (sym (taken_at r f 0 (omega arith)) ∙ ap (λ (j : ℕ). not (eqb j 0)) (ap (λ (j : ℕ). get_or r j 0) (sym z) ∙ b))

    pub second_place : (get_or r talks_at 0 ≡ 0 → ⊥) → At (ready_of r).talks 1
    second_place n =
        let z : talks_at ≡ talks_at + 0 * talk_size = omega arith in
        second_free o.talks (two_places r f) room (sym (taken_at r f 0 (omega arith)) ∙ ap not (ne_eqb _ 0 (λ e. n (ap (λ (j : ℕ). get_or r j 0) z ∙ e))))
