-- What a message is matched against, out of the bytes of a conversation's place. Assumes nothing.
use Rattle.std.specs.Prelude.{if◌then◌else◌}
use mathlib.Core.Path.{◌≡◌, refl, sym, ap, ap₂, ◌∙◌}
use Prim.Native.Nat.{ℕ}
use mathlib.Core.Bool.{Bool, true, false, ◌&&◌, ◌||◌, beq, or-false}
use mathlib.Core.Option.{Option, none, some}
use mathlib.Core.List.{List, [], ◌∷◌}
use lib.ListN.{get_or}
use lib.Dec.{eqb}
use Rattle.codec.specs.Word.{word, word_at}
use Rattle.codec.specs.Code.{byte, word32, both, via, such, mark, mark_of, slot}
use Rattle.codec.proofs.Word.{word_back}
use Rattle.machine.specs.Filter.{Slots, any_slot}
use Rattle.iso.specs.Iso.{Talk, idle, carries}
use Rattle.iso_layout.specs.Sizes.{flow_in}
use Rattle.iso_layout.specs.Region.{talk_cell}
use Rattle.iso_layout.proofs.Held.{id_small}
use Rattle.iso_layout.proofs.Good.{PlaceOk}
use Rattle.iso_writing.specs.declared.Flow.{Flow}
use Rattle.iso_writing.specs.Written.{talk_by, talks_by}

-- ---- the test as code makes it

abbrev test_of : Bool → Bool → ℕ → Bool → ℕ → Bool
test_of taken w k wide id = taken && (beq wide w && eqb id k)

one_test : (f : Flow) (wide : Bool) (id : ℕ) (ts : Slots Talk) → any_slot (carries wide id) (talk_by f ∷ ts) ≡ (test_of f.taken f.wide f.id wide id || any_slot (carries wide id) ts)
unfolding talk_by any_slot carries
one_test f wide id ts = go f.taken
  where
    go : (b : Bool) → any_slot (carries wide id) ((if b then some (record { wide = f.wide; pattern = 0; flow = f.id; transfer = idle }) else none) ∷ ts) ≡ (test_of b f.wide f.id wide id || any_slot (carries wide id) ts)
    go true = refl
    go false = refl

pub two_tests : (one two : Flow) (wide : Bool) (id : ℕ)
    → (one.taken && (beq wide one.wide && eqb id one.id) || two.taken && (beq wide two.wide && eqb id two.id)) ≡ any_slot (carries wide id) (talks_by one two)
unfolding talks_by any_slot
two_tests one two wide id =
    let a : Bool = test_of one.taken one.wide one.id wide id in
    let b : Bool = test_of two.taken two.wide two.id wide id in
    sym (one_test one wide id (talk_by two ∷ []) ∙ ap (λ (x : Bool). a || x) (one_test two wide id [] ∙ or-false b))

-- ---- the bytes of a place

mark_back : (b : Bool) → eqb (mark_of b) 1 ≡ b
mark_back true = refl
mark_back false = refl

-- another conversation of the same width and flow identifier carries the same
same_flow : {w : Bool} {k : ℕ} (c : Talk) → w ≡ c.wide → k ≡ c.flow → (wide : Bool) (id : ℕ) → carries wide id (record { wide = w; pattern = 0; flow = k; transfer = idle }) ≡ carries wide id c
unfolding carries
same_flow c e g wide id = ap₂ (λ (a : Bool) (b : ℕ). beq wide a && eqb id b) e g

module _ (flags : ℕ) (f : Flow) (t : List ℕ) (taken : f.taken ≡ eqb (get_or t 0 0) 1) (width : f.wide ≡ eqb (get_or t 1 0) 1) (flow : f.id ≡ word_at flow_in t) where
  pub same_place : (x : Option Talk) → PlaceOk flags x → t ≡ (slot (talk_cell flags)).put x → (wide : Bool) (id : ℕ) (ts : Slots Talk) → any_slot (carries wide id) (talk_by f ∷ ts) ≡ any_slot (carries wide id) (x ∷ ts)
  unfolding slot talk_cell via such both mark byte word32 word word_at talk_by any_slot
  same_place none ok is wide id ts =
      let free : f.taken ≡ false = taken ∙ ap (λ (m : List ℕ). eqb (get_or m 0 0) 1) is in
      ap (λ (b : Bool). any_slot (carries wide id) ((if b then some (record { wide = f.wide; pattern = 0; flow = f.id; transfer = idle }) else none) ∷ ts)) free
  same_place (some c) ok is wide id ts =
      let here : f.taken ≡ true = taken ∙ ap (λ (m : List ℕ). eqb (get_or m 0 0) 1) is in
      let w : f.wide ≡ c.wide = width ∙ ap (λ (m : List ℕ). eqb (get_or m 1 0) 1) is ∙ mark_back c.wide in
      let k : f.id ≡ c.flow = flow ∙ ap (λ (m : List ℕ). word_at flow_in m) is ∙ word_back c.flow (id_small c.wide c.flow ok.flow_in_law) in
      ap (λ (b : Bool). any_slot (carries wide id) ((if b then some (record { wide = f.wide; pattern = 0; flow = f.id; transfer = idle }) else none) ∷ ts)) here
      ∙ ap (λ (b : Bool). b || any_slot (carries wide id) ts) (same_flow c w k wide id)

pub under : (wide : Bool) (id : ℕ) (x : Option Talk) (ts us : Slots Talk) → any_slot (carries wide id) ts ≡ any_slot (carries wide id) us → any_slot (carries wide id) (x ∷ ts) ≡ any_slot (carries wide id) (x ∷ us)
unfolding any_slot
under wide id none ts us e = e
under wide id (some c) ts us e = ap (λ (b : Bool). carries wide id c || b) e
