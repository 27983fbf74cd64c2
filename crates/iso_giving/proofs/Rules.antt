-- What a conversation gives by each rule is a frame of its own, and the lowest of two. Assumes nothing.
use Rattle.std.specs.Prelude.{if◌then◌else◌}
use mathlib.Core.Path.{◌≡◌, refl, sym, ap, ◌∙◌}
use Prim.Native.Nat.{ℕ, suc, ◌+◌, ◌/◌, ◌%◌, ◌≤◌}
use native.Mathlib.Omega.{arith}
use mathlib.Core.Bool.{Bool, true, false, true≢false}
use mathlib.Core.Option.{Option, none, some}
use mathlib.Core.List.{List, [], ◌∷◌}
use lib.ListN.{length, get_or, take, drop, length-drop}
use lib.Dec.{eqb}
use borrow.Author.Tests.{ne_eqb}
use Rattle.machine.proofs.Tables.{by_test}
use Rattle.machine.specs.Message.{Rec, bit, id_of}
use Rattle.iso.specs.Limits.{id_size, iso_data, in_first, in_next}
use Rattle.iso.specs.Iso.{Stage, opens, awaits, flies, sends, Transmission, Transfer, idle, refuses, receives, transmits, Talk, Owner, OpenIso, ready, Given, Chosen, gives, framed, number_after, first_frame, next_frame, flow_frame, answer_of, next_of, segment_of, carries, start_of, passing, giving, lowest, or_else}
use Rattle.iso_layout.specs.Record.{message_cell}
use Rattle.iso_layout.specs.Region.{owner_parts, iso_region}
use Rattle.iso_layout.specs.Promise.{IsoOpened}
use Rattle.iso_layout.proofs.Held.{ToSend, sending_sound, TalkOk}
use Rattle.iso_layout.proofs.Taking.{MayGive, answer_ok, segment_of_ok, start_of_ok}
use Rattle.iso_layout.proofs.Region.{ready_of, kept}
use Rattle.framing.specs.Data.{carried}
use Rattle.framing.proofs.Laws.{framed_carries}
use Rattle.iso_giving.specs.Giving.{owner_of, chose, taking, Chose, Rule, answers, segments, starts, chosen_at, given_in, Segmented}

-- ---- what it gives is a frame of its own

pub record Yields (k : ℕ) (c : Talk) (g : Given) : Type 0 where
  pub frame_is : g.frame ≡ framed c.wide c.flow (carried g.frame)
  pub owner_is : owner_parts g.owner ≡ owner_of k (get_or (carried g.frame) 0 0)
  pub there : carried g.frame ≡ [] → ⊥

abbrev pub MayYield : ℕ → Talk → Option Given → Type 0
MayYield k c none = Unit {0}
MayYield k c (some g) = Yields k c g

never_empty : (a : ℕ) (b : List ℕ) → a ∷ b ≡ [] → ⊥
never_empty a b e = let l : suc (length b) ≡ 0 = ap length e in omega arith

-- a frame that belongs to its transfer
own_frame : (k : ℕ) (c : Talk) (a : ℕ) (b : List ℕ) (w : Owner) (x : Transfer) → owner_parts w ≡ owner_of k a → Yields k c (record { frame = framed c.wide c.flow (a ∷ b); owner = w; transfer = x })
own_frame k c a b w x e =
    let d : carried (framed c.wide c.flow (a ∷ b)) ≡ a ∷ b = framed_carries c.wide c.flow (a ∷ b) in
    record {
      frame_is = ap (framed c.wide c.flow) (sym d);
      owner_is = e ∙ ap (λ (y : List ℕ). owner_of k (get_or y 0 0)) (sym d);
      there = λ z. never_empty a b (sym d ∙ z);
    }

others : (k a : ℕ) → (a ≡ 0x32 → ⊥) → suc (suc k) ≡ owner_of k a
unfolding owner_of
others k a n = let s : suc (suc k) ≡ k + 2 = omega arith in s ∙ ap (λ (b : Bool). if b then 0 else k + 2) (sym (ne_eqb a 0x32 n))

module _ (k : ℕ) (c : Talk) where
  pub answer_yields : (x : Transfer) → MayYield k c (answer_of k c x)
  unfolding answer_of gives flow_frame owner_of
  answer_yields idle = tt
  answer_yields refuses = own_frame k c 0x32 (0 ∷ 0 ∷ []) _ _ refl
  answer_yields (receives r) = by_test (MayYield k c) r.go_on _ _ (λ t. own_frame k c 0x30 (0 ∷ 0 ∷ []) _ _ (others k 0x30 (λ e. omega arith))) tt
  answer_yields (transmits t) = tt

  next_yields : (t : Transmission) (s : Stage) → MayYield k c (next_of k c t s)
  unfolding next_of gives next_frame number_after
  next_yields t opens = tt
  next_yields t (awaits run) = tt
  next_yields t (flies l g) = tt
  next_yields t (sends l g w) =
      by_test (MayYield k c) (eqb w 0) _ _ (λ u. own_frame k c (0x20 + (t.taken + 1) / in_next % 16) (take in_next (drop t.taken t.payload)) _ _ (others k (0x20 + (t.taken + 1) / in_next % 16) (λ e. omega arith))) tt

  pub segment_yields : (x : Transfer) → MayYield k c (segment_of k c x)
  unfolding segment_of
  segment_yields idle = tt
  segment_yields refuses = tt
  segment_yields (receives r) = tt
  segment_yields (transmits t) = next_yields t t.stage

  pub start_yields : (m : Rec) → length m.bytes ≤ iso_data → (x : Transfer) → MayYield k c (start_of m k c x)
  unfolding start_of gives first_frame
  start_yields m h refuses = tt
  start_yields m h (receives r) = tt
  start_yields m h (transmits t) = tt
  start_yields m h idle =
      let b : List ℕ = m.bytes in
      let l = length-drop id_size b in
      by_test (MayYield k c) (carries (bit 0x100 m.tx) (id_of b) c) _ _
      (λ u. own_frame k c (0x10 + length (drop id_size b) / 256) (length (drop id_size b) % 256 ∷ take in_first (drop id_size b)) _ _ (others k (0x10 + length (drop id_size b) / 256) (λ e. omega arith))) tt

-- a rule whose frames can be held, on a connection of these flags, at a place
pub record Fair (flags k : ℕ) (f : Rule) : Type 0 where
  pub holds : (c : Talk) → TalkOk flags c → MayGive flags k c (Unit {0}) (f k c)
  pub yields : (c : Talk) → MayYield k c (f k c)

pub fair_answers : (flags k : ℕ) → Fair flags k answers
fair_answers flags k = record { holds = λ c o. answer_ok flags c o k (Unit {0}) c.transfer refl; yields = λ c. answer_yields k c c.transfer }

pub fair_segments : (flags k : ℕ) → Fair flags k segments
fair_segments flags k = record { holds = λ c o. segment_of_ok flags c o k (Unit {0}) c.transfer refl; yields = λ c. segment_yields k c c.transfer }

module _ {flags : ℕ} {wide : Bool} {id : ℕ} {payload : List ℕ} {m : Rec} (s : Segmented flags wide id payload m) where
  sendable : ToSend flags iso_data m
  unfolding message_cell
  sendable = sending_sound flags iso_data m s.ok

  pub fair_starts : (k : ℕ) → Fair flags k (starts m)
  fair_starts k =
      record { holds = λ c o. start_of_ok flags c o k (Unit {0}) tt m sendable s.long c.transfer refl; yields = λ c. start_yields k c m sendable.fit.most c.transfer }

-- ---- the lowest of two

pub or_first : (x y : Option Chosen) → true ≡ chose x → or_else x y ≡ x
unfolding chose or_else
or_first none y e = absurd (true≢false e)
or_first (some z) y e = refl

pub or_second : (x y : Option Chosen) → false ≡ chose x → or_else x y ≡ y
unfolding chose or_else
or_second none y e = refl
or_second (some z) y e = absurd (true≢false (sym e))

none_taking : (o : OpenIso) (x : Option Chosen) → false ≡ chose x → taking o x ≡ o
unfolding chose taking
none_taking o none e = refl
none_taking o (some z) e = absurd (true≢false (sym e))

-- a region in which nothing was chosen is as it was
pub unmoved : (r u : List ℕ) → IsoOpened r → (x : Option Chosen) → Chose x false r u → u ≡ r
unmoved r u f x c = c.1 ∙ ap (λ (o : OpenIso). iso_region.put (ready o)) (none_taking (ready_of r) x c.0) ∙ kept r f

module _ (f : Rule) (ws : List Rec) where
  pub lowest_two : (a b : Option Talk) → lowest f 0 (a ∷ b ∷ []) ws ≡ or_else (given_in f 0 (a ∷ b ∷ []) ws a) (given_in f 1 (a ∷ b ∷ []) ws b)
  unfolding lowest passing giving or_else given_in chosen_at
  lowest_two none none = refl
  lowest_two none (some d) = go (f 1 d)
    where
      go : (g : Option Given) → passing none (giving g d [] ws (passing (some d) none)) ≡ chosen_at 1 (none ∷ some d ∷ []) ws d g
      go none = refl
      go (some g) = refl
  lowest_two (some c) none = go (f 0 c)
    where
      go : (g : Option Given) → giving g c (none ∷ []) ws none ≡ or_else (chosen_at 0 (some c ∷ none ∷ []) ws c g) none
      go none = refl
      go (some g) = refl
  lowest_two (some c) (some d) = go (f 0 c) (f 1 d)
    where
      go : (g h : Option Given) → giving g c (some d ∷ []) ws (passing (some c) (giving h d [] ws (passing (some d) none))) ≡ or_else (chosen_at 0 (some c ∷ some d ∷ []) ws c g) (chosen_at 1 (some c ∷ some d ∷ []) ws d h)
      go none none = refl
      go none (some h) = refl
      go (some g) h = refl
