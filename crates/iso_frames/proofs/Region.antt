-- A frame on a region: closed, with no conversation that it concerns, with the first, with the second. Assumes nothing.
use Rattle.std.specs.Prelude.{if◌then◌else◌}
use mathlib.Core.Path.{◌≡◌, refl, sym, ap, ◌∙◌}
use Prim.Native.Nat.{ℕ, ◌+◌, ◌*◌, ◌≤◌, ◌<◌}
use native.Mathlib.Omega.{arith}
use mathlib.Core.Bool.{Bool, true, false}
use mathlib.Core.Option.{none}
use mathlib.Core.List.{List, [], ◌∷◌}
use lib.ListN.{length, get_or, take, drop}
use lib.Dec.{T, eqb, ltb}
use borrow.Author.Tests.{ltb-false, eq-eqb}
use Rattle.codec.specs.Code.{slot}
use Rattle.machine.specs.Codes.{code_of}
use Rattle.machine.specs.Message.{id_limit}
use Rattle.machine.specs.Limits.{most_bytes}
use Rattle.machine.specs.Filter.{Slots}
use Rattle.machine.specs.Channel.{frame_code}
use Rattle.iso.specs.Limits.{most_talks}
use Rattle.iso.specs.Iso.{Talk, OpenIso, Iso, shut, ready, heard, turn_each, news, with_talks, set_receiving, arrive_iso, on_iso_frame}
use Rattle.iso_layout.specs.Sizes.{talk_size, talks_at, iso_region_size}
use Rattle.iso_layout.specs.Region.{talk_cell, iso_region}
use Rattle.iso_layout.specs.Promise.{IsoOpened}
use Rattle.iso_layout.proofs.Good.{GoodIso}
use Rattle.iso_layout.proofs.Region.{again, is_shut, not_shut, ready_of, is_ready_law, kept, good, lies, talk_part}
use Rattle.iso_frames.specs.Frame.{concerned, hears_at}
use Rattle.iso_frames.proofs.One.{none_hears, first_hears, second_hears}

-- ---- a good frame is no longer than one may be, and its identifier within its limit

good_three : (x y z : Bool) → code_of ((x, 0x0A) ∷ (y, 0x0A) ∷ (z, 0x0A) ∷ []) ≡ 0x00 → (y ≡ false) × (z ≡ false)
unfolding code_of
good_three true y z e = absurd (omega arith)
good_three false true z e = absurd (omega arith)
good_three false false true e = absurd (omega arith)
good_three false false false e = (refl, refl)

pub short_frame : (w id : ℕ) (b : List ℕ) → frame_code w id b ≡ 0x00 → length b ≤ most_bytes
unfolding frame_code
short_frame w id b e = ltb-false most_bytes (length b) (good_three (ltb 1 w) (ltb (id_limit (eqb w 1)) id) (ltb most_bytes (length b)) e).1

pub small_id : (w id : ℕ) (b : List ℕ) → frame_code w id b ≡ 0x00 → id ≤ id_limit (eqb w 1)
unfolding frame_code
small_id w id b e = ltb-false (id_limit (eqb w 1)) id (good_three (ltb 1 w) (ltb (id_limit (eqb w 1)) id) (ltb most_bytes (length b)) e).0

module _ (r : List ℕ) (long : length r ≡ iso_region_size) (v : T (iso_region.valid r)) (clock w id : ℕ) (b : List ℕ) where
  abbrev Leaves : List ℕ → Type 0
  Leaves y = y ≡ iso_region.put (on_iso_frame clock (iso_region.get r) w id b)

  pub stays_shut : get_or r 0 0 ≡ 0 → Leaves r
  unfolding on_iso_frame
  stays_shut z =
      let s : iso_region.get r ≡ shut = is_shut r long v z in
      sym (again r long v) ∙ ap iso_region.put s ∙ sym (ap (λ (c : Iso). iso_region.put (on_iso_frame clock c w id b)) s)

  module _ (n : get_or r 0 0 ≡ 0 → ⊥) (fair : frame_code w id b ≡ 0x00) where
    pub is_open : IsoOpened r
    is_open = not_shut r long v n

    abbrev o : OpenIso
    o = ready_of r

    abbrev g : GoodIso o
    g = good r is_open

    abbrev heard_o : OpenIso
    heard_o =
        set_receiving (with_talks o (turn_each (λ c. (heard clock (eqb w 1) id b c).transfer) o.talks))
        (arrive_iso o.receiving (news (λ c. (heard clock (eqb w 1) id b c).records) o.talks))

    becomes_so : (o' : OpenIso) → heard_o ≡ o' → (y : List ℕ) → y ≡ iso_region.put (ready o') → Leaves y
    unfolding on_iso_frame
    becomes_so o' e y q =
        q
        ∙ ap (λ (z : OpenIso). iso_region.put (ready z)) (sym e)
        ∙ ap (λ (t : Bool). iso_region.put (if t then ready heard_o else ready o)) (sym (eq-eqb (frame_code w id b) 0x00 fair))
        ∙ ap (λ (c : Iso). iso_region.put (on_iso_frame clock c w id b)) (sym (is_ready_law r is_open))

    -- the place that code looks at
    pub place_long : (k : ℕ) → k < most_talks → length (take talk_size (drop (talks_at + k * talk_size) r)) ≡ talk_size
    place_long k h = (talk_part o r (lies r is_open) k h).long

    pub is_concerned : (k : ℕ) → k < most_talks → (t : Bool)
        → ((flags : ℕ) → T ((slot (talk_cell flags)).valid (take talk_size (drop (talks_at + k * talk_size) r))) → t ≡ concerned (eqb w 1) id ((slot (talk_cell flags)).get (take talk_size (drop (talks_at + k * talk_size) r))))
        → (t' : Bool) → t ≡ t' → concerned (eqb w 1) id (get_or (ready_of r).talks k none) ≡ t'
    is_concerned k h t e t' q =
        let p = talk_part o r (lies r is_open) k h in
        sym (e o.config.flags p.valid ∙ ap (concerned (eqb w 1) id) p.got) ∙ q

    first_is : get_or o.talks 0 none ≡ g.one
    first_is = ap (λ (ts : Slots Talk). get_or ts 0 none) g.talks_are

    second_is : get_or o.talks 1 none ≡ g.two
    second_is = ap (λ (ts : Slots Talk). get_or ts 1 none) g.talks_are

    as_one : {t : Bool} → concerned (eqb w 1) id (get_or o.talks 0 none) ≡ t → concerned (eqb w 1) id g.one ≡ t
    as_one e = ap (concerned (eqb w 1) id) (sym first_is) ∙ e

    as_two : {t : Bool} → concerned (eqb w 1) id (get_or o.talks 1 none) ≡ t → concerned (eqb w 1) id g.two ≡ t
    as_two e = ap (concerned (eqb w 1) id) (sym second_is) ∙ e

    pub none_left : concerned (eqb w 1) id (get_or (ready_of r).talks 0 none) ≡ false → concerned (eqb w 1) id (get_or (ready_of r).talks 1 none) ≡ false → Leaves r
    none_left p q = becomes_so o (none_hears clock (eqb w 1) id b o g (as_one p) (as_two q)) r (sym (kept r is_open))

    pub first_left : concerned (eqb w 1) id (get_or (ready_of r).talks 0 none) ≡ true → (y : List ℕ) → y ≡ iso_region.put (ready (hears_at 0 clock b (ready_of r))) → Leaves y
    first_left p y e = becomes_so (hears_at 0 clock b o) (first_hears clock (eqb w 1) id b o g (as_one p)) y e

    pub second_left : concerned (eqb w 1) id (get_or (ready_of r).talks 0 none) ≡ false → concerned (eqb w 1) id (get_or (ready_of r).talks 1 none) ≡ true → (y : List ℕ)
        → y ≡ iso_region.put (ready (hears_at 1 clock b (ready_of r))) → Leaves y
    second_left p q y e = becomes_so (hears_at 1 clock b o) (second_hears clock (eqb w 1) id b o g (as_one p) (as_two q)) y e
