-- THE SECOND WALK, for filters and for periodics: n entries that read, each written at the place of its number. Assumes nothing.
use Prim.Native.Nat.{ℕ, zero, suc, ◌-◌, ◌≤◌}
use mathlib.Core.Path.{◌≡◌, refl, sym, ap, ap₂, ◌∙◌, subst}
use mathlib.Core.Bool.{Bool}
use mathlib.Core.Option.{Option, some}
use mathlib.Core.List.{List, [], map}
use native.Mathlib.Omega.{arith}
use lib.Dec.{T}
use lib.ListN.{length, set}
use Rattle.codec.specs.Plain.{zeros}
use Rattle.codec.specs.Code.{Code}
use Rattle.codec.proofs.Lawful.{Lawful}
use Rattle.codec.proofs.Rows.{Rows, rows_set}
use Rattle.codec.proofs.Cells.{map_set}
use Rattle.number.specs.Laws.{Bytes}
use Rattle.number.specs.Reads.{Reads}
use Rattle.machine.specs.Limits.{most_places}
use Rattle.machine.specs.Filter.{Slots, none_yet}
use Rattle.machine.specs.Store.{each_in, slots_in}
use Rattle.setups.specs.Saved.{filled}
use Rattle.setups.proofs.Reading.{done_there}
use Rattle.store_filling.specs.Filling.{NumberThere, There, Room, Gives}
use Rattle.store_filling.proofs.Entries.{First, first, slots_read}

-- entries are read by p and lie in places of the code d; g makes what is kept of one
module _ {A B : Type 0} (p : ℕ → Reads A) (g : Option A → Option B) (d : ℕ → Code (Slots B)) where
  pub record Kept (size : ℕ) : Type 0 where
    pub sized : (k : ℕ) → (d k).size ≡ size
    pub lawful : (k : ℕ) → Lawful (d k)
    pub place : ℕ → Option B → Bool
    pub rows : (k : ℕ) → Rows most_places (d k) (place k)
    pub empty : (k : ℕ) → T ((d k).ok (map g none_yet))
    pub none_is : (k : ℕ) → (d k).put (map g none_yet) ≡ zeros size
    pub fits : (s : List ℕ) → Bytes s → (k at : ℕ) (a : A) (n : ℕ) → p k s at ≡ some (a, n) → T (place k (g (some a)))

  -- what is left to be written, and what was: together they are the entries es
  pub record Rest (s : List ℕ) (flags : ℕ) (es : List (ℕ × A)) (end : ℕ) (m : List ℕ) (next left : ℕ) : Type 0 where
    pub before : ℕ
    pub more : List (ℕ × A)
    pub read : each_in (p flags) before left s next ≡ some (more, end)
    pub slots : Slots A
    pub ok : T ((d flags).ok (map g slots))
    pub is : m ≡ (d flags).put (map g slots)
    pub same : filled slots more ≡ filled none_yet es

  abbrev pub Walked : List ℕ → ℕ → ℕ → List ℕ → ℕ → ℕ → Type 0
  Walked s at n m next left = (flags : ℕ) (es : List (ℕ × A)) (end : ℕ) → each_in (p flags) 0 n s at ≡ some (es, end) → Rest s flags es end m next left

  abbrev Listed : List ℕ → ℕ → ℕ → Type 0
  Listed s at n = There (λ k. each_in (p k) 0 n) s at

  -- what the places hold in the end can be held there
  pub filled_ok : (size : ℕ) → Kept size → (s : List ℕ) → Bytes s → (flags n before at : ℕ) (slots : Slots A) (es : List (ℕ × A)) (end : ℕ) → T ((d flags).ok (map g slots))
      → each_in (p flags) before n s at ≡ some (es, end) → T ((d flags).ok (map g (filled slots es)))
  unfolding each_in filled
  filled_ok size law s b flags zero before at slots es end t e = subst (λ (x : List (ℕ × A)). T ((d flags).ok (map g (filled slots x)))) (done_there [] es s at end e).0 t
  filled_ok size law s b flags (suc n) before at slots es end t e =
      let f = first (p flags) before n s at es end e in
      let i : ℕ = f.number_of - 1 in
      let k =
      rows_set (law.rows flags) (map g slots) i (g (some f.what)) t (law.fits s b flags f.place f.what f.after f.entry) in
      subst (λ (x : List (ℕ × A)). T ((d flags).ok (map g (filled slots x)))) f.is
      (filled_ok size law s b flags n f.number_of f.after (set slots i (some f.what)) f.others end
      (subst (λ (x : Slots B). T ((d flags).ok x)) (sym (map_set g slots i (some f.what))) k) f.rest)

  pub slots_ok : (size : ℕ) → Kept size → (s : List ℕ) → Bytes s → (flags at : ℕ) (v : Slots A) (next : ℕ) → slots_in (p flags) s at ≡ some (v, next) → T ((d flags).ok (map g v))
  slots_ok size law s b flags at v next e =
      let q = slots_read (p flags) s at v next e in
      subst (λ (x : Slots A). T ((d flags).ok (map g x))) q.is (filled_ok size law s b flags q.count 0 q.place none_yet q.es next (law.empty flags) q.each)

  module _ (size : ℕ) (law : Kept size) (s : List ℕ) (at n : ℕ) where
    pub walk_starts : (m : List ℕ) (left : ℕ) → left ≡ n → m ≡ zeros size → Walked s at n m at left
    walk_starts m left z e flags es end r = record { before = 0; more = es; read = ap (λ (k : ℕ). each_in (p flags) 0 k s at) z ∙ r; slots = none_yet; ok = law.empty flags; is = e ∙ sym (law.none_is flags); same = refl }

    pub walk_ends : (m : List ℕ) (next left : ℕ) → left ≡ 0 → Walked s at n m next left → Gives (λ k. each_in (p k) 0 n) s at next m (λ k es. (d k).put (map g (filled none_yet es)))
    unfolding each_in filled
    walk_ends m next left z w flags es end r =
        let q = w flags es end r in
        let e = done_there {A = List (ℕ × A)} [] q.more s next end (ap (λ (l : ℕ). each_in (p flags) q.before l s next) (sym z) ∙ q.read) in
        let f : q.slots ≡ filled none_yet es = ap (filled q.slots) e.0 ∙ q.same in
        (e.1, q.is ∙ ap (λ (x : Slots A). (d flags).put (map g x)) f)

    -- one turn
    module _ (m : List ℕ) (next left l : ℕ) (h : left ≡ suc l) (w : Walked s at n m next left) (v place : ℕ) (there : NumberThere s next v place) where
      one : (flags : ℕ) (es : List (ℕ × A)) (end : ℕ) (q : Rest s flags es end m next left) → First (p flags) q.before l s next q.more end
      one flags es end q = first (p flags) q.before l s next q.more end (ap (λ (j : ℕ). each_in (p flags) q.before j s next) (sym h) ∙ q.read)

      entry_is : (flags : ℕ) (es : List (ℕ × A)) (end : ℕ) (q : Rest s flags es end m next left) → let f = one flags es end q in p flags s place ≡ some (f.what, f.after)
      entry_is flags es end q = let f = one flags es end q in ap (p flags s) (there f.number_of f.place f.begins).1 ∙ f.entry

      pub turn_room : Listed s at n → Room p d m s place
      turn_room t =
          let k : ℕ = t.flags in
          let q = w k t.what t.next t.read in
          let f = one k t.what t.next q in
          record {
            entry = record { flags = k; what = f.what; next = f.after; read = entry_is k t.what t.next q };
            long = ap length q.is ∙ (law.lawful k).long (map g q.slots) q.ok;
            valid = subst (λ (x : List ℕ). T ((d k).valid x)) (sym q.is) ((law.lawful k).valid_put (map g q.slots) q.ok);
          }

      pub turn_number : Listed s at n → (1 ≤ v) × (v ≤ most_places)
      turn_number t =
          let f = one t.flags t.what t.next (w t.flags t.what t.next t.read) in
          let e = (there f.number_of f.place f.begins).0 in
          let a = f.low in
          let b = f.high in
          (omega arith, omega arith)

      pub turn_walks : Bytes s → (r : ℕ) (m' : List ℕ) → Gives p s place r m' (λ k a. (d k).put (set ((d k).get m) (v - 1) (g (some a)))) → Walked s at n m' r l
      unfolding filled
      turn_walks b r m' gives flags es end t =
          let q = w flags es end t in
          let f = one flags es end q in
          let e = entry_is flags es end q in
          let o = gives flags f.what f.after e in
          let i : ℕ = f.number_of - 1 in
          let index : v - 1 ≡ i = ap (λ (j : ℕ). j - 1) (there f.number_of f.place f.begins).0 in
          let held : (d flags).get m ≡ map g q.slots = ap (d flags).get q.is ∙ (law.lawful flags).get_put (map g q.slots) q.ok in
          let kept : map g (set q.slots i (some f.what)) ≡ set (map g q.slots) i (g (some f.what)) = map_set g q.slots i (some f.what) in
          record {
            before = f.number_of;
            more = f.others;
            read = ap (λ (j : ℕ). each_in (p flags) f.number_of l s j) o.0 ∙ f.rest;
            slots = set q.slots i (some f.what);
            ok =
                subst (λ (x : Slots B). T ((d flags).ok x)) (sym kept)
                (rows_set (law.rows flags) (map g q.slots) i (g (some f.what)) q.ok (law.fits s b flags place f.what f.after e));
            is = o.1 ∙ ap₂ (λ (x : Slots B) (j : ℕ). (d flags).put (set x j (g (some f.what)))) held index ∙ ap (d flags).put (sym kept);
            same = ap (filled q.slots) f.is ∙ q.same;
          }
