-- What the walk finds in the columns is what is held, and what becomes of a frame by it. Assumes nothing.
use mathlib.Core.Path.{◌≡◌, sym, ap, ap₂, ◌∙◌}
use Prim.Native.Nat.{ℕ}
use mathlib.Core.Bool.{Bool, true, false}
use mathlib.Core.List.{List}
use lib.ListN.{length, take, drop}
use Rattle.codec.specs.Word.{word_at}
use Rattle.machine.specs.Message.{takes, twelve}
use Rattle.machine.specs.Filter.{Slots, Filter, hits}
use Rattle.layout.specs.Sizes.{masks_in, patterns_in, filters_at, filters_size}
use Rattle.layout.specs.Memory.{filters}
use Rattle.layout.specs.Promise.{Opened}
use Rattle.layout.proofs.Region.{open_of, word_of, flags_part}
use Rattle.filterbank.specs.Part.{FilterPart}
use Rattle.filterbank.proofs.Lent.{held_is}
use Rattle.filterwalk.specs.Columns.{ten_rows, filters_in}
use Rattle.verdict.proofs.Columns.{columns_held}
use Rattle.verdict.proofs.Frame.{of_its_row}
use Rattle.shift.specs.Numbers.{fits, wanted, unwanted}
use Rattle.fates.specs.Fates.{fate_by, fate_if, fate_of}

-- ---- by the filters

module _ (m : List ℕ) (v : FilterPart m) (masks patterns : List (List ℕ)) (em : masks ≡ ten_rows masks_in m) (ep : patterns ≡ ten_rows patterns_in m) (wide : Bool) (frame : List ℕ) where
  -- what the walk finds of a kind
  found : (block b : Bool) → b ≡ hits block (filters_in (take masks_in m) masks patterns) wide frame → (flags : ℕ) → b ≡ hits block ((filters flags).get m) wide frame
  found block b e flags =
      e
      ∙ ap₂ (λ (x y : List (List ℕ)). hits block (filters_in (take masks_in m) x y) wide frame) em ep
      ∙ ap (λ (fs : Slots Filter). hits block fs wide frame) (columns_held m v flags)

  abbrev Fate : ℕ → ℕ → Type 0
  Fate n flags = n ≡ fate_by (hits false ((filters flags).get m) wide frame) (hits true ((filters flags).get m) wide frame)

  pub unmatched : (p : Bool) → p ≡ hits false (filters_in (take masks_in m) masks patterns) wide frame → p ≡ false → (flags : ℕ) → Fate 2 flags
  unfolding fate_by
  unmatched p e n flags = ap (λ (x : Bool). fate_by x (hits true ((filters flags).get m) wide frame)) (sym n ∙ found false p e flags)

  module _ (p q : Bool) (e : p ≡ hits false (filters_in (take masks_in m) masks patterns) wide frame) (t : p ≡ true) (f : q ≡ hits true (filters_in (take masks_in m) masks patterns) wide frame) where
    by_both : (flags : ℕ) → fate_by true q ≡ fate_by (hits false ((filters flags).get m) wide frame) (hits true ((filters flags).get m) wide frame)
    by_both flags = ap₂ fate_by (sym t ∙ found false p e flags) (found true q f flags)

    pub blocked : q ≡ true → (flags : ℕ) → Fate 3 flags
    unfolding fate_by
    blocked y flags = ap (fate_by true) (sym y) ∙ by_both flags

    pub passed : q ≡ false → (flags : ℕ) → Fate 4 flags
    unfolding fate_by
    passed y flags = ap (fate_by true) (sym y) ∙ by_both flags

-- ---- by the width, then by the filters

module _ (r : List ℕ) (f : Opened r) (wide : Bool) (bytes : List ℕ) where
  width_taken : (n : ℕ) (b : Bool) → n ≡ word_at 1 r → b ≡ takes n wide → b ≡ fits (open_of r) wide bytes
  unfolding fits
  width_taken n b e t = t ∙ ap (λ (k : ℕ). takes k wide) (e ∙ word_of (flags_part r f))

  module _ (n : ℕ) (b : Bool) (e : n ≡ word_at 1 r) (t : b ≡ takes n wide) where
    pub not_taken : b ≡ false → 1 ≡ fate_of (open_of r) wide bytes
    unfolding fate_of fate_if
    not_taken z = ap (λ (x : Bool). fate_if x (fate_by (wanted (open_of r) wide bytes) (unwanted (open_of r) wide bytes))) (sym z ∙ width_taken n b e t)

    pub taken : b ≡ true → (frame : List ℕ) (len fate : ℕ) → frame ≡ twelve bytes → len ≡ length bytes
        → ((flags : ℕ) → fate ≡ fate_by (hits false ((filters flags).get (take filters_size (drop filters_at r))) wide (take len frame)) (hits true ((filters flags).get (take filters_size (drop filters_at r))) wide (take len frame)))
        → fate ≡ fate_of (open_of r) wide bytes
    unfolding fate_of fate_if wanted unwanted
    taken y frame len fate ef el v =
        let k : ℕ = (open_of r).config.flags in
        v k
        ∙ ap₂ (λ (fs : Slots Filter) (x : List ℕ). fate_by (hits false fs wide x) (hits true fs wide x)) (held_is r f k) (ap₂ (λ (i : ℕ) (x : List ℕ). take i x) el ef ∙ of_its_row bytes)
        ∙ ap (λ (x : Bool). fate_if x (fate_by (hits false (open_of r).filters wide bytes) (hits true (open_of r).filters wide bytes))) (sym y ∙ width_taken n b e t)
