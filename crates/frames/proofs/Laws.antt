-- A frame's twelve bytes, and when it is queued. Assumes nothing.
use mathlib.Core.Path.{◌≡◌, refl, sym, ap, ap₂, subst, ◌∙◌}
use Prim.Native.Nat.{ℕ, ◌+◌, ◌≤◌, ◌<◌}
use mathlib.Core.Bool.{Bool, true, false}
use mathlib.Core.List.{List, ◌++◌}
use lib.ListN.{length, take, drop, length-append}
use Rattle.codec.specs.Word.{word_at}
use Rattle.machine.specs.Limits.{most_data}
use Rattle.machine.specs.Message.{takes, id_bytes, twelve, width_flag, received}
use Rattle.machine.specs.Filter.{Slots, Filter, passes}
use Rattle.machine.specs.Channel.{Chan, offered}
use Rattle.layout.specs.Sizes.{filters_at, mapped_size}
use Rattle.layout.specs.Memory.{mapped, region}
use Rattle.layout.specs.Promise.{Opened}
use Rattle.layout.proofs.Region.{open_of, kept, is_open, word_of, flags_part, filters_part}
use Rattle.records.specs.Cell.{padded}
use Rattle.queue.specs.Queue.{arrived}
use Rattle.verdict.proofs.Frame.{of_its_row, within_its_row}

-- ---- twelve bytes, as a record has them

pub as_row : (b : List ℕ) → padded most_data b ≡ twelve b
unfolding padded twelve
as_row b = refl

-- ---- how many bytes a frame has: the identifier's four and its data

pub frame_long : (id : ℕ) (b : List ℕ) → 4 + length b ≡ length (id_bytes id ++ b)
unfolding id_bytes
frame_long id b = sym (length-append (id_bytes id) b)

pub row_holds : (id : ℕ) (b frame : List ℕ) → frame ≡ twelve (id_bytes id ++ b) → 4 + length b ≤ length frame
row_holds id b frame e =
    subst (λ (x : List ℕ). 4 + length b ≤ length x) (sym e) (subst (λ (n : ℕ). n ≤ length (twelve (id_bytes id ++ b))) (sym (frame_long id b)) (within_its_row (id_bytes id ++ b)))

-- ---- offered

module _ (r : List ℕ) (f : Opened r) (now : ℕ) (w : Bool) (bytes : List ℕ) where
  pub not_taken : takes (open_of r).config.flags w ≡ false → r ≡ region.put (offered now (open_of r) w bytes)
  unfolding offered
  not_taken h = sym (kept r f) ∙ ap region.put (sym (rw h refl))

  pub kept_out : takes (open_of r).config.flags w ≡ true → passes (open_of r).filters w bytes ≡ false → r ≡ region.put (offered now (open_of r) w bytes)
  unfolding offered
  kept_out h g = sym (kept r f) ∙ ap region.put (sym (rw h (rw g refl)))

  pub let_in : takes (open_of r).config.flags w ≡ true → passes (open_of r).filters w bytes ≡ true → (ys : List ℕ) → ys ≡ region.put (arrived (received now (width_flag w) bytes) (region.get r))
      → ys ≡ region.put (offered now (open_of r) w bytes)
  unfolding offered arrived
  let_in h g ys e = e ∙ ap (λ (c : Chan). region.put (arrived (received now (width_flag w) bytes) c)) (is_open r f) ∙ ap region.put (sym (rw h (rw g refl)))

  -- as code finds it out
  pub width_taken : (n : ℕ) (b : Bool) → n ≡ word_at 1 r → b ≡ takes n w → b ≡ takes (open_of r).config.flags w
  width_taken n b e t = t ∙ ap (λ (k : ℕ). takes k w) (e ∙ word_of (flags_part r f))

  pub row_is : (frame : List ℕ) (len : ℕ) → frame ≡ twelve bytes → len ≡ length bytes → take len frame ≡ bytes
  row_is frame len e l = ap₂ (λ (n : ℕ) (x : List ℕ). take n x) l e ∙ of_its_row bytes

  pub verdict_is : (b : Bool) → ((flags : ℕ) → b ≡ passes ((mapped flags).get (take mapped_size (drop filters_at r))) w bytes) → b ≡ passes (open_of r).filters w bytes
  verdict_is b v = v (open_of r).config.flags ∙ ap (λ (fs : Slots Filter). passes fs w bytes) (filters_part r f).got
