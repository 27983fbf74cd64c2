-- What goes in flight next: where its bytes lie in the three stores; and the written store without its oldest record. Assumes nothing.
use Rattle.std.specs.Prelude.{if◌then◌else◌}
use mathlib.Core.Path.{◌≡◌, refl, sym, ap, ◌∙◌}
use Prim.Native.Nat.{ℕ, zero, suc, ◌+◌, ◌*◌, ◌-◌, ◌≤◌, ◌<◌}
use native.Mathlib.Nat.{not-suc-le-zero}
use native.Mathlib.Omega.{arith}
use mathlib.Core.Bool.{Bool, true, false}
use mathlib.Core.List.{List, [], ◌∷◌, ◌++◌, append-nil}
use lib.ListN.{length, get_or, set, take, drop, length-drop}
use lib.Seq.{take_all, length-take-le}
use lib.Dec.{T}
use borrow.Rule.Slice.PartMut.{put_mid}
use Rattle.codec.specs.Plain.{zeros}
use Rattle.codec.specs.Code.{such, get_all, put_all, up_to}
use Rattle.codec.proofs.Lists.{part_long}
use Rattle.codec.proofs.Store.{oldest_out, oldest_gone}
use Rattle.machine.specs.Message.{Rec}
use Rattle.machine.specs.Filter.{Slots}
use Rattle.machine.specs.Channel.{Periodic, next}
use Rattle.machine.specs.Limits.{most_places, most_written, record_size}
use Rattle.layout.specs.Sizes.{written_size, messages_in}
use Rattle.layout.specs.Record.{rec36, out_cell}
use Rattle.layout.specs.Memory.{periodics}
use Rattle.layout.proofs.Memory.{out_lawful, shown_is}
use Rattle.layout.proofs.Sizes.{out_size_law}
use Rattle.stores.specs.Written.{written, WrittenPart}
use Rattle.stores.proofs.Periodics.{any_get, ten_held, message_at}
use Rattle.stores.proofs.Written.{holds_ok, holds_is, holds_count}
use Rattle.pending.proofs.Next.{waiting, next_pending, next_oldest}
use Rattle.pending.proofs.Next.{oldest as oldest_of}
use Rattle.pending.proofs.Any.{any_pending, any_pending_law, none_pending}
use Rattle.choosing.specs.Choice.{next_shown, choice_shown, Choosing}

-- some are written: the oldest and the others
pub record Several (ws : List Rec) : Type 0 where
  pub oldest : Rec
  pub others : List Rec
  pub are : ws ≡ oldest ∷ others

pub several : (ws : List Rec) → 0 < length ws → Several ws
several [] h = absurd (not-suc-le-zero h)
several (x ∷ ws) h = record { oldest = x; others = ws; are = refl }

-- what is read of a written store does not depend on the flags
any_records : (j k n : ℕ) (m : List ℕ) → get_all (out_cell j) n m ≡ get_all (out_cell k) n m
unfolding out_cell such
any_records j k zero m = refl
any_records j k (suc n) m = ap (λ (r : List Rec). rec36.get (take rec36.size m) ∷ r) (any_records j k n (drop rec36.size m))

any_written : (j k : ℕ) (m : List ℕ) → (written j).get m ≡ (written k).get m
unfolding up_to
any_written j k m = any_records j k (get_or m 0 0) (drop 1 m)

-- ---- the bytes of the choice

-- of which of the three they are
module _ (ps : Slots Periodic) (t : List ℕ) (ws : List Rec) where
  pub of_telegram : {there : Bool} → any_pending ps ≡ false → there ≡ true → choice_shown ps there t ws ≡ t
  unfolding choice_shown
  of_telegram h e = rw h (rw e refl)

  of_periodics : (there : Bool) → any_pending ps ≡ true → choice_shown ps there t ws ≡ next_shown (next ps ws)
  unfolding choice_shown
  of_periodics there h = rw h refl

  pub of_others : {there : Bool} → there ≡ false → choice_shown ps there t ws ≡ next_shown (next ps ws)
  unfolding choice_shown
  of_others e = rw e (by (any_pending ps))
    where
      by : (b : Bool) → (if b then next_shown (next ps ws) else next_shown (next ps ws)) ≡ next_shown (next ps ws)
      by true = refl
      by false = refl

module _ {p t w : List ℕ} {i : ℕ} {there : Bool} (q : Choosing p t w i there) where
  abbrev flags : ℕ
  flags = q.part.flags

  abbrev ps : Slots Periodic
  ps = (periodics flags).get p

  abbrev ws : List Rec
  ws = (written flags).get w

  -- whatever the flags
  chosen_any : {x : List ℕ} → x ≡ choice_shown ps there t ws → (k : ℕ) → x ≡ choice_shown ((periodics k).get p) there t ((written k).get w)
  chosen_any e k = e ∙ (λ j. choice_shown (any_get flags k p j) there t (any_written flags k w j))

  pub pending_shown : i < most_places → (k : ℕ) → take (messages_in + i * record_size + record_size - (messages_in + i * record_size)) (drop (messages_in + i * record_size) p) ≡ choice_shown ((periodics k).get p) there t ((written k).get w)
  unfolding next_shown
  pending_shown h =
      let x = waiting ps (ten_held p q.part) i q.first h in
      let size : messages_in + i * record_size + record_size - (messages_in + i * record_size) ≡ record_size = omega arith in
      chosen_any
      (ap (λ (n : ℕ). take n (drop (messages_in + i * record_size) p)) size ∙ message_at p q.part i h x.one x.there ∙ sym (shown_is x.one.message)
      ∙ sym (ap next_shown (next_pending ps (ten_held p q.part) i q.first ws x.one x.there)) ∙ sym (of_periodics ps t ws there (any_pending_law ps (ten_held p q.part) q.first h)))

  pub pending_long : i < most_places → length (take (messages_in + i * record_size + record_size - (messages_in + i * record_size)) (drop (messages_in + i * record_size) p)) ≡ record_size
  pending_long h = part_long (messages_in + i * record_size) record_size p (omega (arith, q.part.long))

  pub telegram_shown : most_places ≤ i → there ≡ true → (k : ℕ) → take record_size t ≡ choice_shown ((periodics k).get p) there t ((written k).get w)
  telegram_shown h e = chosen_any (take_all record_size t (omega (arith, q.one)) ∙ sym (of_telegram ps t ws (none_pending ps (ten_held p q.part) q.first h) e))

  pub telegram_long : length (take record_size t) ≡ record_size
  telegram_long = length-take-le record_size t (omega (arith, q.one))

  pub oldest_shown : most_places ≤ i → there ≡ false → (k : ℕ) → take record_size (drop 1 w) ≡ choice_shown ((periodics k).get p) there t ((written k).get w)
  unfolding next_shown out_cell such
  oldest_shown h e =
      let s = several ws (omega (arith, q.something h e, holds_count q.store)) in
      chosen_any
      (oldest_out (out_lawful flags) most_written record_size (out_size_law flags) ws (holds_is q.store) (holds_ok q.store) 1 (omega (arith, q.something h e, holds_count q.store))
      ∙ ap (λ (x : List Rec). put_all (out_cell flags) (take 1 x)) s.are ∙ append-nil (rec36.put s.oldest)
      ∙ sym (shown_is s.oldest)
      ∙ sym (ap next_shown (next_oldest ps (ten_held p q.part) i q.first ws h ∙ ap (oldest_of ps) s.are)) ∙ sym (of_others ps t ws e))

  pub oldest_long : length (take record_size (drop 1 w)) ≡ record_size
  oldest_long = length-take-le record_size (drop 1 w) (omega (arith, length-drop 1 w, q.store.long))

-- ---- the written store without its oldest record

module _ (store : List ℕ) (long : length store ≡ written_size) (some_held : 0 < get_or store 0 0) {ys : List ℕ}
    (moved : ys ≡ drop record_size (take (1 + record_size * get_or store 0 0 - 1) (drop 1 store)) ++ zeros record_size) where
  pub without_oldest : (flags : ℕ) → T ((written flags).valid store) → set (put_mid 1 (1 + record_size * get_or store 0 0 - 1) store ys) 0 (get_or store 0 0 - 1) ≡ (written flags).put (drop 1 ((written flags).get store))
  without_oldest flags v =
      let w : WrittenPart flags store = record { long = long; valid = v } in
      let n = holds_count w in
      oldest_gone (out_lawful flags) most_written record_size (out_size_law flags) ((written flags).get store) (holds_is w) (holds_ok w) 1 (1 + record_size * get_or store 0 0 - 1) (get_or store 0 0 - 1) (omega arith) (omega arith) moved (omega arith)
