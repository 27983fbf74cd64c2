-- Write of raw CAN: one message, a loop over messages, and the region of an open channel after it. Assumes nothing.
use mathlib.Core.Path.{◌≡◌, refl, sym, ap, ap₂, ◌∙◌, subst}
use Prim.Native.Nat.{ℕ, suc, ◌+◌, ◌*◌, ◌-◌, ◌≤◌, ◌<◌}
use native.Mathlib.Omega.{arith}
use mathlib.Core.Bool.{Bool, false, not}
use mathlib.Core.List.{List, [], ◌∷◌, ◌++◌}
use lib.ListN.{length, get_or, set, take, drop}
use lib.Dec.{T}
use borrow.Author.Tests.{ne_eqb, le-leb, lt-leb, lt-ltb, le-ltb}
use borrow.Rule.Slice.PartMut.{put_mid}
use Rattle.codec.specs.Plain.{all, is_byte}
use Rattle.codec.specs.Word.{word_at}
use Rattle.codec.specs.Code.{such}
use Rattle.codec.proofs.Lists.{part_long}
use Rattle.codec.proofs.Store.{one_more}
use Rattle.codec.proofs.Many.{up_to_lawful}
use Rattle.machine.specs.Codes.{code_of}
use Rattle.machine.specs.Message.{Rec, message_code, clean}
use Rattle.machine.specs.Channel.{write, listens, unless, shorter, Wrote, write_code, unless_stopped, writing, on_write, on_open}
use Rattle.machine.specs.Limits.{most_written, record_size}
use Rattle.layout.specs.Sizes.{written_at, written_size, flags_at}
use Rattle.layout.specs.Record.{rec36, out_cell}
use Rattle.layout.specs.Promise.{Opened, gives, call_outcome}
use Rattle.layout.proofs.Memory.{out_lawful}
use Rattle.layout.proofs.Sizes.{out_size_law, written_size_law}
use Rattle.layout.proofs.Calls.{writing_ok}
use Rattle.layout.proofs.Good.{fl}
use Rattle.layout.proofs.Region.{open_of, moves, stays, word_of, flags_part, written_part}
use Rattle.stores.specs.Written.{written, WrittenPart}
use Rattle.stores.proofs.Written.{holds, holds_ok, holds_is, holds_count}
use Rattle.writing.specs.Store.{Queued, Stopped, StorePart, Laws, raw}
use Rattle.writing.proofs.Loop.{one_queued, refused_as}

-- ---- one message

module _ (flags : ℕ) (held : List Rec) (m : List ℕ) where
  code_bad : (message_code flags m ≡ 0 → ⊥) → write_code flags held m ≡ message_code flags m
  unfolding write_code code_of
  code_bad n = rw (ne_eqb (message_code flags m) 0 n) refl

  code_full : message_code flags m ≡ 0 → most_written ≤ length held → write_code flags held m ≡ 0x11
  unfolding write_code code_of
  code_full e h = rw (e, le-leb most_written (length held) h) refl

  code_good : message_code flags m ≡ 0 → length held < most_written → write_code flags held m ≡ 0
  unfolding write_code code_of
  code_good e h = rw (e, lt-leb most_written (length held) h) refl

module _ {flags : ℕ} {store : List ℕ} (w : WrittenPart flags store) where
  -- what one message leaves
  abbrev After : List ℕ → ℕ → List ℕ → Type 0
  After m code after = Queued (written flags) (write_code flags) store m code after

  pub bad_message : (m : List ℕ) (code : ℕ) → code ≡ message_code flags m → (code ≡ 0 → ⊥) → After m code store
  bad_message m code e n = refused_as store m code (holds_is w) n (code_bad flags (holds w) m (λ z. n (e ∙ z)) ∙ sym e)

  pub no_room : (m : List ℕ) → message_code flags m ≡ 0 → most_written ≤ get_or store 0 0 → After m 0x11 store
  no_room m e h = refused_as store m 0x11 (holds_is w) (λ z. omega arith) (code_full flags (holds w) m e (omega (arith, holds_count w)))

  -- where the next record begins
  abbrev pub next_at : ℕ
  next_at = 1 + record_size * get_or store 0 0

  pub room : get_or store 0 0 < most_written → length (take (next_at + record_size - next_at) (drop next_at store)) ≡ record_size
  room h = part_long next_at record_size store (omega (arith, w.long))

  pub stored : (m ys : List ℕ) → message_code flags m ≡ 0 → get_or store 0 0 < most_written → ys ≡ rec36.put (clean m)
      → After m 0 (set (put_mid next_at (next_at + record_size - next_at) store ys) 0 (get_or store 0 0 + 1))
  unfolding out_cell such
  stored m ys e h ey =
      let n : get_or store 0 0 ≡ length (holds w) = holds_count w in
      let code : write_code flags (holds w) m ≡ 0 = code_good flags (holds w) m e (omega arith) in
      record {
        code_is = sym code;
        store_is =
            one_more (out_lawful flags) most_written record_size (out_size_law flags) (holds w) (holds_is w) (holds_ok w) (clean m) next_at (next_at + record_size - next_at) (get_or store 0 0 + 1) (omega arith) ey
            (omega arith) (omega arith) (omega arith)
            ∙ ap (written flags).put (sym (one_queued (write_code flags (holds w) m) (holds w) m code));
      }

-- ---- the loop

pub more_ok : (flags : ℕ) → T (not (listens flags)) → (held : List Rec) (m : List ℕ) → write_code flags held m ≡ 0 → record_size ≤ length m → T (all is_byte m) → T ((written flags).ok held) → T ((written flags).ok (held ++ clean m ∷ []))
unfolding writing unless_stopped
more_ok flags may held m e h b t =
    subst (λ (k : ℕ). T ((written flags).ok (unless_stopped k held 0 (record { held = held ++ clean m ∷ []; count = 1; code = 0 })).held)) e (writing_ok flags 1 may m held 0 (omega arith) b t)

pub none_left : (flags : ℕ) (b : List ℕ) (held : List Rec) (count : ℕ) → writing flags 0 b held count ≡ record { held = held; count = count; code = 0 }
unfolding writing
none_left flags b held count = refl

pub one_left : (flags n : ℕ) (b : List ℕ) (held : List Rec) (count : ℕ)
    → writing flags (suc n) b held count ≡ unless_stopped (write_code flags held b) held count (writing flags n (drop record_size b) (held ++ clean b ∷ []) (count + 1))
unfolding writing
one_left flags n b held count = refl

-- a write of raw CAN, on no listener
pub raw_laws : (flags : ℕ) → T (not (listens flags)) → Laws (raw flags)
raw_laws flags may =
    record {
      lawful = up_to_lawful (out_lawful flags) most_written;
      none_left = none_left flags;
      one_left = one_left flags;
      more_ok = more_ok flags may;
    }

pub part_is : {flags : ℕ} {m : List ℕ} → WrittenPart flags m → StorePart (raw flags) m
part_is {flags} w = record { long = w.long ∙ sym (written_size_law flags); valid = w.valid }

pub is_part : {flags : ℕ} {m : List ℕ} → StorePart (raw flags) m → WrittenPart flags m
is_part {flags} w = record { long = w.long ∙ written_size_law flags; valid = w.valid }

-- ---- on the region of an open channel

module _ {r : List ℕ} (o : Opened r) {flags : ℕ} (e : flags ≡ word_at flags_at r) where
  pub flags_are : flags ≡ fl (open_of r)
  flags_are = e ∙ word_of (flags_part r o)

  pub speaking : listens (word_at flags_at r) ≡ false → T (not (listens flags))
  speaking s = subst (λ (b : Bool). T (not b)) (sym (ap listens e ∙ s)) tt

  pub written_lent : WrittenPart flags (take written_size (drop written_at r))
  written_lent =
      subst (λ (k : ℕ). WrittenPart k (take written_size (drop written_at r))) (sym flags_are) (record { long = (written_part r o).long; valid = (written_part r o).valid })

  pub write_done : (rates : List ℕ) (t n : ℕ) (b : List ℕ) {code count : ℕ} {ys : List ℕ} → record_size * n ≤ length b → Stopped (written flags) (writing flags n b ((written flags).get (take written_size (drop written_at r))) 0) code count ys
      → gives code count [] (put_mid written_at written_size r ys) ≡ call_outcome rates t r (write n b)
  unfolding on_open on_write unless code_of shorter
  write_done rates t n b {code} {count} {ys} h s =
      let k : ℕ = fl (open_of r) in
      let w : Wrote = writing k n b (open_of r).sending.written 0 in
      let d : Stopped (written k) w code count ys =
      subst (λ (x : List Rec). Stopped (written k) (writing k n b x 0) code count ys) (written_part r o).got
      (subst (λ (j : ℕ). Stopped (written j) (writing j n b ((written j).get (take written_size (drop written_at r))) 0) code count ys) flags_are s) in
      ap₂ (λ (x y : ℕ). gives x y [] (put_mid written_at written_size r ys)) d.code_is d.count_is
      ∙ moves r o rates t (write n b) _ w.code w.count [] _ (rw (le-ltb (length b) (record_size * n) h) refl) ((written_part r o).becomes ys w.held d.store_is)

pub write_short : {r : List ℕ} (o : Opened r) (rates : List ℕ) (t n : ℕ) (b : List ℕ) → length b < record_size * n → gives 0x04 0 [] r ≡ call_outcome rates t r (write n b)
unfolding on_open on_write unless code_of shorter
write_short {r} o rates t n b h = stays r o rates t (write n b) 0x04 0 [] (rw (lt-ltb (length b) (record_size * n) h) refl)
