-- The round trips through records: what the reader gives is written as the same bytes, and what the writer writes is read as the same telegram.
-- Assumes nothing.
use Rattle.std.specs.Prelude.{if◌then◌else◌}
use Prim.Native.Nat.{ℕ, zero, suc, ◌+◌, ◌*◌, ◌-◌, ◌^◌, ◌≤◌, ◌<◌, min}
use mathlib.Core.Path.{◌≡◌, refl, sym, ap, ◌∙◌}
use mathlib.Core.Bool.{Bool, true, false, ◌||◌}
use mathlib.Core.Option.{Option, none, some, none-ne-some}
use mathlib.Core.List.{List, [], ◌∷◌, ◌++◌, append_assoc}
use native.Mathlib.Nat.{not-suc-le-zero, le_of_suc-le-suc}
use native.Mathlib.Omega.{arith}
use lib.ListN.{length, get_or, take, drop, replicate, length-append, length-replicate}
use lib.Seq.{take-append_seam}
use lib.Dec.{eqb, leb, ltb}
use borrow.Author.Tests.{leb-true, eqb-true, le-leb, ne_eqb, le-ltb}
use Rattle.codec.specs.Word.{word, word_at}
use Rattle.codec.proofs.Word.{word_back, word_drop}
use Rattle.telegram.specs.Bits.{bit_value, within, are_bytes}
use Rattle.telegram.specs.Telegram.{AnyTelegram, opening, channel, set_up, positive, negative, data_telegram, acknowledge, connection, test, break_off, disconnection, is_opening_id, is_destination, is_id, is_negative, any_fits, opening_fits, fields_fit, fits, any_bytes, comes, read_any}
use Rattle.telegram.proofs.Tests.{both, together, tested, let_through, passed, bit_small}
use Rattle.telegram.proofs.RoundTrip.{any_exact}
use Rattle.telegram_types.specs.Face.{Wrote, numbers_of, carried_by, padded, over, done, refusal}
use Rattle.telegram_record.specs.Record.{words, packed, record_of, count_in, carried_in, set_up_in, positive_in, negative_in, data_in, acknowledge_in, connection_in, alone_in, opening_in, channel_in, kept, telegram_in}
use Rattle.telegram_record.specs.Crossing.{gave, recorded, reading, unpacked, writing}
use Rattle.telegram_record.proofs.Narrowed.{application_small}
use Rattle.opening_record.proofs.Openings.{kinds}

-- ---- what stands in a record, with anything behind it

numbers_at : (ns rest : List ℕ) (i : ℕ) → i < length ns → get_or ns i 0 < 2 ^ 32 → word_at (4 * i) (words ns ++ rest) ≡ get_or ns i 0
unfolding words word word_at
numbers_at [] rest i h small = absurd (not-suc-le-zero h)
numbers_at (n ∷ ns) rest zero h small = word_back n small
numbers_at (n ∷ ns) rest (suc i) h small =
    let next : 4 * suc i ≡ 4 + 4 * i = omega arith in
    ap (λ (j : ℕ). word_at j (words (n ∷ ns) ++ rest)) next
    ∙ sym (word_drop (4 * i) 4 (words (n ∷ ns) ++ rest))
    ∙ numbers_at ns rest i (le_of_suc-le-suc h) small

abbrev six : (k a b c d e : ℕ) → List ℕ
six k a b c d e = k ∷ a ∷ b ∷ c ∷ d ∷ e ∷ []

module _ (k a b c d e n : ℕ) (seven rest : List ℕ) where
  filled : List ℕ
  filled = packed k (a ∷ b ∷ c ∷ d ∷ e ∷ []) n seven ++ rest

  number_is : (i : ℕ) → i < 6 → get_or (six k a b c d e) i 0 < 2 ^ 32 → word_at (4 * i) filled ≡ get_or (six k a b c d e) i 0
  unfolding filled packed words word
  number_is i h small = numbers_at (six k a b c d e) (n ∷ (seven ++ rest)) i h small

  count_is : count_in filled ≡ n
  unfolding filled packed words word count_in
  count_is = refl

  carried_is : carried_in filled ≡ take (min n 7) (seven ++ rest)
  unfolding filled packed words word count_in carried_in
  carried_is = refl

-- what is carried comes out of a record again
carried_back : (l rest : List ℕ) → length l ≤ 7 → take (min (length l) 7) (padded l ++ rest) ≡ l
unfolding padded
carried_back l rest h =
    let k : min (length l) 7 ≡ length l = omega arith in
    ap (λ (m : ℕ). take m (l ++ replicate (7 - length l) 0 ++ rest)) k ∙ ap (take (length l)) (append_assoc l _ rest) ∙ take-append_seam l _

-- a flag as a number is 0 or 1, and is that flag
flag_small : (b : Bool) → leb (bit_value b) 1 ≡ true
flag_small true = refl
flag_small false = refl

flag_back : (b : Bool) → eqb (bit_value b) 1 ≡ b
flag_back true = refl
flag_back false = refl

allowed : (t : AnyTelegram) → any_fits t ≡ true → kept (some t) ≡ some t
unfolding kept
allowed t fit = let_through (any_fits t) t fit

-- ---- a record says the telegram that it was made of

-- a number that a table bounds is one of 32 bits
bounded : (n k : ℕ) → k < 2 ^ 32 → leb n k ≡ true → n < 2 ^ 32
bounded n k h e = let l = leb-true n k e in omega arith

bit_bounded : (b : Bool) → bit_value b < 2 ^ 32
bit_bounded b = bounded (bit_value b) 1 (omega arith) (flag_small b)

-- the kinds of a connection set-up and acknowledge are those of neither before them
either_kind : (ack : Bool) (w x y z : Option AnyTelegram) (c : Bool → AnyTelegram)
    → (let k : ℕ = 0xA0 + bit_value ack in
    if leb 0xC0 k then w else if eqb k 0x00 then x else if eqb k 0x90 then y else if eqb k 0xA0 || eqb k 0xA1 then some (c (eqb k 0xA1)) else z)
    ≡ some (c ack)
either_kind true w x y z c = refl
either_kind false w x y z c = refl

pub says_back : (t : AnyTelegram) (rest : List ℕ) → any_fits t ≡ true → telegram_in (record_of t ++ rest) ≡ some t
unfolding telegram_in opening_in channel_in set_up_in positive_in negative_in data_in acknowledge_in connection_in alone_in record_of numbers_of carried_by filled any_fits opening_fits fields_fit fits
says_back (opening id (set_up d rx app)) rest fit =
    let h = both {a = is_opening_id id} fit in
    let p = both {a = is_destination d} h.1 in
    let q = both {a = is_id rx} p.1 in
    let f = number_is 0xC0 id d rx app 0 0 (padded []) rest in
    rw (
      f 0 (omega arith) (omega arith),
      f 1 (omega arith) (bounded id 0x2EF (omega arith) (both {a = leb 0x200 id} h.0).1),
      f 2 (omega arith) (bounded d 0xEF (omega arith) p.0),
      f 3 (omega arith) (bounded rx 0x7FF (omega arith) q.0),
      f 4 (omega arith) (bounded app 0xFF (omega arith) (application_small app q.1)),
    )
    (allowed (opening id (set_up d rx app)) fit)
says_back (opening id (positive d tx rx app)) rest fit =
    let h = both {a = is_opening_id id} fit in
    let p = both {a = is_destination d} h.1 in
    let q = both {a = is_id tx} p.1 in
    let u = both {a = is_id rx} q.1 in
    let f = number_is 0xD0 id d tx rx app 0 (padded []) rest in
    rw (
      f 0 (omega arith) (omega arith),
      f 1 (omega arith) (bounded id 0x2EF (omega arith) (both {a = leb 0x200 id} h.0).1),
      f 2 (omega arith) (bounded d 0xEF (omega arith) p.0),
      f 3 (omega arith) (bounded tx 0x7FF (omega arith) q.0),
      f 4 (omega arith) (bounded rx 0x7FF (omega arith) u.0),
      f 5 (omega arith) (bounded app 0xFF (omega arith) (application_small app u.1)),
    )
    (allowed (opening id (positive d tx rx app)) fit)
says_back (opening id (negative d kind l)) rest fit =
    let h = both {a = is_opening_id id} fit in
    let p = both {a = is_destination d} h.1 in
    let q = both {a = is_negative kind} p.1 in
    let g = both {a = leb 0xD6 kind} q.0 in
    let from = leb-true 0xD6 kind g.0 in
    let five = eqb-true (length l) 5 (both {a = eqb (length l) 5} q.1).0 in
    let f = number_is kind id d 0 0 0 (length l) (padded l) rest in
    rw (
      f 0 (omega arith) (bounded kind 0xD8 (omega arith) g.1),
      f 1 (omega arith) (bounded id 0x2EF (omega arith) (both {a = leb 0x200 id} h.0).1),
      f 2 (omega arith) (bounded d 0xEF (omega arith) p.0),
      carried_is kind id d 0 0 0 (length l) (padded l) rest,
      carried_back l rest (omega arith),
      le-leb 0xC0 kind (omega arith),
      ne_eqb kind 0xC0 (λ x. omega arith),
      ne_eqb kind 0xD0 (λ x. omega arith),
      sym (kinds kind) ∙ q.0,
    )
    (allowed (opening id (negative d kind l)) fit)
says_back (channel (data_telegram asks last sn l)) rest fit =
    let p = both {a = leb sn 15} fit in
    let q = both {a = leb (length l) 7} p.1 in
    let seven = leb-true (length l) 7 q.0 in
    let f = number_is 0x00 (bit_value asks) (bit_value last) sn 0 0 (length l) (padded l) rest in
    rw (
      f 0 (omega arith) (omega arith),
      f 1 (omega arith) (bit_bounded asks),
      f 2 (omega arith) (bit_bounded last),
      f 3 (omega arith) (bounded sn 15 (omega arith) p.0),
      count_is 0x00 (bit_value asks) (bit_value last) sn 0 0 (length l) (padded l) rest,
      carried_is 0x00 (bit_value asks) (bit_value last) sn 0 0 (length l) (padded l) rest,
      carried_back l rest seven,
      flag_small asks,
      flag_small last,
      q.0,
      flag_back asks,
      flag_back last,
      let_through true (channel (data_telegram asks last sn l)) refl,
    )
    (allowed (channel (data_telegram asks last sn l)) fit)
says_back (channel (acknowledge ready sn)) rest fit =
    let f = number_is 0x90 (bit_value ready) sn 0 0 0 0 (padded []) rest in
    rw (
      f 0 (omega arith) (omega arith),
      f 1 (omega arith) (bit_bounded ready),
      f 2 (omega arith) (bounded sn 15 (omega arith) fit),
      flag_small ready,
      flag_back ready,
      let_through true (channel (acknowledge ready sn)) refl,
    )
    (allowed (channel (acknowledge ready sn)) fit)
says_back (channel (connection ack bs t1 t2 t3 t4)) rest fit =
    let p = both {a = within 1 15 bs} fit in
    let q = both {a = leb t1 0xFF} p.1 in
    let r = both {a = leb t2 0xFF} q.1 in
    let s = both {a = leb t3 0xFF} r.1 in
    let f = number_is (0xA0 + bit_value ack) bs t1 t2 t3 t4 0 (padded []) rest in
    let small = bit_small ack in
    rw (
      f 0 (omega arith) (omega arith),
      f 1 (omega arith) (bounded bs 15 (omega arith) (both {a = leb 1 bs} p.0).1),
      f 2 (omega arith) (bounded t1 0xFF (omega arith) q.0),
      f 3 (omega arith) (bounded t2 0xFF (omega arith) r.0),
      f 4 (omega arith) (bounded t3 0xFF (omega arith) s.0),
      f 5 (omega arith) (bounded t4 0xFF (omega arith) s.1),
    )
    (ap kept (either_kind ack _ _ _ _ (λ a. channel (connection a bs t1 t2 t3 t4))) ∙ allowed (channel (connection ack bs t1 t2 t3 t4)) fit)
says_back (channel test) rest fit = rw (number_is 0xA3 0 0 0 0 0 0 (padded []) rest 0 (omega arith) (omega arith)) (allowed (channel test) refl)
says_back (channel break_off) rest fit = rw (number_is 0xA4 0 0 0 0 0 0 (padded []) rest 0 (omega arith) (omega arith)) (allowed (channel break_off) refl)
says_back (channel disconnection) rest fit = rw (number_is 0xA8 0 0 0 0 0 0 (padded []) rest 0 (omega arith) (omega arith)) (allowed (channel disconnection) refl)

-- ---- both ways

-- a record has no fewer than 32 bytes
words_long : (ns : List ℕ) → length (words ns) ≡ 4 * length ns
unfolding words word
words_long [] = refl
words_long (n ∷ ns) = let h = words_long ns in omega arith

five : (t : AnyTelegram) → length (numbers_of t).fields ≡ 5
unfolding numbers_of
five (opening id (set_up d rx app)) = refl
five (opening id (positive d tx rx app)) = refl
five (opening id (negative d kind l)) = refl
five (channel (data_telegram asks last sn l)) = refl
five (channel (acknowledge ready sn)) = refl
five (channel (connection ack bs t1 t2 t3 t4)) = refl
five (channel test) = refl
five (channel break_off) = refl
five (channel disconnection) = refl

long : (t : AnyTelegram) (rest : List ℕ) → 32 ≤ length (record_of t ++ rest)
unfolding record_of packed padded
long t rest =
    let h = words_long ((numbers_of t).kind ∷ (numbers_of t).fields) in
    let k = five t in
    simp (length-append, length-replicate) (omega arith)

-- what was read where the code is 0x00
read_what : (x : Option AnyTelegram) (before between : List ℕ) → gave 0x00 0 between ≡ reading x before
    → (t : AnyTelegram) × (x ≡ some t) × (between ≡ over (record_of t) before)
unfolding reading recorded refusal
read_what x before between e =
    tested (ltb (length before) 32)
    (λ short. let z : ◌≡◌ {A = ℕ} 0x00 0x04 = ap (λ (y : Wrote). y.code) (rw short at e) in absurd (omega arith))
    (λ room. found x (rw room at e))
  where
    found : (x : Option AnyTelegram) → gave 0x00 0 between ≡ recorded x before → (t : AnyTelegram) × (x ≡ some t) × (between ≡ over (record_of t) before)
    found none e = let z : ◌≡◌ {A = ℕ} 0x00 0x0A = ap (λ (y : Wrote). y.code) e in absurd (omega arith)
    found (some t) e = (t, refl, ap (λ (y : Wrote). y.buffer) e)

-- Whatever telegram the reader gives a record of, the writer writes it as the same bytes.
pub read_then_write : (s : Bool) (id : ℕ) (b before between buffer : List ℕ) → are_bytes b ≡ true → 8 ≤ length buffer
    → gave 0x00 0 between ≡ reading (read_any s id b) before
    → writing between buffer ≡ done b buffer
unfolding writing unpacked over
read_then_write s id b before between buffer bytes room reads =
    let x = read_what (read_any s id b) before between reads in
    let t = x.0 in
    let rest = drop (length (record_of t)) before in
    let h = (any_exact s id).read_then_written b t bytes x.1 in
    let fit = (both {a = comes s id t} h.0).1 in
    rw (x.2, le-ltb (length (record_of t ++ rest)) 32 (long t rest), le-ltb (length buffer) 8 room, says_back t rest fit, h.1)

-- what a record says, the tables allow
kept_fits : (o : Option AnyTelegram) (t : AnyTelegram) → kept o ≡ some t → any_fits t ≡ true
unfolding kept
kept_fits none t e = absurd (none-ne-some _ e)
kept_fits (some u) t e = let h = passed (any_fits u) u e in sym (ap any_fits h.1) ∙ h.0

-- what was written where the code is 0x00
wrote_what : (n : ℕ) (r buffer after : List ℕ) (t : AnyTelegram) → gave 0x00 n after ≡ writing r buffer → telegram_in r ≡ some t
    → gave 0x00 n after ≡ done (any_bytes t) buffer
unfolding writing unpacked refusal
wrote_what n r buffer after t e says =
    tested (ltb (length r) 32)
    (λ short. let z : ◌≡◌ {A = ℕ} 0x00 0x04 = ap (λ (y : Wrote). y.code) (rw short at e) in absurd (omega arith))
    (λ long. tested (ltb (length buffer) 8)
    (λ short. let z : ◌≡◌ {A = ℕ} 0x00 0x04 = ap (λ (y : Wrote). y.code) (rw (long, short) at e) in absurd (omega arith))
    (λ room. rw (long, room, says) at e))

-- Whatever the writer writes of a record, the reader gives the telegram's record of, with zeros in what the telegram doesn't have.
pub write_then_read : (s : Bool) (id n : ℕ) (r buffer after into : List ℕ) (t : AnyTelegram) → comes s id t ≡ true → 32 ≤ length into
    → gave 0x00 n after ≡ writing r buffer → telegram_in r ≡ some t
    → reading (read_any s id (take n after)) into ≡ gave 0x00 0 (over (record_of t) into)
unfolding reading recorded telegram_in done over
write_then_read s id n r buffer after into t sort room writes says =
    let down = wrote_what n r buffer after t writes says in
    let start : take n after ≡ any_bytes t = ap (λ (y : Wrote). take y.len y.buffer) down ∙ take-append_seam (any_bytes t) _ in
    let again = ((any_exact s id).written_then_read t (together sort (kept_fits _ t says))).1 in
    rw (start, again, le-ltb (length into) 32 room)
