-- The checks of a message as code makes them, and the bytes of its clean record. Assumes nothing.
use Rattle.std.specs.Prelude.{if◌then◌else◌}
use mathlib.Core.Path.{◌≡◌, refl, sym, ap, ap₂, ◌∙◌}
use Prim.Native.Nat.{ℕ, ◌+◌, ◌-◌, ◌≤◌, ◌<◌}
use native.Mathlib.Omega.{arith}
use mathlib.Core.Bool.{Bool, not}
use mathlib.Core.List.{List, ◌++◌}
use lib.ListN.{length, get_or, take, drop, length-append, length-drop}
use lib.Seq.{get_or-take}
use lib.Dec.{eqb, ltb}
use borrow.Rule.Slice.PartMut.{put_mid, mid_of}
use Rattle.codec.specs.Plain.{within}
use Rattle.codec.specs.Word.{word_at}
use Rattle.codec.proofs.Tests.{within_low, within_high}
use Rattle.codec.proofs.Lists.{part_long}
use Rattle.machine.specs.Codes.{code_of}
use Rattle.machine.specs.Limits.{can_protocol, record_size, size_in, data_in, least_data, most_data}
use Rattle.machine.specs.Message.{takes, id_of, id_limit, width_flag, protocol_of, size_of, wide_of, data_of, message_code, clean}
use Rattle.layout.specs.Record.{rec36}
use Rattle.machine.proofs.Tables.{failed, yes}
use Rattle.records.specs.Cell.{numbers, padded}
use Rattle.records.proofs.Laws.{two_parts, mid_long, numbers_long, record_is}
use Rattle.message.specs.Check.{code_within, clean_bytes}

-- ---- the checks

-- the code by the four tests: protocol, size, width fit; the identifier is over its limit
abbrev pub coded : Bool → Bool → Bool → Bool → ℕ
coded protocol size width over = if not protocol then 0x15 else if not size then 0x0A else if not width then 0x0A else if over then 0x0A else 0x00

pub checks : (protocol least most flags : ℕ) (m : List ℕ) {a b c d : Bool} → eqb (word_at 0 m) protocol ≡ a → within least most (word_at size_in m) ≡ b → takes flags (wide_of m) ≡ c → ltb (id_limit (wide_of m)) (id_of (data_of m)) ≡ d
    → coded a b c d ≡ code_within protocol least most flags m
unfolding code_within code_of protocol_of size_of
checks protocol least most flags m p q r s = sym (λ i. coded (p i) (q i) (r i) (s i))

-- those of raw CAN
pub raw_checks : (flags : ℕ) (m : List ℕ) → code_within can_protocol least_data most_data flags m ≡ message_code flags m
unfolding code_within message_code
raw_checks flags m = refl

-- the size of a message without a code
pub size_within : (protocol least most flags : ℕ) (m : List ℕ) → code_within protocol least most flags m ≡ 0 → (least ≤ size_of m) × (size_of m ≤ most)
unfolding code_within
size_within protocol least most flags m h =
    let t = yes (within least most (size_of m)) (failed _ tt h).1.0 in (within_low least most (size_of m) t, within_high least most (size_of m) t)

pub size_of_good : (flags : ℕ) (m : List ℕ) → message_code flags m ≡ 0 → (4 ≤ size_of m) × (size_of m ≤ most_data)
size_of_good flags m h = size_within can_protocol least_data most_data flags m (raw_checks flags m ∙ h)

pub id_of_data : (m : List ℕ) → 4 ≤ word_at size_in m → id_of (data_of m) ≡ id_of (drop data_in m)
unfolding id_of data_of size_of
id_of_data m h =
    let at : (i : ℕ) → i < 4 → get_or (take (word_at size_in m) (drop data_in m)) i 0 ≡ get_or (drop data_in m) i 0 = λ i k. get_or-take (word_at size_in m) (drop data_in m) i 0 (omega arith) in
    omega (arith, at 0 (omega arith), at 1 (omega arith), at 2 (omega arith), at 3 (omega arith))

-- ---- the clean record

-- the data fits into what is left of the cell
pub data_fits_law : (n : ℕ) (cell ys m : List ℕ) (protocol tx size : ℕ) → length cell ≤ length m → data_in + size ≤ length cell → ys ≡ numbers protocol 0 tx 0 size size → n ≡ length (ys ++ drop data_in cell) - data_in
    → length (take (data_in + size - data_in) (drop data_in m)) ≤ length (mid_of data_in n (ys ++ drop data_in cell))
data_fits_law n cell ys m protocol tx size h s y en =
    let l : length ys ≡ data_in = ap length y ∙ numbers_long protocol 0 tx 0 size size in
    let whole : length cell ≡ data_in + n = omega (arith, length-append ys (drop data_in cell), length-drop data_in cell) in
    omega (arith, part_long data_in size m (omega arith), mid_long data_in n cell ys whole l)

pub bytes_put : (n : ℕ) (cell ys zs m : List ℕ) (protocol tx size : ℕ) → length cell ≤ length m → data_in + size ≤ length cell → tx ≡ width_flag (wide_of m) → size ≡ word_at size_in m → ys ≡ numbers protocol 0 tx 0 size size
    → n ≡ length (ys ++ drop data_in cell) - data_in → zs ≡ padded (length (mid_of data_in n (ys ++ drop data_in cell))) (take (data_in + size - data_in) (drop data_in m))
    → put_mid data_in n (ys ++ drop data_in cell) zs ≡ clean_bytes protocol (length cell - data_in) m
unfolding clean_bytes clean data_of size_of
bytes_put n cell ys zs m protocol tx size h s et es y en z =
    let d : take (data_in + size - data_in) (drop data_in m) ≡ take (word_at size_in m) (drop data_in m) = let e : data_in + size - data_in ≡ word_at size_in m = omega arith in ap (λ (k : ℕ). take k (drop data_in m)) e in
    let k : size ≡ length (take (word_at size_in m) (drop data_in m)) = sym (part_long data_in size m (omega arith)) ∙ ap length d in
    let l : length ys ≡ data_in = ap length y ∙ numbers_long protocol 0 tx 0 size size in
    let whole : length cell ≡ data_in + n = omega (arith, length-append ys (drop data_in cell), length-drop data_in cell) in
    let rest : n ≡ length cell - data_in = omega arith in
    two_parts data_in n cell ys zs whole l
    ∙ ap₂ (λ (a b : List ℕ). a ++ b) (y ∙ ap₂ (λ (t j : ℕ). numbers protocol 0 t 0 j j) et k) (z ∙ ap₂ (λ (j : ℕ) (b : List ℕ). padded j b) (mid_long data_in n cell ys whole l ∙ rest) d)

-- those of raw CAN
pub raw_clean : (cell m : List ℕ) → length cell ≡ record_size → clean_bytes can_protocol (length cell - data_in) m ≡ rec36.put (clean m)
unfolding clean_bytes clean
raw_clean cell m h = ap (λ (k : ℕ). clean_bytes can_protocol (k - data_in) m) h ∙ record_is (clean m)
