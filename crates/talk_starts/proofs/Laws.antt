-- The checks of a start grouped by their codes, and what stands in a conversation's place. Assumes nothing.
use Rattle.std.specs.Prelude.{if◌then◌else◌}
use Rattle.std.specs.Int.{from_bool}
use mathlib.Core.Path.{◌≡◌, refl, sym, ap, ap₂, ◌∙◌}
use Prim.Native.Nat.{ℕ, zero, suc}
use native.Mathlib.Omega.{arith}
use mathlib.Core.Bool.{Bool, true, false, not, ◌&&◌, ◌||◌, beq}
use mathlib.Core.Option.{some}
use mathlib.Core.List.{List, [], ◌∷◌}
use lib.ListN.{get_or, set, take, drop}
use lib.Seq.{drop-drop, get_or-take, get_or-drop}
use lib.Dec.{eqb, ltb}
use borrow.Author.Tests.{eq-eqb, ne_eqb}
use borrow.Rule.Slice.PartMut.{put_mid}
use Rattle.codec.specs.Plain.{member, zeros}
use Rattle.codec.specs.Word.{word, word_at}
use Rattle.codec.specs.Code.{byte, word32, both, via, such, mark, mark_of, many, slot, get_slot}
use Rattle.codec.proofs.Word.{word_part}
use Rattle.machine.specs.Codes.{code_of}
use Rattle.machine.specs.Message.{bit, takes, id_limit}
use Rattle.machine.specs.Filter.{any_slot}
use Rattle.iso.specs.Limits.{iso_protocol, id_size}
use Rattle.iso.specs.Iso.{Talk, idle, knows}
use Rattle.iso_layout.specs.Sizes.{talk_size, pattern_in, flow_in}
use Rattle.iso_layout.specs.Region.{payload_parts, payload508, transfer_plain, transfer_code, talk_cell}
use Rattle.talk_starts.specs.Starts.{start_tests}
use Rattle.talk_starts.specs.declared.Naming.{Naming}

-- ---- tests of one code are one test

two : (a b : Bool) (k : ℕ) (ts : List (Bool × ℕ)) → code_of ((a, k) ∷ (b, k) ∷ ts) ≡ code_of ((a || b, k) ∷ ts)
unfolding code_of
two true b k ts = refl
two false b k ts = refl

three : (a b c : Bool) (k : ℕ) (ts : List (Bool × ℕ)) → code_of ((a, k) ∷ (b, k) ∷ (c, k) ∷ ts) ≡ code_of ((a || (b || c), k) ∷ ts)
unfolding code_of
three true b c k ts = refl
three false b c k ts = two b c k ts

six : (a b c d e f : Bool) (k : ℕ) (ts : List (Bool × ℕ)) → code_of ((a, k) ∷ (b, k) ∷ (c, k) ∷ (d, k) ∷ (e, k) ∷ (f, k) ∷ ts) ≡ code_of ((a || (b || (c || (d || (e || f)))), k) ∷ ts)
unfolding code_of
six true b c d e f k ts = refl
six false true c d e f k ts = refl
six false false true d e f k ts = refl
six false false false d e f k ts = three d e f k ts

module _ (flags type : ℕ) (m p f : Naming) where
  abbrev wide : Bool
  wide = bit 0x100 m.tx

  abbrev pub other_protocol : Bool
  other_protocol = not (eqb m.protocol iso_protocol) || (not (eqb p.protocol iso_protocol) || not (eqb f.protocol iso_protocol))

  abbrev sizes : Bool
  sizes = not (eqb m.size id_size && eqb p.size id_size && eqb f.size id_size)

  abbrev masked : Bool
  masked = not (eqb m.id 0xFFFF_FFFF)

  abbrev apart : Bool
  apart = not (eqb m.tx p.tx && eqb m.tx f.tx)

  abbrev refused : Bool
  refused = not (takes flags (bit 0x100 m.tx))

  abbrev over : Naming → Bool
  over x = ltb (id_limit (bit 0x100 m.tx)) x.id

  abbrev pub bad_names : Bool
  bad_names = sizes || (masked || (apart || (refused || (over p || over f))))

  grouped : code_of (start_tests flags type m p f) ≡ code_of ((not (eqb type 3), 0x16) ∷ (other_protocol, 0x15) ∷ (bad_names, 0x0A) ∷ [])
  unfolding start_tests code_of
  grouped =
      ap (λ (k : ℕ). if not (eqb type 3) then 0x16 else k)
      (three (not (eqb m.protocol iso_protocol)) (not (eqb p.protocol iso_protocol)) (not (eqb f.protocol iso_protocol)) 0x15
      ((sizes, 0x0A) ∷ (masked, 0x0A) ∷ (apart, 0x0A) ∷ (refused, 0x0A) ∷ (over p, 0x0A) ∷ (over f, 0x0A) ∷ [])
      ∙ ap (λ (k : ℕ). if other_protocol then 0x15 else k) (six sizes masked apart refused (over p) (over f) 0x0A []))

  -- with the limit and the width's fitness found out
  pub names_are : (limit : ℕ) (fits : Bool) → limit ≡ id_limit (bit 0x100 m.tx) → fits ≡ takes flags (bit 0x100 m.tx)
      → bad_names ≡ (sizes || (masked || (apart || (not fits || (ltb limit p.id || ltb limit f.id)))))
  names_are limit fits el ef = λ i. sizes || (masked || (apart || (not (sym ef i) || (ltb (sym el i) p.id || ltb (sym el i) f.id))))

  pub bad_type : (type ≡ 3 → ⊥) → 0x16 ≡ code_of (start_tests flags type m p f)
  unfolding code_of
  bad_type n = sym (grouped ∙ rw (ne_eqb type 3 n))

  module _ (e : type ≡ 3) where
    pub bad_protocol_law : other_protocol ≡ true → 0x15 ≡ code_of (start_tests flags type m p f)
    unfolding code_of
    bad_protocol_law o = sym (grouped ∙ ap₂ (λ (a b : Bool). code_of ((not a, 0x16) ∷ (b, 0x15) ∷ (bad_names, 0x0A) ∷ [])) (eq-eqb type 3 e) o)

    pub last_test : other_protocol ≡ false → (b : Bool) → bad_names ≡ b → (if b then 0x0A else 0x00) ≡ code_of (start_tests flags type m p f)
    unfolding code_of
    last_test o b g =
        sym (grouped ∙ ap₂ (λ (a c : Bool). code_of ((not a, 0x16) ∷ (c, 0x15) ∷ (bad_names, 0x0A) ∷ [])) (eq-eqb type 3 e) o ∙ ap (λ (c : Bool). code_of ((false, 0x16) ∷ (false, 0x15) ∷ (c, 0x0A) ∷ [])) g)

-- ---- a place

module _ (flags : ℕ) (t : List ℕ) (w : Bool) (p f : ℕ) where
  abbrev Known : Bool → Type 0
  Known b = b ≡ any_slot (knows w p f) ((slot (talk_cell flags)).get t ∷ [])

  pub free_knows : get_or t 0 0 ≡ 0 → false ≡ any_slot (knows w p f) ((slot (talk_cell flags)).get t ∷ [])
  unfolding slot any_slot
  free_knows e = sym (ap (λ (k : ℕ). any_slot (knows w p f) (get_slot (talk_cell flags) k (drop 1 t) ∷ [])) e)

  wide_at : ((talk_cell flags).get (drop 1 t)).wide ≡ eqb 1 (get_or t 1 0)
  unfolding talk_cell such via both mark byte
  wide_at = ap (eqb 1) (get_or-take 1 (drop 1 t) 0 0 (omega arith) ∙ get_or-drop 1 t 0 0)

  pattern_at_law : ((talk_cell flags).get (drop 1 t)).pattern ≡ word_at pattern_in t
  unfolding talk_cell such via both mark byte word32
  pattern_at_law = ap (λ (x : List ℕ). word_at 0 (take 4 x)) (drop-drop 1 1 t) ∙ word_part 2 t

  flow_at : ((talk_cell flags).get (drop 1 t)).flow ≡ word_at flow_in t
  unfolding talk_cell such via both mark byte word32
  flow_at = ap (λ (x : List ℕ). word_at 0 (take 4 x)) (ap (λ (x : List ℕ). drop 4 x) (drop-drop 1 1 t) ∙ drop-drop 4 2 t) ∙ word_part 6 t

  abbrev same : Bool → ℕ → ℕ → Bool
  same v a b = beq w v && (((eqb p a || eqb p b)) || (eqb f a || eqb f b))

  or_false : (b : Bool) → (b || false) ≡ b
  or_false true = refl
  or_false false = refl

  knows_is : (c : Talk) → knows w p f c ≡ same c.wide c.pattern c.flow
  unfolding knows member
  knows_is c =
      ap₂ (λ (x y : Bool). beq w c.wide && ((eqb p c.pattern || x) || (eqb f c.pattern || y))) (or_false (eqb p c.flow)) (or_false (eqb f c.flow))

  some_is : (k : ℕ) → (k ≡ 0 → ⊥) → any_slot (knows w p f) (get_slot (talk_cell flags) k (drop 1 t) ∷ []) ≡ knows w p f ((talk_cell flags).get (drop 1 t))
  unfolding any_slot
  some_is zero n = absurd (n refl)
  some_is (suc k) n = or_false _

  pub taken_knows : (get_or t 0 0 ≡ 0 → ⊥) → (a b : ℕ) → a ≡ word_at pattern_in t → b ≡ word_at flow_in t
      → (beq w (eqb 1 (get_or t 1 0)) && (((eqb p a || eqb p b)) || (eqb f a || eqb f b))) ≡ any_slot (knows w p f) ((slot (talk_cell flags)).get t ∷ [])
  unfolding slot
  taken_knows n a b ea eb =
      (λ i. same (sym wide_at i) ((ea ∙ sym pattern_at_law) i) ((eb ∙ sym flow_at) i)) ∙ sym (some_is (get_or t 0 0) n ∙ knows_is ((talk_cell flags).get (drop 1 t)))

-- the byte of a mark
pub marked : (b : Bool) → from_bool b ≡ mark_of b
marked true = refl
marked false = refl

-- a fresh conversation over zeros
fresh_stored : (flags : ℕ) (w : Bool) (p f : ℕ)
    → set (set (put_mid flow_in 4 (put_mid pattern_in 4 (zeros talk_size) (word p)) (word f)) 0 1) 1 (mark_of w) ≡ (slot (talk_cell flags)).put (some (record { wide = w; pattern = p; flow = f; transfer = idle }))
unfolding slot talk_cell transfer_code transfer_plain payload508 payload_parts mark via such both many word32 byte word
fresh_stored flags w p f = refl

pub fresh_put : (t : List ℕ) → t ≡ zeros talk_size → (flags : ℕ) (w : Bool) (p f n : ℕ) → n ≡ mark_of w → (ps fs : List ℕ) → ps ≡ word p → fs ≡ word f
    → set (set (put_mid flow_in 4 (put_mid pattern_in 4 t ps) fs) 0 1) 1 n ≡ (slot (talk_cell flags)).put (some (record { wide = w; pattern = p; flow = f; transfer = idle }))
fresh_put t z flags w p f n e ps fs ep ef =
    (λ i. set (set (put_mid flow_in 4 (put_mid pattern_in 4 (z i) (ep i)) (ef i)) 0 1) 1 (e i)) ∙ fresh_stored flags w p f
