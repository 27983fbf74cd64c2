-- The data of frames as they are stored: one or two bytes in front, payload behind them. Assumes nothing.
use mathlib.Core.Path.{◌≡◌, refl, sym, ap, ap₂, ◌∙◌}
use Prim.Native.Nat.{ℕ, ◌+◌, ◌-◌, ◌/◌, ◌%◌, ◌≤◌, min}
use native.Mathlib.Omega.{arith, min_cases}
use mathlib.Core.Bool.{Bool}
use mathlib.Core.List.{List, [], ◌∷◌}
use lib.ListN.{length, set, take, drop, length-set, length-drop}
use lib.Seq.{take_at, take_all, drop_at, length-take-le}
use borrow.Rule.Slice.PartMut.{put_mid, mid_of, same_len_mid}
use Rattle.machine.specs.Message.{Rec, id_bytes}
use Rattle.iso.specs.Limits.{id_size, in_single, in_first, in_next}
use Rattle.iso.specs.Iso.{Talk, Stage, Transmission, framed, number_after, single_frame, first_frame, next_frame, flow_frame}
use Rattle.framing.specs.Data.{frame_room, carried, Carries, taken_of}

-- ---- what a frame carries

pub framed_carries : (wide : Bool) (id : ℕ) (b : List ℕ) → carried (framed wide id b) ≡ b
unfolding carried framed id_bytes
framed_carries wide id b = refl

module _ (c : Talk) where
  pub flow_carries : (status : ℕ) → carried (flow_frame c status) ≡ (0x30 + status) ∷ 0 ∷ 0 ∷ []
  unfolding flow_frame
  flow_carries status = framed_carries c.wide c.flow _

  pub first_carries : (p : List ℕ) → carried (first_frame c p) ≡ (0x10 + length p / 256) ∷ length p % 256 ∷ take in_first p
  unfolding first_frame
  first_carries p = framed_carries c.wide c.flow _

  pub next_carries : (t : Transmission) → carried (next_frame c t) ≡ (0x20 + number_after t.taken) ∷ take in_next (drop t.taken t.payload)
  unfolding next_frame
  next_carries t = framed_carries c.wide c.flow _

pub single_carries : (m : Rec) → id_size ≤ length m.bytes → carried (single_frame m) ≡ (length m.bytes - id_size) ∷ drop id_size m.bytes
unfolding carried single_frame
single_carries m l = drop_at (take id_size m.bytes) _ id_size (length-take-le id_size m.bytes l)

-- ---- stored

pub three_stored : (d : List ℕ) (a b e : ℕ) → length d ≡ frame_room → take 3 (set (set (set d 0 a) 1 b) 2 e) ≡ a ∷ b ∷ e ∷ []
three_stored [] a b e l = absurd (omega arith)
three_stored (x ∷ []) a b e l = absurd (omega arith)
three_stored (x ∷ y ∷ []) a b e l = absurd (omega arith)
three_stored (x ∷ y ∷ z ∷ ds) a b e l = refl

pub behind_one : (d ys : List ℕ) (a m n : ℕ) → length d ≡ frame_room → 1 + length ys ≡ n → take n (put_mid 1 m (set d 0 a) ys) ≡ a ∷ ys
behind_one [] ys a m n l e = absurd (omega arith)
behind_one (x ∷ ds) ys a m n l e = take_at (a ∷ ys) (drop m ds) n (omega arith)

pub behind_two : (d ys : List ℕ) (a b m n : ℕ) → length d ≡ frame_room → 2 + length ys ≡ n → take n (put_mid 2 m (set (set d 0 a) 1 b) ys) ≡ a ∷ b ∷ ys
behind_two [] ys a b m n l e = absurd (omega arith)
behind_two (x ∷ []) ys a b m n l e = absurd (omega arith)
behind_two (x ∷ y ∷ ds) ys a b m n l e = take_at (a ∷ b ∷ ys) (drop m ds) n (omega arith)

-- all of a consecutive frame's payload bytes, or those that are left
pub part_taken : (n : ℕ) (p : List ℕ) → take (min in_next (length p - n)) (drop n p) ≡ take in_next (drop n p)
part_taken n p =
    min_cases in_next (length p - n) (take (min in_next (length p - n)) (drop n p) ≡ take in_next (drop n p)) (λ l e. ap (λ (k : ℕ). take k (drop n p)) e)
    (λ l e.
    let long : length (drop n p) ≤ length p - n = omega (arith, length-drop n p) in
    let less : length (drop n p) ≤ in_next = omega arith in
    ap (λ (k : ℕ). take k (drop n p)) e ∙ take_all (length p - n) (drop n p) long ∙ sym (take_all in_next (drop n p) less))

-- a part put back leaves the length
pub kept_long : (a k : ℕ) (u ys : List ℕ) → a + k ≤ length u → length ys ≡ k → length (put_mid a k u ys) ≡ length u
kept_long a k u ys h e =
    let lm : length (mid_of a k u) ≡ k = length-take-le k (drop a u) (omega (arith, length-drop a u)) in
    same_len_mid a k u ys (e ∙ sym lm)

pub one_long : (k a : ℕ) (d ys : List ℕ) → 1 + k ≤ length d → length ys ≡ k → length (put_mid 1 k (set d 0 a) ys) ≡ length d
one_long k a d ys h e = let ls : length (set d 0 a) ≡ length d = length-set d 0 a in kept_long 1 k (set d 0 a) ys (omega arith) e ∙ ls

pub two_long : (k a b : ℕ) (d ys : List ℕ) → 2 + k ≤ length d → length ys ≡ k → length (put_mid 2 k (set (set d 0 a) 1 b) ys) ≡ length d
two_long k a b d ys h e =
    let ls : length (set (set d 0 a) 1 b) ≡ length d = length-set (set d 0 a) 1 b ∙ length-set d 0 a in
    kept_long 2 k (set (set d 0 a) 1 b) ys (omega arith) e ∙ ls

-- ---- each frame

module _ (d ys p : List ℕ) (l : length d ≡ frame_room) where
  pub flow_done : (status : ℕ) (c : Talk) → Carries 3 (set (set (set d 0 (0x30 + status)) 1 0) 2 0) (flow_frame c status)
  flow_done status c = (three_stored d (0x30 + status) 0 0 l ∙ sym (flow_carries c status), omega arith)

  pub single_done : (k n : ℕ) → ys ≡ p → n ≡ 1 + length p → length p ≤ in_single → (m : Rec) → id_size ≤ length m.bytes → drop id_size m.bytes ≡ p
      → Carries n (put_mid 1 k (set d 0 (length p)) ys) (single_frame m)
  single_done k n e en h m lm em =
      let ly : length ys ≡ length p = ap length e in
      let size : length p ≡ length m.bytes - id_size = ap length (sym em) ∙ length-drop id_size m.bytes in (
        behind_one d ys (length p) k n l (omega arith) ∙ ap₂ (λ (x : ℕ) (y : List ℕ). x ∷ y) size (e ∙ sym em) ∙ sym (single_carries m lm),
        omega arith,
      )

  pub first_done : (a b k j : ℕ) → a ≡ 0x10 + length p / 256 → b ≡ length p % 256 → j ≡ in_first → ys ≡ take j p → in_first ≤ length p → (c : Talk)
      → Carries frame_room (put_mid 2 k (set (set d 0 a) 1 b) ys) (first_frame c p)
  first_done a b k j ea eb ej e h c =
      let ey : ys ≡ take in_first p = e ∙ ap (λ (i : ℕ). take i p) ej in
      let ly : length ys ≡ in_first = ap length ey ∙ length-take-le in_first p h in (
        behind_two d ys a b k frame_room l (omega arith)
            ∙ ap₂ (λ (x : ℕ) (y : List ℕ). x ∷ b ∷ y) ea ey ∙ ap (λ (x : ℕ). (0x10 + length p / 256) ∷ x ∷ take in_first p) eb ∙ sym (first_carries c p),
        omega arith,
      )

  pub next_long : (n m j : ℕ) → m ≡ min in_next (length p - n) → j ≡ m → ys ≡ take j (drop n p) → (length ys ≡ m) × (m ≤ in_next) × (ys ≡ take in_next (drop n p))
  next_long n m j em ej e =
      let small : m ≤ in_next = omega (arith) in
      let less : m ≤ length (drop n p) = omega (arith, length-drop n p) in
      let ey : ys ≡ take m (drop n p) = e ∙ ap (λ (i : ℕ). take i (drop n p)) ej in
      (ap length ey ∙ length-take-le m (drop n p) less, small, ey ∙ ap (λ (i : ℕ). take i (drop n p)) em ∙ part_taken n p)

  pub next_done : (a n m j k : ℕ) → a ≡ 0x20 + number_after n → m ≡ min in_next (length p - n) → j ≡ m → ys ≡ take j (drop n p) → (c : Talk) (s : Stage)
      → Carries (1 + m) (put_mid 1 k (set d 0 a) ys) (next_frame c (taken_of p n s))
  next_done a n m j k ea em ej e c s =
      let x = next_long n m j em ej e in
      let ly : length ys ≡ m = x.0 in
      let lm : m ≤ in_next = x.1 in (
        behind_one d ys a k (1 + m) l (omega arith) ∙ ap₂ (λ (x : ℕ) (y : List ℕ). x ∷ y) ea x.2 ∙ sym (next_carries c (taken_of p n s)),
        omega arith,
      )
