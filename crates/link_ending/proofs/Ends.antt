-- The bytes of a connection that ends, state by state. Assumes nothing.
use mathlib.Core.Path.{◌≡◌, refl, sym, ap, ap₂, ◌∙◌}
use Prim.Native.Nat.{ℕ, zero, suc, ◌+◌, ◌*◌, ◌≤◌, ◌<◌, ◌^◌}
use native.Mathlib.Omega.{arith}
use mathlib.Core.List.{List, [], ◌∷◌, ◌++◌, append-nil}
use lib.ListN.{length, get_or, set, drop_of_length-le}
use lib.Dec.{T, leb→le}
use borrow.Rule.Slice.PartMut.{put_mid}
use Rattle.codec.specs.Plain.{zeros}
use Rattle.codec.specs.Word.{word, word_at}
use Rattle.codec.specs.Code.{Code, byte, word32, both, via, such}
use Rattle.codec.proofs.Word.{word_back}
use Rattle.codec.proofs.Part.{Part, byte_of, word_of}
use Rattle.link.specs.Connection.{micros, its_data, its_test, its_other, Wire, spaced, carries, Exit, due_in, due_behind, Connection, absent, opening, connecting, standing, leaving, state_of, exit, leave, ended}
use Rattle.link_layout.specs.Sizes.{word_size, which_size, wire_at, tx_id_at, exit_at, standing_at, pace_in, link_size}
use Rattle.link_layout.specs.Connection.{exit_of, exit_parts, wire_parts, wire, space_fits, leaves, connection_part}
use Rattle.link_layout.specs.Turned.{LinkPart}
use Rattle.link_layout.proofs.Talking.{micros_small}
use Rattle.link_layout.proofs.Bytes.{absent_bytes, leaving_bytes}
use Rattle.link_layout.proofs.Places.{held, kept, state_is, is_opening, is_connecting, is_standing, connecting_tx_part, stands, tx_part, wire_part, pace_is}

-- a number of the whole, by the bytes of the part that it is in
pub word_within : {A : Type 0} {c : Code A} {r : List ℕ} {B : Type 0} {d : Code B} {off n : ℕ} {x : B} {w : B → A} → Part c r d off n x w → (k : ℕ) → k + 4 ≤ n → word_at (off + k) r ≡ word_at k (d.put x)
unfolding word_at
word_within {r = r} {off = off} {n = n} p k h =
    let k1 : off + k + 1 ≡ off + (k + 1) = omega arith in
    let k2 : off + k + 2 ≡ off + (k + 2) = omega arith in
    let k3 : off + k + 3 ≡ off + (k + 3) = omega arith in
    let s : ℕ → ℕ = λ i. get_or r i 0 in
    λ i. byte_of p k (omega arith) i + 256 * (ap s k1 ∙ byte_of p (k + 1) (omega arith)) i + 65536 * (ap s k2 ∙ byte_of p (k + 2) (omega arith)) i + 16777216 * (ap s k3 ∙ byte_of p (k + 3) (omega arith)) i

-- how the telegram waits: the number, then the way
pub exit_stored : (m : List ℕ) → length m ≡ which_size → (k n : ℕ) → k ≤ 1 → (w : List ℕ) → w ≡ word n → set (put_mid 1 4 m w) 0 k ≡ leaves.put (exit_of k n)
unfolding leaves via such both byte word32
exit_stored [] h k n b w e = absurd (omega arith)
exit_stored (x ∷ m) h k n b w e =
    ap₂ (λ (y z : List ℕ). k ∷ (y ++ z)) e (drop_of_length-le m {i = 4} (omega arith)) ∙ ap {B = List ℕ} (λ (y : List ℕ). k ∷ y) (append-nil (word n)) ∙ way k b
  where
    way : (k : ℕ) → k ≤ 1 → k ∷ word n ≡ (exit_parts (exit_of k n)).0 ∷ word (exit_parts (exit_of k n)).1
    way zero b = refl
    way (suc zero) b = refl
    way (suc (suc k)) b = absurd (omega arith)

-- zeros, the TX-ID, how the telegram waits, the state
pub left_bytes : (tx : ℕ) (e : Exit) (z w x : List ℕ) → z ≡ zeros link_size → w ≡ word tx → x ≡ leaves.put e
    → set (put_mid exit_at which_size (put_mid tx_id_at word_size z w) x) 0 4 ≡ connection_part.put (leaving tx e)
unfolding word
left_bytes tx e z w x ez ew ex =
    (λ i. set (put_mid exit_at which_size (put_mid tx_id_at word_size (ez i) (ew i)) (ex i)) 0 4) ∙ sym (leaving_bytes tx e)

-- the line's first byte and number
pub wire_tag : (w : Wire) → get_or (wire.put w) 0 0 ≡ (wire_parts w).0
unfolding wire via such both byte
wire_tag (spaced us) = refl
wire_tag (carries its_data) = refl
wire_tag (carries its_test) = refl
wire_tag (carries its_other) = refl

number : (w : Wire) → (wire_parts w).1 < 2 ^ 32 → word_at 1 (wire.put w) ≡ (wire_parts w).1
unfolding wire via such both byte word32 word_at
number w h = unfold word in word_back (wire_parts w).1 h

spaced_ends : (pace : ℕ) (w : Wire) → (wire_parts w).0 ≡ 0 → (n : ℕ) → n ≡ (wire_parts w).1 → exit_of 0 n ≡ exit pace w
unfolding exit
spaced_ends pace (spaced us) e n q = ap due_in q
spaced_ends pace (carries its_data) e n q = absurd (omega arith)
spaced_ends pace (carries its_test) e n q = absurd (omega arith)
spaced_ends pace (carries its_other) e n q = absurd (omega arith)

carried_ends : (pace : ℕ) (w : Wire) → ((wire_parts w).0 ≡ 0 → ⊥) → (n : ℕ) → n ≡ pace → exit_of 1 n ≡ exit pace w
unfolding exit
carried_ends pace (spaced us) e n q = absurd (e refl)
carried_ends pace (carries k) e n q = ap due_behind q

wire_small : (pace : ℕ) (w : Wire) → pace < 256 → T (space_fits pace w) → (wire_parts w).1 < 2 ^ 32
wire_small pace (spaced us) h t = omega (arith, leb→le us (micros pace) t, micros_small pace h)
wire_small pace (carries its_data) h t = omega arith
wire_small pace (carries its_test) h t = omega arith
wire_small pace (carries its_other) h t = omega arith

-- none, or one that leaves already
stays : (c : Connection) → (state_of c ≡ 1 → ⊥) → (state_of c ≡ 2 → ⊥) → (state_of c ≡ 3 → ⊥) → c ≡ ended c
unfolding state_of ended
stays absent h1 h2 h3 = refl
stays (opening a n s) h1 h2 h3 = absurd (h1 refl)
stays (connecting a tx n s) h1 h2 h3 = absurd (h2 refl)
stays (standing a tx l) h1 h2 h3 = absurd (h3 refl)
stays (leaving tx e) h1 h2 h3 = refl

module _ (m : List ℕ) (p : LinkPart m) where
  abbrev Ended : List ℕ → Type 0
  Ended r = r ≡ connection_part.put (ended (connection_part.get m))

  by : (c : Connection) → held m p ≡ c → (r : List ℕ) → r ≡ connection_part.put (ended c) → Ended r
  by c e r q = q ∙ ap (λ (x : Connection). connection_part.put (ended x)) (sym e)

  pub opening_ends : get_or m 0 0 ≡ 1 → (r : List ℕ) → r ≡ zeros (length m) → Ended r
  unfolding ended
  opening_ends e r q =
      let o = is_opening (held m p) (sym (state_is m p) ∙ e) in
      by (opening o.0 o.1.0 o.1.1.0) o.1.1.1 r (q ∙ ap (λ (k : ℕ). zeros k) p.long ∙ sym absent_bytes)

  pub connecting_ends : get_or m 0 0 ≡ 2 → (r : List ℕ) → r ≡ connection_part.put (leaving (word_at tx_id_at m) (exit_of 0 0)) → Ended r
  unfolding ended
  connecting_ends e r q =
      let o = is_connecting (held m p) (sym (state_is m p) ∙ e) in
      let a = o.0 in
      let tx = o.1.0 in
      let n = o.1.1.0 in
      let s = o.1.1.1.0 in
      by (connecting a tx n s) o.1.1.1.1 r
      (q ∙ ap (λ (x : ℕ). connection_part.put (leaving x (due_in 0))) (word_of (connecting_tx_part m p a tx n s o.1.1.1.1)))

  standing_ends : get_or m 0 0 ≡ 3 → (x : Exit) → ((w : Wire) (pace : ℕ) → get_or m wire_at 0 ≡ (wire_parts w).0 → word_at (wire_at + 1) m ≡ (wire_parts w).1 → get_or m (standing_at + pace_in) 0 ≡ pace → x ≡ exit pace w)
      → (r : List ℕ) → r ≡ connection_part.put (leaving (word_at tx_id_at m) x) → Ended r
  unfolding ended leave
  standing_ends e x f r q =
      let o = is_standing (held m p) (sym (state_is m p) ∙ e) in
      let a = o.0 in
      let tx = o.1.0 in
      let l = o.1.1.0 in
      let is = o.1.1.1 in
      let w = wire_part m p a tx l is in
      let small : (wire_parts l.wire).1 < 2 ^ 32 = wire_small l.pace l.wire (stands m p a tx l is).facts.pace_byte (stands m p a tx l is).facts.space in
      let tag : get_or m wire_at 0 ≡ (wire_parts l.wire).0 = ap (λ (k : ℕ). get_or m k 0) (omega arith) ∙ byte_of w 0 (omega arith) ∙ wire_tag l.wire in
      by (standing a tx l) is r
      (q ∙ ap₂ (λ (y : ℕ) (z : Exit). connection_part.put (leaving y z)) (word_of (tx_part m p a tx l is)) (f l.wire l.pace tag (word_within w 1 (omega arith) ∙ number l.wire small) (pace_is m p a tx l is)))

  pub free_ends : get_or m 0 0 ≡ 3 → get_or m wire_at 0 ≡ 0 → (n : ℕ) → n ≡ word_at (wire_at + 1) m → (r : List ℕ) → r ≡ connection_part.put (leaving (word_at tx_id_at m) (exit_of 0 n)) → Ended r
  free_ends e z n q = standing_ends e (exit_of 0 n) (λ w pace t u v. spaced_ends pace w (sym t ∙ z) n (q ∙ u))

  pub busy_ends : get_or m 0 0 ≡ 3 → (get_or m wire_at 0 ≡ 0 → ⊥) → (n : ℕ) → n ≡ get_or m (standing_at + pace_in) 0 → (r : List ℕ) → r ≡ connection_part.put (leaving (word_at tx_id_at m) (exit_of 1 n)) → Ended r
  busy_ends e z n q = standing_ends e (exit_of 1 n) (λ w pace t u v. carried_ends pace w (λ k. z (t ∙ k)) n (q ∙ v))

  pub same_ends : (get_or m 0 0 ≡ 1 → ⊥) → (get_or m 0 0 ≡ 2 → ⊥) → (get_or m 0 0 ≡ 3 → ⊥) → Ended m
  same_ends h1 h2 h3 = sym (kept m p) ∙ ap connection_part.put (stays (held m p) (λ e. h1 (state_is m p ∙ e)) (λ e. h2 (state_is m p ∙ e)) (λ e. h3 (state_is m p ∙ e)))
