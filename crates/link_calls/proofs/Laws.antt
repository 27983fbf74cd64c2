-- A message to send and one that was received, in the bytes of a connection. Assumes nothing.
use Rattle.std.specs.Prelude.{if◌then◌else◌}
use mathlib.Core.Path.{◌≡◌, refl, sym, ap, ap₂, ◌∙◌, subst}
use Prim.Native.Nat.{ℕ, ◌+◌, ◌-◌, ◌≤◌, ◌<◌}
use native.Mathlib.Omega.{arith}
use mathlib.Core.Bool.{Bool, true, false, not, ◌&&◌}
use mathlib.Core.List.{List, [], ◌∷◌, ◌++◌, append-nil}
use lib.ListN.{length, get_or, set, take, drop, drop_of_length-le}
use lib.Seq.{take_at, drop-drop, take_all}
use lib.Dec.{T, eqb}
use borrow.Rule.Slice.PartMut.{put_mid}
use Rattle.codec.specs.Plain.{zeros}
use Rattle.codec.specs.Word.{word}
use Rattle.codec.specs.Code.{byte, word32, both, via, such, mark, mark_of, text}
use Rattle.codec.proofs.Tests.{left, right}
use Rattle.codec.proofs.Part.{byte_of}
use Rattle.codec.proofs.Present.{text_lawful, text_count}
use Rattle.stored_records.proofs.Parts.{part_within}
use Rattle.link.specs.Connection.{longest, Asked, Block, new_block, Out, idle, sends, asks, Talk, Hear, Link, with_talk, with_hear, Connection, absent, opening, connecting, standing, leaving, state_of, on_link, under_way, busy, whole, begin, fetched}
use Rattle.link_layout.specs.Sizes.{text_size, out_size, hear_size, bytes_in, complete_in, out_at, hear_at}
use Rattle.link_layout.specs.Connection.{out_parts, block, out, ack_parts, ack, hear, connection_part}
use Rattle.link_layout.specs.Turned.{LinkPart}
use Rattle.link_layout.proofs.Lawful.{hear_lawful}
use Rattle.link_layout.proofs.Bytes.{hear_size_law}
use Rattle.link_layout.proofs.Places.{held, state_is, out_part, hear_part, stands, IsStanding, is_standing}
use Rattle.link_store.proofs.Stores.{text_size_law, text_put}
use Rattle.link_calls.specs.Fetching.{emptied}

-- ---- the bytes of a message under way, and of what is received

tag_is : (o : Out) → get_or (out.put o) 0 0 ≡ (out_parts o).0
unfolding out such via both byte
tag_is idle = refl
tag_is (sends b) = refl
tag_is (asks b us) = refl

under_way_law : (o : Out) → not (eqb (out_parts o).0 0) ≡ under_way o
unfolding under_way
under_way_law idle = refl
under_way_law (sends b) = refl
under_way_law (asks b us) = refl

text_long : (b : List ℕ) → T ((text longest).ok b) → length ((text longest).put b) ≡ text_size
text_long b t = (text_lawful longest).long b t ∙ text_size_law

-- a message over the place of one: another over its bytes, and the tag
placed : (r xs : List ℕ) (n : ℕ) → length r ≡ n → put_mid 8 n (0 ∷ (word 0 ++ (0 ∷ 0 ∷ 0 ∷ r))) xs ≡ 0 ∷ (word 0 ++ (0 ∷ 0 ∷ 0 ∷ xs))
unfolding word
placed r xs n h =
    let none_left : drop n r ≡ [] = drop_of_length-le r {i = n} (omega arith) in
    ap (λ (y : List ℕ). 0 ∷ (word 0 ++ (0 ∷ 0 ∷ 0 ∷ (xs ++ y)))) none_left ∙ ap (λ (y : List ℕ). 0 ∷ (word 0 ++ (0 ∷ 0 ∷ 0 ∷ y))) (append-nil xs)

none_put : out.put idle ≡ 0 ∷ (word 0 ++ (0 ∷ 0 ∷ 0 ∷ (text longest).put []))
unfolding out block such via both byte word32
none_put = refl

first_put : (x : List ℕ) → out.put (sends (new_block x)) ≡ 1 ∷ (word 0 ++ (0 ∷ 0 ∷ 0 ∷ (text longest).put x))
unfolding out block such via both byte word32 new_block
first_put x = refl

nil_long : length ((text longest).put []) ≡ text_size
unfolding word
nil_long = ap length (text_put [])

pub started : (s x ys : List ℕ) → s ≡ out.put idle → ys ≡ (text longest).put x → set (put_mid 8 text_size s ys) 0 1 ≡ out.put (sends (new_block x))
unfolding word
started s x ys e y =
    ap₂ (λ (m z : List ℕ). set (put_mid 8 text_size m z) 0 1) (e ∙ none_put) y
    ∙ ap (λ (m : List ℕ). set m 0 1) (placed ((text longest).put []) ((text longest).put x) text_size nil_long)
    ∙ sym (first_put x)

pub idle_long : length (out.put idle) ≡ out_size
unfolding word
idle_long = ap length none_put ∙ omega (arith, nil_long)

-- ---- received

hear_put : (h : Hear) → hear.put h ≡ h.expected ∷ ack_parts h.acknowledges ∷ mark_of h.complete ∷ (text longest).put h.bytes
unfolding hear ack mark such via both byte
hear_put h = refl

bytes_ok : (h : Hear) → T (hear.ok h) → T ((text longest).ok h.bytes)
unfolding hear via both
bytes_ok h t = search (left, right) depth 9

gone : (h : Hear) → T (hear.ok h) → set (put_mid 3 text_size (hear.put h) ((text longest).put [])) 2 0 ≡ hear.put (emptied h)
unfolding emptied
gone h t =
    let r : List ℕ = (text longest).put h.bytes in
    let none_left : drop text_size r ≡ [] = drop_of_length-le r {i = text_size} (omega (arith, text_long h.bytes (bytes_ok h t))) in
    ap (λ (x : List ℕ). set (put_mid 3 text_size x ((text longest).put [])) 2 0) (hear_put h)
    ∙ ap (λ (x : List ℕ). h.expected ∷ ack_parts h.acknowledges ∷ 0 ∷ ((text longest).put [] ++ x)) none_left
    ∙ ap (λ (x : List ℕ). h.expected ∷ ack_parts h.acknowledges ∷ 0 ∷ x) (append-nil ((text longest).put []))
    ∙ sym (hear_put (emptied h))

pub emptied_is : (m ys : List ℕ) → length m ≡ hear_size → T (hear.valid m) → ys ≡ (text longest).put [] → set (put_mid 3 text_size m ys) 2 0 ≡ hear.put (emptied (hear.get m))
emptied_is m ys long v y =
    let h : length m ≡ hear.size = long ∙ sym hear_size_law in
    ap₂ (λ (x z : List ℕ). set (put_mid 3 text_size x z) 2 0) (sym (hear_lawful.put_get m h v)) y ∙ gone (hear.get m) (hear_lawful.ok_get m h v)

-- ---- on a connection

module _ (a : Asked) (tx : ℕ) (l : Link) where
  whole_off : (b : Bool) → l.hear.complete ≡ b → mark_of b ≡ 0 → whole (standing a tx l) ≡ []
  unfolding whole on_link
  whole_off true e h = absurd (omega arith)
  whole_off false e h = ap (λ (b : Bool). if b then l.hear.bytes else []) e

  whole_on : (b : Bool) → l.hear.complete ≡ b → (mark_of b ≡ 0 → ⊥) → whole (standing a tx l) ≡ l.hear.bytes
  unfolding whole on_link
  whole_on true e h = ap (λ (b : Bool). if b then l.hear.bytes else []) e
  whole_on false e h = absurd (h refl)

whole_other : (c : Connection) → (state_of c ≡ 3 → ⊥) → whole c ≡ []
unfolding whole on_link state_of
whole_other absent h = refl
whole_other (opening a n s) h = refl
whole_other (connecting a tx n s) h = refl
whole_other (standing a tx l) h = absurd (h refl)
whole_other (leaving tx x) h = refl

abbrev pub IsWhole : Connection → Type 0
IsWhole c = (a : Asked) × ((tx : ℕ) × ((l : Link) × ((c ≡ standing a tx l) × (whole c ≡ l.hear.bytes))))

pub whole_there : (c : Connection) → 0 < length (whole c) → IsWhole c
unfolding whole on_link
whole_there absent h = absurd (omega arith)
whole_there (opening a n s) h = absurd (omega arith)
whole_there (connecting a tx n s) h = absurd (omega arith)
whole_there (leaving tx x) h = absurd (omega arith)
whole_there (standing a tx l) h = (a, (tx, (l, (refl, go l.hear.complete h))))
  where
    go : (b : Bool) → 0 < length (if b then l.hear.bytes else []) → (if b then l.hear.bytes else []) ≡ l.hear.bytes
    go true h = refl
    go false h = absurd (omega arith)

not_busy : (o : Out) → under_way o ≡ false → o ≡ idle
unfolding under_way
not_busy idle e = refl
not_busy (sends b) e = absurd (subst (λ (x : Bool). T x) e tt)
not_busy (asks b us) e = absurd (subst (λ (x : Bool). T x) e tt)

module _ (m : List ℕ) (p : LinkPart m) where
  module _ (a : Asked) (tx : ℕ) (l : Link) (e : held m p ≡ standing a tx l) where
    abbrev got : List ℕ
    got = l.hear.bytes

    got_ok : T ((text longest).ok got)
    got_ok = (stands m p a tx l e).facts.bytes_ok

    complete_byte : get_or m (hear_at + complete_in) 0 ≡ mark_of l.hear.complete
    complete_byte = byte_of (hear_part m p a tx l e) complete_in (omega arith) ∙ ap (λ (x : List ℕ). get_or x 2 0) (hear_put l.hear)

    store_is : take text_size (drop (hear_at + bytes_in) m) ≡ (text longest).put got
    store_is =
        ap (take text_size) (sym (drop-drop bytes_in hear_at m))
        ∙ sym (part_within bytes_in text_size hear_size (drop hear_at m) (omega arith))
        ∙ ap (λ (x : List ℕ). take text_size (drop bytes_in x)) ((hear_part m p a tx l e).is ∙ hear_put l.hear)
        ∙ take_all text_size ((text longest).put got) (omega (arith, text_long got got_ok))

    pub store_valid : (length (take text_size (drop (hear_at + bytes_in) m)) ≡ text_size) × T ((text longest).valid (take text_size (drop (hear_at + bytes_in) m)))
    store_valid = (ap length store_is ∙ text_long got got_ok, subst (λ (x : List ℕ). T ((text longest).valid x)) (sym store_is) ((text_lawful longest).valid_put got got_ok))

    pub store_got : (text longest).get (take text_size (drop (hear_at + bytes_in) m)) ≡ got
    store_got = ap (text longest).get store_is ∙ (text_lawful longest).get_put got got_ok

    pub few : length got ≤ longest
    few = text_count longest got got_ok

    pub bytes_are : (n : ℕ) → n ≡ length got → take n (drop (hear_at + bytes_in + 4) m) ≡ got
    unfolding word
    bytes_are n h =
        ap (take n) (sym (drop-drop 4 (hear_at + bytes_in) m))
        ∙ sym (part_within 4 n text_size (drop (hear_at + bytes_in) m) (omega (arith, few)))
        ∙ ap (λ (x : List ℕ). take n (drop 4 x)) (store_is ∙ text_put got)
        ∙ take_at got (zeros (longest - length got)) n (sym h)

    out_is : busy (held m p) ≡ false → l.talk.out ≡ idle
    unfolding busy on_link
    out_is b = not_busy l.talk.out (ap busy (sym e) ∙ b)

    pub idle_is : busy (held m p) ≡ false → take out_size (drop out_at m) ≡ out.put idle
    idle_is b = (out_part m p a tx l e).is ∙ ap out.put (out_is b)

    pub begins : (x ys : List ℕ) → ys ≡ out.put (sends (new_block x)) → put_mid out_at out_size m ys ≡ connection_part.put (begin x (held m p))
    unfolding begin on_link
    begins x ys y = (out_part m p a tx l e).becomes ys (sends (new_block x)) y ∙ ap (λ (c : Connection). connection_part.put (begin x c)) (sym e)

    pub hear_valid : (length (take hear_size (drop hear_at m)) ≡ hear_size) × T (hear.valid (take hear_size (drop hear_at m)))
    hear_valid = ((hear_part m p a tx l e).long, (hear_part m p a tx l e).valid)

    pub fetches : (ys : List ℕ) → ys ≡ hear.put (emptied (hear.get (take hear_size (drop hear_at m)))) → put_mid hear_at hear_size m ys ≡ connection_part.put (fetched (held m p))
    unfolding fetched on_link emptied
    fetches ys y =
        (hear_part m p a tx l e).becomes ys (emptied l.hear) (y ∙ ap (λ (h : Hear). hear.put (emptied h)) (hear_part m p a tx l e).got)
        ∙ ap (λ (c : Connection). connection_part.put (fetched c)) (sym e)

    busy_here : not (eqb (get_or m out_at 0) 0) ≡ busy (standing a tx l)
    unfolding busy on_link
    busy_here =
        let tag : get_or m out_at 0 ≡ (out_parts l.talk.out).0 = ap (λ (k : ℕ). get_or m k 0) (omega arith) ∙ byte_of (out_part m p a tx l e) 0 (omega arith) ∙ tag_is l.talk.out in
        ap (λ (k : ℕ). not (eqb k 0)) tag ∙ under_way_law l.talk.out

  -- the state and the message's tag say whether one is under way
  busy_in : (c : Connection) → held m p ≡ c → (eqb (state_of c) 3 && not (eqb (get_or m out_at 0) 0)) ≡ busy c
  unfolding busy on_link state_of
  busy_in absent e = refl
  busy_in (opening a n s) e = refl
  busy_in (connecting a tx n s) e = refl
  busy_in (standing a tx l) e = busy_here a tx l e
  busy_in (leaving tx x) e = refl

  pub busy_is : (eqb (get_or m 0 0) 3 && not (eqb (get_or m out_at 0) 0)) ≡ busy (held m p)
  busy_is = ap (λ (k : ℕ). eqb k 3 && not (eqb (get_or m out_at 0) 0)) (state_is m p) ∙ busy_in (held m p) refl

  -- no complete message: none stands, or its mark isn't set; else its bytes
  pub none_there : (get_or m 0 0 ≡ 3 → ⊥) → 0 ≡ length (whole (held m p))
  none_there h = sym (ap length (whole_other (held m p) (λ e. h (state_is m p ∙ e))))

  pub standing_there : get_or m 0 0 ≡ 3 → IsStanding (held m p)
  standing_there e = is_standing (held m p) (sym (state_is m p) ∙ e)

  pub not_complete : get_or m 0 0 ≡ 3 → get_or m (hear_at + complete_in) 0 ≡ 0 → 0 ≡ length (whole (held m p))
  not_complete s z =
      let i = standing_there s in
      sym (ap (λ (c : Connection). length (whole c)) i.1.1.1 ∙ ap length (whole_off i.0 i.1.0 i.1.1.0 i.1.1.0.hear.complete refl (sym (complete_byte i.0 i.1.0 i.1.1.0 i.1.1.1) ∙ z)))

  pub is_complete : (s : get_or m 0 0 ≡ 3) → (get_or m (hear_at + complete_in) 0 ≡ 0 → ⊥) → whole (held m p) ≡ (standing_there s).1.1.0.hear.bytes
  is_complete s z =
      let i = standing_there s in
      ap whole i.1.1.1 ∙ whole_on i.0 i.1.0 i.1.1.0 i.1.1.0.hear.complete refl (λ q. z (complete_byte i.0 i.1.0 i.1.1.0 i.1.1.1 ∙ q))
