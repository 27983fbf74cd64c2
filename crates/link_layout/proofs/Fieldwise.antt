-- The bytes of a standing connection while its parts are changed one after the other: each part can be held by its own code, whether or not the limits
-- that look at more than one of them hold in between. Assumes nothing.
use mathlib.Core.Path.{◌≡◌, sym, ap, ◌∙◌}
use Prim.Native.Nat.{ℕ, suc, ◌+◌, ◌*◌, ◌≤◌, ◌<◌}
use native.Mathlib.Omega.{arith}
use mathlib.Core.List.{List, ◌++◌}
use lib.ListN.{length, get_or, set, length-append}
use lib.Dec.{T}
use borrow.Rule.Slice.PartMut.{mid_of, set_mid_at}
use Rattle.codec.specs.Plain.{zeros}
use Rattle.codec.specs.Word.{word, word_at}
use Rattle.codec.specs.Code.{Code, both, via}
use Rattle.codec.proofs.Place.{Place, inside}
use Rattle.codec.proofs.Tests.{left, right, join}
use Rattle.codec.proofs.Part.{Part, part, byte_of}
use Rattle.link.specs.Connection.{Asked, Talk, Hear, Care, Wire, Link, standing, with_wire, with_talk, with_hear, with_care}
use Rattle.link_layout.specs.Sizes.{which_size, care_size, out_size, talk_size, hear_size, standing_at, wire_at, care_at, talk_at, out_at, hear_at, link_size}
use Rattle.link_layout.specs.Connection.{asked, wire, out, talk, hear, care, link, connection_part}
use Rattle.link_layout.specs.Turned.{LinkPart}
use Rattle.link_layout.proofs.Lawful.{asked_lawful, wire_lawful, out_code_lawful, talk_lawful, hear_lawful, care_lawful, link_lawful}
use Rattle.link_layout.proofs.Bytes.{asked_size_law, wire_size, care_size_law, talk_size_law, hear_size_law, link_size_law, standing_bytes}
use Rattle.link_layout.proofs.Places.{out_size_law, standing_link, wire_ok, care_ok, talk_ok, hear_ok, wire_place, care_place, talk_place, hear_place, out_place, out_ok, held, kept, stands, link_ok}

-- ---- one byte of a part is stored

pub byte_stored : {A : Type 0} {c : Code A} {r : List ℕ} {B : Type 0} {d : Code B} {off n : ℕ} {x : B} {w : B → A} → Part c r d off n x w → (j v : ℕ) (b : B) → j < n
    → set (d.put x) j v ≡ d.put b → set r (off + j) v ≡ c.put (w b)
byte_stored {r = r} {off = off} {n = n} p j v b h e =
    sym (set_mid_at off n j r v (omega (arith, p.long)))
    ∙ p.becomes (set (mid_of off n r) j v) b (ap (λ (y : List ℕ). set y j v) p.is ∙ e)

-- ---- a number in a part

pub number_in : {A : Type 0} {c : Code A} {r : List ℕ} {B : Type 0} {d : Code B} {off n : ℕ} {x : B} {w : B → A} → Part c r d off n x w → (i : ℕ) → i + 4 ≤ n
    → word_at (off + i) r ≡ word_at i (d.put x)
unfolding word_at
number_in {r = r} {d = d} {off = off} {x = x} p i h =
    let b : (k : ℕ) → k < 4 → get_or r (off + i + k) 0 ≡ get_or (d.put x) (i + k) 0 =
    λ k g. let s : off + i + k ≡ off + (i + k) = omega arith in ap (λ (j : ℕ). get_or r j 0) s ∙ byte_of p (i + k) (omega arith) in
    let z : get_or r (off + i) 0 ≡ get_or (d.put x) i 0 = byte_of p i (omega arith) in
    λ j. z j + 0x100 * b 1 (omega arith) j + 0x1_0000 * b 2 (omega arith) j + 0x100_0000 * b 3 (omega arith) j

-- ---- a standing connection with another part can be held field by field

module _ (l : Link) (t : T (link.ok l)) where
  pub with_wire_law : (w : Wire) → T (wire.ok w) → T (link.ok (with_wire l w))
  unfolding link via both with_wire
  with_wire_law w k = search (left, right, join) depth 9

  pub with_care_law : (c : Care) → T (care.ok c) → T (link.ok (with_care l c))
  unfolding link via both with_care
  with_care_law c k = search (left, right, join) depth 9

  pub with_talk_law : (x : Talk) → T (talk.ok x) → T (link.ok (with_talk l x))
  unfolding link via both with_talk
  with_talk_law x k = search (left, right, join) depth 9

  pub with_hear_law : (h : Hear) → T (hear.ok h) → T (link.ok (with_hear l h))
  unfolding link via both with_hear
  with_hear_law h k = search (left, right, join) depth 9

-- ---- its bytes

pub record Fields (m : List ℕ) (a : Asked) (tx : ℕ) (l : Link) : Type 0 where
  pub is : connection_part.put (standing a tx l) ≡ m
  pub asked_ok : T (asked.ok a)
  pub link_ok : T (link.ok l)

pub fields : (m : List ℕ) (p : LinkPart m) (a : Asked) (tx : ℕ) (l : Link) → held m p ≡ standing a tx l → Fields m a tx l
fields m p a tx l e =
    record {
      is = ap connection_part.put (sym e) ∙ kept m p;
      asked_ok = (stands m p a tx l e).asked_ok;
      link_ok = link_ok m p a tx l e;
    }

module _ {m : List ℕ} {a : Asked} {tx : ℕ} {l : Link} (f : Fields m a tx l) where
  pub fields_long : length m ≡ link_size
  unfolding word
  fields_long =
      ap length (sym f.is ∙ standing_bytes a tx l)
      ∙ ap suc (length-append (asked.put a) (word tx ++ (zeros 6 ++ (zeros 5 ++ link.put l))))
      ∙ omega (arith, asked_lawful.long a f.asked_ok, asked_size_law, link_lawful.long l f.link_ok, link_size_law)

  in_link : {B : Type 0} {d : Code B} {off : ℕ} {x : B} {w : B → Link} → Place link d l off x w → Place connection_part d (standing a tx l) (standing_at + off) x (λ b. standing a tx (w b))
  in_link q = inside (standing_link a f.asked_ok tx l) q

  pub wire_slice : Part connection_part m wire wire_at which_size l.wire (λ x. standing a tx (with_wire l x))
  wire_slice = part m f.is which_size wire_size (in_link (wire_place l f.link_ok)) wire_lawful (wire_ok l f.link_ok)

  pub care_slice : Part connection_part m care care_at care_size l.care (λ x. standing a tx (with_care l x))
  care_slice = part m f.is care_size care_size_law (in_link (care_place l f.link_ok)) care_lawful (care_ok l f.link_ok)

  pub talk_slice : Part connection_part m talk talk_at talk_size l.talk (λ x. standing a tx (with_talk l x))
  talk_slice = part m f.is talk_size talk_size_law (in_link (talk_place l f.link_ok)) talk_lawful (talk_ok l f.link_ok)

  pub hear_slice : Part connection_part m hear hear_at hear_size l.hear (λ x. standing a tx (with_hear l x))
  hear_slice = part m f.is hear_size hear_size_law (in_link (hear_place l f.link_ok)) hear_lawful (hear_ok l f.link_ok)

  pub out_slice : Part connection_part m out out_at out_size l.talk.out (λ x. standing a tx (with_talk l (record { hold = l.talk.hold; sn = l.talk.sn; out = x })))
  out_slice = part m f.is out_size out_size_law (inside (in_link (talk_place l f.link_ok)) (out_place l.talk)) out_code_lawful (out_ok l.talk (talk_ok l f.link_ok))

  -- with another line
  pub wire_next : {m' : List ℕ} (w : Wire) → T (wire.ok w) → m' ≡ connection_part.put (standing a tx (with_wire l w)) → Fields m' a tx (with_wire l w)
  wire_next w k e = record { is = sym e; asked_ok = f.asked_ok; link_ok = with_wire_law l f.link_ok w k }
