-- The parts of a connection in its bytes, each lent as a slice: what lies there, and the connection with another value there. Assumes nothing.
use mathlib.Core.Path.{◌≡◌, refl, sym, ap, ap₂, ◌∙◌, subst}
use Prim.Native.Nat.{ℕ, zero, suc, ◌+◌, ◌≤◌, ◌<◌, ◌^◌}
use native.Mathlib.Omega.{arith}
use mathlib.Core.Bool.{Bool, true, false}
use mathlib.Core.Option.{Option, none, some}
use mathlib.Core.List.{List, [], ◌∷◌, ◌++◌, append_assoc, append-nil}
use lib.ListN.{length, get_or, take, drop, length-append, length-replicate}
use lib.Dec.{T, lt→ltb, le→leb}
use Rattle.codec.specs.Plain.{zeros}
use Rattle.codec.specs.Word.{word}
use Rattle.codec.specs.Code.{Code, byte, word32, both, via, such, mark, many, text}
use Rattle.codec.proofs.Lawful.{Lawful, byte_lawful, word_lawful}
use Rattle.codec.proofs.Place.{Place, inside, at, in_first, in_second, in_such, in_via}
use Rattle.codec.proofs.Tests.{left, right, join}
use Rattle.codec.proofs.Part.{Part, part, byte_of}
use Rattle.link.specs.Connection.{longest, mntc, Asked, Trial, Block, Out, Talk, Hear, Care, Wire, Link, Exit, Connection, absent, opening, connecting, standing, leaving, state_of, with_wire, with_talk, with_hear, with_care}
use Rattle.link_layout.specs.Sizes.{asked_size, trials_size, which_size, care_size, out_size, talk_size, hear_size, standing_size, asked_at, tx_id_at, trials_at, exit_at, standing_at, pace_in, wire_in, care_in, talk_in, hear_in, wire_at, care_at, talk_at, out_at, sn_in, out_in, hear_at, link_size}
use Rattle.link_layout.specs.Connection.{asked, trial, trials, leaves, wire, block, talk_parts, talk_back, out, talk, hear, care, link_parts, link_back, link, connection_part}
use Rattle.link_layout.specs.Turned.{LinkPart}
use Rattle.link_layout.proofs.Lawful.{asked_lawful, trials_lawful, leaves_lawful, wire_lawful, out_code_lawful, talk_lawful, hear_lawful, care_lawful, link_lawful, connection_lawful}
use Rattle.link_layout.proofs.Bytes.{asked_size_law, trials_size_law, leaves_size, wire_size, care_size_law, talk_size_law, hear_size_law, link_size_law, absent_bytes, opening_bytes, connecting_bytes, standing_bytes, leaving_bytes, state_byte}
use Rattle.link_layout.proofs.Talking.{asked_facts, asked_fits_law, absent_held, Held, Trying, Standing, Leaving, LinkFacts, opening_facts, connecting_facts, standing_facts, leaving_facts, link_make}

-- ---- sizes

pub connection_size : connection_part.size ≡ link_size
connection_size = sym (connection_lawful.long absent absent_held) ∙ ap length absent_bytes ∙ length-replicate {A = ℕ} 1091 0

pub out_size_law : out.size ≡ out_size
unfolding out block both via such text many word32 byte
out_size_law = refl

-- ---- the places in each state

module _ (a : Asked) (t : T (asked.ok a)) where
  asked_long : length (asked.put a) ≡ 13
  asked_long = asked_lawful.long a t ∙ asked_size_law

  pub opening_asked : (n : ℕ) (s : Trial) → Place connection_part asked (opening a n s) asked_at a (λ x. opening x n s)
  opening_asked n s =
      record {
        before = 1 ∷ [];
        after = zeros 4 ++ (trials.put (n, s) ++ (zeros 5 ++ zeros 1062));
        long = refl;
        is = opening_bytes a n s;
        becomes = λ x. opening_bytes x n s;
      }

  pub opening_trials : (n : ℕ) (s : Trial) → Place connection_part trials (opening a n s) trials_at (n, s) (λ x. opening a x.0 x.1)
  opening_trials n s =
      let before : List ℕ = (1 ∷ asked.put a) ++ zeros 4 in
      let after : List ℕ = zeros 5 ++ zeros 1062 in
      let regroup : (x : ℕ × Trial) → connection_part.put (opening a x.0 x.1) ≡ before ++ (trials.put x ++ after) =
      λ x. opening_bytes a x.0 x.1 ∙ sym (append_assoc (1 ∷ asked.put a) (zeros 4) (trials.put x ++ after)) in
      record { before = before; after = after; long = length-append (1 ∷ asked.put a) (zeros 4) ∙ omega (arith, asked_long); is = regroup (n, s); becomes = regroup }

  module _ (tx : ℕ) where
    pub connecting_asked : (n : ℕ) (s : Trial) → Place connection_part asked (connecting a tx n s) asked_at a (λ x. connecting x tx n s)
    connecting_asked n s =
        record {
          before = 2 ∷ [];
          after = word tx ++ (trials.put (n, s) ++ (zeros 5 ++ zeros 1062));
          long = refl;
          is = connecting_bytes a tx n s;
          becomes = λ x. connecting_bytes x tx n s;
        }

    pub connecting_trials : (n : ℕ) (s : Trial) → Place connection_part trials (connecting a tx n s) trials_at (n, s) (λ x. connecting a tx x.0 x.1)
    unfolding word
    connecting_trials n s =
        let before : List ℕ = (2 ∷ asked.put a) ++ word tx in
        let after : List ℕ = zeros 5 ++ zeros 1062 in
        let regroup : (x : ℕ × Trial) → connection_part.put (connecting a tx x.0 x.1) ≡ before ++ (trials.put x ++ after) =
        λ x. connecting_bytes a tx x.0 x.1 ∙ sym (append_assoc (2 ∷ asked.put a) (word tx) (trials.put x ++ after)) in
        record { before = before; after = after; long = length-append (2 ∷ asked.put a) (word tx) ∙ omega (arith, asked_long); is = regroup (n, s); becomes = regroup }

    pub connecting_tx : (n : ℕ) (s : Trial) → Place connection_part word32 (connecting a tx n s) tx_id_at tx (λ x. connecting a x n s)
    unfolding word32
    connecting_tx n s =
        record {
          before = 2 ∷ asked.put a;
          after = trials.put (n, s) ++ (zeros 5 ++ zeros 1062);
          long = omega (arith, asked_long);
          is = connecting_bytes a tx n s;
          becomes = λ x. connecting_bytes a x n s;
        }

    pub standing_asked : (l : Link) → Place connection_part asked (standing a tx l) asked_at a (λ x. standing x tx l)
    standing_asked l =
        record {
          before = 3 ∷ [];
          after = word tx ++ (zeros 6 ++ (zeros 5 ++ link.put l));
          long = refl;
          is = standing_bytes a tx l;
          becomes = λ x. standing_bytes x tx l;
        }

    pub standing_tx : (l : Link) → Place connection_part word32 (standing a tx l) tx_id_at tx (λ x. standing a x l)
    unfolding word32
    standing_tx l =
        record {
          before = 3 ∷ asked.put a;
          after = zeros 6 ++ (zeros 5 ++ link.put l);
          long = omega (arith, asked_long);
          is = standing_bytes a tx l;
          becomes = λ x. standing_bytes a x l;
        }

    pub standing_link : (l : Link) → Place connection_part link (standing a tx l) standing_at l (λ x. standing a tx x)
    unfolding word
    standing_link l =
        let before : List ℕ = (3 ∷ asked.put a) ++ (word tx ++ (zeros 6 ++ zeros 5)) in
        let regroup : (x : Link) → connection_part.put (standing a tx x) ≡ before ++ (link.put x ++ []) =
        λ x. standing_bytes a tx x ∙ sym (append_assoc (3 ∷ asked.put a) (word tx ++ (zeros 6 ++ zeros 5)) (link.put x ++ []) ∙ ap (λ (y : List ℕ). (3 ∷ asked.put a) ++ (word tx ++ (zeros 6 ++ (zeros 5 ++ y)))) (append-nil (link.put x))) in
        record {
          before = before;
          after = [];
          long = length-append (3 ∷ asked.put a) (word tx ++ (zeros 6 ++ zeros 5)) ∙ omega (arith, asked_long);
          is = regroup l;
          becomes = regroup;
        }

module _ (tx : ℕ) (e : Exit) where
  pub leaving_tx : Place connection_part word32 (leaving tx e) tx_id_at tx (λ x. leaving x e)
  unfolding word32
  leaving_tx =
      record {
        before = 4 ∷ zeros 13;
        after = zeros 6 ++ (leaves.put e ++ zeros 1062);
        long = refl;
        is = leaving_bytes tx e;
        becomes = λ x. leaving_bytes x e;
      }

  pub leaving_exit : Place connection_part leaves (leaving tx e) exit_at e (λ x. leaving tx x)
  unfolding word
  leaving_exit =
      let before : List ℕ = (4 ∷ zeros 13) ++ (word tx ++ zeros 6) in
      let regroup : (x : Exit) → connection_part.put (leaving tx x) ≡ before ++ (leaves.put x ++ zeros 1062) =
      λ x. leaving_bytes tx x in
      record { before = before; after = zeros 1062; long = refl; is = regroup e; becomes = regroup }

-- ---- in a standing connection

module _ (l : Link) where
  abbrev Fields : Code (ℕ × (ℕ × (Wire × (Care × (Talk × Hear)))))
  Fields = both byte (both byte (both wire (both care (both talk hear))))

  field_place : {B : Type 0} {d : Code B} {off : ℕ} {x : B} {w : B → ℕ × (ℕ × (Wire × (Care × (Talk × Hear))))} → Place Fields d (link_parts l) off x w → Place link d l off x (λ b. link_back (w b))
  unfolding link
  field_place {off = off} p = at {o = 0 + off} {o' = off} (omega arith) (inside (in_via link_parts link_back Fields l (λ p. refl)) p)

  pub block_place : Place link byte l 0 l.block (λ n. record { block = n; pace = l.pace; wire = l.wire; talk = l.talk; hear = l.hear; care = l.care })
  block_place = field_place (in_first byte (both byte (both wire (both care (both talk hear)))) (link_parts l))

  pub pace_place : Place link byte l pace_in l.pace (λ n. record { block = l.block; pace = n; wire = l.wire; talk = l.talk; hear = l.hear; care = l.care })
  unfolding byte
  pace_place =
      field_place (inside (in_second byte (both byte (both wire (both care (both talk hear)))) (link_parts l) refl) (in_first byte (both wire (both care (both talk hear))) (link_parts l).1))

  module _ (t : T (link.ok l)) where
    parts_ok : T (Fields.ok (link_parts l))
    unfolding link via
    parts_ok = t

    pub wire_ok : T (wire.ok l.wire)
    unfolding link via both
    wire_ok = search (left, right) depth 9

    pub care_ok : T (care.ok l.care)
    unfolding link via both
    care_ok = search (left, right) depth 9

    pub talk_ok : T (talk.ok l.talk)
    unfolding link via both
    talk_ok = search (left, right) depth 9

    pub hear_ok : T (hear.ok l.hear)
    unfolding link via both
    hear_ok = search (left, right) depth 9

    from_wire : {B : Type 0} {d : Code B} {off : ℕ} {x : B} {w : B → Wire × (Care × (Talk × Hear))} → Place (both wire (both care (both talk hear))) d (l.wire, (l.care, (l.talk, l.hear))) off x w
        → Place link d l (wire_in + off) x (λ b. link_back (l.block, (l.pace, w b)))
    unfolding byte
    from_wire {off = off} p =
        at {o = 1 + (1 + off)} {o' = wire_in + off} (omega arith)
        (field_place
        (inside (in_second byte (both byte (both wire (both care (both talk hear)))) (link_parts l) refl)
        (inside (in_second byte (both wire (both care (both talk hear))) (link_parts l).1 refl) p)))

    from_care : {B : Type 0} {d : Code B} {off : ℕ} {x : B} {w : B → Care × (Talk × Hear)} → Place (both care (both talk hear)) d (l.care, (l.talk, l.hear)) off x w
        → Place link d l (care_in + off) x (λ b. link_back (l.block, (l.pace, (l.wire, w b))))
    from_care {off = off} p =
        at (omega (arith, wire_size)) (from_wire (inside (in_second wire (both care (both talk hear)) (l.wire, (l.care, (l.talk, l.hear))) (wire_lawful.long l.wire wire_ok)) p))

    from_talk : {B : Type 0} {d : Code B} {off : ℕ} {x : B} {w : B → Talk × Hear} → Place (both talk hear) d (l.talk, l.hear) off x w
        → Place link d l (talk_in + off) x (λ b. link_back (l.block, (l.pace, (l.wire, (l.care, w b)))))
    from_talk {off = off} p =
        at (omega (arith, care_size_law)) (from_care (inside (in_second care (both talk hear) (l.care, (l.talk, l.hear)) (care_lawful.long l.care care_ok)) p))

    pub wire_place : Place link wire l wire_in l.wire (with_wire l)
    unfolding with_wire
    wire_place = from_wire (in_first wire (both care (both talk hear)) (l.wire, (l.care, (l.talk, l.hear))))

    pub care_place : Place link care l care_in l.care (with_care l)
    unfolding with_care
    care_place = from_care (in_first care (both talk hear) (l.care, (l.talk, l.hear)))

    pub talk_place : Place link talk l talk_in l.talk (with_talk l)
    unfolding with_talk
    talk_place = from_talk (in_first talk hear (l.talk, l.hear))

    pub hear_place : Place link hear l hear_in l.hear (with_hear l)
    unfolding with_hear
    hear_place = at (omega (arith, talk_size_law)) (from_talk (in_second talk hear (l.talk, l.hear) (talk_lawful.long l.talk talk_ok)))

-- ---- in what is sent

module _ (t : Talk) where
  talk_field : {B : Type 0} {d : Code B} {off : ℕ} {x : B} {w : B → ℕ × (ℕ × Out)} → Place (both word32 (both byte out)) d (talk_parts t) off x w → Place talk d t off x (λ b. talk_back (w b))
  unfolding talk
  talk_field {off = off} p = at {o = 0 + off} {o' = off} (omega arith) (inside (in_via talk_parts talk_back (both word32 (both byte out)) t (λ p. refl)) p)

  pub hold_place : Place talk word32 t 0 t.hold (λ n. record { hold = n; sn = t.sn; out = t.out })
  hold_place = talk_field (in_first word32 (both byte out) (talk_parts t))

  pub sn_place : Place talk byte t sn_in t.sn (λ n. record { hold = t.hold; sn = n; out = t.out })
  unfolding word32 word
  sn_place = talk_field (inside (in_second word32 (both byte out) (talk_parts t) refl) (in_first byte out (talk_parts t).1))

  pub out_place : Place talk out t out_in t.out (λ o. record { hold = t.hold; sn = t.sn; out = o })
  unfolding word32 word byte
  out_place = talk_field (inside (in_second word32 (both byte out) (talk_parts t) refl) (in_second byte out (talk_parts t).1 refl))

  module _ (k : T (talk.ok t)) where
    pub out_ok : T (out.ok t.out)
    unfolding talk via both
    out_ok = search (left, right) depth 9

    pub hold_ok : T (word32.ok t.hold)
    unfolding talk via both
    hold_ok = search (left, right) depth 9

    pub sn_ok : T (byte.ok t.sn)
    unfolding talk via both
    sn_ok = search (left, right) depth 9

-- ---- the bytes of a connection

trials_ok : (n : ℕ) (s : Trial) → n ≤ mntc → T (trial.ok s) → T (trials.ok (n, s))
unfolding trials both such byte
trials_ok n s h t = let k : n < 256 = omega arith in search (join, lt→ltb, le→leb) depth 9

module _ (m : List ℕ) (p : LinkPart m) where
  abbrev pub held : Connection
  held = connection_part.get m

  pub kept : connection_part.put held ≡ m
  kept = connection_lawful.put_get m (p.long ∙ sym connection_size) p.valid

  pub fine : Held held
  fine = connection_lawful.ok_get m (p.long ∙ sym connection_size) p.valid

  -- the first byte is the state
  pub state_is : get_or m 0 0 ≡ state_of held
  state_is = ap (λ (x : List ℕ). get_or x 0 0) (sym kept) ∙ state_byte held

  -- a move's bytes are those of a connection again
  pub again : (c : Connection) → Held c → LinkPart (connection_part.put c)
  again c t = record { long = connection_lawful.long c t ∙ connection_size; valid = connection_lawful.valid_put c t }

  module _ (a : Asked) (tx : ℕ) (l : Link) (e : held ≡ standing a tx l) where
    pub stands : Standing a tx l
    stands = standing_facts a tx l (subst Held e fine)

    pub link_ok : T (link.ok l)
    link_ok = (link_make a l stands.asked_ok stands.facts).0

    is : connection_part.put (standing a tx l) ≡ m
    is = ap connection_part.put (sym e) ∙ kept

    within_link : {B : Type 0} {d : Code B} {off : ℕ} {x : B} {w : B → Link} → Place link d l off x w → Place connection_part d (standing a tx l) (standing_at + off) x (λ b. standing a tx (w b))
    within_link q = inside (standing_link a stands.asked_ok tx l) q

    pub asked_part : Part connection_part m asked asked_at asked_size a (λ x. standing x tx l)
    asked_part = part m is asked_size asked_size_law (standing_asked a stands.asked_ok tx l) asked_lawful stands.asked_ok

    pub tx_part : Part connection_part m word32 tx_id_at 4 tx (λ x. standing a x l)
    unfolding word32
    tx_part = part m is 4 refl (standing_tx a stands.asked_ok tx l) word_lawful (lt→ltb tx (2 ^ 32) (omega (arith, stands.tx_narrow)))

    pub link_part_law : Part connection_part m link standing_at standing_size l (λ x. standing a tx x)
    link_part_law = part m is standing_size link_size_law (standing_link a stands.asked_ok tx l) link_lawful link_ok

    pub wire_part : Part connection_part m wire wire_at which_size l.wire (λ x. standing a tx (with_wire l x))
    wire_part = part m is which_size wire_size (within_link (wire_place l link_ok)) wire_lawful (wire_ok l link_ok)

    pub care_part : Part connection_part m care care_at care_size l.care (λ x. standing a tx (with_care l x))
    care_part = part m is care_size care_size_law (within_link (care_place l link_ok)) care_lawful (care_ok l link_ok)

    pub talk_part : Part connection_part m talk talk_at talk_size l.talk (λ x. standing a tx (with_talk l x))
    talk_part = part m is talk_size talk_size_law (within_link (talk_place l link_ok)) talk_lawful (talk_ok l link_ok)

    pub hear_part : Part connection_part m hear hear_at hear_size l.hear (λ x. standing a tx (with_hear l x))
    hear_part = part m is hear_size hear_size_law (within_link (hear_place l link_ok)) hear_lawful (hear_ok l link_ok)

    pub out_part : Part connection_part m out out_at out_size l.talk.out (λ x. standing a tx (with_talk l (record { hold = l.talk.hold; sn = l.talk.sn; out = x })))
    out_part = part m is out_size out_size_law (inside (within_link (talk_place l link_ok)) (out_place l.talk)) out_code_lawful (out_ok l.talk (talk_ok l link_ok))

    pub hold_part : Part connection_part m word32 talk_at 4 l.talk.hold (λ x. standing a tx (with_talk l (record { hold = x; sn = l.talk.sn; out = l.talk.out })))
    unfolding word32
    hold_part = part m is 4 refl (at (omega arith) (inside (within_link (talk_place l link_ok)) (hold_place l.talk))) word_lawful (hold_ok l.talk (talk_ok l link_ok))

    pub pace_is : get_or m (standing_at + pace_in) 0 ≡ l.pace
    unfolding byte
    pace_is =
        let q : Part connection_part m byte (standing_at + pace_in) 1 l.pace _ = part m is 1 refl (within_link (pace_place l)) byte_lawful (lt→ltb l.pace 256 stands.facts.pace_byte) in
        ap (λ (k : ℕ). get_or m k 0) (omega arith) ∙ byte_of q 0 (omega arith)

    pub block_is : get_or m standing_at 0 ≡ l.block
    unfolding byte
    block_is =
        let b : l.block < 256 = omega (arith, stands.facts.block_high, (asked_facts a (asked_fits_law a stands.asked_ok)).block_size_high) in
        let q : Part connection_part m byte (standing_at + 0) 1 l.block _ = part m is 1 refl (within_link (block_place l)) byte_lawful (lt→ltb l.block 256 b) in
        ap (λ (k : ℕ). get_or m k 0) (omega arith) ∙ byte_of q 0 (omega arith)

  module _ (a : Asked) (n : ℕ) (s : Trial) (e : held ≡ opening a n s) where
    pub opens : Trying a n s
    opens = opening_facts a n s (subst Held e fine)

    pub opening_asked_part : Part connection_part m asked asked_at asked_size a (λ x. opening x n s)
    opening_asked_part = part m (ap connection_part.put (sym e) ∙ kept) asked_size asked_size_law (opening_asked a opens.asked_ok n s) asked_lawful opens.asked_ok

    pub opening_trials_part : Part connection_part m trials trials_at trials_size (n, s) (λ x. opening a x.0 x.1)
    opening_trials_part = part m (ap connection_part.put (sym e) ∙ kept) trials_size trials_size_law (opening_trials a opens.asked_ok n s) trials_lawful (trials_ok n s opens.few opens.trial_ok)

  module _ (a : Asked) (tx n : ℕ) (s : Trial) (e : held ≡ connecting a tx n s) where
    pub connects : Trying a n s × (tx ≤ 0x7FF)
    connects = connecting_facts a tx n s (subst Held e fine)

    pub connecting_asked_part : Part connection_part m asked asked_at asked_size a (λ x. connecting x tx n s)
    connecting_asked_part = part m (ap connection_part.put (sym e) ∙ kept) asked_size asked_size_law (connecting_asked a connects.0.asked_ok tx n s) asked_lawful connects.0.asked_ok

    pub connecting_tx_part : Part connection_part m word32 tx_id_at 4 tx (λ x. connecting a x n s)
    unfolding word32
    connecting_tx_part = part m (ap connection_part.put (sym e) ∙ kept) 4 refl (connecting_tx a connects.0.asked_ok tx n s) word_lawful (lt→ltb tx (2 ^ 32) (omega (arith, connects.1)))

    pub connecting_trials_part : Part connection_part m trials trials_at trials_size (n, s) (λ x. connecting a tx x.0 x.1)
    connecting_trials_part =
        part m (ap connection_part.put (sym e) ∙ kept) trials_size trials_size_law (connecting_trials a connects.0.asked_ok tx n s) trials_lawful (trials_ok n s connects.0.few connects.0.trial_ok)

  module _ (tx : ℕ) (x : Exit) (e : held ≡ leaving tx x) where
    pub leaves_facts : Leaving tx x
    leaves_facts = leaving_facts tx x (subst Held e fine)

    pub leaving_tx_part : Part connection_part m word32 tx_id_at 4 tx (λ y. leaving y x)
    unfolding word32
    leaving_tx_part = part m (ap connection_part.put (sym e) ∙ kept) 4 refl (leaving_tx tx x) word_lawful (lt→ltb tx (2 ^ 32) (omega (arith, leaves_facts.tx_narrow)))

    pub leaving_exit_part : Part connection_part m leaves exit_at which_size x (λ y. leaving tx y)
    leaving_exit_part = part m (ap connection_part.put (sym e) ∙ kept) which_size leaves_size (leaving_exit tx x) leaves_lawful leaves_facts.exit_ok

-- ---- the connection of a state

abbrev pub IsOpening : Connection → Type 0
IsOpening c = (a : Asked) × ((n : ℕ) × ((s : Trial) × (c ≡ opening a n s)))

abbrev pub IsConnecting : Connection → Type 0
IsConnecting c = (a : Asked) × ((tx : ℕ) × ((n : ℕ) × ((s : Trial) × (c ≡ connecting a tx n s))))

abbrev pub IsStanding : Connection → Type 0
IsStanding c = (a : Asked) × ((tx : ℕ) × ((l : Link) × (c ≡ standing a tx l)))

abbrev pub IsLeaving : Connection → Type 0
IsLeaving c = (tx : ℕ) × ((x : Exit) × (c ≡ leaving tx x))

pub is_absent : (c : Connection) → state_of c ≡ 0 → c ≡ absent
unfolding state_of
is_absent absent e = refl
is_absent (opening a n s) e = absurd (omega arith)
is_absent (connecting a tx n s) e = absurd (omega arith)
is_absent (standing a tx l) e = absurd (omega arith)
is_absent (leaving tx x) e = absurd (omega arith)

pub is_opening : (c : Connection) → state_of c ≡ 1 → IsOpening c
unfolding state_of
is_opening absent e = absurd (omega arith)
is_opening (opening a n s) e = (a, (n, (s, refl)))
is_opening (connecting a tx n s) e = absurd (omega arith)
is_opening (standing a tx l) e = absurd (omega arith)
is_opening (leaving tx x) e = absurd (omega arith)

pub is_connecting : (c : Connection) → state_of c ≡ 2 → IsConnecting c
unfolding state_of
is_connecting absent e = absurd (omega arith)
is_connecting (opening a n s) e = absurd (omega arith)
is_connecting (connecting a tx n s) e = (a, (tx, (n, (s, refl))))
is_connecting (standing a tx l) e = absurd (omega arith)
is_connecting (leaving tx x) e = absurd (omega arith)

pub is_standing : (c : Connection) → state_of c ≡ 3 → IsStanding c
unfolding state_of
is_standing absent e = absurd (omega arith)
is_standing (opening a n s) e = absurd (omega arith)
is_standing (connecting a tx n s) e = absurd (omega arith)
is_standing (standing a tx l) e = (a, (tx, (l, refl)))
is_standing (leaving tx x) e = absurd (omega arith)

pub is_leaving : (c : Connection) → state_of c ≡ 4 → IsLeaving c
unfolding state_of
is_leaving absent e = absurd (omega arith)
is_leaving (opening a n s) e = absurd (omega arith)
is_leaving (connecting a tx n s) e = absurd (omega arith)
is_leaving (standing a tx l) e = absurd (omega arith)
is_leaving (leaving tx x) e = (tx, (x, refl))

pub state_most : (c : Connection) → state_of c ≤ 4
unfolding state_of
state_most absent = omega arith
state_most (opening a n s) = omega arith
state_most (connecting a tx n s) = omega arith
state_most (standing a tx l) = omega arith
state_most (leaving tx x) = omega arith
