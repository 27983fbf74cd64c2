-- The bytes of what is sent: T_Wait, the SN, the message in them, and what an acknowledge makes of them. Assumes nothing.
use Rattle.std.specs.Prelude.{if◌then◌else◌}
use mathlib.Core.Path.{◌≡◌, refl, sym, ap, ap₂, ◌∙◌, subst}
use Prim.Native.Nat.{ℕ, ◌+◌, ◌-◌, ◌%◌, ◌^◌, ◌≤◌, ◌<◌}
use native.Mathlib.Omega.{arith}
use mathlib.Core.Bool.{Bool, true, false, not}
use mathlib.Core.Option.{Option, none, some}
use mathlib.Core.List.{List, []}
use lib.ListN.{length, get_or, set, take, drop}
use lib.Dec.{T, leb, ltb, lit<, lt→ltb}
use borrow.Author.Tests.{eq-eqb, ne_eqb, lt-ltb, le-ltb, le-leb, lt-leb}
use borrow.Rule.Slice.PartMut.{put_mid}
use Rattle.codec.specs.Word.{word}
use Rattle.codec.specs.Code.{byte, word32, both, via, such}
use Rattle.codec.proofs.Tests.{join, by_test}
use Rattle.codec.proofs.Lawful.{word_lawful}
use Rattle.codec.proofs.Part.{Part, part}
use Rattle.link.specs.Connection.{t_wait, mntb, telegrams, new_block, Out, idle, sends, asks, Talk, breaking, broken}
use Rattle.link_layout.specs.Sizes.{again_in, sn_in, out_in, block_in, out_size, talk_size}
use Rattle.link_layout.specs.Connection.{block, out_parts, out, talk}
use Rattle.link_layout.specs.Turned.{is_there, put_or}
use Rattle.link_layout.proofs.Turning.{made, refused}
use Rattle.link_layout.proofs.Lawful.{out_code_lawful, talk_lawful}
use Rattle.link_layout.proofs.Bytes.{talk_size_law}
use Rattle.link_layout.proofs.Places.{out_size_law, hold_place, out_place, hold_ok, sn_ok, out_ok}
use Rattle.link_acknowledging.specs.Acknowledging.{restarted, next_of, waiting, accepted, repeated, points_at, acknowledged_in, cutting, cut_of}

talk_make : (t : Talk) → T (word32.ok t.hold) → T (byte.ok t.sn) → T (out.ok t.out) → T (talk.ok t)
unfolding talk via both
talk_make t h n o = search join

-- what is sent, once an acknowledge was heard, can be held
waiting_ok : (ready : Bool) (t : Talk) → T (talk.ok t) → T (talk.ok (waiting ready t))
unfolding waiting word32
waiting_ok ready t k =
    talk_make _ (by_test (λ (n : ℕ). T (word32.ok n)) ready t.hold t_wait (λ z. hold_ok t k) (lt→ltb t_wait (2 ^ 32) (lit< tt))) (sn_ok t k) (out_ok t k)

module _ (t : Talk) (k : T (talk.ok t)) (m : List ℕ) (is : talk.put t ≡ m) where
  pub hold_part : Part talk m word32 0 4 t.hold (λ n. record { hold = n; sn = t.sn; out = t.out })
  unfolding word32
  hold_part = part m is 4 refl (hold_place t) word_lawful (hold_ok t k)

  pub out_part : Part talk m out out_in out_size t.out (λ o. record { hold = t.hold; sn = t.sn; out = o })
  out_part = part m is out_size out_size_law (out_place t) out_code_lawful (out_ok t k)

-- the bytes that say the SN, the message's state, the telegrams taken, how often they were asked for again
sn_byte : (t : Talk) → get_or (talk.put t) sn_in 0 ≡ t.sn
unfolding talk via both byte word32 word
sn_byte t = refl

which_byte : (t : Talk) → get_or (talk.put t) out_in 0 ≡ (out_parts t.out).0
unfolding talk out such via both byte word32 word
which_byte t = refl

taken_byte : (t : Talk) → get_or (talk.put t) (out_in + block_in) 0 ≡ (out_parts t.out).1.1.taken
unfolding talk out block such via both byte word32 word
taken_byte t = refl

again_byte : (t : Talk) → get_or (talk.put t) (out_in + block_in + again_in) 0 ≡ (out_parts t.out).1.1.again
unfolding talk out block such via both byte word32 word
again_byte t = refl

-- another SN
sn_set : (t : Talk) (n : ℕ) → set (talk.put t) sn_in n ≡ talk.put (record { hold = t.hold; sn = n; out = t.out })
unfolding talk via both byte word32 word
sn_set t n = refl

pub no : false ≡ true → ⊥
no e = subst T (sym e) tt

-- ---- an acknowledge, by the message's state

module _ (ready : Bool) (sn : ℕ) (t : Talk) where
  not_awaited : (o : Out) → ((out_parts o).0 ≡ 2 → ⊥) → acknowledged_in ready sn t o ≡ some t
  unfolding acknowledged_in
  not_awaited idle n = refl
  not_awaited (sends b) n = refl
  not_awaited (asks b us) n = absurd (n refl)

  abbrev Ways : Bool → Bool → Bool → ℕ → Option Talk
  Ways same below often n =
      if same then some (accepted ready sn t) else if not below then some t else if often then none else some (repeated ready (points_at sn t) n t)

  all_accepted : (o : Out) → (out_parts o).0 ≡ 2 → points_at sn t ≡ (out_parts o).1.1.taken → acknowledged_in ready sn t o ≡ some (accepted ready sn t)
  unfolding acknowledged_in
  all_accepted idle e h = absurd (omega arith)
  all_accepted (sends b) e h = absurd (omega arith)
  all_accepted (asks b us) e h = ap (λ (x : Bool). Ways x (ltb (points_at sn t) b.taken) (leb mntb b.again) (b.again + 1)) (eq-eqb (points_at sn t) b.taken h)

  past_block : (o : Out) → (out_parts o).0 ≡ 2 → (out_parts o).1.1.taken < points_at sn t → acknowledged_in ready sn t o ≡ some t
  unfolding acknowledged_in
  past_block idle e h = absurd (omega arith)
  past_block (sends b) e h = absurd (omega arith)
  past_block (asks b us) e h =
      ap₂ (λ (x y : Bool). Ways x y (leb mntb b.again) (b.again + 1)) (ne_eqb (points_at sn t) b.taken (λ q. omega arith)) (le-ltb (points_at sn t) b.taken (omega arith))

  too_often : (o : Out) → (out_parts o).0 ≡ 2 → points_at sn t < (out_parts o).1.1.taken → mntb ≤ (out_parts o).1.1.again → acknowledged_in ready sn t o ≡ none
  unfolding acknowledged_in
  too_often idle e h g = absurd (omega arith)
  too_often (sends b) e h g = absurd (omega arith)
  too_often (asks b us) e h g =
      ap₂ (λ (x y : Bool). Ways x y (leb mntb b.again) (b.again + 1)) (ne_eqb (points_at sn t) b.taken (λ q. omega arith)) (lt-ltb (points_at sn t) b.taken h)
      ∙ ap (λ (x : Bool). Ways false true x (b.again + 1)) (le-leb mntb b.again g)

  once_more : (o : Out) → (out_parts o).0 ≡ 2 → points_at sn t < (out_parts o).1.1.taken → (out_parts o).1.1.again < mntb
      → acknowledged_in ready sn t o ≡ some (repeated ready (points_at sn t) ((out_parts o).1.1.again + 1) t)
  unfolding acknowledged_in
  once_more idle e h g = absurd (omega arith)
  once_more (sends b) e h g = absurd (omega arith)
  once_more (asks b us) e h g =
      ap₂ (λ (x y : Bool). Ways x y (leb mntb b.again) (b.again + 1)) (ne_eqb (points_at sn t) b.taken (λ q. omega arith)) (lt-ltb (points_at sn t) b.taken h)
      ∙ ap (λ (x : Bool). Ways false true x (b.again + 1)) (lt-leb mntb b.again g)

-- ---- a break: what `cut_of` says is what `broken` does

cut_way : {A B : Type 0} (c : Bool) (y : A) (z t : B) → true ≡ is_there (if c then some y else none) → ((if c then some y else none) ≡ some y) × ((if c then z else t) ≡ z)
unfolding is_there
cut_way true y z t e = (refl, refl)
cut_way false y z t e = absurd (no (sym e))

not_way : {A B : Type 0} (c : Bool) (y : A) (z t : B) → false ≡ is_there (if c then some y else none) → ((if c then some y else none) ≡ none) × ((if c then z else t) ≡ t)
unfolding is_there
not_way true y z t e = absurd (no e)
not_way false y z t e = (refl, refl)

module _ (t : Talk) where
  abbrev Cut : Out → Talk
  Cut o = record { hold = t.hold; sn = (t.sn + (out_parts o).1.1.taken) % 16; out = sends (new_block []) }

  broken_cut : (o : Out) → true ≡ is_there (cut_of o) → (cut_of o ≡ some (sends (new_block []))) × (broken t o ≡ Cut o)
  unfolding cut_of cutting broken breaking is_there
  broken_cut idle e = absurd (no (sym e))
  broken_cut (sends b) e = cut_way (ltb b.taken (telegrams b.rest)) _ _ _ e
  broken_cut (asks b us) e = cut_way (ltb b.taken (telegrams b.rest)) _ _ _ e

  broken_not : (o : Out) → false ≡ is_there (cut_of o) → (cut_of o ≡ none) × (broken t o ≡ t)
  unfolding cut_of cutting broken breaking
  broken_not idle e = (refl, refl)
  broken_not (sends b) e = not_way (ltb b.taken (telegrams b.rest)) _ _ _ e
  broken_not (asks b us) e = not_way (ltb b.taken (telegrams b.rest)) _ _ _ e

-- ---- on its bytes

module _ (m : List ℕ) (long : length m ≡ talk_size) (v : T (talk.valid m)) where
  abbrev pub held : Talk
  held = talk.get m

  pub kept : talk.put held ≡ m
  kept = talk_lawful.put_get m (long ∙ sym talk_size_law) v

  pub fine : T (talk.ok held)
  fine = talk_lawful.ok_get m (long ∙ sym talk_size_law) v

  pub waits : (ready : Bool) → ready ≡ false → (w : List ℕ) → w ≡ word t_wait → put_mid 0 4 m w ≡ talk.put (waiting ready held)
  unfolding waiting word32
  waits ready e w q = (hold_part held fine m kept).becomes w t_wait q ∙ sym (ap (λ (b : Bool). talk.put (waiting b held)) e)

  pub goes_on : (ready : Bool) → ready ≡ true → m ≡ talk.put (waiting ready held)
  unfolding waiting
  goes_on ready e = sym kept ∙ sym (ap (λ (b : Bool). talk.put (waiting b held)) e)

  which_is : get_or m out_in 0 ≡ (out_parts held.out).0
  which_is = ap (λ (x : List ℕ). get_or x out_in 0) (sym kept) ∙ which_byte held

  taken_is : get_or m (out_in + block_in) 0 ≡ (out_parts held.out).1.1.taken
  taken_is = ap (λ (x : List ℕ). get_or x (out_in + block_in) 0) (sym kept) ∙ taken_byte held

  again_is : get_or m (out_in + block_in + again_in) 0 ≡ (out_parts held.out).1.1.again
  again_is = ap (λ (x : List ℕ). get_or x (out_in + block_in + again_in) 0) (sym kept) ∙ again_byte held

  pub sn_is : get_or m sn_in 0 ≡ held.sn
  sn_is = ap (λ (x : List ℕ). get_or x sn_in 0) (sym kept) ∙ sn_byte held

  pub lent : Part talk m out out_in out_size held.out (λ o. record { hold = held.hold; sn = held.sn; out = o })
  lent = out_part held fine m kept

  -- once T_Wait is seen to, the message is lent
  module _ (ready : Bool) (x : List ℕ) (e : x ≡ talk.put (waiting ready held)) where
    pub after : Part talk x out out_in out_size held.out (λ o. record { hold = (waiting ready held).hold; sn = held.sn; out = o })
    unfolding waiting
    after = out_part (waiting ready held) (waiting_ok ready held fine) x (sym e)

    pub still_asks : get_or m out_in 0 ≡ 2 → get_or (take out_size (drop out_in x)) 0 0 ≡ 2
    unfolding out such via both byte
    still_asks q = ap (λ (y : List ℕ). get_or y 0 0) after.is ∙ sym which_is ∙ q

    pub accepts : (sn : ℕ) (ys : List ℕ) → ys ≡ out.put (next_of (out.get (take out_size (drop out_in x)))) → set (put_mid out_in out_size x ys) sn_in sn ≡ talk.put (accepted ready sn held)
    unfolding accepted
    accepts sn ys q =
        ap (λ (y : List ℕ). set y sn_in sn) (after.becomes ys (next_of held.out) (q ∙ ap (λ (o : Out). out.put (next_of o)) after.got))
        ∙ sn_set (record { hold = (waiting ready held).hold; sn = held.sn; out = next_of held.out }) sn

    pub repeats : (at again : ℕ) (ys : List ℕ) → ys ≡ out.put (restarted at again (out.get (take out_size (drop out_in x)))) → put_mid out_in out_size x ys ≡ talk.put (repeated ready at again held)
    unfolding repeated
    repeats at again ys q = after.becomes ys (restarted at again held.out) (q ∙ ap (λ (o : Out). out.put (restarted at again o)) after.got)

  -- an acknowledge: `a` is where it points in the block
  module _ (ready : Bool) (sn : ℕ) where
    abbrev Answers : Bool → List ℕ → Type 0
    Answers r ys = (r ≡ is_there (acknowledged_in ready sn held held.out)) × (ys ≡ put_or talk (acknowledged_in ready sn held held.out) m)

    pub ignored : (get_or m out_in 0 ≡ 2 → ⊥) → Answers true m
    ignored n = made talk _ m held m (not_awaited ready sn held held.out (λ e. n (which_is ∙ e))) (sym kept)

    module _ (asks : get_or m out_in 0 ≡ 2) (a x y : ℕ) (xs : x ≡ sn) (ys : y ≡ get_or m sn_in 0) (e : a ≡ (x + 16 - y) % 16) where
      awaited : (out_parts held.out).0 ≡ 2
      awaited = sym which_is ∙ asks

      points : a ≡ points_at sn held
      unfolding points_at
      points =
          let q : x + 16 - y ≡ sn + 16 - held.sn = omega (arith, sn_is) in
          e ∙ ap (λ (n : ℕ). n % 16) q

      pub accepting : a ≡ get_or m (out_in + block_in) 0 → (z : List ℕ) → z ≡ talk.put (accepted ready sn held) → Answers true z
      accepting h z q = made talk _ m _ z (all_accepted ready sn held held.out awaited (sym points ∙ h ∙ taken_is)) q

      pub beyond : get_or m (out_in + block_in) 0 < a → Answers true m
      beyond h = made talk _ m held m (past_block ready sn held held.out awaited (omega (arith, points, taken_is))) (sym kept)

      pub given_up : (a ≡ get_or m (out_in + block_in) 0 → ⊥) → a ≤ get_or m (out_in + block_in) 0 → 5 ≤ get_or m (out_in + block_in + again_in) 0 → Answers false m
      given_up n h g = refused talk _ m (too_often ready sn held held.out awaited (omega (arith, points, taken_is)) (omega (arith, again_is)))

      pub repeating : (a ≡ get_or m (out_in + block_in) 0 → ⊥) → a ≤ get_or m (out_in + block_in) 0 → get_or m (out_in + block_in + again_in) 0 < 5 → (z : List ℕ) → z ≡ talk.put (repeated ready a (get_or m (out_in + block_in + again_in) 0 + 1) held) → Answers true z
      repeating n h g z q =
          made talk _ m _ z (once_more ready sn held held.out awaited (omega (arith, points, taken_is)) (omega (arith, again_is)))
          (q ∙ ap₂ (λ (i k : ℕ). talk.put (repeated ready i (k + 1) held)) points again_is)

  -- a break: r is whether the message was cut
  module _ (r : Bool) (cut : r ≡ is_there (cut_of (out.get (take out_size (drop out_in m))))) (ys : List ℕ) (q : ys ≡ put_or out (cut_of (out.get (take out_size (drop out_in m)))) (take out_size (drop out_in m))) where
    there : r ≡ is_there (cut_of held.out)
    there = cut ∙ ap (λ (o : Out). is_there (cut_of o)) lent.got

    put_is : ys ≡ put_or out (cut_of held.out) (take out_size (drop out_in m))
    put_is = q ∙ ap (λ (o : Out). put_or out (cut_of o) (take out_size (drop out_in m))) lent.got

    pub uncut : r ≡ false → put_mid out_in out_size m ys ≡ talk.put (broken held held.out)
    unfolding put_or
    uncut e =
        let b = broken_not held held.out (sym e ∙ there) in
        lent.becomes ys held.out (put_is ∙ ap (λ (o : Option Out). put_or out o (take out_size (drop out_in m))) b.0 ∙ lent.is)
        ∙ sym (ap talk.put b.1)

    pub is_broken : r ≡ true → (n : ℕ) → n ≡ (held.sn + (out_parts held.out).1.1.taken) % 16 → set (put_mid out_in out_size m ys) sn_in n ≡ talk.put (broken held held.out)
    unfolding put_or
    is_broken e n k =
        let b = broken_cut held held.out (sym e ∙ there) in
        ap (λ (y : List ℕ). set y sn_in n)
        (lent.becomes ys (sends (new_block [])) (put_is ∙ ap (λ (o : Option Out). put_or out o (take out_size (drop out_in m))) b.0))
        ∙ sn_set (record { hold = held.hold; sn = held.sn; out = sends (new_block []) }) n
        ∙ ap (λ (i : ℕ). talk.put (record { hold = held.hold; sn = i; out = sends (new_block []) })) k
        ∙ sym (ap talk.put b.1)

  pub next_sn : (x y n : ℕ) → x ≡ get_or m sn_in 0 → y ≡ get_or m (out_in + block_in) 0 → n ≡ (x + y) % 16 → n ≡ (held.sn + (out_parts held.out).1.1.taken) % 16
  next_sn x y n xs ys e =
      let q : x + y ≡ held.sn + (out_parts held.out).1.1.taken = omega (arith, sn_is, taken_is) in
      e ∙ ap (λ (i : ℕ). i % 16) q
