-- A telegram to a connection that stands: what it makes of one part is what it makes of the whole. Assumes nothing.
use mathlib.Core.Path.{◌≡◌, refl, sym, ap, ◌∙◌, subst}
use Prim.Native.Nat.{ℕ, ◌≤◌}
use mathlib.Core.Bool.{Bool, true, false}
use mathlib.Core.Option.{Option, none, some}
use mathlib.Core.List.{List}
use lib.ListN.{length, get_or, take, drop}
use borrow.Rule.Slice.PartMut.{put_mid}
use Rattle.codec.specs.Plain.{zeros}
use Rattle.codec.specs.Code.{Code}
use Rattle.codec.proofs.Part.{Part}
use Rattle.telegram.specs.Telegram.{Telegram, data_telegram, acknowledge, connection, test, break_off, disconnection}
use Rattle.link.specs.Connection.{Asked, Talk, Hear, Care, Link, Connection, standing, with_talk, with_hear, with_care, on_link, told, broken, ended}
use Rattle.link_layout.specs.Sizes.{care_at, care_size, talk_at, talk_size, hear_at, hear_size}
use Rattle.link_layout.specs.Connection.{care, talk, hear, connection_part}
use Rattle.link_layout.specs.Turned.{is_there, put_or, LinkPart}
use Rattle.link_layout.proofs.Places.{held, kept, state_is, stands, care_part, talk_part, hear_part, IsStanding, is_standing}
use Rattle.link_layout.proofs.Asked.{gone}
use Rattle.link_acknowledging.specs.Acknowledging.{acknowledged_in}
use Rattle.link_acknowledging.proofs.Talks.{no}
use Rattle.link_acknowledging.proofs.Meaning as sent
use Rattle.link_data.specs.Hearing.{hearing}
use Rattle.link_data.proofs.Meaning as received
use Rattle.link_telling.specs.Telling.{heeds, care_tested, care_answered}

-- ---- a part that moved, or was refused and stays

module _ {B : Type 0} {d : Code B} {off n : ℕ} {x : B} {w : B → Connection} (m : List ℕ) (p : Part connection_part m d off n x w) (r : Bool) (ys : List ℕ) where
  moved : (f : Option B → Connection) → ((b : B) → f (some b) ≡ w b) → (y : Option B) → r ≡ is_there y → ys ≡ put_or d y (take n (drop off m)) → r ≡ true → put_mid off n m ys ≡ connection_part.put (f y)
  unfolding is_there put_or
  moved f k none e q t = absurd (no (sym e ∙ t))
  moved f k (some b) e q t = p.becomes ys b q ∙ sym (ap connection_part.put (k b))

  stayed : (y : Option B) → r ≡ is_there y → ys ≡ put_or d y (take n (drop off m)) → r ≡ false → (y ≡ none) × (put_mid off n m ys ≡ connection_part.put (w x))
  unfolding is_there put_or
  stayed none e q t = (refl, p.becomes ys x (q ∙ p.is))
  stayed (some b) e q t = absurd (no (sym t ∙ e))

-- ---- the connection stands

module _ (m : List ℕ) (p : LinkPart m) (s : get_or m 0 0 ≡ 3) where
  pub found : IsStanding (held m p)
  found = is_standing (held m p) (sym (state_is m p) ∙ s)

  abbrev a : Asked
  a = found.0

  abbrev tx : ℕ
  tx = found.1.0

  abbrev l : Link
  l = found.1.1.0

  abbrev e : held m p ≡ standing a tx l
  e = found.1.1.1

  same : connection_part.put (standing a tx l) ≡ m
  same = ap connection_part.put (sym e) ∙ kept m p

  heeded : (t : Option Telegram) → connection_part.put (told a tx l t) ≡ connection_part.put (heeds t (connection_part.get m))
  unfolding heeds on_link
  heeded t = sym (ap (λ (c : Connection). connection_part.put (heeds t c)) e)

  pub care_lent : Part connection_part m care care_at care_size l.care (λ x. standing a tx (with_care l x))
  care_lent = care_part m p a tx l e

  pub talk_lent : Part connection_part m talk talk_at talk_size l.talk (λ x. standing a tx (with_talk l x))
  talk_lent = talk_part m p a tx l e

  pub hear_lent : Part connection_part m hear hear_at hear_size l.hear (λ x. standing a tx (with_hear l x))
  hear_lent = hear_part m p a tx l e

  pub sn_small : (talk.get (take talk_size (drop talk_at m))).sn ≤ 15
  sn_small = subst (λ (t : Talk). t.sn ≤ 15) (sym talk_lent.got) (stands m p a tx l e).facts.sn_most

  -- nothing, by a frame that says nothing or by a telegram
  pub ignored : m ≡ connection_part.put (heeds none (connection_part.get m))
  unfolding told
  ignored = sym same ∙ heeded none

  -- a connection set-up, which is passed over, or an acknowledge of our test
  module _ (ack : Bool) (bs t1 t2 t3 t4 : ℕ) where
    abbrev Sets : Bool → List ℕ
    Sets x = connection_part.put (heeds (some (connection x bs t1 t2 t3 t4)) (connection_part.get m))

    pub not_acknowledged : ack ≡ false → m ≡ Sets ack
    unfolding told
    not_acknowledged k = sym same ∙ heeded (some (connection false bs t1 t2 t3 t4)) ∙ sym (ap Sets k)

    pub is_answered : ack ≡ true → (ys : List ℕ) → ys ≡ care.put (care_answered (care.get (take care_size (drop care_at m)))) → put_mid care_at care_size m ys ≡ Sets ack
    unfolding told care_answered
    is_answered k ys q =
        care_lent.becomes ys (care_answered l.care) (q ∙ ap (λ (c : Care). care.put (care_answered c)) care_lent.got)
        ∙ heeded (some (connection true bs t1 t2 t3 t4)) ∙ sym (ap Sets k)

  pub is_tested : (ys : List ℕ) → ys ≡ care.put (care_tested (care.get (take care_size (drop care_at m)))) → put_mid care_at care_size m ys ≡ connection_part.put (heeds (some test) (connection_part.get m))
  unfolding told care_tested
  is_tested ys q =
      care_lent.becomes ys (care_tested l.care) (q ∙ ap (λ (c : Care). care.put (care_tested c)) care_lent.got) ∙ heeded (some test)

  pub is_broken : (ys : List ℕ) → ys ≡ talk.put (broken (talk.get (take talk_size (drop talk_at m))) (talk.get (take talk_size (drop talk_at m))).out)
      → put_mid talk_at talk_size m ys ≡ connection_part.put (heeds (some break_off) (connection_part.get m))
  unfolding told
  is_broken ys q =
      talk_lent.becomes ys (broken l.talk l.talk.out) (q ∙ ap (λ (t : Talk). talk.put (broken t t.out)) talk_lent.got) ∙ heeded (some break_off)

  pub is_gone : (y : List ℕ) → y ≡ zeros (length m) → y ≡ connection_part.put (heeds (some disconnection) (connection_part.get m))
  unfolding told
  is_gone y q = gone m y p q ∙ heeded (some disconnection)

  -- its end, where the part stays as it was
  ends : (x z : List ℕ) → x ≡ m → z ≡ connection_part.put (ended (connection_part.get x)) → z ≡ connection_part.put (ended (standing a tx l))
  ends x z k q = q ∙ ap (λ (y : List ℕ). connection_part.put (ended (connection_part.get y))) k ∙ ap (λ (c : Connection). connection_part.put (ended c)) e

  -- data: r says whether the connection goes on
  module _ (asks last : Bool) (sn : ℕ) (b : List ℕ) (r : Bool) (ys : List ℕ) (i : r ≡ is_there (hearing asks last sn b (hear.get (take hear_size (drop hear_at m)))))
      (q : ys ≡ put_or hear (hearing asks last sn b (hear.get (take hear_size (drop hear_at m)))) (take hear_size (drop hear_at m))) where
    data_means : connection_part.put (received.turned a tx l (hearing asks last sn b (hear.get (take hear_size (drop hear_at m)))))
        ≡ connection_part.put (heeds (some (data_telegram asks last sn b)) (connection_part.get m))
    unfolding told
    data_means =
        ap (λ (h : Hear). connection_part.put (received.turned a tx l (hearing asks last sn b h))) hear_lent.got
        ∙ sym (ap connection_part.put (received.means a tx l asks last sn b)) ∙ heeded (some (data_telegram asks last sn b))

    pub heard : r ≡ true → put_mid hear_at hear_size m ys ≡ connection_part.put (heeds (some (data_telegram asks last sn b)) (connection_part.get m))
    heard t = moved m hear_lent r ys (received.turned a tx l) (λ h. refl) _ i q t ∙ data_means

    pub unheard : r ≡ false → put_mid hear_at hear_size m ys ≡ m
    unfolding with_hear
    unheard t = (stayed m hear_lent r ys _ i q t).1 ∙ same

    pub data_ends : r ≡ false → (z : List ℕ) → z ≡ connection_part.put (ended (connection_part.get (put_mid hear_at hear_size m ys)))
        → z ≡ connection_part.put (heeds (some (data_telegram asks last sn b)) (connection_part.get m))
    unfolding ended
    data_ends t z k =
        ends _ z (unheard t) k ∙ sym (ap (λ (y : Option Hear). connection_part.put (received.turned a tx l y)) (stayed m hear_lent r ys _ i q t).0) ∙ data_means

  -- an acknowledge
  module _ (ready : Bool) (sn : ℕ) (r : Bool) (ys : List ℕ) (i : r ≡ is_there (acknowledged_in ready sn (talk.get (take talk_size (drop talk_at m))) (talk.get (take talk_size (drop talk_at m))).out))
      (q : ys ≡ put_or talk (acknowledged_in ready sn (talk.get (take talk_size (drop talk_at m))) (talk.get (take talk_size (drop talk_at m))).out) (take talk_size (drop talk_at m))) where
    acknowledge_means : connection_part.put (sent.turned a tx l (acknowledged_in ready sn (talk.get (take talk_size (drop talk_at m))) (talk.get (take talk_size (drop talk_at m))).out))
        ≡ connection_part.put (heeds (some (acknowledge ready sn)) (connection_part.get m))
    unfolding told
    acknowledge_means =
        ap (λ (t : Talk). connection_part.put (sent.turned a tx l (acknowledged_in ready sn t t.out))) talk_lent.got
        ∙ sym (ap connection_part.put (sent.means a tx l ready sn l.talk.out refl)) ∙ heeded (some (acknowledge ready sn))

    pub acknowledged : r ≡ true → put_mid talk_at talk_size m ys ≡ connection_part.put (heeds (some (acknowledge ready sn)) (connection_part.get m))
    acknowledged t = moved m talk_lent r ys (sent.turned a tx l) (λ x. refl) _ i q t ∙ acknowledge_means

    pub unacknowledged : r ≡ false → put_mid talk_at talk_size m ys ≡ m
    unfolding with_talk
    unacknowledged t = (stayed m talk_lent r ys _ i q t).1 ∙ same

    pub acknowledge_ends : r ≡ false → (z : List ℕ) → z ≡ connection_part.put (ended (connection_part.get (put_mid talk_at talk_size m ys)))
        → z ≡ connection_part.put (heeds (some (acknowledge ready sn)) (connection_part.get m))
    unfolding ended
    acknowledge_ends t z k =
        ends _ z (unacknowledged t) k ∙ sym (ap (λ (y : Option Talk). connection_part.put (sent.turned a tx l y)) (stayed m talk_lent r ys _ i q t).0) ∙ acknowledge_means
