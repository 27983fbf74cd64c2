-- The bytes of a standing connection some microseconds later: what is left of T_Wait and of T3, the message, the test. Assumes nothing.
use mathlib.Core.Path.{◌≡◌, refl, sym, ap, ap₂, ◌∙◌, subst}
use Prim.Native.Nat.{ℕ, ◌+◌, ◌-◌, ◌≤◌}
use native.Mathlib.Omega.{arith}
use mathlib.Core.Bool.{Bool, true, false}
use mathlib.Core.Option.{Option, none, some}
use mathlib.Core.List.{List}
use lib.ListN.{length, get_or, take, drop}
use lib.Dec.{T}
use borrow.Rule.Slice.PartMut.{put_mid}
use Rattle.codec.specs.Word.{word, word_at}
use Rattle.codec.specs.Code.{byte, word32, both, via, such}
use Rattle.codec.proofs.Part.{Part, byte_of}
use Rattle.link.specs.Connection.{t_wait, Asked, Out, idle, sends, asks, Care, Wire, wire_later, exit_later, Link, Connection, standing, with_wire, with_talk, with_care, leave, out_later, care_later, link_later, passing, ended}
use Rattle.link_layout.specs.Sizes.{word_size, which_size, care_size, out_size, asked_at, t1_in, wire_at, care_at, talk_at, block_in, out_at}
use Rattle.link_layout.specs.Connection.{asked, leaves, wire, out, care, is_data, is_test, connection_part}
use Rattle.link_layout.specs.Turned.{LinkPart}
use Rattle.link_layout.proofs.Talking.{block_some, OutFacts, LinkFacts, Standing, Held, standing_held}
use Rattle.link_layout.proofs.Moves.{MayOut, out_later_law, CareFacts, later_facts}
use Rattle.link_layout.proofs.Places.{held, state_is, IsStanding, is_standing, stands, asked_part, hold_part, wire_part, out_part, care_part}
use Rattle.link_starts.proofs.Laws.{asks_bytes}
use Rattle.link_times.proofs.Passes.{Turns, turned, kept_so, again, Passing, to}

asked_t1 : (a : Asked) → get_or (asked.put a) t1_in 0 ≡ a.t1
unfolding asked via such both byte word32 word
asked_t1 a = refl

-- a message whose T1 runs has a telegram taken
taken_some : (t1 size : ℕ) (flying : Bool) (o : Out) → 1 ≤ size → OutFacts t1 size flying o → get_or (out.put o) 0 0 ≡ 2 → 1 ≤ get_or (out.put o) block_in 0
unfolding word
taken_some t1 size flying idle h f e = absurd (unfold out via such both byte in omega arith)
taken_some t1 size flying (sends b) h f e = absurd (unfold out via such both byte in omega arith)
taken_some t1 size flying (asks b k) h f e =
    let q : get_or (out.put (asks b k)) block_in 0 ≡ b.taken = ap (λ (x : List ℕ). get_or x block_in 0) (asks_bytes b k) in
    omega (arith, f.2, block_some size b.rest h)

module _ (us : ℕ) where
  -- what is left of T_Wait, then of T3; a message, the test
  unfoldable held_on : Link → Link
  held_on l = with_talk l (record { hold = l.talk.hold - us; sn = l.talk.sn; out = l.talk.out })

  unfoldable spaced_on : Link → Link
  spaced_on l = with_wire (held_on l) (wire_later us l.wire)

  unfoldable told_on : Link → Out → Link
  told_on l o = with_talk (spaced_on l) (record { hold = l.talk.hold - us; sn = l.talk.sn; out = o })

  module _ (a : Asked) (tx : ℕ) (l : Link) (f : Standing a tx l) where
    abbrev k : LinkFacts a l
    k = f.facts

    stays : (l' : Link) → LinkFacts a l' → Held (standing a tx l')
    stays l' h = standing_held a tx l' (record { asked_ok = f.asked_ok; tx_narrow = f.tx_narrow; facts = h })

    hold_held : Held (standing a tx (held_on l))
    unfolding held_on with_talk
    hold_held = let h : l.talk.hold - us ≤ t_wait = omega (arith, k.hold_most) in stays _ (let j = k in search)

    cares : CareFacts l.care (is_test l.wire)
    cares = record { unanswered_most = k.unanswered_most; left_most = k.left_most; test_fits = k.test_fits }

    told_held : (o : Out) → OutFacts a.t1 l.block (is_data l.wire) o → Held (standing a tx (told_on l o))
    unfolding told_on spaced_on held_on with_talk with_wire with_care
    told_held o h = stays _ (later_facts a tx us l f o l.care h cares)

    spaced_held : Held (standing a tx (spaced_on l))
    unfolding told_on spaced_on held_on with_talk with_wire
    spaced_held = told_held l.talk.out k.sending

    outs : MayOut a.t1 l.block (is_data l.wire) (out_later a.t1 us l.talk.out)
    outs = out_later_law a.t1 l.block us (is_data l.wire) l.talk.out k.block_low k.sending

    sent_held : (o : Out) → out_later a.t1 us l.talk.out ≡ some o → Held (standing a tx (told_on l o))
    sent_held o e = told_held o (subst (MayOut a.t1 l.block (is_data l.wire)) e outs)

    -- the connection later, by what became of the message and of the test
    gives : (o : Option Out) (c : Option Care) → out_later a.t1 us l.talk.out ≡ o → care_later us l.care ≡ c → link_later a tx us l o c ≡ passing us (standing a tx l)
    unfolding passing
    gives o c e f = ap₂ (λ (x : Option Out) (y : Option Care). link_later a tx us l x y) (sym e) (sym f)

    message_over : (c : Option Care) → link_later a tx us l none c ≡ ended (standing a tx (spaced_on l))
    unfolding link_later ended leave spaced_on held_on with_wire with_talk
    message_over c = refl

    test_over : (o : Out) → link_later a tx us l (some o) none ≡ ended (standing a tx (told_on l o))
    unfolding link_later ended leave told_on spaced_on held_on with_wire with_talk
    test_over o = refl

    goes_on : (o : Out) (c : Care) → link_later a tx us l (some o) (some c) ≡ standing a tx (with_care (told_on l o) c)
    unfolding link_later told_on spaced_on held_on with_wire with_talk with_care
    goes_on o c = refl

module _ (m : List ℕ) (p : LinkPart m) (z : get_or m 0 0 ≡ 3) (us : ℕ) where
  stander : IsStanding (held m p)
  stander = is_standing (held m p) (sym (state_is m p) ∙ z)

  abbrev a : Asked
  a = stander.0

  abbrev tx : ℕ
  tx = stander.1.0

  abbrev l : Link
  l = stander.1.1.0

  e : held m p ≡ standing a tx l
  e = stander.1.1.1

  facts : Standing a tx l
  facts = stands m p a tx l e

  t1_is : get_or m (asked_at + t1_in) 0 ≡ a.t1
  t1_is = byte_of (asked_part m p a tx l e) t1_in (omega arith) ∙ asked_t1 a

  pub hold_long : length (take word_size (drop talk_at m)) ≡ word_size
  hold_long = (hold_part m p a tx l e).long

  module _ (y1 : List ℕ) (q1 : y1 ≡ word (word_at 0 (take word_size (drop talk_at m)) - us)) where
    abbrev pub m1 : List ℕ
    m1 = put_mid talk_at word_size m y1

    holds : m1 ≡ connection_part.put (standing a tx (held_on us l))
    unfolding held_on word32
    holds =
        let h = hold_part m p a tx l e in
        h.becomes y1 (l.talk.hold - us) (q1 ∙ ap (λ (n : ℕ). word (n - us)) h.got)

    one : LinkPart m1 × (connection_part.get m1 ≡ standing a tx (held_on us l))
    one = again m1 _ (hold_held us a tx l facts) holds

    line : Part connection_part m1 wire wire_at which_size (held_on us l).wire (λ x. standing a tx (with_wire (held_on us l) x))
    line = wire_part m1 one.0 a tx (held_on us l) one.1

    pub wire_long : length (take which_size (drop wire_at m1)) ≡ which_size
    wire_long = line.long

    abbrev pub Spaces : List ℕ → Type 0
    Spaces ys = (T (wire.valid (take which_size (drop wire_at m1))) → ys ≡ wire.put (wire_later us (wire.get (take which_size (drop wire_at m1)))))
        × (T (leaves.valid (take which_size (drop wire_at m1))) → ys ≡ leaves.put (exit_later us (leaves.get (take which_size (drop wire_at m1)))))

    module _ (y2 : List ℕ) (q2 : Spaces y2) where
      abbrev pub m2 : List ℕ
      m2 = put_mid wire_at which_size m1 y2

      spaces : m2 ≡ connection_part.put (standing a tx (spaced_on us l))
      unfolding spaced_on held_on with_talk
      spaces = line.becomes y2 (wire_later us l.wire) (q2.0 line.valid ∙ ap (λ (x : Wire). wire.put (wire_later us x)) line.got)

      two : LinkPart m2 × (connection_part.get m2 ≡ standing a tx (spaced_on us l))
      two = again m2 _ (spaced_held us a tx l facts) spaces

      message : Part connection_part m2 out out_at out_size l.talk.out (λ x. standing a tx (told_on us l x))
      unfolding told_on spaced_on held_on with_wire with_talk
      message = out_part m2 two.0 a tx (spaced_on us l) two.1

      pub out_lent : (length (take out_size (drop out_at m2)) ≡ out_size) × T (out.valid (take out_size (drop out_at m2)))
          × (get_or (take out_size (drop out_at m2)) 0 0 ≡ 2 → 1 ≤ get_or (take out_size (drop out_at m2)) block_in 0)
      out_lent = (
        message.long,
        message.valid,
        subst (λ (x : List ℕ). get_or x 0 0 ≡ 2 → 1 ≤ get_or x block_in 0) (sym message.is)
            (taken_some a.t1 l.block (is_data l.wire) l.talk.out facts.facts.block_low facts.facts.sending),
      )

      module _ (t1 : ℕ) (et : t1 ≡ get_or m (asked_at + t1_in) 0) (r3 : Bool) (y3 : List ℕ) (q3 : Turns out (take out_size (drop out_at m2)) (out_later t1 us) r3 y3) where
        abbrev pub m3 : List ℕ
        m3 = put_mid out_at out_size m2 y3

        own_t1 : (x : Option Out) → out_later t1 us l.talk.out ≡ x → out_later a.t1 us l.talk.out ≡ x
        own_t1 x q = ap (λ (n : ℕ). out_later n us l.talk.out) (sym (et ∙ t1_is)) ∙ q

        module _ (no : r3 ≡ false) where
          lost : (out_later t1 us l.talk.out ≡ none) × (m3 ≡ connection_part.put (standing a tx (told_on us l l.talk.out)))
          lost = kept_so message (out_later t1 us) r3 y3 q3 no

          lost_so : m3 ≡ connection_part.put (standing a tx (spaced_on us l))
          unfolding told_on spaced_on held_on with_wire with_talk
          lost_so = lost.1

          three_lost : LinkPart m3 × (connection_part.get m3 ≡ standing a tx (spaced_on us l))
          three_lost = again m3 _ (spaced_held us a tx l facts) lost_so

          pub message_lost : LinkPart m3
          message_lost = three_lost.0

          pub message_ends : (r : List ℕ) → r ≡ connection_part.put (ended (connection_part.get m3)) → r ≡ Passing m p us
          message_ends r y =
              y ∙ ap (λ (x : Connection). connection_part.put (ended x)) three_lost.1
              ∙ to m p us _ _ e (sym (message_over us a tx l facts (care_later us l.care)) ∙ gives us a tx l facts none _ (own_t1 none lost.0) refl)

        module _ (yes : r3 ≡ true) where
          sent : (y : Out) × ((out_later t1 us l.talk.out ≡ some y) × (m3 ≡ connection_part.put (standing a tx (told_on us l y))))
          sent = turned message (out_later t1 us) r3 y3 q3 yes

          abbrev o : Out
          o = sent.0

          three : LinkPart m3 × (connection_part.get m3 ≡ standing a tx (told_on us l o))
          three = again m3 (standing a tx (told_on us l o)) (sent_held us a tx l facts o (own_t1 (some o) sent.1.0)) sent.1.1

          test : Part connection_part m3 care care_at care_size l.care (λ x. standing a tx (with_care (told_on us l o) x))
          unfolding told_on spaced_on held_on with_wire with_talk
          test = care_part m3 three.0 a tx (told_on us l o) three.1

          pub care_lent : (length (take care_size (drop care_at m3)) ≡ care_size) × T (care.valid (take care_size (drop care_at m3)))
          care_lent = (test.long, test.valid)

          module _ (r4 : Bool) (y4 : List ℕ) (q4 : Turns care (take care_size (drop care_at m3)) (care_later us) r4 y4) where
            abbrev pub m4 : List ℕ
            m4 = put_mid care_at care_size m3 y4

            pub stands_on : r4 ≡ true → m4 ≡ Passing m p us
            stands_on on =
                let c = turned test (care_later us) r4 y4 q4 on in
                c.1.1
                ∙ to m p us _ _ e (sym (goes_on us a tx l facts o c.0) ∙ gives us a tx l facts (some o) (some c.0) (own_t1 (some o) sent.1.0) c.1.0)

            module _ (no : r4 ≡ false) where
              silent : (care_later us l.care ≡ none) × (m4 ≡ connection_part.put (standing a tx (with_care (told_on us l o) l.care)))
              silent = kept_so test (care_later us) r4 y4 q4 no

              silent_so : m4 ≡ connection_part.put (standing a tx (told_on us l o))
              unfolding told_on spaced_on held_on with_wire with_talk with_care
              silent_so = silent.1

              four : LinkPart m4 × (connection_part.get m4 ≡ standing a tx (told_on us l o))
              four = again m4 _ (sent_held us a tx l facts o (own_t1 (some o) sent.1.0)) silent_so

              pub test_lost : LinkPart m4
              test_lost = four.0

              pub test_ends : (r : List ℕ) → r ≡ connection_part.put (ended (connection_part.get m4)) → r ≡ Passing m p us
              test_ends r y =
                  y ∙ ap (λ (x : Connection). connection_part.put (ended x)) four.1
                  ∙ to m p us _ _ e (sym (test_over us a tx l facts o) ∙ gives us a tx l facts (some o) none (own_t1 (some o) sent.1.0) silent.0)
