-- What the four calls on a connection do to the bytes of a region is what the machine does to the channel. Assumes nothing.
use mathlib.Core.Path.{◌≡◌, refl, sym, ap, ◌∙◌}
use Prim.Native.Nat.{ℕ, zero, suc, ◌+◌, ◌≤◌, ◌<◌}
use native.Mathlib.Omega.{arith}
use mathlib.Core.Bool.{Bool, true, false, not}
use mathlib.Core.List.{List, [], ◌∷◌, ◌++◌}
use lib.ListN.{length, get_or, take, drop}
use lib.Seq.{get_or-take, get_or-drop}
use lib.Dec.{T, eqb, ltb}
use borrow.Author.Tests.{eq-eqb, ne_eqb, lt-ltb, le-ltb, not-true, not-false}
use borrow.Rule.Slice.PartMut.{put_mid}
use Rattle.codec.specs.Plain.{within}
use Rattle.codec.specs.Word.{word_at}
use Rattle.codec.proofs.Tests.{below, above, between}
use Rattle.link.specs.Connection.{longest, Asked, Connection, opening, waits, asked_fits, state_of, busy, whole, begin, fetched, ended}
use Rattle.link_layout.specs.Sizes.{link_size}
use Rattle.link_layout.specs.Connection.{connection_part}
use Rattle.link_layout.specs.Turned.{LinkPart}
use Rattle.machine.specs.Codes.{code_of}
use Rattle.machine.specs.Message.{takes}
use Rattle.machine.specs.Channel.{Open, opened, with_link, Outcome, says, unless, done_with, on_open, link_code, on_link_open, on_link_send, on_link_receive, on_link_end, on_raw_call, link_open, link_send, link_receive, link_end}
use Rattle.layout.specs.Sizes.{flags_at, link_at}
use Rattle.layout.specs.Promise.{gives, Opened, call_outcome}
use Rattle.layout.proofs.Places.{fl}
use Rattle.layout.proofs.Region.{open_of, stays, moves, word_of, flags_part}
use Rattle.layout.proofs.Link.{link_bytes, link_there, state_at}

-- a test that code makes by `not`
pub refused : {x y : Bool} → x ≡ y → not x ≡ true → false ≡ y
refused {x} e n = sym (not-true x n) ∙ e

pub granted : {x y : Bool} → x ≡ y → not x ≡ false → true ≡ y
granted {x} e n = sym (not-false x n) ∙ e

module _ {r : List ℕ} (f : Opened r) where
  abbrev o : Open
  o = open_of r

  abbrev pub part : List ℕ
  part = take link_size (drop link_at r)

  -- the narrow test, as code makes it
  pub narrow_is : {n : ℕ} {b : Bool} → n ≡ word_at flags_at r → b ≡ takes n false → b ≡ takes (fl (open_of r)) false
  narrow_is e k = k ∙ ap (λ (n : ℕ). takes n false) (e ∙ word_of (flags_part r f))

  -- the first byte of the connection's part, lent and in the region, is its state
  pub first_byte : get_or part 0 0 ≡ get_or r link_at 0
  first_byte = get_or-take link_size (drop link_at r) 0 0 (omega arith) ∙ get_or-drop link_at r 0 0

  pub state_is : state_of (open_of r).link ≡ get_or r link_at 0
  state_is = ap state_of (sym (link_bytes r f).got) ∙ state_at part (link_there r f) ∙ first_byte

  -- a complete message of k bytes can be fetched into a buffer that takes the longest
  pub fetch_fits : {k n : ℕ} → (k ≡ length (whole (connection_part.get part))) × (k ≤ longest) → (k ≡ 0 → ⊥) → longest ≤ n
      → LinkPart part × (0 < length (whole (connection_part.get part))) × (length (whole (connection_part.get part)) ≤ n)
  fetch_fits e z h = let q = e.0 in let m = e.1 in (link_there r f, omega arith, omega arith)

  module _ (rates : List ℕ) (t : ℕ) where
    abbrev Narrow : Bool → Type 0
    Narrow b = b ≡ takes (fl o) false

    -- ---- open

    module _ (a : Asked) where
      open_by : {x y z : Bool} → Narrow x → asked_fits a ≡ y → eqb (state_of o.link) 0 ≡ z
          → on_open rates t o (link_open a) ≡ unless (code_of ((not x, 0x0A) ∷ (not y, 0x0A) ∷ (not z, 0x14) ∷ [])) (opened o) [] (done_with (opened (with_link o (opening a 0 waits))) 0)
      unfolding on_open on_raw_call on_link_open link_code
      open_by ex ey ez = λ j. unless (code_of ((not (sym ex j), 0x0A) ∷ (not (ey j), 0x0A) ∷ (not (ez j), 0x14) ∷ [])) (opened o) [] (done_with (opened (with_link o (opening a 0 waits))) 0)

      pub open_wide : Narrow false → gives 0x0A 0 [] r ≡ call_outcome rates t r (link_open a)
      unfolding unless code_of
      open_wide n = stays r f rates t (link_open a) 0x0A 0 [] (open_by n refl refl)

      pub open_unfit : Narrow true → false ≡ asked_fits a → gives 0x0A 0 [] r ≡ call_outcome rates t r (link_open a)
      unfolding unless code_of
      open_unfit n e = stays r f rates t (link_open a) 0x0A 0 [] (open_by n (sym e) refl)

      pub open_there : Narrow true → true ≡ asked_fits a → (get_or r link_at 0 ≡ 0 → ⊥) → gives 0x14 0 [] r ≡ call_outcome rates t r (link_open a)
      unfolding unless code_of
      open_there n e z = stays r f rates t (link_open a) 0x14 0 [] (open_by n (sym e) (ap (λ (k : ℕ). eqb k 0) state_is ∙ ne_eqb (get_or r link_at 0) 0 z))

      pub open_done : {ys : List ℕ} → Narrow true → true ≡ asked_fits a → get_or r link_at 0 ≡ 0 → ys ≡ connection_part.put (opening a 0 waits) → gives 0 0 [] (put_mid link_at link_size r ys) ≡ call_outcome rates t r (link_open a)
      unfolding unless code_of done_with
      open_done {ys} n e z y =
          moves r f rates t (link_open a) _ 0 0 [] _ (open_by n (sym e) (ap (λ (k : ℕ). eqb k 0) state_is ∙ eq-eqb (get_or r link_at 0) 0 z))
          ((link_bytes r f).becomes ys (opening a 0 waits) y)

    -- ---- send

    module _ (m : List ℕ) where
      send_by : {x y z w : Bool} → Narrow x → eqb (state_of o.link) 3 ≡ y → within 1 longest (length m) ≡ z → busy o.link ≡ w
          → on_open rates t o (link_send m) ≡ unless (code_of ((not x, 0x0A) ∷ (not y, 0x07) ∷ (not z, 0x0A) ∷ (w, 0x11) ∷ [])) (opened o) [] (done_with (opened (with_link o (begin m o.link))) 0)
      unfolding on_open on_raw_call on_link_send link_code
      send_by ex ey ez ew = λ j. unless (code_of ((not (sym ex j), 0x0A) ∷ (not (ey j), 0x07) ∷ (not (ez j), 0x0A) ∷ (ew j, 0x11) ∷ [])) (opened o) [] (done_with (opened (with_link o (begin m o.link))) 0)

      pub send_wide : Narrow false → gives 0x0A 0 [] r ≡ call_outcome rates t r (link_send m)
      unfolding unless code_of
      send_wide n = stays r f rates t (link_send m) 0x0A 0 [] (send_by n refl refl refl)

      pub send_none : Narrow true → (get_or r link_at 0 ≡ 3 → ⊥) → gives 0x07 0 [] r ≡ call_outcome rates t r (link_send m)
      unfolding unless code_of
      send_none n s = stays r f rates t (link_send m) 0x07 0 [] (send_by n (ap (λ (k : ℕ). eqb k 3) state_is ∙ ne_eqb (get_or r link_at 0) 3 s) refl refl)

      module _ (n : Narrow true) (s : get_or r link_at 0 ≡ 3) where
        stands : eqb (state_of o.link) 3 ≡ true
        stands = ap (λ (k : ℕ). eqb k 3) state_is ∙ eq-eqb (get_or r link_at 0) 3 s

        pub send_empty : length m < 1 → gives 0x0A 0 [] r ≡ call_outcome rates t r (link_send m)
        unfolding unless code_of
        send_empty h = stays r f rates t (link_send m) 0x0A 0 [] (send_by n stands (below 1 longest (length m) h) refl)

        pub send_long : longest < length m → gives 0x0A 0 [] r ≡ call_outcome rates t r (link_send m)
        unfolding unless code_of
        send_long h = stays r f rates t (link_send m) 0x0A 0 [] (send_by n stands (above 1 longest (length m) h) refl)

        module _ (l : 1 ≤ length m) (h : length m ≤ longest) {b : Bool} (e : b ≡ busy (connection_part.get part)) where
          busy_is : busy o.link ≡ b
          busy_is = sym (e ∙ ap busy (link_bytes r f).got)

          pub send_busy : b ≡ true → gives 0x11 0 [] r ≡ call_outcome rates t r (link_send m)
          unfolding unless code_of
          send_busy w = stays r f rates t (link_send m) 0x11 0 [] (send_by n stands (between 1 longest (length m) l h) (busy_is ∙ w))

          pub send_done : {ys : List ℕ} → b ≡ false → ys ≡ connection_part.put (begin m (connection_part.get part)) → gives 0 0 [] (put_mid link_at link_size r ys) ≡ call_outcome rates t r (link_send m)
          unfolding unless code_of done_with
          send_done {ys} w y =
              moves r f rates t (link_send m) _ 0 0 [] _ (send_by n stands (between 1 longest (length m) l h) (busy_is ∙ w))
              ((link_bytes r f).becomes ys (begin m o.link) (y ∙ ap (λ (c : Connection). connection_part.put (begin m c)) (link_bytes r f).got))

    -- ---- receive

    module _ (b : List ℕ) where
      abbrev fetches : Connection → Outcome
      fetches c = (opened (with_link o (fetched c)), says 0x00 (length (whole c)) (whole c ++ drop (length (whole c)) b))

      receive_by : {x y z w : Bool} → ltb (length b) longest ≡ x → Narrow y → eqb (state_of o.link) 3 ≡ z → eqb (length (whole o.link)) 0 ≡ w
          → on_open rates t o (link_receive b) ≡ unless (code_of ((x, 0x04) ∷ (not y, 0x0A) ∷ (not z, 0x07) ∷ (w, 0x10) ∷ [])) (opened o) b (fetches o.link)
      unfolding on_open on_raw_call on_link_receive
      receive_by ex ey ez ew = λ j. unless (code_of ((ex j, 0x04) ∷ (not (sym ey j), 0x0A) ∷ (not (ez j), 0x07) ∷ (ew j, 0x10) ∷ [])) (opened o) b (fetches o.link)

      pub receive_short : length b < longest → gives 0x04 0 b r ≡ call_outcome rates t r (link_receive b)
      unfolding unless code_of
      receive_short h = stays r f rates t (link_receive b) 0x04 0 b (receive_by (lt-ltb (length b) longest h) refl refl refl)

      module _ (h : longest ≤ length b) where
        roomy : ltb (length b) longest ≡ false
        roomy = le-ltb (length b) longest h

        pub receive_wide : Narrow false → gives 0x0A 0 b r ≡ call_outcome rates t r (link_receive b)
        unfolding unless code_of
        receive_wide n = stays r f rates t (link_receive b) 0x0A 0 b (receive_by roomy n refl refl)

        pub receive_none : Narrow true → (get_or r link_at 0 ≡ 3 → ⊥) → gives 0x07 0 b r ≡ call_outcome rates t r (link_receive b)
        unfolding unless code_of
        receive_none n s = stays r f rates t (link_receive b) 0x07 0 b (receive_by roomy n (ap (λ (k : ℕ). eqb k 3) state_is ∙ ne_eqb (get_or r link_at 0) 3 s) refl)

        -- k is the length of the complete message
        module _ (n : Narrow true) (s : get_or r link_at 0 ≡ 3) {k : ℕ} (e : k ≡ length (whole (connection_part.get part))) where
          counted : length (whole o.link) ≡ k
          counted = sym (e ∙ ap (λ (c : Connection). length (whole c)) (link_bytes r f).got)

          receive_when : {w : Bool} → eqb k 0 ≡ w → on_open rates t o (link_receive b) ≡ unless (code_of ((w, 0x10) ∷ [])) (opened o) b (fetches o.link)
          unfolding code_of
          receive_when q = receive_by roomy n (stands [] n s) (ap (λ (j : ℕ). eqb j 0) counted ∙ q)

          pub receive_nothing : k ≡ 0 → gives 0x10 0 b r ≡ call_outcome rates t r (link_receive b)
          unfolding unless code_of
          receive_nothing z = stays r f rates t (link_receive b) 0x10 0 b (receive_when (eq-eqb k 0 z))

          pub receive_done : {xs ys : List ℕ} → (k ≡ 0 → ⊥) → xs ≡ whole (connection_part.get part) ++ drop (length (whole (connection_part.get part))) b
              → ys ≡ connection_part.put (fetched (connection_part.get part)) → gives 0 k xs (put_mid link_at link_size r ys) ≡ call_outcome rates t r (link_receive b)
          unfolding unless code_of
          receive_done {xs} {ys} z x y =
              let got : connection_part.get part ≡ o.link = (link_bytes r f).got in
              (λ j. gives 0 (sym counted j) ((x ∙ ap (λ (c : Connection). whole c ++ drop (length (whole c)) b) got) j) (put_mid link_at link_size r ys))
              ∙ moves r f rates t (link_receive b) _ 0 _ _ _ (receive_when (ne_eqb k 0 z))
              ((link_bytes r f).becomes ys (fetched o.link) (y ∙ ap (λ (c : Connection). connection_part.put (fetched c)) got))

    -- ---- end

    end_by : {x y : Bool} → Narrow x → within 1 3 (state_of o.link) ≡ y → on_open rates t o link_end ≡ unless (code_of ((not x, 0x0A) ∷ (not y, 0x07) ∷ [])) (opened o) [] (done_with (opened (with_link o (ended o.link))) 0)
    unfolding on_open on_raw_call on_link_end link_code
    end_by ex ey = λ j. unless (code_of ((not (sym ex j), 0x0A) ∷ (not (ey j), 0x07) ∷ [])) (opened o) [] (done_with (opened (with_link o (ended o.link))) 0)

    pub end_wide : Narrow false → gives 0x0A 0 [] r ≡ call_outcome rates t r link_end
    unfolding unless code_of
    end_wide n = stays r f rates t link_end 0x0A 0 [] (end_by n refl)

    -- no state in which it can be ended
    end_not : Narrow true → within 1 3 (get_or r link_at 0) ≡ false → gives 0x07 0 [] r ≡ call_outcome rates t r link_end
    unfolding unless code_of
    end_not n e = stays r f rates t link_end 0x07 0 [] (end_by n (ap (within 1 3) state_is ∙ e))

    pub end_none : Narrow true → get_or r link_at 0 < 1 → gives 0x07 0 [] r ≡ call_outcome rates t r link_end
    end_none n h = end_not n (below 1 3 (get_or r link_at 0) h)

    pub end_leaving : Narrow true → 3 < get_or r link_at 0 → gives 0x07 0 [] r ≡ call_outcome rates t r link_end
    end_leaving n h = end_not n (above 1 3 (get_or r link_at 0) h)

    pub end_done : {ys : List ℕ} → Narrow true → 1 ≤ get_or r link_at 0 → get_or r link_at 0 ≤ 3 → ys ≡ connection_part.put (ended (connection_part.get part)) → gives 0 0 [] (put_mid link_at link_size r ys) ≡ call_outcome rates t r link_end
    unfolding unless code_of done_with
    end_done {ys} n l h y =
        moves r f rates t link_end _ 0 0 [] _ (end_by n (ap (within 1 3) state_is ∙ between 1 3 (get_or r link_at 0) l h))
        ((link_bytes r f).becomes ys (ended o.link) (y ∙ ap (λ (c : Connection). connection_part.put (ended c)) (link_bytes r f).got))
