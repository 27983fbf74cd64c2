-- What a connection that doesn't stand gives, on its bytes. Assumes nothing.
use mathlib.Core.Path.{◌≡◌, refl, sym, ap, ap₂, ◌∙◌}
use Prim.Native.Nat.{ℕ, zero, suc, ◌+◌, ◌≤◌, ◌<◌, ◌^◌}
use native.Mathlib.Omega.{arith}
use mathlib.Core.Bool.{false}
use mathlib.Core.Option.{none, some}
use mathlib.Core.List.{List}
use lib.ListN.{get_or, set, take, drop}
use lib.Dec.{T, ltb→lt}
use Rattle.codec.specs.Word.{word, word_at}
use Rattle.codec.specs.Code.{byte, word32, both, via, such}
use Rattle.codec.proofs.Part.{byte_of, word_of}
use Rattle.codec.proofs.Tests.{left, right}
use Rattle.codec.proofs.Word.{word_back}
use Rattle.telegram.specs.Telegram.{opening_bytes, disconnection, on_wire}
use Rattle.link.specs.Connection.{Asked, ours, set_up_of, Trial, waits, flies, runs, Exit, due_in, due_behind, goes, absent, opening, connecting, leaving, offering, offer_trial, offer_exit, offer, Offer}
use Rattle.link_layout.specs.Sizes.{asked_at, asked_size, tx_id_at, trials_at, trial_in, exit_at}
use Rattle.link_layout.specs.Connection.{asked, trial_parts, trial, trials, exit_parts, leaves}
use Rattle.link_layout.specs.Turned.{LinkPart}
use Rattle.link_layout.proofs.Places.{held, state_is, opening_asked_part, opening_trials_part, connecting_asked_part, connecting_tx_part, connecting_trials_part, leaves_facts, leaving_tx_part, leaving_exit_part, is_absent, is_opening, is_connecting, is_leaving, IsOpening, IsConnecting, IsLeaving, state_most}
use Rattle.link_layout.proofs.Fieldwise.{byte_stored, number_in}
use Rattle.link_starts.proofs.Laws.{trials_tag, exit_tag}
use Rattle.link_telegrams.specs.declared.Given.{Given}
use Rattle.link_telegrams.specs.Given.{given, nothing_given, Gave, AskedPart}
use Rattle.link_offers.proofs.Laws.{gave, gave_none}

-- ---- an opening telegram waits, or not

now_waits : (s : Trial) (x : Offer) → (trial_parts s).0 ≡ 0 → offer_trial s x ≡ some x
unfolding offer_trial
now_waits waits x e = refl
now_waits flies x e = absurd (omega arith)
now_waits (runs us) x e = absurd (omega arith)

waits_not : (s : Trial) (x : Offer) → ((trial_parts s).0 ≡ 0 → ⊥) → offer_trial s x ≡ none
unfolding offer_trial
waits_not waits x d = absurd (d refl)
waits_not flies x d = refl
waits_not (runs us) x d = refl

trial_taken : (n : ℕ) (s : Trial) → (trial_parts s).0 ≡ 0 → set (trials.put (n, s)) 1 1 ≡ trials.put (n, flies)
unfolding trials trial via such both byte word32 word
trial_taken n waits e = refl
trial_taken n flies e = absurd (omega arith)
trial_taken n (runs us) e = absurd (omega arith)

-- ---- a disconnect telegram waits, or not

due_small : (us : ℕ) → T (leaves.ok (due_in us)) → us < 2 ^ 32
unfolding leaves via such both word32
due_small us t = ltb→lt us (2 ^ 32) (search (left, right) depth 9)

due_left : (us : ℕ) → T (leaves.ok (due_in us)) → word_at 1 (leaves.put (due_in us)) ≡ us
due_left us t = let h = due_small us t in unfold leaves via such both byte word32 word word_at in word_back us h

module _ (tx : ℕ) where
  not_due : (x : Exit) → ((exit_parts x).0 ≡ 0 → ⊥) → offer_exit tx x ≡ none
  unfolding offer_exit
  not_due (due_in us) d = absurd (d refl)
  not_due (due_behind t3) d = refl
  not_due goes d = refl

  not_yet : (x : Exit) → T (leaves.ok x) → (exit_parts x).0 ≡ 0 → 0 < word_at 1 (leaves.put x) → offer_exit tx x ≡ none
  unfolding offer_exit
  not_yet (due_in zero) t e h = absurd (omega (arith, due_left 0 t))
  not_yet (due_in (suc us)) t e h = refl
  not_yet (due_behind t3) t e h = absurd (omega arith)
  not_yet goes t e h = absurd (omega arith)

due_now : (x : Exit) → T (leaves.ok x) → (exit_parts x).0 ≡ 0 → word_at 1 (leaves.put x) ≡ 0 → x ≡ due_in 0
due_now (due_in us) t e z = ap due_in (sym (due_left us t) ∙ z)
due_now (due_behind t3) t e z = absurd (omega arith)
due_now goes t e z = absurd (omega arith)

exit_taken : (x : Exit) → x ≡ due_in 0 → set (leaves.put x) 0 2 ≡ leaves.put goes
exit_taken x e = ap (λ (y : Exit). set (leaves.put y) 0 2) e ∙ (unfold leaves via such both byte word32 word in refl)

-- ---- on the bytes

module _ (m : List ℕ) (p : LinkPart m) where
  pub none_there : get_or m 0 0 ≡ 0 → (r : Given) → r ≡ nothing_given → Gave m r m
  none_there z r g = gave_none m p r absent (is_absent (held m p) (sym (state_is m p) ∙ z)) (unfold offer in refl) g

  pub leaves_else : (get_or m 0 0 ≡ 0 → ⊥) → (get_or m 0 0 ≡ 3 → ⊥) → (get_or m 0 0 ≡ 1 → ⊥) → (get_or m 0 0 ≡ 2 → ⊥) → get_or m 0 0 ≡ 4
  leaves_else a b c d =
      let h : get_or m 0 0 ≤ 4 = omega (arith, state_is m p, state_most (held m p)) in
      omega arith

  -- a channel set-up
  module _ (z : get_or m 0 0 ≡ 1) where
    abbrev pub opener : IsOpening (held m p)
    opener = is_opening (held m p) (sym (state_is m p) ∙ z)

    abbrev pub who : Asked
    who = opener.0

    abbrev pub n : ℕ
    n = opener.1.0

    abbrev pub s : Trial
    s = opener.1.1.0

    abbrev pub e : held m p ≡ opening who n s
    e = opener.1.1.1

    trial_is : get_or m (trials_at + trial_in) 0 ≡ (trial_parts s).0
    trial_is = byte_of (opening_trials_part m p who n s e) 1 (omega arith) ∙ trials_tag (n, s)

    pub set_up_lent : AskedPart (take asked_size (drop asked_at m))
    set_up_lent = let q = opening_asked_part m p who n s e in record { long = q.long; valid = q.valid }

    pub no_set_up : (get_or m (trials_at + trial_in) 0 ≡ 0 → ⊥) → (r : Given) → r ≡ nothing_given → Gave m r m
    unfolding offer
    no_set_up d r g = gave_none m p r _ e (waits_not s _ (λ q. d (trial_is ∙ q))) g

    pub set_up_given : get_or m (trials_at + trial_in) 0 ≡ 0 → (r : Given)
        → r ≡ given (asked.get (take asked_size (drop asked_at m))).own (opening_bytes (set_up_of (asked.get (take asked_size (drop asked_at m))))) → Gave m r (set m (trials_at + trial_in) 1)
    unfolding offer
    set_up_given q r g =
        let w : (trial_parts s).0 ≡ 0 = sym trial_is ∙ q in
        gave m _ r _ _ e (now_waits s _ w) (g ∙ ap (λ (a : Asked). given a.own (opening_bytes (set_up_of a))) (opening_asked_part m p who n s e).got)
        (byte_stored (opening_trials_part m p who n s e) 1 1 (n, flies) (omega arith) (trial_taken n s w))

  -- a connection set-up
  module _ (z : get_or m 0 0 ≡ 2) where
    abbrev pub joiner : IsConnecting (held m p)
    joiner = is_connecting (held m p) (sym (state_is m p) ∙ z)

    abbrev pub asker : Asked
    asker = joiner.0

    abbrev pub tx : ℕ
    tx = joiner.1.0

    abbrev pub k : ℕ
    k = joiner.1.1.0

    abbrev pub try : Trial
    try = joiner.1.1.1.0

    abbrev pub f : held m p ≡ connecting asker tx k try
    f = joiner.1.1.1.1

    try_is : get_or m (trials_at + trial_in) 0 ≡ (trial_parts try).0
    try_is = byte_of (connecting_trials_part m p asker tx k try f) 1 (omega arith) ∙ trials_tag (k, try)

    pub connection_lent : AskedPart (take asked_size (drop asked_at m))
    connection_lent = let q = connecting_asked_part m p asker tx k try f in record { long = q.long; valid = q.valid }

    pub no_connection : (get_or m (trials_at + trial_in) 0 ≡ 0 → ⊥) → (r : Given) → r ≡ nothing_given → Gave m r m
    unfolding offer
    no_connection d r g = gave_none m p r _ f (waits_not try _ (λ q. d (try_is ∙ q))) g

    pub connection_given : get_or m (trials_at + trial_in) 0 ≡ 0 → (r : Given) (id : ℕ) → id ≡ word_at tx_id_at m → r ≡ given id (on_wire (ours false (asked.get (take asked_size (drop asked_at m)))))
        → Gave m r (set m (trials_at + trial_in) 1)
    unfolding offer
    connection_given q r id i g =
        let w : (trial_parts try).0 ≡ 0 = sym try_is ∙ q in
        gave m _ r _ _ f (now_waits try _ w)
        (g ∙ ap₂ (λ (j : ℕ) (a : Asked). given j (on_wire (ours false a))) (i ∙ word_of (connecting_tx_part m p asker tx k try f)) (connecting_asked_part m p asker tx k try f).got)
        (byte_stored (connecting_trials_part m p asker tx k try f) 1 1 (k, flies) (omega arith) (trial_taken k try w))

  -- a disconnect
  module _ (z : get_or m 0 0 ≡ 4) where
    abbrev pub leaver : IsLeaving (held m p)
    leaver = is_leaving (held m p) (sym (state_is m p) ∙ z)

    abbrev pub to : ℕ
    to = leaver.0

    abbrev pub x : Exit
    x = leaver.1.0

    abbrev pub h : held m p ≡ leaving to x
    h = leaver.1.1

    ok_exit : T (leaves.ok x)
    ok_exit = (leaves_facts m p to x h).exit_ok

    exit_is : get_or m exit_at 0 ≡ (exit_parts x).0
    exit_is = byte_of (leaving_exit_part m p to x h) 0 (omega arith) ∙ exit_tag x

    left_is : word_at (exit_at + 1) m ≡ word_at 1 (leaves.put x)
    left_is = number_in (leaving_exit_part m p to x h) 1 (omega arith)

    pub no_leave : (get_or m exit_at 0 ≡ 0 → ⊥) → (r : Given) → r ≡ nothing_given → Gave m r m
    unfolding offer
    no_leave d r g = gave_none m p r _ h (not_due to x (λ q. d (exit_is ∙ q))) g

    module _ (y : get_or m exit_at 0 ≡ 0) where
      pub leaves_later : 0 < word_at (exit_at + 1) m → (r : Given) → r ≡ nothing_given → Gave m r m
      unfolding offer
      leaves_later q r g = gave_none m p r _ h (not_yet to x ok_exit (sym exit_is ∙ y) (omega (arith, left_is))) g

      pub leaves_now : word_at (exit_at + 1) m ≡ 0 → (r : Given) (id : ℕ) → id ≡ word_at tx_id_at m → r ≡ given id (on_wire disconnection) → Gave m r (set m exit_at 2)
      unfolding offer offer_exit offering
      leaves_now q r id i g =
          let d : x ≡ due_in 0 = due_now x ok_exit (sym exit_is ∙ y) (sym left_is ∙ q) in
          gave m _ r _ _ h (ap (offer_exit to) d) (g ∙ ap (λ (j : ℕ). given j (on_wire disconnection)) (i ∙ word_of (leaving_tx_part m p to x h)))
          (byte_stored (leaving_exit_part m p to x h) 0 2 goes (omega arith) (exit_taken x d))
