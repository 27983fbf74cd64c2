-- DEMAND 1 on one ISO 15765 channel, for any set of rates: the code of every call on an open channel is one of `iso_codes`, and a refusal leaves the
-- channel and the lent buffer as they were, but for its last code. A call closes the channel only with 0x00. Assumes nothing.
use Rattle.std.specs.Prelude.{if◌then◌else◌}
use Prim.Native.Nat.{ℕ, zero, suc, ◌+◌, ◌*◌}
use mathlib.Core.Path.{◌≡◌, refl, sym, ap, ap₂, ◌∙◌, subst}
use mathlib.Core.Logic.{⊎_elim}
use mathlib.Core.Bool.{Bool, true, false, ◌||◌}
use mathlib.Core.Option.{Option, none, some}
use mathlib.Core.List.{List, [], ◌∷◌, ◌++◌, append-nil, append_assoc}
use native.Mathlib.Omega.{arith}
use borrow.Author.Tests.{eqb-true, leb-true, le-ltb}
use lib.ListN.{take, drop}
use lib.Dec.{T, eqb, leb, ltb}
use Rattle.codec.specs.Plain.{member}
use Rattle.machine.specs.Codes.{step_codes, code_of}
use Rattle.machine.specs.Message.{Rec, clean}
use Rattle.machine.specs.Filter.{Slots}
use Rattle.machine.specs.Limits.{last_line, most_advance}
use Rattle.machine.specs.Channel.{Config, Receiving, Call, disconnect, start_filter, start_flow, stop_filter, start_periodic, stop_periodic, write, read, take_next, sent, clear, get_parameter, set_parameter, last_error, get_list, set_list, on_raw, Pairs, flat, lent, Answer, says, frame_code, read_code, Wrote, unless_stopped, list_code}
use Rattle.machine.specs.Step.{Event, connect, call, frame, advance, close, lent_by, own_answer}
use Rattle.machine.specs.Demands.{results, pair_codes, did_part, part_done, refusal}
use Rattle.machine.proofs.Parameters.{set_case, get_case, set_all_case, get_all_case}
use Rattle.machine.proofs.Refusals.{if_out, either_in, not_in, code_of_listed, if_case, Fair, not_refused, settled, kept, one_or, read_nothing, not_above, advance_over}
use Rattle.iso.specs.Limits.{iso_record_size}
use Rattle.iso.specs.Iso.{Iso, shut, ready, OpenIso, Talk, Flight, Chosen, IsoOutcome, set_config, set_written, set_receiving, shown_iso_all, unless_iso, did, talk_code, on_start_talk, on_stop_talk, iso_message_code, iso_write_code, iso_writing, on_iso_write, choice, showing, on_chosen, iso_taking, on_iso_take, iso_sending, iso_reading, on_iso_read, on_iso_clear, on_iso_get, iso_set_to, on_iso_set, on_iso_get_list, on_iso_set_list, iso_connect_code, is_ready, on_iso_connect, on_ready, on_iso_call, on_iso_frame, on_iso_advance, iso_codes, iso_notes, iso_noted, iso_noted_in_use}
use Rattle.iso.specs.Step.{Alone, iso_step, iso_answer}
use Rattle.iso.specs.Demands.{iso_remembers, reaches, stored_iso}

-- ---- outcomes

-- what holds of both outcomes of `unless_iso` holds of it
pub unless_iso_case : (P : IsoOutcome → Type 0) (k : ℕ) (c : Iso) (b : List ℕ) (x : IsoOutcome) → P x → P (c, says k 0 b) → P (unless_iso k c b x)
unfolding unless_iso
unless_iso_case P zero c b x p q = p
unless_iso_case P (suc k) c b x p q = q

-- refused by a table of tests, else what the call does
refused_iso : {codes : List ℕ} {e : Event} {c : Iso} (k : ℕ) (b : List ℕ) (o : IsoOutcome) → b ≡ lent_by e → T (member k codes) → Fair codes e c o
    → Fair codes e c (unless_iso k c b o)
refused_iso {codes} {e} {c} k b o z l f = unless_iso_case (Fair codes e c) k c b o f (kept k 0 b z l)

-- ---- the codes of a message, of a write and of a read

iso_message_code_listed : (flags : ℕ) (m : List ℕ) → T (member (iso_message_code flags m) iso_codes)
unfolding iso_message_code iso_codes member
iso_message_code_listed flags m = search (code_of_listed, tt) depth 16

iso_write_code_listed : (flags : ℕ) (ts : Slots Talk) (held : List Rec) (m : List ℕ) → T (member (iso_write_code flags ts held m) iso_codes)
unfolding iso_write_code iso_codes member
iso_write_code_listed flags ts held m = search (code_of_listed, iso_message_code_listed, tt) depth 16

read_code_listed : (lost : Bool) (n m : ℕ) → T (member (read_code lost n m) iso_codes)
unfolding read_code iso_codes member
read_code_listed lost n m = search (either_in, tt)

-- ---- a write

-- a write of b's messages, with these held and counted so far: its code is one that a call can give, and it ends with as many more of b's as it counts
pub record IsoWritten (b : List ℕ) (held : List Rec) (count : ℕ) (w : Wrote) : Type 0 where
  pub listed : T (member w.code iso_codes)
  pub more : ℕ
  pub counted : w.count ≡ count + more
  pub queued : w.held ≡ held ++ stored_iso more b

-- a write that stops here
stops : (b : List ℕ) (held : List Rec) (count code : ℕ) → T (member code iso_codes) → IsoWritten b held count (record { held = held; count = count; code = code })
unfolding stored_iso
stops b held count code l = record { listed = l; more = 0; counted = omega arith; queued = sym (append-nil held) }

pub iso_writing_stored : (flags : ℕ) (ts : Slots Talk) (n : ℕ) (b : List ℕ) (held : List Rec) (count : ℕ) → IsoWritten b held count (iso_writing flags ts n b held count)
unfolding iso_writing unless_stopped stored_iso iso_codes member
iso_writing_stored flags ts zero b held count = stops b held count 0x00 tt
iso_writing_stored flags ts (suc n) b held count =
    by (iso_write_code flags ts held b) (iso_write_code_listed flags ts held b) (iso_writing_stored flags ts n (drop iso_record_size b) (held ++ clean b ∷ []) (count + 1))
  where
    by : (k : ℕ) → T (member k iso_codes) → {w : Wrote} → IsoWritten (drop iso_record_size b) (held ++ clean b ∷ []) (count + 1) w
        → IsoWritten b held count (unless_stopped k held count w)
    by zero l q =
        record {
          listed = q.listed;
          more = suc q.more;
          counted = omega arith;
          queued = q.queued ∙ append_assoc held (clean b ∷ []) (stored_iso q.more (drop iso_record_size b));
        }
    by (suc k) l q = stops b held count (suc k) l

-- a write that counts none holds what it held
none_queued : {b : List ℕ} {held : List Rec} {w : Wrote} → IsoWritten b held 0 w → w.count ≡ 0 → w.held ≡ held
unfolding stored_iso
none_queued {b} {held} q z =
    let zero_more : q.more ≡ 0 = omega arith in
    q.queued ∙ ap (λ (m : ℕ). held ++ stored_iso m b) zero_more ∙ append-nil held

-- ---- the calls on an open channel

-- what makes an outcome fair
ruleset fair = (kept, settled, refused_iso, one_or, code_of_listed, either_in, iso_message_code_listed, refl, tt)

module _ (k : ℕ) (o : OpenIso) where
  -- a write: a refusal counts none, so it queued none
  write_fair : (n : ℕ) (b : List ℕ) → Fair iso_codes (call k (write n b)) (ready o) (on_iso_write o n b)
  unfolding on_iso_write lent_by lent iso_codes member refusal part_done did_part says set_written
  write_fair n b =
      let w : Wrote = iso_writing o.config.flags o.talks n b o.written 0 in
      let q : IsoWritten b o.written 0 w = iso_writing_stored o.config.flags o.talks n b o.written 0 in
      refused_iso _ _ _ refl (code_of_listed iso_codes _ (tt, tt))
      (record {
        listed = q.listed;
        leaves = λ t. (ap (λ (l : List Rec). ready (set_written o l)) (none_queued q (not_above (member w.code results) w.count t)), refl);
      })

  -- a read: a refusal moved none
  reading_fair : (n : ℕ) (b : List ℕ) (m : ℕ) → Fair iso_codes (call k (read n b)) (ready o) (iso_reading o n b m)
  unfolding iso_reading set_receiving says shown_iso_all lent_by lent refusal
  reading_fair n b m =
      let r : Receiving = o.receiving in
      record {
        listed = read_code_listed r.lost n m;
        leaves =
            λ t.
            ⊎_elim (λ s. (settled {codes = iso_codes} {e = call k (read n b)} {c = ready o} (iso_reading o n b m) (read_code_listed r.lost n m) s).leaves t)
            (λ q. (
              ap₂ (λ (j : ℕ) (l : Bool). ready (set_receiving o (record { queue = drop j r.queue; lost = l }))) q.1 (sym q.0),
              ap (λ (j : ℕ). shown_iso_all (take j r.queue) ++ drop (iso_record_size * j) b) q.1,
            ))
            (read_nothing r.lost n m);
      }

  read_fair : (n : ℕ) (b : List ℕ) → Fair iso_codes (call k (read n b)) (ready o) (on_iso_read o n b)
  unfolding on_iso_read lent_by lent iso_codes member
  read_fair n b = search (fair, reading_fair)

  -- a take and a sent: refused where there is no frame
  take_fair : (b : List ℕ) → Fair iso_codes (call k (take_next b)) (ready o) (on_iso_take o b)
  unfolding on_iso_take lent_by lent iso_codes member results iso_taking on_chosen showing says
  take_fair b = refused_iso _ _ _ refl (code_of_listed iso_codes _ (tt, tt)) (from o.flight)
    where
      chosen_fair : (x : Option Chosen) → Fair iso_codes (call k (take_next b)) (ready o) (on_chosen o x b)
      chosen_fair none = search fair
      chosen_fair (some x) = search fair

      from : (f : Option Flight) → Fair iso_codes (call k (take_next b)) (ready o) (iso_taking o f b)
      from (some r) = search fair
      from none = chosen_fair (choice o.talks o.written)

  sent_fair : (now : ℕ) (f : Option Flight) → Fair iso_codes (call k sent) (ready o) (iso_sending now o f)
  unfolding iso_sending lent_by lent iso_codes member results did says
  sent_fair now none = search fair
  sent_fair now (some r) = search fair

  -- a start filter, with two records or with three
  talk_fair : (e : Event) → lent_by e ≡ [] → (t : ℕ) (m p f : List ℕ) → Fair iso_codes e (ready o) (on_start_talk o t m p f)
  unfolding on_start_talk talk_code iso_codes member results did says
  talk_fair e z t m p f = search (fair, sym) depth 24

  -- one parameter: refused, it leaves the configuration in force
  get_fair : (p : ℕ) → Fair iso_codes (call k (get_parameter p)) (ready o) (on_iso_get o p)
  unfolding on_iso_get lent_by lent iso_codes member results says
  get_fair p = get_case (λ (r : ℕ × ℕ). Fair iso_codes (call k (get_parameter p)) (ready o) (ready o, says r.0 r.1 [])) o.config p (λ v. search fair) (search fair)

  set_fair : (rates : List ℕ) (p v : ℕ) → Fair iso_codes (call k (set_parameter p v)) (ready o) (on_iso_set rates o p v)
  unfolding on_iso_set iso_set_to set_config lent_by lent iso_codes member results says
  set_fair rates p v =
      set_case (λ (r : ℕ × Config). Fair iso_codes (call k (set_parameter p v)) (ready o) (iso_set_to o r)) rates o.config p v (λ c. search fair) (search fair) (search fair)

  -- a list: the code of a pair is no refusal, and before any pair there is 0x04
  get_list_fair : (ps : Pairs) → Fair iso_codes (call k (get_list ps)) (ready o) (on_iso_get_list o ps)
  unfolding on_iso_get_list list_code lent_by lent refusal part_done did_part pair_codes iso_codes member results says
  get_list_fair ps =
      refused_iso _ _ _ refl (code_of_listed iso_codes _ (tt, tt))
      (get_all_case (λ (r : ℕ × Pairs). Fair iso_codes (call k (get_list ps)) (ready o) (ready o, says r.0 0 (flat r.1))) o.config ps
      (λ qs. search fair) (λ qs. record { listed = tt; leaves = λ t. absurd t }))

  set_list_fair : (rates : List ℕ) (ps : Pairs) → Fair iso_codes (call k (set_list ps)) (ready o) (on_iso_set_list rates o ps)
  unfolding on_iso_set_list iso_set_to set_config list_code lent_by lent refusal part_done did_part pair_codes iso_codes member results says
  set_list_fair rates ps =
      refused_iso _ _ _ refl (code_of_listed iso_codes _ (tt, tt))
      (set_all_case (λ (r : ℕ × Config). Fair iso_codes (call k (set_list ps)) (ready o) (iso_set_to o r)) rates o.config ps
      (λ c. search fair) (λ c. record { listed = tt; leaves = λ t. absurd t }) (λ c. record { listed = tt; leaves = λ t. absurd t }))

  -- DEMAND 1, every call on an open channel
  pub ready_fair : (rates : List ℕ) (now : ℕ) (x : Call) → Fair iso_codes (call k x) (ready o) (on_ready rates now o x)
  unfolding on_ready on_stop_talk on_iso_clear lent_by lent iso_codes member results did says
  ready_fair rates now disconnect = search fair
  ready_fair rates now (start_filter t m p) = talk_fair (call k (start_filter t m p)) refl t m p []
  ready_fair rates now (start_flow t m p f) = talk_fair (call k (start_flow t m p f)) refl t m p f
  ready_fair rates now (stop_filter n) = search fair
  ready_fair rates now (start_periodic m i) = search fair depth 16
  ready_fair rates now (stop_periodic n) = search fair
  ready_fair rates now (write n b) = write_fair n b
  ready_fair rates now (read n b) = read_fair n b
  ready_fair rates now (take_next b) = take_fair b
  ready_fair rates now sent = sent_fair now o.flight
  ready_fair rates now (clear kind) = search fair depth 16
  ready_fair rates now (get_parameter p) = get_fair p
  ready_fair rates now (set_parameter p v) = set_fair rates p v
  ready_fair rates now last_error = search fair
  ready_fair rates now (get_list ps) = get_list_fair ps
  ready_fair rates now (set_list ps) = set_list_fair rates ps
  ready_fair rates now (on_raw x) = search fair

-- the code of a call on an open channel is one of those
pub ready_codes : (rates : List ℕ) (now : ℕ) (o : OpenIso) (x : Call) → T (member (on_ready rates now o x).1.code iso_codes)
ready_codes rates now o x = (ready_fair 0 o rates now x).listed

-- ---- a call closes the channel only where its code is 0x00

abbrev Readies : IsoOutcome → Type 0
Readies x = T (is_ready x.0 || eqb x.1.code 0x00)

unless_readies : (k : ℕ) (c : Iso) (b : List ℕ) (x : IsoOutcome) → Readies x → Readies (c, says k 0 b) → Readies (unless_iso k c b x)
unless_readies = unless_iso_case Readies

either_readies : (g : Bool) (x y : IsoOutcome) → Readies x → Readies y → Readies (if g then x else y)
either_readies = if_case Readies

pub ready_readies : (rates : List ℕ) (now : ℕ) (o : OpenIso) (x : Call) → Readies (on_ready rates now o x)
unfolding on_ready on_start_talk on_stop_talk on_iso_write on_iso_read iso_reading on_iso_take iso_taking on_chosen iso_sending on_iso_clear on_iso_get on_iso_set iso_set_to on_iso_get_list on_iso_set_list is_ready did says
ready_readies rates now o disconnect = tt
ready_readies rates now o (start_filter t m p) = search (unless_readies, tt)
ready_readies rates now o (start_flow t m p f) = search (unless_readies, tt)
ready_readies rates now o (stop_filter n) = search (unless_readies, tt)
ready_readies rates now o (start_periodic m i) = tt
ready_readies rates now o (stop_periodic n) = tt
ready_readies rates now o (write n b) = search (unless_readies, tt)
ready_readies rates now o (read n b) = search (unless_readies, either_readies, tt)
ready_readies rates now o (take_next b) = unless_readies _ _ _ _ (from o.flight) tt
  where
    chosen_readies : (x : Option Chosen) → Readies (on_chosen o x b)
    chosen_readies none = tt
    chosen_readies (some x) = tt

    from : (f : Option Flight) → Readies (iso_taking o f b)
    from (some r) = tt
    from none = chosen_readies (choice o.talks o.written)
ready_readies rates now o sent = from o.flight
  where
    from : (f : Option Flight) → Readies (iso_sending now o f)
    from none = tt
    from (some r) = tt
ready_readies rates now o (clear kind) = search (either_readies, tt)
ready_readies rates now o (get_parameter p) = tt
ready_readies rates now o (set_parameter p v) = tt
ready_readies rates now o last_error = tt
ready_readies rates now o (get_list ps) = search (unless_readies, tt)
ready_readies rates now o (set_list ps) = search (unless_readies, tt)
ready_readies rates now o (on_raw x) = tt

-- 0x14 is given for an open channel alone, which stays open
pub in_use_ready : (rates : List ℕ) (c : Iso) (l p f r : ℕ) → (on_iso_connect rates c l p f r).1.code ≡ 0x14 → T (is_ready (on_iso_connect rates c l p f r).0)
unfolding on_iso_connect iso_connect_code code_of is_ready did says member
in_use_ready rates (ready o) l p f r e = unless_iso_case (λ (x : IsoOutcome). T (is_ready x.0)) _ _ _ _ tt tt
in_use_ready rates shut l p f r e =
    absurd (subst (λ (k : ℕ). T (member k (0x00 ∷ 0x03 ∷ 0x06 ∷ 0x19 ∷ []))) e (unless_iso_case (λ (x : IsoOutcome). T (member x.1.code (0x00 ∷ 0x03 ∷ 0x06 ∷ 0x19 ∷ []))) _ _ _ _ tt (search (either_in, tt))))

-- ---- every event that reaches the channel

-- noting a code changes no answer
pub iso_noted_in_use_answer : (x : IsoOutcome) → (iso_noted_in_use x).1 ≡ x.1
unfolding iso_noted_in_use iso_noted
iso_noted_in_use_answer x = if_case (λ (y : IsoOutcome). y.1 ≡ x.1) (eqb x.1.code 0x14) (iso_noted x) x refl refl

-- what a connect that is in use leaves, where nothing but its code is new
pub iso_noted_in_use_leaves : (x : IsoOutcome) (c : Iso) → x.0 ≡ c → (iso_noted_in_use x).0 ≡ (if eqb x.1.code 0x14 then iso_notes x.1.code c else c)
unfolding iso_noted_in_use iso_noted
iso_noted_in_use_leaves x c h = go (eqb x.1.code 0x14)
  where
    go : (b : Bool) → (if b then iso_noted x else x).0 ≡ (if b then iso_notes x.1.code c else c)
    go true = ap (iso_notes x.1.code) h
    go false = h

module _ (rates : List ℕ) where
  -- a connect
  pub iso_connect_fair : (c : Iso) (l p f r : ℕ) → Fair step_codes (connect l p f r) c (on_iso_connect rates c l p f r)
  unfolding on_iso_connect iso_connect_code lent_by step_codes member results did says
  iso_connect_fair c l p f r = search fair depth 16

  -- a refused call: the channel stays, and where it is open it notes the code
  pub iso_call_noted : (now k : ℕ) (x : Call) (c : Iso) → T (refusal (call k x) (on_iso_call rates now c x).1)
      → ((iso_step rates now c (call k x)).0 ≡ (if eqb (on_iso_call rates now c x).1.code 0x02 then c else iso_notes (on_iso_call rates now c x).1.code c))
      × ((on_iso_call rates now c x).1.buffer ≡ lent_by (call k x))
  unfolding iso_step iso_noted on_iso_call says iso_notes lent_by
  iso_call_noted now k x shut t = (refl, refl)
  iso_call_noted now k x (ready o) t =
      let fair = ready_fair k o rates now x in
      let code : ℕ = (on_ready rates now o x).1.code in (
        ap (iso_notes code) (fair.leaves t).0
            ∙ sym (if_out (eqb code 0x02) (ready o) (iso_notes code (ready o)) (not_in iso_codes code 0x02 fair.listed (λ n. unfold member iso_codes in n))),
        (fair.leaves t).1,
      )

  -- a bad frame leaves its channel
  pub iso_frame_left : (l w n : ℕ) (b : List ℕ) (now : ℕ) (c : Iso) → ltb last_line l ≡ false → T (refusal (frame l w n b) (own_answer rates (frame l w n b)))
      → on_iso_frame now c w n b ≡ c
  unfolding on_iso_frame own_answer says code_of
  iso_frame_left l w n b now shut h t = refl
  iso_frame_left l w n b now (ready o) h t = by (eqb (frame_code w n b) 0) refl _
    where
      by : (g : Bool) → eqb (frame_code w n b) 0 ≡ g → (x : Iso) → (if g then x else ready o) ≡ ready o
      by true q x = absurd (not_refused (frame l w n b) (own_answer rates (frame l w n b)) (rw h (eqb-true (frame_code w n b) 0 q)) t)
      by false q x = refl

  -- an advance that is over the limit leaves it too
  pub iso_advance_left : (t : ℕ) → leb t most_advance ≡ false → (c : Iso) → on_iso_advance t c ≡ c
  unfolding on_iso_advance
  iso_advance_left t h shut = refl
  iso_advance_left t h (ready o) = if_out (leb t most_advance) _ _ h

  -- DEMAND 1. A refusal leaves the channel and the lent buffer as they were, but for the channel's last code, which becomes its code
  pub iso_refused_leaves : (a : Alone) (e : Event) → reaches e ≡ true → T (refusal e (iso_answer rates a e))
      → ((iso_step rates a.clock a.channel e).0 ≡ iso_remembers e (iso_answer rates a e).code a.channel) × ((iso_answer rates a e).buffer ≡ lent_by e)
  unfolding iso_answer iso_remembers reaches own_answer says lent_by
  iso_refused_leaves a (connect l p f r) h t =
      let x : IsoOutcome = on_iso_connect rates a.channel l p f r in
      (unfold iso_step in
      subst (λ (y : Answer). T (refusal (connect l p f r) y) → ((iso_noted_in_use x).0 ≡ (if eqb y.code 0x14 then iso_notes y.code a.channel else a.channel)) × (y.buffer ≡ []))
      (sym (iso_noted_in_use_answer x))
      (λ u. let fair = (iso_connect_fair a.channel l p f r).leaves u in (iso_noted_in_use_leaves x a.channel fair.0, fair.1)) t)
  iso_refused_leaves a (call k x) h t = unfold iso_step iso_noted in iso_call_noted a.clock k x a.channel t
  iso_refused_leaves a (frame l w n b) h t =
      (unfold iso_step in iso_frame_left l w n b a.clock a.channel (le-ltb last_line l (leb-true l last_line h)) t, refl)
  iso_refused_leaves a (advance t) h r = (unfold iso_step in iso_advance_left t (advance_over rates t r) a.channel, refl)
  iso_refused_leaves a close h t = absurd (not_refused close (says 0x00 0 []) (unfold says in refl) t)
