-- What a read or a take finds in the buffer that it is lent plays no part in its answer but behind what it gives, on a channel of either kind.
-- Assumes nothing.
use Rattle.std.specs.Prelude.{if◌then◌else◌}
use Prim.Native.Nat.{ℕ, ◌+◌, ◌*◌, ◌-◌, ◌≤◌, ◌<◌, min}
use mathlib.Core.Path.{◌≡◌, refl, sym, ap, ◌∙◌, subst}
use mathlib.Core.Bool.{Bool, true, false, true≢false}
use mathlib.Core.Option.{Option, none, some}
use mathlib.Core.List.{List, [], ◌∷◌, ◌++◌}
use native.Mathlib.Omega.{arith}
use borrow.Author.Tests.{le-ltb, leb-true, leb-false}
use lib.ListN.{length, take, drop}
use lib.Dec.{T, eqb, leb, ltb}
use Rattle.codec.proofs.Tests.{true_T, within_low, within_high, between}
use Rattle.codec.specs.Plain.{within}
use Rattle.machine.specs.Limits.{lines, record_size}
use Rattle.machine.specs.Codes.{code_of}
use Rattle.machine.specs.Message.{Rec, shown, shown_all}
use Rattle.machine.specs.Channel.{Chan, closed, opened, Open, Call, read, take_next, lent, Answer, says, with_sending, with_receiving, unless, shorter, read_code, reading, on_read, Next, next, giving, chosen, with_link, telegram, may_go, chosen_or, taking, on_take, on_open, on_call, raw_only, listens}
use Rattle.link.specs.Connection.{Offer}
use Rattle.machine.specs.Step.{call}
use Rattle.iso.specs.Limits.{first_iso, iso_record_size}
use Rattle.iso.specs.Iso.{Iso, shut, ready, OpenIso, Flight, Chosen, set_receiving, set_flight, set_written, set_talks, shown_iso, shown_iso_all, shorter_iso, unless_iso, iso_reading, on_iso_read, choice, showing, on_chosen, iso_taking, on_iso_take, on_ready, on_iso_call}
use Rattle.whole.specs.Device.{Device, channels, step}
use Rattle.whole.specs.Demands.{EightChannels}
use Rattle.whole.proofs.Dispatch.{step_no_channel}
use Rattle.memory.proofs.Entry.{Kind, raw_kind, iso_kind}
use Rattle.recording_sizes.specs.Sizes.{on_iso, record_on}
use Rattle.recording_sizes.proofs.Laws.{record_iso, record_raw}

-- calls with buffers of a size, which differ in the buffer alone: all leave the same and give the same code, value and bytes, which take the
-- place of so many, and the other bytes of the buffer stay
pub record Gives {A : Type 0} (size : ℕ) (rule : ℕ → ℕ → ℕ → Type 0) (of : List ℕ → A × Answer) : Type 0 where
  pub after : A
  pub code : ℕ
  pub value : ℕ
  pub bytes : List ℕ
  pub taken : ℕ
  pub few : taken ≤ size
  pub ruled : rule code value taken
  pub is : (b : List ℕ) → length b ≡ size → of b ≡ (after, says code value (bytes ++ drop taken b))

-- a read of n takes the place of as many records of a size as it counts, at most n; a take that of one on 0x00, else of none
abbrev pub Counted : ℕ → ℕ → ℕ → ℕ → ℕ → Type 0
Counted n unit code value taken = (taken ≡ unit * value) × (value ≤ n)

abbrev pub OneOrNone : ℕ → ℕ → ℕ → ℕ → Type 0
OneOrNone unit code value taken = taken ≡ (if eqb code 0x00 then unit else 0)

-- a call that gives nothing
nothing : {A : Type 0} (size : ℕ) (rule : ℕ → ℕ → ℕ → Type 0) (of : List ℕ → A × Answer) (x : A) (k : ℕ) → rule k 0 0 → ((b : List ℕ) → length b ≡ size → of b ≡ (x, says k 0 b)) → Gives size rule of
nothing size rule of x k r h = record { after = x; code = k; value = 0; bytes = []; taken = 0; few = omega arith; ruled = r; is = h }

-- the same code, as the buffer's length is right
module _ {A : Type 0} (size : ℕ) (rule : ℕ → ℕ → ℕ → Type 0) {of of' : List ℕ → A × Answer} where
  alike : ((b : List ℕ) → length b ≡ size → of' b ≡ of b) → Gives size rule of → Gives size rule of'
  alike e g =
      record {
        after = g.after;
        code = g.code;
        value = g.value;
        bytes = g.bytes;
        taken = g.taken;
        few = g.few;
        ruled = g.ruled;
        is = λ b h. e b h ∙ g.is b h;
      }

-- the buffer is long enough
long : (unit : ℕ) (b : List ℕ) (n : ℕ) → length b ≡ unit * n → code_of ((ltb (length b) (unit * n), 0x04) ∷ []) ≡ 0
unfolding code_of
long unit b n h = rw (le-ltb (length b) (unit * n) (omega arith))

-- the record that a take gives
one : {A : Type 0} (unit : ℕ) (of : List ℕ → A × Answer) (x : A) (shows : List ℕ) → ((b : List ℕ) → length b ≡ unit → of b ≡ (x, says 0x00 0 (shows ++ drop unit b))) → Gives unit (OneOrNone unit) of
one unit of x shows h = record { after = x; code = 0; value = 0; bytes = shows; taken = unit; few = omega arith; ruled = refl; is = h }

-- ---- on a raw CAN channel

module _ (o : Open) (n : ℕ) where
  open_read : (z : Bool) → eqb n 0 ≡ z → Gives (record_size * n) (Counted n record_size) (λ (b : List ℕ). on_read o n b)
  unfolding on_read unless reading shorter
  open_read true q = nothing (record_size * n) (Counted n record_size) (λ b. on_read o n b) (opened o) 0 (refl, omega arith) (λ b h. rw (long record_size b n h, q))
  open_read false q =
      let m : ℕ = min n (length o.receiving.queue) in
      record {
        after = with_receiving o (drop m o.receiving.queue) false;
        code = read_code o.receiving.lost n m;
        value = m;
        bytes = shown_all (take m o.receiving.queue);
        taken = record_size * m;
        few = omega arith;
        ruled = (refl, omega arith);
        is = λ b h. rw (long record_size b n h, q);
      }

module _ (o : Open) where
  by_choice : (f : Option Next) → Gives record_size (OneOrNone record_size) (λ (b : List ℕ). chosen o f b)
  unfolding chosen giving
  by_choice none = nothing record_size (OneOrNone record_size) (λ b. chosen o none b) (opened o) 0x10 refl (λ b h. refl)
  by_choice (some x) = one record_size (λ b. chosen o (some x) b) (with_sending o x.periodics x.written (some x.chosen)) (shown x.chosen) (λ b h. refl)

  by_offer : (x : Option Offer) → Gives record_size (OneOrNone record_size) (λ (b : List ℕ). chosen_or o x b)
  unfolding chosen_or giving
  by_offer none = by_choice (next o.sending.periodics o.sending.written)
  by_offer (some x) =
      one record_size (λ b. chosen_or o (some x) b) (with_sending (with_link o x.then') o.sending.periodics o.sending.written (some (telegram x))) (shown (telegram x)) (λ b h. refl)

  by_flight : (f : Option Rec) → Gives record_size (OneOrNone record_size) (λ (b : List ℕ). taking o f b)
  unfolding taking giving
  by_flight none = by_offer (may_go o)
  by_flight (some r) = one record_size (λ b. taking o (some r) b) (opened o) (shown r) (λ b h. refl)

  open_take : Gives record_size (OneOrNone record_size) (λ (b : List ℕ). on_take o b)
  unfolding on_take unless shorter
  open_take = alike record_size (OneOrNone record_size) (λ b h. rw (long record_size b 1 h)) (by_flight o.sending.flight)

raw_read : (rates : List ℕ) (n now : ℕ) (c : Chan) → Gives (record_size * n) (Counted n record_size) (λ (b : List ℕ). on_call rates now c (read n b))
unfolding on_call on_open lent
raw_read rates n now closed = nothing (record_size * n) (Counted n record_size) (λ b. on_call rates now closed (read n b)) closed 0x02 (refl, omega arith) (λ b h. refl)
raw_read rates n now (opened o) = open_read o n (eqb n 0) refl

raw_take : (rates : List ℕ) (now : ℕ) (c : Chan) → Gives record_size (OneOrNone record_size) (λ (b : List ℕ). on_call rates now c (take_next b))
unfolding on_call on_open lent
raw_take rates now closed = nothing record_size (OneOrNone record_size) (λ b. on_call rates now closed (take_next b)) closed 0x02 refl (λ b h. refl)
raw_take rates now (opened o) = by (listens o.config.flags)
  where
    -- a listener gives none
    by : (m : Bool) → Gives record_size (OneOrNone record_size) (λ (b : List ℕ). if m then (opened o, says 0x01 0 b) else on_take o b)
    by true = nothing record_size (OneOrNone record_size) (λ b. (opened o, says 0x01 0 b)) (opened o) 0x01 refl (λ b h. refl)
    by false = open_take o

-- ---- on an ISO 15765 channel

module _ (o : OpenIso) (n : ℕ) where
  ready_read : (z : Bool) → eqb n 0 ≡ z → Gives (iso_record_size * n) (Counted n iso_record_size) (λ (b : List ℕ). on_iso_read o n b)
  unfolding on_iso_read unless_iso iso_reading shorter_iso
  ready_read true q = nothing (iso_record_size * n) (Counted n iso_record_size) (λ b. on_iso_read o n b) (ready o) 0 (refl, omega arith) (λ b h. rw (long iso_record_size b n h, q))
  ready_read false q =
      let m : ℕ = min n (length o.receiving.queue) in
      record {
        after = ready (set_receiving o (record { queue = drop m o.receiving.queue; lost = false }));
        code = read_code o.receiving.lost n m;
        value = m;
        bytes = shown_iso_all (take m o.receiving.queue);
        taken = iso_record_size * m;
        few = omega arith;
        ruled = (refl, omega arith);
        is = λ b h. rw (long iso_record_size b n h, q);
      }

module _ (o : OpenIso) where
  iso_choice : (f : Option Chosen) → Gives iso_record_size (OneOrNone iso_record_size) (λ (b : List ℕ). on_chosen o f b)
  unfolding on_chosen showing
  iso_choice none = nothing iso_record_size (OneOrNone iso_record_size) (λ b. on_chosen o none b) (ready o) 0x10 refl (λ b h. refl)
  iso_choice (some x) =
      one iso_record_size (λ b. on_chosen o (some x) b) (ready (set_flight (set_written (set_talks o x.talks) x.written) (some (record { frame = x.frame; owner = x.owner })))) (shown_iso x.frame) (λ b h. refl)

  iso_flight : (f : Option Flight) → Gives iso_record_size (OneOrNone iso_record_size) (λ (b : List ℕ). iso_taking o f b)
  unfolding iso_taking showing
  iso_flight none = iso_choice (choice o.talks o.written)
  iso_flight (some f) = one iso_record_size (λ b. iso_taking o (some f) b) (ready o) (shown_iso f.frame) (λ b h. refl)

  ready_take : Gives iso_record_size (OneOrNone iso_record_size) (λ (b : List ℕ). on_iso_take o b)
  unfolding on_iso_take unless_iso shorter_iso
  ready_take = alike iso_record_size (OneOrNone iso_record_size) (λ b h. rw (long iso_record_size b 1 h)) (iso_flight o.flight)

iso_read : (rates : List ℕ) (n now : ℕ) (c : Iso) → Gives (iso_record_size * n) (Counted n iso_record_size) (λ (b : List ℕ). on_iso_call rates now c (read n b))
unfolding on_iso_call on_ready lent
iso_read rates n now shut = nothing (iso_record_size * n) (Counted n iso_record_size) (λ b. on_iso_call rates now shut (read n b)) shut 0x02 (refl, omega arith) (λ b h. refl)
iso_read rates n now (ready o) = ready_read o n (eqb n 0) refl

iso_take : (rates : List ℕ) (now : ℕ) (c : Iso) → Gives iso_record_size (OneOrNone iso_record_size) (λ (b : List ℕ). on_iso_call rates now c (take_next b))
unfolding on_iso_call on_ready lent
iso_take rates now shut = nothing iso_record_size (OneOrNone iso_record_size) (λ b. on_iso_call rates now shut (take_next b)) shut 0x02 refl (λ b h. refl)
iso_take rates now (ready o) = ready_take o

-- ---- on the box

-- a call with a buffer, on a channel of a kind
on_kind : {C : Type 0} (kind : Kind C) (rates : List ℕ) (size : ℕ) (rule : ℕ → ℕ → ℕ → Type 0) (x : List ℕ → Call) → ((b : List ℕ) → kind.barred (x b) ≡ false) → ((now : ℕ) (c : C) → Gives size rule (λ (b : List ℕ). kind.on rates now c (x b)))
    → (d : Device) → EightChannels d → (i : ℕ) → i < lines → Gives size rule (λ (b : List ℕ). step rates d (call (kind.number i) (x b)))
unfolding says
on_kind {C} kind rates size rule x any on d eight i h =
    let g = on d.clock (kind.row.chan i d) in
    record {
      after = kind.row.put i (kind.notes g.code g.after) d;
      code = g.code;
      value = g.value;
      bytes = g.bytes;
      taken = g.taken;
      few = g.few;
      ruled = g.ruled;
      is = λ b l. kind.steps rates d i (x b) eight h (any b) ∙ ap (λ (y : C × Answer). (kind.row.put i (kind.notes y.1.code y.0) d, y.1)) (g.is b l);
    }

-- on the channel of any number, whose records have their size by it
module _ (rates : List ℕ) (d : Device) (eight : EightChannels d) (k : ℕ) (x : List ℕ → Call) (lends : (b : List ℕ) → lent (x b) ≡ b) (any : (b : List ℕ) → raw_only (x b) ≡ false) (size : ℕ → ℕ) (rule : ℕ → ℕ → ℕ → ℕ → Type 0) (none : (unit : ℕ) → rule unit 0x02 0 0)
    (raw : (now : ℕ) (c : Chan) → Gives (size record_size) (rule record_size) (λ (b : List ℕ). on_call rates now c (x b))) (iso : (now : ℕ) (c : Iso) → Gives (size iso_record_size) (rule iso_record_size) (λ (b : List ℕ). on_iso_call rates now c (x b))) where
  abbrev Here : ℕ → ℕ → Type 0
  Here unit j = Gives (size unit) (rule unit) (λ (b : List ℕ). step rates d (call j (x b)))

  on_raw : (i : ℕ) → i < lines → Here record_size (i + 1)
  unfolding raw_kind
  on_raw i h = on_kind raw_kind rates (size record_size) (rule record_size) x (λ b. refl) raw d eight i h

  on_iso_law : (i : ℕ) → i < lines → Here iso_record_size (i + 5)
  unfolding iso_kind
  on_iso_law i h = on_kind iso_kind rates (size iso_record_size) (rule iso_record_size) x any iso d eight i h

  among_raw : on_iso k ≡ false → (z : Bool) → within 1 channels k ≡ z → Here record_size k
  unfolding on_iso within says
  among_raw out false q =
      nothing (size record_size) (rule record_size) (λ b. step rates d (call k (x b))) d 0x02 (none record_size)
      (λ b h. step_no_channel rates d k (x b) eight q ∙ ap (λ (l : List ℕ). (d, says 0x02 0 l)) (lends b))
  among_raw out true q = by (leb k lines) refl
    where
      by : (z : Bool) → leb k lines ≡ z → Here record_size k
      by true r =
          let low : 1 ≤ k = within_low 1 channels k (true_T (within 1 channels k) q) in
          let most : k ≤ lines = leb-true k lines r in
          let here : k - 1 + 1 ≡ k = omega arith in
          subst (Here record_size) here (on_raw (k - 1) (omega arith))
      by false r =
          let past : lines < k = leb-false k lines r in
          let high : k ≤ channels = within_high 1 channels k (true_T (within 1 channels k) q) in
          absurd (true≢false (sym (between first_iso channels k (omega arith) high) ∙ out))

  by_number : Here (record_on k) k
  unfolding on_iso
  by_number = by (on_iso k) refl
    where
      by : (z : Bool) → on_iso k ≡ z → Here (record_on k) k
      by true q =
          let low : first_iso ≤ k = within_low first_iso channels k (true_T (within first_iso channels k) q) in
          let high : k ≤ channels = within_high first_iso channels k (true_T (within first_iso channels k) q) in
          let here : k - 5 + 5 ≡ k = omega arith in
          subst (λ (unit : ℕ). Here unit k) (sym (record_iso k q)) (subst (Here iso_record_size) here (on_iso_law (k - 5) (omega arith)))
      by false q = subst (λ (unit : ℕ). Here unit k) (sym (record_raw k q)) (among_raw q (within 1 channels k) refl)

-- a read of n records, lent a buffer for as many; a take, lent one for one
pub reads : (rates : List ℕ) (d : Device) → EightChannels d → (k n : ℕ) → Gives (record_on k * n) (Counted n (record_on k)) (λ (b : List ℕ). step rates d (call k (read n b)))
unfolding lent
reads rates d eight k n = by_number rates d eight k (λ b. read n b) (λ b. refl) (λ b. refl) (λ unit. unit * n) (Counted n) (λ unit. (omega arith, omega arith)) (raw_read rates n) (iso_read rates n)

pub takes : (rates : List ℕ) (d : Device) → EightChannels d → (k : ℕ) → Gives (record_on k) (OneOrNone (record_on k)) (λ (b : List ℕ). step rates d (call k (take_next b)))
unfolding lent
takes rates d eight k = by_number rates d eight k (λ b. take_next b) (λ b. refl) (λ b. refl) (λ unit. unit) OneOrNone (λ unit. refl) (raw_take rates) (iso_take rates)
