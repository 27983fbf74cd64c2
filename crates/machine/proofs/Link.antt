-- A call on an open channel whose code is not 0x00 leaves the channel's TP2.0 connection: a refusal leaves everything, and a write, a read or a list that
-- ends with another code does not touch it. Assumes nothing.
use Rattle.std.specs.Prelude.{if◌then◌else◌}
use Prim.Native.Nat.{ℕ}
use mathlib.Core.Path.{◌≡◌, refl}
use mathlib.Core.Bool.{Bool}
use mathlib.Core.Option.{Option, none, some}
use mathlib.Core.List.{List}
use Rattle.link.specs.Connection.{Connection, absent, Offer}
use Rattle.machine.specs.Store.{read_whole}
use Rattle.machine.specs.Message.{Rec}
use Rattle.machine.specs.Channel.{Chan, closed, opened, Open, with_config, with_filters, with_sending, with_receiving, Call, disconnect, start_filter, start_flow, stop_filter, start_periodic, stop_periodic, write, read, take_next, sent, clear, get_parameter, set_parameter, last_error, get_list, set_list, opens_link, sends_link, receives_link, ends_link, decides, saves, loads, on_raw, says, Outcome, unless, done_with, on_start_filter, on_stop_filter, reading, on_read, on_write, on_start_periodic, on_stop_periodic, Next, next, giving, chosen, may_go, chosen_or, taking, on_take, sending, on_sent, on_clear, on_get, set_to, on_set, on_get_list, on_set_list, on_link_open, on_link_send, on_link_receive, on_link_end, on_raw_call, on_decide, store_in, on_save, loaded, on_load, on_open, on_call, muted}
use Rattle.machine.proofs.Refusals.{unless_case, if_case, load_case}

-- the connection of a channel
abbrev pub link_of : Chan → Connection
link_of closed = absent
link_of (opened o) = o.link

-- an outcome leaves a connection, where its code is not 0x00
pub record Leaves (c : Connection) (x : Outcome) : Type 0 where
  pub left : (x.1.code ≡ 0x00 → ⊥) → link_of x.0 ≡ c

module _ (o : Open) where
  same : (x : Outcome) → link_of x.0 ≡ o.link → Leaves o.link x
  same x e = record { left = λ n. e }

  done : (x : Outcome) → x.1.code ≡ 0x00 → Leaves o.link x
  done x e = record { left = λ n. absurd (n e) }

  refused : (k : ℕ) (c : Chan) (b : List ℕ) (x : Outcome) → Leaves o.link x → Leaves o.link (c, says k 0 b) → Leaves o.link (unless k c b x)
  refused = unless_case (Leaves o.link)

  either : (g : Bool) (x y : Outcome) → Leaves o.link x → Leaves o.link y → Leaves o.link (if g then x else y)
  either = if_case (Leaves o.link)

  -- a take that finds nothing
  take_leaves : (b : List ℕ) (f : Option Rec) → Leaves o.link (taking o f b)
  unfolding taking chosen_or chosen giving says
  take_leaves b (some r) = same _ refl
  take_leaves b none = offered (may_go o)
    where
      next_leaves : (x : Option Next) → Leaves o.link (chosen o x b)
      next_leaves none = same _ refl
      next_leaves (some x) = done _ refl

      offered : (x : Option Offer) → Leaves o.link (chosen_or o x b)
      offered none = next_leaves (next o.sending.periodics o.sending.written)
      offered (some x) = done _ refl

  sent_leaves : (now : ℕ) (f : Option Rec) → Leaves o.link (sending now o f)
  unfolding sending done_with says
  sent_leaves now none = same _ refl
  sent_leaves now (some r) = done _ refl

  does_leave : (rates : List ℕ) (now : ℕ) (x : Call) → Leaves o.link (on_open rates now o x)
  unfolding on_open on_raw_call on_decide on_save on_load loaded on_start_filter on_stop_filter on_start_periodic on_stop_periodic on_write on_read reading on_take on_sent on_clear on_get on_set set_to on_get_list on_set_list on_link_open on_link_send on_link_receive on_link_end with_filters with_sending with_receiving with_config done_with says
  does_leave rates now disconnect = done _ refl
  does_leave rates now (start_filter t m p) = refused _ _ _ _ (done _ refl) (same _ refl)
  does_leave rates now (start_flow t m p f) = refused _ _ _ _ (done _ refl) (same _ refl)
  does_leave rates now (stop_filter k) = refused _ _ _ _ (done _ refl) (same _ refl)
  does_leave rates now (start_periodic m i) = refused _ _ _ _ (done _ refl) (same _ refl)
  does_leave rates now (stop_periodic k) = refused _ _ _ _ (done _ refl) (same _ refl)
  does_leave rates now (write k b) = refused _ _ _ _ (same _ refl) (same _ refl)
  does_leave rates now (read k b) = search (refused, either, same, refl)
  does_leave rates now (take_next b) = refused _ _ _ _ (take_leaves b o.sending.flight) (same _ refl)
  does_leave rates now sent = sent_leaves now o.sending.flight
  does_leave rates now (clear k) = search (either, done, same, refl) depth 9
  does_leave rates now (get_parameter p) = same _ refl
  does_leave rates now (set_parameter p v) = same _ refl
  does_leave rates now last_error = same _ refl
  does_leave rates now (get_list ps) = refused _ _ _ _ (same _ refl) (same _ refl)
  does_leave rates now (set_list ps) = refused _ _ _ _ (same _ refl) (same _ refl)
  does_leave rates now (on_raw (opens_link a)) = refused _ _ _ _ (done _ refl) (same _ refl)
  does_leave rates now (on_raw (sends_link m)) = refused _ _ _ _ (done _ refl) (same _ refl)
  does_leave rates now (on_raw (receives_link b)) = refused _ _ _ _ (done _ refl) (same _ refl)
  does_leave rates now (on_raw ends_link) = refused _ _ _ _ (done _ refl) (same _ refl)
  does_leave rates now (on_raw (decides w i)) = refused _ _ _ _ (done _ refl) (same _ refl)
  does_leave rates now (on_raw (saves b)) = refused _ _ _ _ (done _ refl) (same _ refl)
  does_leave rates now (on_raw (loads s)) = load_case (Leaves o.link) o (read_whole (store_in rates) s) (same _ refl) (λ t. same _ refl)

  pub link_left : (rates : List ℕ) (now : ℕ) (x : Call) → Leaves o.link (on_call rates now (opened o) x)
  unfolding on_call says
  link_left rates now x = either (muted o x) _ _ (same _ refl) (does_leave rates now x)
