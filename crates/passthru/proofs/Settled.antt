-- ANY TWO OUTCOMES OF AN EXPORT ARE EQUAL: said of each function that C calls, over the very postcondition that it is proved to meet. An outcome
-- is the code, and what is left in the memory, in a lent buffer and behind a pointer. Assumes nothing.
use mathlib.Core.Path.{◌≡◌, refl, sym, ap, ◌∙◌}
use Prim.Native.Nat.{ℕ}
use mathlib.Core.List.{List, []}
use seplogic.Ra.Ura.{Ura}
use base.Logic.{SProp}
use prog.Memory.{Memory}
use prog.Routine.{Routine}
use types.Logic.{Logic}
use contract.Lifetimes.{Lfts}
use contract.Monad.{Fun, fact}
use denote.Triple.Clauses.{AtExit}
use denote.Triple.Entry.{Args}
use Rattle.codec.specs.Settled.{Settled}
use Rattle.machine.specs.Codes.{two_rates}
use Rattle.machine.specs.Channel.{flat, get_list, set_list}
use Rattle.machine.specs.Step.{call}
use Rattle.layout.specs.Promise.{gives}
use Rattle.memory.specs.Promise.{outcome}
use Rattle.device_lists.specs.declared.Pair.{Pair}
use Rattle.device_lists.specs.Lists.{listed}
use Rattle.device_lists.proofs.Settled.{pairs_of, back}
use Rattle.passthru.specs.contracts.trawl_set_list as trawl-set-list
use Rattle.passthru.specs.contracts.trawl_get_list as trawl-get-list
use Rattle.device.proofs.Settled.{OneOutcome}
use Rattle.passthru.proofs.trawl_valid.Kinds as trawl_valid_kinds
use Rattle.passthru.proofs.trawl_valid.Reads as trawl-valid
use Rattle.passthru.proofs.trawl_power_on.Kinds as trawl_power_on_kinds
use Rattle.passthru.proofs.trawl_power_on.Reads as trawl-power-on
use Rattle.passthru.proofs.trawl_connect.Kinds as trawl_connect_kinds
use Rattle.passthru.proofs.trawl_connect.Reads as trawl-connect
use Rattle.passthru.proofs.trawl_close.Kinds as trawl_close_kinds
use Rattle.passthru.proofs.trawl_close.Reads as trawl-close
use Rattle.passthru.proofs.trawl_advance.Kinds as trawl_advance_kinds
use Rattle.passthru.proofs.trawl_advance.Reads as trawl-advance
use Rattle.passthru.proofs.trawl_frame.Kinds as trawl_frame_kinds
use Rattle.passthru.proofs.trawl_frame.Reads as trawl-frame
use Rattle.passthru.proofs.trawl_disconnect.Kinds as trawl_disconnect_kinds
use Rattle.passthru.proofs.trawl_disconnect.Reads as trawl-disconnect
use Rattle.passthru.proofs.trawl_start_filter.Kinds as trawl_start_filter_kinds
use Rattle.passthru.proofs.trawl_start_filter.Reads as trawl-start-filter
use Rattle.passthru.proofs.trawl_start_flow_filter.Kinds as trawl_start_flow_filter_kinds
use Rattle.passthru.proofs.trawl_start_flow_filter.Reads as trawl-start-flow-filter
use Rattle.passthru.proofs.trawl_stop_filter.Kinds as trawl_stop_filter_kinds
use Rattle.passthru.proofs.trawl_stop_filter.Reads as trawl-stop-filter
use Rattle.passthru.proofs.trawl_start_periodic.Kinds as trawl_start_periodic_kinds
use Rattle.passthru.proofs.trawl_start_periodic.Reads as trawl-start-periodic
use Rattle.passthru.proofs.trawl_stop_periodic.Kinds as trawl_stop_periodic_kinds
use Rattle.passthru.proofs.trawl_stop_periodic.Reads as trawl-stop-periodic
use Rattle.passthru.proofs.trawl_write.Kinds as trawl_write_kinds
use Rattle.passthru.proofs.trawl_write.Reads as trawl-write
use Rattle.passthru.proofs.trawl_read.Kinds as trawl_read_kinds
use Rattle.passthru.proofs.trawl_read.Reads as trawl-read
use Rattle.passthru.proofs.trawl_link_receive.Kinds as trawl_link_receive_kinds
use Rattle.passthru.proofs.trawl_link_receive.Reads as trawl-link-receive
use Rattle.passthru.proofs.trawl_take.Kinds as trawl_take_kinds
use Rattle.passthru.proofs.trawl_take.Reads as trawl-take
use Rattle.passthru.proofs.trawl_sent.Kinds as trawl_sent_kinds
use Rattle.passthru.proofs.trawl_sent.Reads as trawl-sent
use Rattle.passthru.proofs.trawl_link_open.Kinds as trawl_link_open_kinds
use Rattle.passthru.proofs.trawl_link_open.Reads as trawl-link-open
use Rattle.passthru.proofs.trawl_link_send.Kinds as trawl_link_send_kinds
use Rattle.passthru.proofs.trawl_link_send.Reads as trawl-link-send
use Rattle.passthru.proofs.trawl_link_end.Kinds as trawl_link_end_kinds
use Rattle.passthru.proofs.trawl_link_end.Reads as trawl-link-end
use Rattle.passthru.proofs.trawl_save.Kinds as trawl_save_kinds
use Rattle.passthru.proofs.trawl_save.Reads as trawl-save
use Rattle.passthru.proofs.trawl_load.Kinds as trawl_load_kinds
use Rattle.passthru.proofs.trawl_load.Reads as trawl-load
use Rattle.passthru.proofs.trawl_decide.Kinds as trawl_decide_kinds
use Rattle.passthru.proofs.trawl_decide.Reads as trawl-decide
use Rattle.passthru.proofs.trawl_clear.Kinds as trawl_clear_kinds
use Rattle.passthru.proofs.trawl_clear.Reads as trawl-clear
use Rattle.passthru.proofs.trawl_get.Kinds as trawl_get_kinds
use Rattle.passthru.proofs.trawl_get.Reads as trawl-get
use Rattle.passthru.proofs.trawl_last_error.Kinds as trawl_last_error_kinds
use Rattle.passthru.proofs.trawl_last_error.Reads as trawl-last-error
use Rattle.passthru.proofs.trawl_set.Kinds as trawl_set_kinds
use Rattle.passthru.proofs.trawl_set.Reads as trawl-set
use Rattle.passthru.proofs.trawl_read_telegram.Kinds as trawl_read_telegram_kinds
use Rattle.passthru.proofs.trawl_read_telegram.Reads as trawl-read-telegram
use Rattle.passthru.proofs.trawl_write_telegram.Kinds as trawl_write_telegram_kinds
use Rattle.passthru.proofs.trawl_write_telegram.Reads as trawl-write-telegram
use Rattle.passthru.proofs.trawl_time.Kinds as trawl_time_kinds
use Rattle.passthru.proofs.trawl_time.Reads as trawl-time
use Rattle.passthru.proofs.trawl_replay.Kinds as trawl_replay_kinds
use Rattle.passthru.proofs.trawl_replay.Reads as trawl-replay

-- what is made of equals is equal
alike : {A B : Type 0} {u v : B} → u ≡ v → (make : B → A) → make u ≡ make v
alike e make = ap make e

pub trawl_valid_settled : OneOutcome 1 trawl_valid_kinds.ps trawl_valid_kinds.r trawl-valid.Post
trawl_valid_settled κs a x y p q = alike (p ∙ sym q) (λ s. (s, x.1))

pub trawl_power_on_settled : OneOutcome 1 trawl_power_on_kinds.ps trawl_power_on_kinds.r trawl-power-on.Post
trawl_power_on_settled κs a x y p q = alike (p ∙ sym q) (λ s. (s.code, (s.memory, x.1.1)))

pub trawl_connect_settled : OneOutcome 2 trawl_connect_kinds.ps trawl_connect_kinds.r trawl-connect.Post
trawl_connect_settled κs a x y p q = alike (p ∙ sym q) (λ s. (s.code, (s.memory, (tt, (tt, (tt, (tt, (s.value, tt))))))))

pub trawl_close_settled : OneOutcome 1 trawl_close_kinds.ps trawl_close_kinds.r trawl-close.Post
trawl_close_settled κs a x y p q = alike (p ∙ sym q) (λ s. (s.code, (s.memory, x.1.1)))

pub trawl_advance_settled : OneOutcome 1 trawl_advance_kinds.ps trawl_advance_kinds.r trawl-advance.Post
trawl_advance_settled κs a x y p q = alike (p ∙ sym q) (λ s. (s.code, (s.memory, x.1.1)))

pub trawl_frame_settled : OneOutcome 2 trawl_frame_kinds.ps trawl_frame_kinds.r trawl-frame.Post
trawl_frame_settled κs a x y p q = alike (p ∙ sym q) (λ s. (s.code, (s.memory, x.1.1)))

pub trawl_disconnect_settled : OneOutcome 1 trawl_disconnect_kinds.ps trawl_disconnect_kinds.r trawl-disconnect.Post
trawl_disconnect_settled κs a x y p q = alike (p ∙ sym q) (λ s. (s.code, (s.memory, x.1.1)))

pub trawl_start_filter_settled : OneOutcome 4 trawl_start_filter_kinds.ps trawl_start_filter_kinds.r trawl-start-filter.Post
trawl_start_filter_settled κs a x y p q = alike (p ∙ sym q) (λ s. (s.code, (s.memory, (tt, (tt, (tt, (tt, (s.value, tt))))))))

pub trawl_start_flow_filter_settled : OneOutcome 5 trawl_start_flow_filter_kinds.ps trawl_start_flow_filter_kinds.r trawl-start-flow-filter.Post
trawl_start_flow_filter_settled κs a x y p q = alike (p ∙ sym q) (λ s. (s.code, (s.memory, (tt, (tt, (tt, (tt, (tt, (s.value, tt)))))))))

pub trawl_stop_filter_settled : OneOutcome 1 trawl_stop_filter_kinds.ps trawl_stop_filter_kinds.r trawl-stop-filter.Post
trawl_stop_filter_settled κs a x y p q = alike (p ∙ sym q) (λ s. (s.code, (s.memory, x.1.1)))

pub trawl_start_periodic_settled : OneOutcome 3 trawl_start_periodic_kinds.ps trawl_start_periodic_kinds.r trawl-start-periodic.Post
trawl_start_periodic_settled κs a x y p q = alike (p ∙ sym q) (λ s. (s.code, (s.memory, (tt, (tt, (tt, (s.value, tt)))))))

pub trawl_stop_periodic_settled : OneOutcome 1 trawl_stop_periodic_kinds.ps trawl_stop_periodic_kinds.r trawl-stop-periodic.Post
trawl_stop_periodic_settled κs a x y p q = alike (p ∙ sym q) (λ s. (s.code, (s.memory, x.1.1)))

pub trawl_write_settled : OneOutcome 3 trawl_write_kinds.ps trawl_write_kinds.r trawl-write.Post
trawl_write_settled κs a x y p q = alike (p ∙ sym q) (λ s. (s.code, (s.memory, (tt, (tt, (tt, (s.value, tt)))))))

pub trawl_read_settled : OneOutcome 3 trawl_read_kinds.ps trawl_read_kinds.r trawl-read.Post
trawl_read_settled κs a x y p q = alike (p ∙ sym q) (λ s. (s.code, (s.memory, (tt, (tt, (s.buffer, (s.value, tt)))))))

pub trawl_take_settled : OneOutcome 2 trawl_take_kinds.ps trawl_take_kinds.r trawl-take.Post
trawl_take_settled κs a x y p q = alike (p ∙ sym q) (λ s. (s.code, (s.memory, (tt, (s.buffer, tt)))))

pub trawl_sent_settled : OneOutcome 1 trawl_sent_kinds.ps trawl_sent_kinds.r trawl-sent.Post
trawl_sent_settled κs a x y p q = alike (p ∙ sym q) (λ s. (s.code, (s.memory, x.1.1)))

pub trawl_link_open_settled : OneOutcome 1 trawl_link_open_kinds.ps trawl_link_open_kinds.r trawl-link-open.Post
trawl_link_open_settled κs a x y p q = alike (p ∙ sym q) (λ s. (s.code, (s.memory, x.1.1)))

pub trawl_link_send_settled : OneOutcome 2 trawl_link_send_kinds.ps trawl_link_send_kinds.r trawl-link-send.Post
trawl_link_send_settled κs a x y p q = alike (p ∙ sym q) (λ s. (s.code, (s.memory, x.1.1)))

pub trawl_link_receive_settled : OneOutcome 3 trawl_link_receive_kinds.ps trawl_link_receive_kinds.r trawl-link-receive.Post
trawl_link_receive_settled κs a x y p q = alike (p ∙ sym q) (λ s. (s.code, (s.memory, (tt, (s.buffer, (s.value, tt))))))

pub trawl_decide_settled : OneOutcome 2 trawl_decide_kinds.ps trawl_decide_kinds.r trawl-decide.Post
trawl_decide_settled κs a x y p q = alike (p ∙ sym q) (λ s. (s.code, (s.memory, (tt, (tt, (tt, (s.value, tt)))))))

pub trawl_save_settled : OneOutcome 3 trawl_save_kinds.ps trawl_save_kinds.r trawl-save.Post
trawl_save_settled κs a x y p q = alike (p ∙ sym q) (λ s. (s.code, (s.memory, (tt, (s.buffer, (s.value, tt))))))

pub trawl_load_settled : OneOutcome 2 trawl_load_kinds.ps trawl_load_kinds.r trawl-load.Post
trawl_load_settled κs a x y p q = alike (p ∙ sym q) (λ s. (s.code, (s.memory, x.1.1)))

pub trawl_link_end_settled : OneOutcome 1 trawl_link_end_kinds.ps trawl_link_end_kinds.r trawl-link-end.Post
trawl_link_end_settled κs a x y p q = alike (p ∙ sym q) (λ s. (s.code, (s.memory, x.1.1)))

pub trawl_clear_settled : OneOutcome 1 trawl_clear_kinds.ps trawl_clear_kinds.r trawl-clear.Post
trawl_clear_settled κs a x y p q = alike (p ∙ sym q) (λ s. (s.code, (s.memory, x.1.1)))

pub trawl_get_settled : OneOutcome 2 trawl_get_kinds.ps trawl_get_kinds.r trawl-get.Post
trawl_get_settled κs a x y p q = alike (p ∙ sym q) (λ s. (s.code, (s.memory, (tt, (tt, (s.value, tt))))))

pub trawl_last_error_settled : OneOutcome 2 trawl_last_error_kinds.ps trawl_last_error_kinds.r trawl-last-error.Post
trawl_last_error_settled κs a x y p q = alike (p ∙ sym q) (λ s. (s.code, (tt, (tt, (s.value, tt)))))

pub trawl_set_settled : OneOutcome 1 trawl_set_kinds.ps trawl_set_kinds.r trawl-set.Post
trawl_set_settled κs a x y p q = alike (p ∙ sym q) (λ s. (s.code, (s.memory, x.1.1)))

pub trawl_read_telegram_settled : OneOutcome 2 trawl_read_telegram_kinds.ps trawl_read_telegram_kinds.r trawl-read-telegram.Post
trawl_read_telegram_settled κs a x y p q = alike (p ∙ sym q) (λ s. (s.code, (tt, (tt, (tt, (s.buffer, tt))))))

pub trawl_write_telegram_settled : OneOutcome 3 trawl_write_telegram_kinds.ps trawl_write_telegram_kinds.r trawl-write-telegram.Post
trawl_write_telegram_settled κs a x y p q = alike (p ∙ sym q) (λ s. (s.code, (tt, (s.buffer, (s.len, tt)))))

pub trawl_time_settled : OneOutcome 0 trawl_time_kinds.ps trawl_time_kinds.r trawl-time.Post
trawl_time_settled κs a x y p q = alike (p ∙ sym q) (λ s. (s, x.1))

pub trawl_replay_settled : OneOutcome 5 trawl_replay_kinds.ps trawl_replay_kinds.r trawl-replay.Post
trawl_replay_settled κs a x y p q = alike (p ∙ sym q) (λ s. (s.code, (s.memory, (tt, (s.at, (s.buffer, (s.size, tt)))))))

-- what the two lists promise: of a set the code and the memory that it leaves, of a get the list too
abbrev pub SetPost : List ℕ → ℕ → List Pair → ℕ × List ℕ → Type 0
SetPost m k ps x = gives x.0 0 [] x.1 ≡ outcome two_rates m (call k (set_list (listed ps)))

abbrev pub GetPost : List ℕ → ℕ → List Pair → ℕ × (List ℕ × List Pair) → Type 0
GetPost m k ps x = gives x.0 0 (flat (listed x.1.1)) x.1.0 ≡ outcome two_rates m (call k (get_list (listed ps)))

pub trawl_set_list_settled : (m : List ℕ) (k : ℕ) (ps : List Pair) → Settled (SetPost m k ps)
trawl_set_list_settled m k ps x y p q = alike (p ∙ sym q) (λ s. (s.code, s.memory))

pub trawl_get_list_settled : (m : List ℕ) (k : ℕ) (ps : List Pair) → Settled (GetPost m k ps)
trawl_get_list_settled m k ps x y p q =
    ap (λ (l : List Pair). (x.0, (x.1.0, l))) (sym (back x.1.1)) ∙ alike (p ∙ sym q) (λ s. (s.code, (s.memory, pairs_of s.buffer)))
    ∙ ap (λ (l : List Pair). (y.0, (y.1.0, l))) (back y.1.1)

-- these are the postconditions of the two functions, which take a slice of structs
module _ {M : Type 1} {𝓤 : Ura M} (𝓛 : Logic 𝓤) (at_mem : Memory → SProp 𝓤) (run : Routine → Fun 𝓤) (κs : Lfts 2) where
  pub trawl_set_list_says : (a : Args trawl-set-list.signature κs) (c : ℕ) (e : AtExit trawl-set-list.ended κs)
      → (trawl-set-list.clauses 𝓛 at_mem run κs a).ensures tt c e ≡ fact 𝓤 (SetPost a.0.now a.1.0 a.1.1.0.now (c, e.0.now))
  trawl_set_list_says a c e = refl

  pub trawl_get_list_says : (a : Args trawl-get-list.signature κs) (c : ℕ) (e : AtExit trawl-get-list.ended κs)
      → (trawl-get-list.clauses 𝓛 at_mem run κs a).ensures tt c e ≡ fact 𝓤 (GetPost a.0.now a.1.0 a.1.1.0.now (c, (e.0.now, e.1.1.0.now)))
  trawl_get_list_says a c e = refl
