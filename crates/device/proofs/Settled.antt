-- ANY TWO OUTCOMES OF A PUBLIC CALL ARE EQUAL: said of each of the 28 calls, of connect and set with rates that are lent, and of the look at the
-- memory, over the very postcondition that the function is proved to meet.
-- An outcome is what the function returns and what it leaves in the memory and in a lent buffer. Assumes nothing.
use mathlib.Core.Path.{◌≡◌, sym, ap, ◌∙◌}
use Prim.Native.Nat.{ℕ}
use mathlib.Core.List.{List}
use Rattle.std.specs.Prelude.{⊤, Result}
use contract.Lifetimes.{Lfts}
use denote.Triple.Clauses.{Lasts, at_exit}
use borrow.Fn.Kinds.{ParamKind, ResultKind, Out, Dens, res_t, ended_of}
use Rattle.codec.specs.Settled.{Settled}
use Rattle.codes.specs.Code.{code_of, value_of}
use Rattle.codes.specs.declared.Refusal.{Refusal}
use Rattle.codes.proofs.Numbers.{answer_of, answer_of_codes, done_of_code}
use Rattle.layout.specs.Promise.{Result as Promised, gives}
use Rattle.device_lists.specs.declared.Pair.{Pair}
use Rattle.device_lists.specs.Lists.{SetPost, GetPost}
use Rattle.device_lists.proofs.Settled as lists
use Rattle.box_validity.proofs.valid.Kinds as valid_kinds
use Rattle.box_validity.proofs.valid.Reads as valid
use Rattle.device_channels.proofs.connect.Kinds as connect_kinds
use Rattle.device_channels.proofs.connect.Reads as connect
use Rattle.device_channels.proofs.connect_with.Kinds as connect_with_kinds
use Rattle.device_channels.proofs.connect_with.Reads as connect-with
use Rattle.device_channels.proofs.get.Kinds as get_kinds
use Rattle.device_channels.proofs.get.Reads as get
use Rattle.device_channels.proofs.last_error.Kinds as last_error_kinds
use Rattle.device_channels.proofs.last_error.Reads as last-error
use Rattle.device_channels.proofs.set.Kinds as set_kinds
use Rattle.device_channels.proofs.set.Reads as set
use Rattle.device_channels.proofs.set_with.Kinds as set_with_kinds
use Rattle.device_channels.proofs.set_with.Reads as set-with
use Rattle.device_channels.proofs.disconnect.Kinds as disconnect_kinds
use Rattle.device_channels.proofs.disconnect.Reads as disconnect
use Rattle.device_channels.proofs.clear.Kinds as clear_kinds
use Rattle.device_channels.proofs.clear.Reads as clear
use Rattle.device_orders.proofs.start_filter.Kinds as start_filter_kinds
use Rattle.device_orders.proofs.start_filter.Reads as start_filter_law
use Rattle.device_orders.proofs.start_flow_filter.Kinds as start_flow_filter_kinds
use Rattle.device_orders.proofs.start_flow_filter.Reads as start-flow-filter
use Rattle.device_orders.proofs.stop_filter.Kinds as stop_filter_kinds
use Rattle.device_orders.proofs.stop_filter.Reads as stop-filter
use Rattle.device_orders.proofs.start_periodic.Kinds as start_periodic_kinds
use Rattle.device_orders.proofs.start_periodic.Reads as start-periodic
use Rattle.device_orders.proofs.stop_periodic.Kinds as stop_periodic_kinds
use Rattle.device_orders.proofs.stop_periodic.Reads as stop-periodic
use Rattle.device_traffic.proofs.write.Kinds as write_kinds
use Rattle.device_traffic.proofs.write.Reads as write
use Rattle.device_traffic.proofs.read.Kinds as read_kinds
use Rattle.device_traffic.proofs.read.Reads as read
use Rattle.device_traffic.proofs.take.Kinds as take_kinds
use Rattle.device_traffic.proofs.take.Reads as take
use Rattle.device_traffic.proofs.sent.Kinds as sent_kinds
use Rattle.device_traffic.proofs.sent.Reads as sent
use Rattle.device_links.proofs.link_open.Kinds as link_open_kinds
use Rattle.device_links.proofs.link_open.Reads as link-open
use Rattle.device_links.proofs.link_send.Kinds as link_send_kinds
use Rattle.device_links.proofs.link_send.Reads as link-send
use Rattle.device_links.proofs.link_receive.Kinds as link_receive_kinds
use Rattle.device_links.proofs.link_receive.Reads as link-receive
use Rattle.device_links.proofs.link_end.Kinds as link_end_kinds
use Rattle.device_links.proofs.link_end.Reads as link-end
use Rattle.decision.proofs.Numbers.{one_answer}
use Rattle.device_deciding.proofs.decide.Kinds as decide_kinds
use Rattle.device_deciding.proofs.decide.Reads as decide
use Rattle.device_setups.proofs.save.Kinds as save_kinds
use Rattle.device_setups.proofs.save.Reads as save
use Rattle.device_setups.proofs.load.Kinds as load_kinds
use Rattle.device_setups.proofs.load.Reads as load
use Rattle.device_lines.proofs.power_on.Kinds as power_on_kinds
use Rattle.device_lines.proofs.power_on.Reads as power-on
use Rattle.device_lines.proofs.close.Kinds as close_kinds
use Rattle.device_lines.proofs.close.Reads as close
use Rattle.device_lines.proofs.advance.Kinds as advance_kinds
use Rattle.device_lines.proofs.advance.Reads as advance
use Rattle.device_lines.proofs.frame.Kinds as frame_kinds
use Rattle.device_lines.proofs.frame.Reads as frame

-- what a function returns, and what it leaves behind each `&mut` that it was lent
abbrev pub Outcome : (n : ℕ) (ps : List (ParamKind n)) (r : ResultKind n) (κs : Lfts n) → Dens κs ps → Type 0
Outcome n ps r κs a = (res_t r κs).Denot × Lasts (ended_of n ps r) κs a

-- for the same arguments, any two outcomes that meet a function's postcondition are equal
abbrev pub OneOutcome : (n : ℕ) (ps : List (ParamKind n)) (r : ResultKind n) → Out n ps r → Type 0
OneOutcome n ps r post =
    (κs : Lfts n) (a : Dens κs ps) → Settled {A = Outcome n ps r κs a} (λ x. post κs a x.0 (at_exit (ended_of n ps r) κs a x.1))

-- answers of which equal promises tell the code, or the code and the number, are one
done :
    (a b : Result ⊤ Refusal) {v w : ℕ} {s u m n : List ℕ} → gives (code_of a) v s m ≡ gives (code_of b) w u n → a ≡ b
done a b e = sym (done_of_code a) ∙ ap (λ (r : Promised). answer_of r.code tt) e ∙ done_of_code b

number :
    (a b : Result ℕ Refusal) {s u m n : List ℕ} → gives (code_of a) (value_of a) s m ≡ gives (code_of b) (value_of b) u n → a ≡ b
number a b e = sym (answer_of_codes a) ∙ ap (λ (r : Promised). answer_of r.code r.value) e ∙ answer_of_codes b

pub valid_settled : OneOutcome 1 valid_kinds.ps valid_kinds.r valid.Post
valid_settled κs a x y p q = ap (λ s. (s, x.1)) (p ∙ sym q)

pub connect_settled : OneOutcome 1 connect_kinds.ps connect_kinds.r connect.Post
connect_settled κs a x y p q = let e = p ∙ sym q in λ j. (number x.0 y.0 e j, ((e j).memory, x.1.1))

pub connect_with_settled : OneOutcome 2 connect_with_kinds.ps connect_with_kinds.r connect-with.Post
connect_with_settled κs a x y p q = let e = p ∙ sym q in λ j. (number x.0 y.0 e j, ((e j).memory, x.1.1))

pub get_settled : OneOutcome 1 get_kinds.ps get_kinds.r get.Post
get_settled κs a x y p q = let e = p ∙ sym q in λ j. (number x.0 y.0 e j, ((e j).memory, x.1.1))

pub last_error_settled : OneOutcome 1 last_error_kinds.ps last_error_kinds.r last-error.Post
last_error_settled κs a x y p q = let e = p ∙ sym q in λ j. (number x.0 y.0 e j, x.1)

pub set_settled : OneOutcome 1 set_kinds.ps set_kinds.r set.Post
set_settled κs a x y p q = let e = p ∙ sym q in λ j. (done x.0 y.0 e j, ((e j).memory, x.1.1))

pub set_with_settled : OneOutcome 2 set_with_kinds.ps set_with_kinds.r set-with.Post
set_with_settled κs a x y p q = let e = p ∙ sym q in λ j. (done x.0 y.0 e j, ((e j).memory, x.1.1))

pub disconnect_settled : OneOutcome 1 disconnect_kinds.ps disconnect_kinds.r disconnect.Post
disconnect_settled κs a x y p q = let e = p ∙ sym q in λ j. (done x.0 y.0 e j, ((e j).memory, x.1.1))

pub clear_settled : OneOutcome 1 clear_kinds.ps clear_kinds.r clear.Post
clear_settled κs a x y p q = let e = p ∙ sym q in λ j. (done x.0 y.0 e j, ((e j).memory, x.1.1))

pub start_filter_settled : OneOutcome 3 start_filter_kinds.ps start_filter_kinds.r start_filter_law.Post
start_filter_settled κs a x y p q = let e = p ∙ sym q in λ j. (number x.0 y.0 e j, ((e j).memory, x.1.1))

pub start_flow_filter_settled : OneOutcome 4 start_flow_filter_kinds.ps start_flow_filter_kinds.r start-flow-filter.Post
start_flow_filter_settled κs a x y p q = let e = p ∙ sym q in λ j. (number x.0 y.0 e j, ((e j).memory, x.1.1))

pub stop_filter_settled : OneOutcome 1 stop_filter_kinds.ps stop_filter_kinds.r stop-filter.Post
stop_filter_settled κs a x y p q = let e = p ∙ sym q in λ j. (done x.0 y.0 e j, ((e j).memory, x.1.1))

pub start_periodic_settled : OneOutcome 2 start_periodic_kinds.ps start_periodic_kinds.r start-periodic.Post
start_periodic_settled κs a x y p q = let e = p ∙ sym q in λ j. (number x.0 y.0 e j, ((e j).memory, x.1.1))

pub stop_periodic_settled : OneOutcome 1 stop_periodic_kinds.ps stop_periodic_kinds.r stop-periodic.Post
stop_periodic_settled κs a x y p q = let e = p ∙ sym q in λ j. (done x.0 y.0 e j, ((e j).memory, x.1.1))

pub write_settled : OneOutcome 2 write_kinds.ps write_kinds.r write.Post
write_settled κs a x y p q = let e = p ∙ sym q in λ j. (record { count = (e j).value; end = done x.0.end y.0.end e j }, ((e j).memory, x.1.1))

pub read_settled : OneOutcome 2 read_kinds.ps read_kinds.r read.Post
read_settled κs a x y p q = let e = p ∙ sym q in λ j. (record { count = (e j).value; end = done x.0.end y.0.end e j }, ((e j).memory, (tt, (tt, ((e j).buffer, tt)))))

pub take_settled : OneOutcome 2 take_kinds.ps take_kinds.r take.Post
take_settled κs a x y p q = let e = p ∙ sym q in λ j. (done x.0 y.0 e j, ((e j).memory, (tt, ((e j).buffer, tt))))

pub sent_settled : OneOutcome 1 sent_kinds.ps sent_kinds.r sent.Post
sent_settled κs a x y p q = let e = p ∙ sym q in λ j. (done x.0 y.0 e j, ((e j).memory, x.1.1))

pub link_open_settled : OneOutcome 1 link_open_kinds.ps link_open_kinds.r link-open.Post
link_open_settled κs a x y p q = let e = p ∙ sym q in λ j. (done x.0 y.0 e j, ((e j).memory, x.1.1))

pub link_send_settled : OneOutcome 2 link_send_kinds.ps link_send_kinds.r link-send.Post
link_send_settled κs a x y p q = let e = p ∙ sym q in λ j. (done x.0 y.0 e j, ((e j).memory, x.1.1))

pub link_receive_settled : OneOutcome 2 link_receive_kinds.ps link_receive_kinds.r link-receive.Post
link_receive_settled κs a x y p q = let e = p ∙ sym q in λ j. (number x.0 y.0 e j, ((e j).memory, (tt, ((e j).buffer, tt))))

pub link_end_settled : OneOutcome 1 link_end_kinds.ps link_end_kinds.r link-end.Post
link_end_settled κs a x y p q = let e = p ∙ sym q in λ j. (done x.0 y.0 e j, ((e j).memory, x.1.1))

pub decide_settled : OneOutcome 1 decide_kinds.ps decide_kinds.r decide.Post
decide_settled κs a x y p q =
    let e = p ∙ sym q in
    let same = one_answer x.0 y.0 (ap (λ (s : Promised). s.code) e) (ap (λ (s : Promised). s.value) e) in
    λ j. (same j, ((e j).memory, x.1.1))

pub save_settled : OneOutcome 2 save_kinds.ps save_kinds.r save.Post
save_settled κs a x y p q = let e = p ∙ sym q in λ j. (number x.0 y.0 e j, ((e j).memory, (tt, ((e j).buffer, tt))))

pub load_settled : OneOutcome 2 load_kinds.ps load_kinds.r load.Post
load_settled κs a x y p q = let e = p ∙ sym q in λ j. (done x.0 y.0 e j, ((e j).memory, x.1.1))

pub power_on_settled : OneOutcome 1 power_on_kinds.ps power_on_kinds.r power-on.Post
power_on_settled κs a x y p q = let e = p ∙ sym q in λ j. (done x.0 y.0 e j, ((e j).memory, x.1.1))

pub close_settled : OneOutcome 1 close_kinds.ps close_kinds.r close.Post
close_settled κs a x y p q = let e = p ∙ sym q in λ j. (done x.0 y.0 e j, ((e j).memory, x.1.1))

pub advance_settled : OneOutcome 1 advance_kinds.ps advance_kinds.r advance.Post
advance_settled κs a x y p q = let e = p ∙ sym q in λ j. (done x.0 y.0 e j, ((e j).memory, x.1.1))

pub frame_settled : OneOutcome 2 frame_kinds.ps frame_kinds.r frame.Post
frame_settled κs a x y p q = let e = p ∙ sym q in λ j. (done x.0 y.0 e j, ((e j).memory, x.1.1))

-- the two lists: `SetPost` and `GetPost` are their postconditions (device_lists, Settled `set_list_says`, `get_list_says`)
pub set_list_settled : (m : List ℕ) (k : ℕ) (ps : List Pair) → Settled (SetPost m k ps)
set_list_settled = lists.set_list_settled

pub get_list_settled : (m : List ℕ) (k : ℕ) (ps : List Pair) → Settled (GetPost m k ps)
get_list_settled = lists.get_list_settled
