-- `device_lists::set_list` meets its contract. Assumes nothing.
use mathlib.Core.Path.{refl, ap, ◌≡◌, ◌∙◌}
use Prim.Native.Nat.{ℕ, ◌<◌}
use mathlib.Core.List.{List}
use native.Mathlib.Numerals.{add-one}
use native.Mathlib.Omega.{arith}
use lib.ListN.{length}
use Rattle.std.proofs.lemmas.Result.{err_from_is_err_and}
use Rattle.codes.proofs.Laws.{not_done}
use Rattle.machine.specs.Codes.{two_rates}
use Rattle.machine.specs.Channel.{set_list}
use Rattle.machine.specs.Step.{call}
use Rattle.memory.specs.Promise.{outcome}
use Rattle.device_lists.specs.Lists.{listed, Found}
use Rattle.device_lists.proofs.Refused.{seated_ready}
use Rattle.device_lists.proofs.Lists.{set_from, set_done, set_next, set_last}
use Rattle.device_lists.proofs.set_list.Goals as goal

pub loop-pair-init : goal.loop-pair-init
loop-pair-init c =
    let a = c.args in
    let e : Found a.mem.now a.channel (length a.pairs.now) c.begin.new.mem = c.in_ok-begin.ensures in
    record {
      few = e.few;
      ready = rw e.stays (seated_ready a.mem.now e.good a.channel e.seat e.seated);
      right = ap (λ (m : List ℕ). outcome two_rates m (call a.channel (set_list (listed a.pairs.now)))) e.stays;
    }

pub returns-in_err-set_one : goal.returns-in_err-set_one
returns-in_err-set_one c =
    let l = c.loop-pair in
    let v = l.invariant in
    let small : l.pair-index < length c.args.pairs.now = omega arith in
    let p = err_from_is_err_and c.from_residual-in_err-set_one.result c.from_residual-in_err-set_one.ensures.1 in
    rw (p.1, p.2)
    (set_last c.args.channel c.args.pairs.now l.mem v.ready v.few l.pair-index small _ c.set_one.new.mem c.in_err-set_one.ensures (not_done c.in_err-set_one.field-0.0) ∙ v.right)

pub loop-pair-preserved : goal.loop-pair-preserved
loop-pair-preserved c =
    let l = c.loop-pair in
    let v = l.invariant in
    let small : l.pair-index < length c.args.pairs.now = omega arith in
    let k = set_next c.args.channel c.args.pairs.now l.mem v.ready v.few l.pair-index small 0 c.set_one.new.mem c.in_ok-set_one.ensures refl in
    record {
      few = v.few;
      ready = k.0;
      right = ap (λ (j : ℕ). set_from c.args.channel c.args.pairs.now j c.set_one.new.mem) (add-one l.pair-index) ∙ k.1 ∙ v.right;
    }

pub returns : goal.returns
returns c =
    let l = c.loop-pair in
    let v = l.invariant in
    let e : length c.args.pairs.now ≡ l.pair-index = omega arith in
    set_done c.args.channel c.args.pairs.now l.mem v.ready
    ∙ ap (λ (j : ℕ). set_from c.args.channel c.args.pairs.now j l.mem) e ∙ v.right
