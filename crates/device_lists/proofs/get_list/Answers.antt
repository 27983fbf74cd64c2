-- `device_lists::get_list` meets its contract. Assumes nothing.
use mathlib.Core.Path.{◌≡◌, refl, ap, ◌∙◌}
use Prim.Native.Nat.{ℕ, ◌+◌, ◌<◌}
use native.Mathlib.Numerals.{add-one}
use native.Mathlib.Omega.{arith}
use mathlib.Core.List.{List}
use lib.ListN.{length, get_or, set, length-set}
use Rattle.std.proofs.lemmas.Result.{err_from_is_err_and}
use Rattle.codes.specs.Code.{number_of}
use Rattle.codes.proofs.Laws.{not_done}
use Rattle.machine.specs.Channel.{flat}
use Rattle.layout.specs.Promise.{gives}
use Rattle.memory.proofs.Lists.{Ready}
use Rattle.device_lists.specs.declared.Pair.{Pair}
use Rattle.device_lists.specs.Lists.{listed, blank, valued, Found}
use Rattle.device_lists.proofs.Refused.{seated_ready}
use Rattle.device_lists.proofs.Lists.{get_from, get_begins, get_done, get_next, get_kept, get_last, put_back}
use Rattle.device_lists.proofs.get_list.Goals as goal

pub loop-pair-init : goal.loop-pair-init
loop-pair-init c =
    let a = c.args in
    let e : Found a.mem.now a.channel (length a.pairs.now) c.begin.new.mem = c.in_ok-begin.ensures in
    let ready : Ready a.mem.now a.channel = seated_ready a.mem.now e.good a.channel e.seat e.seated in
    record {
      few = e.few;
      same = e.stays;
      ready = rw e.stays ready;
      right =
          ap (λ (m : List ℕ). get_from a.channel m 0 a.pairs.now) e.stays
          ∙ get_begins a.channel a.mem.now ready a.pairs.now e.few;
    }

pub returns-in_err-pair : goal.returns-in_err-pair
returns-in_err-pair c =
    let l = c.loop-pair in
    let v = l.invariant in
    let small : l.pair-index < length l.pairs = omega arith in
    let p = err_from_is_err_and c.from_residual-in_err-pair.result c.from_residual-in_err-pair.ensures.1 in
    rw (p.1, p.2)
    (ap (λ (ps : List Pair). gives (number_of c.in_err-pair.field-0.0) 0 (flat (listed ps)) c.get_one.new.mem) (put_back l.pair-index l.pairs small)
    ∙ get_last c.args.channel l.mem v.ready l.pair-index l.pairs v.few small _ 0 c.get_one.new.mem c.in_err-pair.ensures (not_done c.in_err-pair.field-0.0) ∙ v.right)

pub loop-pair-preserved : goal.loop-pair-preserved
loop-pair-preserved c =
    let l = c.loop-pair in
    let v = l.invariant in
    let got : ℕ = c.in_ok-pair.field-0 in
    let small : l.pair-index < length l.pairs = omega arith in
    let w : Pair = valued (get_or l.pairs l.pair-index blank) got in
    let long : length (set l.pairs l.pair-index w) ≡ length l.pairs = length-set l.pairs l.pair-index w in
    let kept : c.get_one.new.mem ≡ l.mem = get_kept c.args.channel l.mem v.ready l.pair-index l.pairs 0 got c.get_one.new.mem c.in_ok-pair.ensures refl in
    record {
      few = rw long v.few;
      same = kept ∙ v.same;
      ready = rw kept v.ready;
      right =
          ap (λ (m : List ℕ). get_from c.args.channel m (l.pair-index + 1) (set l.pairs l.pair-index w)) kept
          ∙ ap (λ (j : ℕ). get_from c.args.channel l.mem j (set l.pairs l.pair-index w)) (add-one l.pair-index)
          ∙ get_next c.args.channel l.mem v.ready l.pair-index l.pairs v.few small 0 got c.get_one.new.mem c.in_ok-pair.ensures refl ∙ v.right;
    }

pub returns : goal.returns
returns c =
    let l = c.loop-pair in
    let v = l.invariant in
    let e : length l.pairs ≡ l.pair-index = omega arith in
    get_done c.args.channel l.mem v.ready l.pairs ∙ ap (λ (j : ℕ). get_from c.args.channel l.mem j l.pairs) e ∙ v.right
