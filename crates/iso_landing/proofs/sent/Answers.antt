-- `iso_landing::sent` meets its contract: read, landed, told. Assumes nothing.
use mathlib.Core.Path.{◌≡◌}
use Prim.Native.Nat.{◌^◌, ◌<◌}
use lib.ListN.{length}
use Rattle.iso.specs.Limits.{most_payload}
use Rattle.talk_message.specs.Sent.{messages}
use Rattle.iso_landing.proofs.Landing.{nothing_sent, opened_then, holds, all_sent}
use borrow.Author.Rules.{rules}
use Rattle.iso_landing.proofs.sent.Goals as goal

pub returns-then-r-eq0 : goal.returns-then-r-eq0
returns-then-r-eq0 c =
    λ rates. nothing_sent c.args.r.now c.requires rates c.args.clock c.if-r-eq0.true

pub done-requires : goal.done-requires
done-requires c =
    let r = c.args.r.now in
    let flies = c.if-r-eq0.false in
    let found = c.message-m in
    let landed = c.land in
    let ms = messages found.result found.new.buffer in
    let small : c.args.clock < 2 ^ 32 = search rules in
    let long : length found.new.buffer ≡ most_payload = search rules in (
      opened_then r c.requires flies c.args.clock small landed.new.r landed.ensures ms found.ensures.0,
      long,
      found.ensures.1,
      holds r c.requires flies c.args.clock small landed.new.r landed.ensures ms found.ensures.0,
    )

pub returns : goal.returns
returns c =
    let r = c.args.r.now in
    let flies = c.if-r-eq0.false in
    let found = c.message-m in
    let landed = c.land in
    let ms = messages found.result found.new.buffer in
    let small : c.args.clock < 2 ^ 32 = search rules in
    λ rates. all_sent r c.requires flies c.args.clock small landed.new.r landed.ensures ms found.ensures.0 rates c.done.new.r c.done.ensures
