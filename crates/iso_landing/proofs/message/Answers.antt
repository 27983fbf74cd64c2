-- `iso_landing::message` meets its contract: nothing, a single frame's, a conversation's. Assumes nothing.
use mathlib.Core.Path.{◌≡◌, refl}
use Prim.Native.Nat.{ℕ, ◌+◌, ◌-◌, ◌*◌}
use native.Mathlib.Omega.{arith}
use lib.ListN.{get_or}
use Rattle.iso_layout.specs.Sizes.{talk_size, talks_at}
use Rattle.talk_message.specs.Sent.{messages}
use Rattle.iso_landing.proofs.Landing.{owner_small, no_message, single, single_of, place_long, place_payload, message_of, lent_size}
use Rattle.iso_landing.proofs.message.Goals as goal

pub overflow_cast-owner : goal.overflow_cast-owner
overflow_cast-owner c = omega (arith, owner_small c.args.r.now c.requires.0 c.requires.1)

pub returns-then-owner-lt1 : goal.returns-then-owner-lt1
unfolding messages
returns-then-owner-lt1 c = (no_message c.args.r.now c.requires.0 c.requires.1 c.if-owner-lt1.true, omega arith)

pub single_in-requires : goal.single_in-requires
single_in-requires c =
    let below = c.if-owner-lt2.true in
    let above = c.if-owner-lt1.false in
    let one : get_or c.args.r.now 3236 0 ≡ 1 = omega (arith, below, above) in
    (single c.args.r.now c.requires.0 c.requires.1 one, c.requires.2)

pub returns-then-owner-lt2 : goal.returns-then-owner-lt2
returns-then-owner-lt2 c =
    let below = c.if-owner-lt2.true in
    let above = c.if-owner-lt1.false in
    let one : get_or c.args.r.now 3236 0 ≡ 1 = omega (arith, below, above) in
    let found = c.single_in in
    (single_of c.args.r.now c.requires.0 c.requires.1 one (messages found.result found.new.buffer) found.ensures.0, found.ensures.1)

pub overflow_mul-at : goal.overflow_mul-at
overflow_mul-at c = omega (arith, owner_small c.args.r.now c.requires.0 c.requires.1)

pub overflow_add-at : goal.overflow_add-at
overflow_add-at c = omega (arith, owner_small c.args.r.now c.requires.0 c.requires.1)

pub overflow_add-end : goal.overflow_add-end
overflow_add-end c = omega (arith, owner_small c.args.r.now c.requires.0 c.requires.1)

pub slice_bounds-message_in-end : goal.slice_bounds-message_in-end
slice_bounds-message_in-end c = omega (arith, owner_small c.args.r.now c.requires.0 c.requires.1, c.requires.0.long)

pub message_in-requires : goal.message_in-requires
message_in-requires c =
    let r = c.args.r.now in
    let k : ℕ = get_or r 3236 0 in
    let h = c.if-owner-lt2.false in
    let size = lent_size (talks_at + (k - 2) * talk_size) in
    (place_long r c.requires.0 c.requires.1 k refl h _ size, place_payload r c.requires.0 c.requires.1 k refl h _ size, c.requires.2)

pub returns : goal.returns
returns c =
    let r = c.args.r.now in
    let k : ℕ = get_or r 3236 0 in
    let h = c.if-owner-lt2.false in
    let found = c.message_in in
    (message_of r c.requires.0 c.requires.1 k refl h _ (lent_size (talks_at + (k - 2) * talk_size)) (messages found.result found.new.buffer) found.ensures.0, found.ensures.1)
