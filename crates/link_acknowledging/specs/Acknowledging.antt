-- What an acknowledge and a break make of what is sent, by itself. That the judge's `acknowledged` and `broken` are these is proved in proofs/Meaning.
-- Assumes nothing.
use Rattle.std.specs.Prelude.{ℕ, ◌+◌, ◌-◌, ◌%◌, Bool, not, List, [], eqb, leb, ltb, if◌then◌else◌}
use Rattle.std.proofs.Math.Option.{Option, none, some}
use Rattle.link.specs.Connection.{t_wait, mntb, Block, new_block, telegrams, Out, idle, sends, asks, Talk, next_block}

-- the message's bytes, [] where there is none; a message's block begun anew at a telegram of it
unfoldable pub rest_of : Out → List ℕ
rest_of idle = []
rest_of (sends b) = b.rest
rest_of (asks b left) = b.rest

unfoldable pub restarted : ℕ → ℕ → Out → Out
restarted taken again o = sends (record { rest = rest_of o; taken = taken; repeats = 0; again = again })

-- the next block of a message whose block was asked for
unfoldable pub next_of : Out → Out
next_of idle = idle
next_of (sends b) = sends b
next_of (asks b left) = next_block b

-- not ready: T_Wait runs
unfoldable pub waiting : Bool → Talk → Talk
waiting ready t = record { hold = if ready then t.hold else t_wait; sn = t.sn; out = t.out }

-- the block's telegrams are all acknowledged, with the SN that comes next; or those from one of them on are asked for again
unfoldable pub accepted : Bool → ℕ → Talk → Talk
accepted ready sn t = record { hold = (waiting ready t).hold; sn = sn; out = next_of t.out }

unfoldable pub repeated : Bool → ℕ → ℕ → Talk → Talk
repeated ready at again t = record { hold = (waiting ready t).hold; sn = t.sn; out = restarted at again t.out }

-- where it points in the block; none where it ends the connection
unfoldable pub points_at : ℕ → Talk → ℕ
points_at sn t = (sn + 16 - t.sn) % 16

unfoldable pub acknowledged_in : Bool → ℕ → Talk → Out → Option Talk
acknowledged_in ready sn t idle = some t
acknowledged_in ready sn t (sends b) = some t
acknowledged_in ready sn t (asks b left) =
    if eqb (points_at sn t) b.taken then some (accepted ready sn t)
    else if not (ltb (points_at sn t) b.taken) then some t
    else if leb mntb b.again then none
    else some (repeated ready (points_at sn t) (b.again + 1) t)

-- one empty telegram in the place of the rest, where a telegram of the message is not yet taken
unfoldable pub cutting : Block → Option Out
cutting b = if ltb b.taken (telegrams b.rest) then some (sends (new_block [])) else none

unfoldable pub cut_of : Out → Option Out
cut_of idle = none
cut_of (sends b) = cutting b
cut_of (asks b left) = cutting b
