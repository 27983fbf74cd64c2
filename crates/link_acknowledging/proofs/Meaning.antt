-- What an acknowledge makes of what is sent is what it makes of the connection. Assumes nothing.
use Rattle.std.specs.Prelude.{if◌then◌else◌}
use mathlib.Core.Path.{◌≡◌, refl, sym, ap, ap₂, ◌∙◌}
use Prim.Native.Nat.{ℕ, ◌+◌}
use mathlib.Core.Bool.{Bool, true, false, not}
use mathlib.Core.Option.{Option, none, some}
use lib.Dec.{eqb, leb, ltb}
use Rattle.link.specs.Connection.{mntb, Asked, Out, idle, sends, asks, Talk, Link, with_talk, Connection, standing, leave, acknowledged}
use Rattle.link_acknowledging.specs.Acknowledging.{rest_of, restarted, next_of, waiting, accepted, repeated, points_at, acknowledged_in}

-- a choice of four
ways : {A B : Type 0} (f : A → B) (b1 b2 b3 : Bool) (x1 x2 x3 x4 : A)
    → f (if b1 then x1 else if b2 then x2 else if b3 then x3 else x4) ≡ (if b1 then f x1 else if b2 then f x2 else if b3 then f x3 else f x4)
ways f true b2 b3 x1 x2 x3 x4 = refl
ways f false true b3 x1 x2 x3 x4 = refl
ways f false false true x1 x2 x3 x4 = refl
ways f false false false x1 x2 x3 x4 = refl

module _ (a : Asked) (tx : ℕ) (l : Link) where
  -- the connection with what is sent as it then is, or its end
  abbrev pub turned : Option Talk → Connection
  turned none = leave tx l
  turned (some t) = standing a tx (with_talk l t)

  same : standing a tx l ≡ turned (some l.talk)
  unfolding with_talk
  same = refl

  pub means : (ready : Bool) (sn : ℕ) (o : Out) → l.talk.out ≡ o → acknowledged a tx l o ready sn ≡ turned (acknowledged_in ready sn l.talk o)
  unfolding acknowledged acknowledged_in with_talk points_at accepted repeated waiting next_of restarted rest_of
  means ready sn idle e = same
  means ready sn (sends b) e = same
  means ready sn (asks b us) e =
      let at : ℕ = points_at sn l.talk in
      ap₂ (λ (x y : Out).
      if eqb at b.taken then standing a tx (with_talk l (record { hold = (waiting ready l.talk).hold; sn = sn; out = x }))
      else if not (ltb at b.taken) then standing a tx l
      else if leb mntb b.again then leave tx l
      else standing a tx (with_talk l (record { hold = (waiting ready l.talk).hold; sn = l.talk.sn; out = y })))
      (sym (ap next_of e)) (sym (ap (restarted at (b.again + 1)) e))
      ∙ sym (ways turned (eqb at b.taken) (not (ltb at b.taken)) (leb mntb b.again) (some (accepted ready sn l.talk)) (some l.talk) none (some (repeated ready at (b.again + 1) l.talk)))
