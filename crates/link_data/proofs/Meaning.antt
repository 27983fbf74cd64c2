-- What data makes of what is received is what they make of the connection. Assumes nothing.
use Rattle.std.specs.Prelude.{if◌then◌else◌}
use mathlib.Core.Path.{◌≡◌, refl}
use Prim.Native.Nat.{ℕ, ◌+◌}
use mathlib.Core.Bool.{Bool, true, false, not}
use mathlib.Core.Option.{Option, none, some}
use mathlib.Core.List.{List}
use lib.ListN.{length}
use lib.Dec.{eqb, ltb}
use Rattle.link.specs.Connection.{longest, Asked, Hear, Link, with_hear, Connection, standing, leave, heard_data, answering, data_heard}
use Rattle.link_data.specs.Hearing.{hearing}

module _ (a : Asked) (tx : ℕ) (l : Link) where
  -- the connection with what is received as it then is, or its end
  abbrev pub turned : Option Hear → Connection
  turned none = leave tx l
  turned (some h) = standing a tx (with_hear l h)

  ways : (b1 b2 b3 b4 : Bool) (x1 x2 x3 : Hear)
      → (if b1 then standing a tx (if b4 then with_hear l x1 else l) else if b2 then standing a tx (with_hear l x2) else if b3 then leave tx l else standing a tx (with_hear l x3))
      ≡ turned (if b1 then some (if b4 then x1 else l.hear) else if b2 then some x2 else if b3 then none else some x3)
  unfolding with_hear
  ways true b2 b3 true x1 x2 x3 = refl
  ways true b2 b3 false x1 x2 x3 = refl
  ways false true b3 b4 x1 x2 x3 = refl
  ways false false true b4 x1 x2 x3 = refl
  ways false false false b4 x1 x2 x3 = refl

  pub means : (asking last : Bool) (sn : ℕ) (b : List ℕ) → data_heard a tx l asking last sn b ≡ turned (hearing asking last sn b l.hear)
  unfolding data_heard hearing
  means asking last sn b =
      ways l.hear.complete (not (eqb sn l.hear.expected)) (ltb longest (length l.hear.bytes + length b)) asking
      (answering l.hear false) (answering l.hear true) (heard_data l.hear asking last b)
