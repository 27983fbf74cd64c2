-- `can::is_raw_flags` meets its contract: the list of flags, test by test. Assumes nothing.
use mathlib.Core.Bool.{or-false}
use Rattle.machine.specs.Channel.{is_raw_flags}
use Rattle.codec.specs.Plain.{member}
use lib.Dec.{eqb}
use mathlib.Core.Bool.{Bool, ◌||◌}
use mathlib.Core.Path.{sym, ap}
use Rattle.can.proofs.is_raw_flags.Goals as goal

pub returns : goal.returns
unfolding is_raw_flags member
returns c =
    let f = c.args.flags in
    ap
    (λ (b : Bool).
    eqb f 0 || (eqb f 0x100 || (eqb f 0x800 || (eqb f 0x900 || (eqb f 0x1000_0000 || (eqb f 0x1000_0100 || (eqb f 0x1000_0800 || b)))))))
    (sym (or-false (eqb f 0x1000_0900)))
