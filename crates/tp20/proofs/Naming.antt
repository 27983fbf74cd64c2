-- A naming says its code, and 0x0A and zeros where there is no telegram. Assumes nothing.
use mathlib.Core.Path.{◌≡◌}
use mathlib.Core.Option.{Option, none, some}
use Rattle.std.specs.Prelude.{Result}
use Rattle.codes.specs.declared.Refusal.{Refusal}
use Rattle.telegram.specs.Telegram.{AnyTelegram}
use Rattle.telegram_types.specs.declared.Named.{Named}
use Rattle.telegram_types.specs.Face.{naming}
use Rattle.tp20.specs.Naming.{line, line_of}

pub named_line : (x : Option AnyTelegram) (r : Result Named Refusal) → r ≡ naming x → line r ≡ line_of x
unfolding naming line line_of
named_line none r e = rw e
named_line (some t) r e = rw e
