-- ANY TWO OUTCOMES ARE EQUAL: what the entries return and leave, as values of their own types. Assumes nothing.
use Prim.Native.Nat.{ℕ}
use mathlib.Core.Path.{◌≡◌, refl, ap}
use mathlib.Core.Bool.{Bool}
use mathlib.Core.Option.{Option, none, some}
use mathlib.Core.List.{List}
use lib.ListN.{take}
use Rattle.codec.specs.Settled.{Settled}
use Rattle.codec.proofs.Settled.{settled}
use Rattle.std.specs.Prelude.{Result, Ok, Err}
use Rattle.codes.specs.declared.Refusal.{Refusal}
use Rattle.codes.proofs.Numbers.{refusal_of, refusal_of_number, answer_of as written_of, answer_of_codes}
use Rattle.telegram.specs.Telegram.{AnyTelegram, read_any}
use Rattle.telegram.specs.Telegram as T
use Rattle.telegram_types.specs.declared.Opening.{Opening}
use Rattle.telegram_types.specs.declared.Opening.TheVariants.{SetUp, Positive, Negative}
use Rattle.telegram_types.specs.declared.OnChannel.{OnChannel}
use Rattle.telegram_types.specs.declared.OnChannel.TheVariants.{Data, Acknowledge, Connection, Test, Break, Disconnect}
use Rattle.telegram_types.specs.declared.Telegram.{Telegram}
use Rattle.telegram_types.specs.declared.Telegram.TheVariants.{Opening as opens, Channel as travels}
use Rattle.telegram_types.specs.declared.Answer.{Answer}
use Rattle.telegram_types.specs.declared.Named.{Named}
use Rattle.telegram_types.specs.Face.{Told, told, said, opening_said, channel_said, answering, Wrote, wrote, writing, naming}

-- ---- what an outcome says, it is made of

-- the case of the enum that says a telegram
opening_case : T.Opening → Opening
opening_case (T.set_up d rx app) = SetUp d rx app
opening_case (T.positive d tx rx app) = Positive d tx rx app
opening_case (T.negative d kind rest) = Negative d kind

channel_case : T.Telegram → OnChannel
channel_case (T.data_telegram asks last sn bytes) = Data asks last sn
channel_case (T.acknowledge ready sn) = Acknowledge ready sn
channel_case (T.connection ack bs t1 t2 t3 t4) = Connection ack bs t1 t2 t3 t4
channel_case T.test = Test
channel_case T.break_off = Break
channel_case T.disconnection = Disconnect

case_of : AnyTelegram → Telegram
case_of (T.opening id o) = opens id (opening_case o)
case_of (T.channel t) = travels (channel_case t)

case_of_said : (t : Telegram) (bytes : List ℕ) → case_of (said t bytes) ≡ t
unfolding case_of said opening_said channel_said opening_case channel_case
case_of_said (opens id (SetUp d rx app)) bytes = refl
case_of_said (opens id (Positive d tx rx app)) bytes = refl
case_of_said (opens id (Negative d kind)) bytes = refl
case_of_said (travels (Data asks last sn)) bytes = refl
case_of_said (travels (Acknowledge ready sn)) bytes = refl
case_of_said (travels (Connection ack bs t1 t2 t3 t4)) bytes = refl
case_of_said (travels Test) bytes = refl
case_of_said (travels Break) bytes = refl
case_of_said (travels Disconnect) bytes = refl

taken_case : Option AnyTelegram → Told → Result Answer Refusal
taken_case none t = Err (refusal_of t.code)
taken_case (some u) t = Ok (record { telegram = case_of u; payload = t.payload; len = t.len })

answer_of : Told → Result Answer Refusal
answer_of t = taken_case t.telegram t

answer_of_told : (r : Result Answer Refusal) → answer_of (told r) ≡ r
unfolding told answer_of taken_case
answer_of_told (Ok a) =
    ap (λ t. Ok (record { telegram = t; payload = a.payload; len = a.len })) (case_of_said a.telegram (take a.len a.payload))
answer_of_told (Err refusal) = ap (λ x. Err x) (refusal_of_number refusal)

-- ---- the entries

-- `read`: the answer
pub read_settled : (opening : Bool) (identifier : ℕ) (bytes : List ℕ) → Settled (λ (r : Result Answer Refusal). told r ≡ answering (read_any opening identifier bytes))
read_settled opening identifier bytes = settled told answer_of answer_of_told _

-- `write`: the answer, and the buffer at exit
pub write_settled : (telegram : Telegram) (bytes buffer : List ℕ) → Settled (λ (r : Result ℕ Refusal × List ℕ). wrote r.0 r.1 ≡ writing (said telegram bytes) buffer)
unfolding wrote
write_settled telegram bytes buffer =
    settled (λ (r : Result ℕ Refusal × List ℕ). wrote r.0 r.1) (λ (w : Wrote). (written_of w.code w.len, w.buffer)) (λ r. ap (λ x. (x, r.1)) (answer_of_codes r.0)) _

-- `name`: the numbers
pub name_settled : (opening : Bool) (identifier : ℕ) (bytes : List ℕ) → Settled (λ (r : Result Named Refusal). r ≡ naming (read_any opening identifier bytes))
name_settled opening identifier bytes = settled (λ (r : Result Named Refusal). r) (λ r. r) (λ r. refl) _
