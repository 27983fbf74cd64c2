-- Laws on what the reader's answer says. Assumes nothing.
use Prim.Native.Nat.{ℕ, zero, suc, ◌-◌}
use mathlib.Core.Path.{◌≡◌, refl, sym, ap, ◌∙◌}
use mathlib.Core.List.{List, [], ◌++◌}
use mathlib.Core.Option.{Option, none, some, map, some-injective, some-ne-none}
use native.Mathlib.Omega.{arith}
use lib.ListN.{length, take, drop, replicate}
use lib.Seq.{take-append_seam}
use Rattle.telegram.specs.Telegram.{AnyTelegram}
use Rattle.telegram_types.specs.declared.Opening.TheVariants.{SetUp, Positive, Negative}
use Rattle.telegram_types.specs.declared.OnChannel.TheVariants.{Data, Acknowledge, Connection, Test, Break, Disconnect}
use Rattle.telegram_types.specs.declared.Telegram.{Telegram}
use Rattle.telegram_types.specs.declared.Telegram.TheVariants.{Opening as opens, Channel as travels}
use Rattle.std.specs.Prelude.{Result, Ok, Err}
use Rattle.codes.specs.declared.Refusal.{Refusal}
use Rattle.telegram_types.specs.declared.Answer.{Answer}
use Rattle.telegram_types.specs.declared.Numbers.{Numbers}
use Rattle.telegram_types.specs.declared.Named.{Named}
use Rattle.telegram_types.specs.Face.{told, numbers_of, naming, Told, answering, padded, over, said, opening_said, channel_said, carried_by}

-- with no bytes beside it a telegram carries none
pub carries_none : (t : Telegram) → carried_by (said t []) ≡ []
unfolding carried_by said opening_said channel_said
carries_none (opens id (SetUp d rx app)) = refl
carries_none (opens id (Positive d tx rx app)) = refl
carries_none (opens id (Negative d kind)) = refl
carries_none (travels (Data asks last sn)) = refl
carries_none (travels (Acknowledge ready sn)) = refl
carries_none (travels (Connection ack bs t1 t2 t3 t4)) = refl
carries_none (travels Test) = refl
carries_none (travels Break) = refl
carries_none (travels Disconnect) = refl

-- what was padded is still there
pub unpadded : (bytes : List ℕ) → take (length bytes) (padded bytes) ≡ bytes
unfolding padded
unpadded bytes = take-append_seam bytes _

-- an answer that carries bytes
pub carrying : (say : List ℕ → AnyTelegram) → ((l : List ℕ) → carried_by (say l) ≡ l) → (bytes payload : List ℕ) (len : ℕ)
    → payload ≡ padded bytes → len ≡ length bytes
    → ◌≡◌ {A = Told} (record { code = 0x00; telegram = some (say (take len payload)); payload = payload; len = len }) (answering (some (say bytes)))
unfolding answering
carrying say carries bytes payload len p l = rw (carries bytes, p, l, unpadded bytes)

-- bytes over seven zeros are padded
zeros_left : (k n : ℕ) → drop {A = ℕ} k (replicate n 0) ≡ replicate (n - k) 0
zeros_left zero n = let e : n ≡ n - 0 = omega arith in ap (λ (m : ℕ). replicate m 0) e
zeros_left (suc k) zero = let e : 0 ≡ 0 - suc k = omega arith in ap (λ (m : ℕ). replicate m 0) e
zeros_left (suc k) (suc n) = let e : n - k ≡ suc n - suc k = omega arith in zeros_left k n ∙ ap (λ (m : ℕ). replicate m 0) e

pub over_zeros : (bytes : List ℕ) → over bytes (replicate 7 0) ≡ padded bytes
unfolding over padded
over_zeros bytes = ap (bytes ++◌) (zeros_left (length bytes) 7)

-- the same answer to what is read the same
pub answers : {A : Type 0} (f : A → AnyTelegram) {o p : Option A} → p ≡ o → answering (map f o) ≡ answering (map f p)
answers f e = ap (λ o. answering (map f o)) (sym e)

-- what was taken is what was read
pub answered : (a : Answer) (x : Option AnyTelegram) → told (Ok a) ≡ answering x → some (said a.telegram (take a.len a.payload)) ≡ x
unfolding told answering
answered a none e = ap (λ (t : Told). t.telegram) e
answered a (some t) e = ap (λ (t : Told). t.telegram) e

pub unanswered : (refusal : Refusal) (x : Option AnyTelegram) → told (Err refusal) ≡ answering x → none ≡ x
unfolding told answering
unanswered refusal none e = refl
unanswered refusal (some t) e = ap (λ (u : Told). u.telegram) e

-- and the numbers of what was taken are those of what was read
pub named : (a : Answer) (x : Option AnyTelegram) (n : Numbers) → told (Ok a) ≡ answering x → ((bytes : List ℕ) → n ≡ numbers_of (said a.telegram bytes))
    → ◌≡◌ {A = Result Named Refusal} (Ok (record { kind = n.kind; fields = n.fields; payload = a.payload; len = a.len })) (naming x)
unfolding told answering naming
named a none n e h =
    absurd (some-ne-none _ (answered a none e))
named a (some u) n e h =
    let bytes = take a.len a.payload in
    let q : said a.telegram bytes ≡ u = some-injective _ _ (answered a (some u) e) in
    let p = ap (λ (x : Told). x.payload) e in
    let l = ap (λ (x : Told). x.len) e in
    rw (h bytes, q, p, l)
