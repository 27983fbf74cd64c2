-- What a reader's answer says of the telegram that was read: it is the one that was taken, or none was. Assumes nothing.
use mathlib.Core.Path.{◌≡◌, refl, sym, ap, ◌∙◌}
use Prim.Native.Nat.{ℕ}
use mathlib.Core.Option.{Option, none, some, map}
use mathlib.Core.List.{List}
use lib.ListN.{take}
use Rattle.std.specs.Prelude.{Ok, Err}
use Rattle.codes.specs.declared.Refusal.{Refusal}
use Rattle.telegram.specs.Telegram.{Opening, Telegram, AnyTelegram, opening, channel}
use Rattle.telegram_types.specs.declared.Answer.{Answer}
use Rattle.telegram_types.specs.declared.Telegram.{Telegram as Taken}
use Rattle.telegram_types.specs.Face.{Told, told, answering, said}

-- the telegram of one sort, where it is of that sort
abbrev pub opening_in : Option AnyTelegram → Option Opening
opening_in none = none
opening_in (some (opening id o)) = some o
opening_in (some (channel t)) = none

abbrev pub channel_in : Option AnyTelegram → Option Telegram
channel_in none = none
channel_in (some (opening id o)) = none
channel_in (some (channel t)) = some t

opening_in_law : (id : ℕ) (x : Option Opening) → opening_in (map (opening id) x) ≡ x
opening_in_law id none = refl
opening_in_law id (some o) = refl

channel_in_law : (x : Option Telegram) → channel_in (map channel x) ≡ x
channel_in_law none = refl
channel_in_law (some t) = refl

answered : (x : Option AnyTelegram) → (answering x).telegram ≡ x
unfolding answering
answered none = refl
answered (some t) = refl

-- the bytes that an answer carries
abbrev pub carries : Answer → List ℕ
carries a = take a.len a.payload

-- what was taken is what was read, and where none was taken none was read
taken_is : (a : Answer) (x : Option AnyTelegram) → told (Ok a) ≡ answering x → x ≡ some (said a.telegram (carries a))
unfolding told
taken_is a x e = sym (answered x) ∙ sym (ap (λ (t : Told). t.telegram) e)

untaken_is : (refusal : Refusal) (x : Option AnyTelegram) → told (Err refusal) ≡ answering x → x ≡ none
unfolding told
untaken_is refusal x e = sym (answered x) ∙ sym (ap (λ (t : Told). t.telegram) e)

pub opening_read : (a : Answer) (id : ℕ) (x : Option Opening) → told (Ok a) ≡ answering (map (opening id) x) → (t : Taken) → a.telegram ≡ t → x ≡ opening_in (some (said t (carries a)))
opening_read a id x e t k = sym (opening_in_law id x) ∙ ap opening_in (taken_is a (map (opening id) x) e ∙ ap (λ (u : Taken). some (said u (carries a))) k)

pub opening_unread : (refusal : Refusal) (id : ℕ) (x : Option Opening) → told (Err refusal) ≡ answering (map (opening id) x) → x ≡ none
opening_unread refusal id x e = sym (opening_in_law id x) ∙ ap opening_in (untaken_is refusal (map (opening id) x) e)

pub channel_read : (a : Answer) (x : Option Telegram) → told (Ok a) ≡ answering (map channel x) → (t : Taken) → a.telegram ≡ t → x ≡ channel_in (some (said t (carries a)))
channel_read a x e t k = sym (channel_in_law x) ∙ ap channel_in (taken_is a (map channel x) e ∙ ap (λ (u : Taken). some (said u (carries a))) k)

pub channel_unread : (refusal : Refusal) (x : Option Telegram) → told (Err refusal) ≡ answering (map channel x) → x ≡ none
channel_unread refusal x e = sym (channel_in_law x) ∙ ap channel_in (untaken_is refusal (map channel x) e)
