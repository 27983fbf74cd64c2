-- Laws on what the reader leaves: the record of a telegram over the start of a buffer. Assumes nothing.
use Prim.Native.Nat.{ℕ, ◌≤◌}
use mathlib.Core.Path.{◌≡◌, ap, ◌∙◌}
use mathlib.Core.Option.{Option, none, some}
use mathlib.Core.List.{List, ◌++◌}
use native.Mathlib.Omega.{arith}
use lib.ListN.{length, drop, length-append, length-replicate}
use borrow.Author.Tests.{le-ltb}
use Rattle.std.specs.Prelude.{Result, Ok, Err}
use Rattle.codes.specs.declared.Refusal.{Refusal}
use Rattle.codes.specs.Code.{number_of, code_of}
use Rattle.codes.proofs.Laws.{not_done}
use Rattle.telegram.specs.Telegram.{AnyTelegram}
use Rattle.telegram_types.specs.declared.Named.{Named}
use Rattle.telegram_types.specs.Face.{naming, padded, carried_by, over, refusal}
use Rattle.telegram_record.specs.Record.{packed, record_of}
use Rattle.telegram_record.specs.Crossing.{gave, recorded, reading}

-- what an answer gives
abbrev ok_or : Named → Result Named Refusal → Named
ok_or m (Ok n) = n
ok_or m (Err refusal) = m

-- no more than seven bytes are carried
pub few : (x : Option AnyTelegram) (m : Named) → Ok m ≡ naming x → length m.payload ≡ 7 → m.len ≤ 7
unfolding naming padded
few none m e h = let z : ◌≡◌ {A = ℕ} 0x00 0x0A = ap code_of e in absurd (omega arith)
few (some t) m e h =
    let l : m.len ≡ length (carried_by t) = ap (λ (k : Named). k.len) (ap (ok_or m) e) in
    let p = ap (λ (k : Named). length k.payload) (ap (ok_or m) e) in
    omega (arith, simp (length-append, length-replicate) at p)

-- no telegram: the code, and the buffer as it was
pub unread : (x : Option AnyTelegram) (r : Refusal) (buffer : List ℕ) → Err r ≡ naming x → 32 ≤ length buffer
    → gave (number_of r) 0 buffer ≡ reading x buffer
unfolding naming reading recorded refusal
unread none refused buffer e room = rw (le-ltb (length buffer) 32 room, ap code_of e)
unread (some t) refused buffer e room = absurd (not_done refused (ap code_of e))

-- a telegram: its record over the buffer's start
pub crossed : (x : Option AnyTelegram) (m : Named) (buffer r : List ℕ) → Ok m ≡ naming x → 32 ≤ length buffer → length r ≡ 32
    → r ≡ packed m.kind m.fields m.len m.payload
    → gave 0 0 (r ++ drop 32 buffer) ≡ reading x buffer
unfolding naming reading recorded record_of over
crossed none m buffer r e room long p = let z : ◌≡◌ {A = ℕ} 0x00 0x0A = ap code_of e in absurd (omega arith)
crossed (some t) m buffer r e room long p =
    let q : r ≡ record_of t = p ∙ ap (λ (k : Named). packed k.kind k.fields k.len k.payload) (ap (ok_or m) e) in
    rw (le-ltb (length buffer) 32 room, ← q, long)
