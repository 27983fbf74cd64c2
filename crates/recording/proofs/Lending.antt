-- What an event that was read lends is bytes, where its recording is. Assumes nothing.
use Rattle.std.specs.Prelude.{if◌then◌else◌}
use Prim.Native.Nat.{ℕ, zero, suc, ◌+◌}
use mathlib.Core.Bool.{Bool, true, false}
use mathlib.Core.List.{List, [], ◌∷◌}
use mathlib.Core.Option.{Option, none, some}
use mathlib.Core.Path.{◌≡◌, ap, subst}
use native.Mathlib.Omega.{arith}
use lib.Dec.{T, leb}
use lib.ListN.{length, get_or, take, drop}
use Rattle.codec.specs.Plain.{all, is_byte}
use Rattle.codec.proofs.Lists.{Each, all_take, all_drop}
use Rattle.machine.specs.Cases.{◌&◌}
use Rattle.machine.specs.Channel.{start_filter, start_flow}
use Rattle.machine.specs.Step.{Event, call, close}
use Rattle.layout.specs.Reach.{Bytes}
use Rattle.recording_sizes.specs.Sizes.{on_iso, record_on}
use Rattle.events.specs.Events.{Reads, ◌>>=◌, done, bad, number, bytes, record_in, start_in, arguments, arguments_of, read_event}
use Rattle.events.proofs.Reading.{same, split}

-- what is read of a recording of bytes lends bytes
record Lends (p : Reads Event) : Type 0 where
  lends : (s : List ℕ) (at : ℕ) (e : Event) (next : ℕ) → T (all is_byte s) → p s at ≡ some (e, next) → Bytes e

given : (e : Event) → Bytes e → Lends (done e)
unfolding done
given e b = record { lends = λ s at x next t r. subst Bytes (ap (λ p. p.0) (same r)) b }

never : Lends bad
unfolding bad
never = record { lends = λ s at x next t r. let z : ◌≡◌ {A = ℕ} 0 1 = cc in absurd (omega arith) }

-- a part that plays no part
pass : {A : Type 0} (p : Reads A) (q : A → Reads Event) → ((a : A) → Lends (q a)) → Lends (p >>= q)
pass p q h = record { lends = λ s at e next t r. let w = split p q s at e next r in (h w.what).lends s w.place e next t w.rest }

-- raw bytes
raw : (size : ℕ) (s : List ℕ) (at : ℕ) (b : List ℕ) (next : ℕ) → T (all is_byte s) → bytes size s at ≡ some (b, next) → T (all is_byte b)
unfolding bytes
raw size s at b next t = go (leb (at + size) (length s))
  where
    go : (c : Bool) → if◌then◌else◌ {A = Option (List ℕ × ℕ)} c (some (take size (drop at s), at + size)) none ≡ some (b, next) → T (all is_byte b)
    go true r = subst (λ (x : List ℕ). T (all is_byte x)) (ap (λ p. p.0) (same r)) (all_take is_byte size (drop at s) (all_drop is_byte at s t))
    go false r = let z : ◌≡◌ {A = ℕ} 0 1 = cc in absurd (omega arith)

lent : (size : ℕ) (q : List ℕ → Reads Event) → ((b : List ℕ) → T (all is_byte b) → Lends (q b)) → Lends (bytes size >>= q)
lent size q h = record {
  lends = λ s at e next t r.
      let w = split (bytes size) q s at e next r in
      (h w.what (raw size s at w.what w.place t w.first)).lends s w.place e next t w.rest;
}

lent_record : (channel : ℕ) (q : List ℕ → Reads Event) → ((b : List ℕ) → T (all is_byte b) → Lends (q b)) → Lends (record_in channel >>= q)
unfolding record_in
lent_record channel q h = lent (record_on channel) q h

-- a start of a filter, with the record of the flow or without
started : (channel type : ℕ) (mask pattern : List ℕ) → T (all is_byte mask) → T (all is_byte pattern) → Lends (start_in channel type mask pattern)
unfolding start_in
started channel type mask pattern t u = go (on_iso channel)
  where
    go : (b : Bool) → Lends (if b then (record_in channel >>= λ flow. done (call channel (start_flow type mask pattern flow))) else done (call channel (start_filter type mask pattern)))
    go true = lent_record channel _ (λ flow v. given _ (t, (u, v)))
    go false = given _ (t, u)

all_lend : Each Lends arguments
unfolding arguments
all_lend =
    never
    & pass _ _ (λ l. pass _ _ (λ p. pass _ _ (λ f. pass _ _ (λ r. given _ tt))))
    & pass _ _ (λ c. given _ tt)
    & given close tt
    & pass _ _ (λ t. given _ tt)
    & pass _ _ (λ l. pass _ _ (λ w. pass _ _ (λ i. pass _ _ (λ n. lent n _ (λ b t. given _ t)))))
    & pass _ _ (λ c. pass _ _ (λ k. lent_record c _ (λ m t. lent_record c _ (λ p u. started c k m p t u))))
    & pass _ _ (λ c. pass _ _ (λ n. given _ tt))
    & pass _ _ (λ c. lent_record c _ (λ m t. pass _ _ (λ i. given _ t)))
    & pass _ _ (λ c. pass _ _ (λ n. given _ tt))
    & pass _ _ (λ c. pass _ _ (λ n. lent _ _ (λ b t. given _ t)))
    & pass _ _ (λ c. pass _ _ (λ n. given _ tt))
    & pass _ _ (λ c. given _ tt)
    & pass _ _ (λ c. given _ tt)
    & pass _ _ (λ c. pass _ _ (λ k. given _ tt))
    & pass _ _ (λ c. pass _ _ (λ p. given _ tt))
    & pass _ _ (λ c. pass _ _ (λ p. pass _ _ (λ v. given _ tt)))
    & tt

each_at : (ps : List (Reads Event)) → Each Lends ps → (k : ℕ) → Lends (get_or ps k bad)
each_at [] h k = never
each_at (p ∷ ps) h zero = h.0
each_at (p ∷ ps) h (suc k) = each_at ps h.1 k

pub event_bytes : (s : List ℕ) (at : ℕ) (e : Event) (next : ℕ) → T (all is_byte s) → read_event s at ≡ some (e, next) → Bytes e
unfolding read_event arguments_of
event_bytes s at e next t r = (pass number arguments_of (λ k. each_at arguments all_lend k)).lends s at e next t r
