-- Saving, then loading; loading, then saving. Assumes nothing.
use Rattle.std.specs.Prelude.{if◌then◌else◌}
use Prim.Native.Nat.{ℕ}
use mathlib.Core.Path.{◌≡◌, refl, sym, ap, ◌∙◌, subst}
use mathlib.Core.Bool.{Bool, true, false, true≢false, not}
use mathlib.Core.List.{List, [], ◌∷◌, ◌++◌, map}
use mathlib.Core.Logic.{◌⊎◌, inl, inr}
use mathlib.Core.Option.{Option, none, some}
use native.Mathlib.Omega.{arith}
use borrow.Author.Tests.{eq-eqb, eqb-true}
use lib.Dec.{eqb, ltb}
use lib.ListN.{length, take, drop}
use lib.Seq.{take-append_seam}
use Rattle.number.specs.Laws.{Bytes}
use Rattle.machine.specs.Codes.{code_of}
use Rattle.machine.specs.Message.{Rec}
use Rattle.machine.specs.Filter.{Slots}
use Rattle.machine.specs.Store.{read_whole, Setup, store_bytes}
use Rattle.machine.specs.Channel.{Open, Periodic, opened, Outcome, says, done_with, unless, save_setup, load_setup, on_raw_call, on_open, on_call, saved_of, setup_of, store_in, on_save, starts_anew, loaded, loading, on_load}
use Rattle.setups.specs.Good.{GoodSetup}
use Rattle.setups.specs.Saved.{restarted, Loaded, SavedBack, Done, takes_store}
use Rattle.setups.proofs.Setups.{stored_whole, new_exact, old_flags}

-- ---- periodics

kept_anew : (ps : Slots (Rec × ℕ)) → map saved_of (map starts_anew ps) ≡ ps
unfolding saved_of starts_anew
kept_anew [] = refl
kept_anew (none ∷ ps) = ap {B = Slots (Rec × ℕ)} (λ r. none ∷ r) (kept_anew ps)
kept_anew (some p ∷ ps) = ap {B = Slots (Rec × ℕ)} (λ r. some p ∷ r) (kept_anew ps)

anew_kept : (ps : Slots Periodic) → map starts_anew (map saved_of ps) ≡ map restarted ps
unfolding saved_of starts_anew restarted
anew_kept [] = refl
anew_kept (none ∷ ps) = ap {B = Slots Periodic} (λ r. none ∷ r) (anew_kept ps)
anew_kept (some p ∷ ps) = ap {B = Slots Periodic} (λ r. some (record { message = p.message; interval = p.interval; phase = 0; pending = true }) ∷ r) (anew_kept ps)

-- what was loaded is what is saved
pub loaded_setup : (o : Open) (s : Setup) → s.flags ≡ o.config.flags → setup_of (loaded o s) ≡ s
unfolding setup_of loaded
loaded_setup o s e =
    λ i. record { flags = sym e i; filters = s.filters; periodics = kept_anew s.periodics i; rate = s.rate; loopback = s.loopback }

-- ---- a load

pub load_does : (o : Open) (s : Setup) → s.flags ≡ o.config.flags → loading o (some s) ≡ done_with (opened (loaded o s)) 0
unfolding loading code_of unless
load_does o s e = rw (eq-eqb s.flags o.config.flags e)

-- a load that was done
pub load_done : (rates : List ℕ) (o : Open) (bs : List ℕ) → (on_load rates o bs).1.code ≡ 0 → Done rates o bs
unfolding on_load loading code_of unless says
load_done rates o bs = go (read_whole (store_in rates) bs) refl
  where
    by : (s : Setup) → read_whole (store_in rates) bs ≡ some s → (t : Bool) → eqb s.flags o.config.flags ≡ t
        → (unless (if not t then 0x0A else 0) (opened o) [] (done_with (opened (loaded o s)) 0)).1.code ≡ 0 → Done rates o bs
    by s e true q h = record { setup = s; reads = e; flags = eqb-true s.flags o.config.flags q }
    by s e false q h = let z : ◌≡◌ {A = ℕ} 10 0 = h in absurd (omega arith)

    go : (r : Option Setup) → read_whole (store_in rates) bs ≡ r → (loading o r).1.code ≡ 0 → Done rates o bs
    go none e h = let z : ◌≡◌ {A = ℕ} 10 0 = h in absurd (omega arith)
    go (some s) e h = by s e (eqb s.flags o.config.flags) refl h

-- ALL OR NOTHING: a load is refused with 0x0A and leaves the channel, or all of what was read replaces it
pub done_loads : (rates : List ℕ) (o : Open) (bs : List ℕ) (d : Done rates o bs) → on_load rates o bs ≡ done_with (opened (loaded o d.setup)) 0
unfolding on_load
done_loads rates o bs d = ap (loading o) d.reads ∙ load_does o d.setup d.flags

pub load_verdict : (rates : List ℕ) (o : Open) (bs : List ℕ) → (on_load rates o bs ≡ (opened o, says 0x0A 0 [])) ⊎ Done rates o bs
unfolding on_load loading code_of unless
load_verdict rates o bs = go (read_whole (store_in rates) bs) refl
  where
    by : (s : Setup) → read_whole (store_in rates) bs ≡ some s → (t : Bool) → eqb s.flags o.config.flags ≡ t
        → (unless (if not t then 0x0A else 0) (opened o) [] (done_with (opened (loaded o s)) 0) ≡ (opened o, says 0x0A 0 [])) ⊎ Done rates o bs
    by s e true q = inr (record { setup = s; reads = e; flags = eqb-true s.flags o.config.flags q })
    by s e false q = inl refl

    go : (r : Option Setup) → read_whole (store_in rates) bs ≡ r → (loading o r ≡ (opened o, says 0x0A 0 [])) ⊎ Done rates o bs
    go none e = inl refl
    go (some s) e = by s e (eqb s.flags o.config.flags) refl

-- the same by one test, for code that walks a store before it writes: the store reads, and its flags are the channel's
pub load_takes : (rates : List ℕ) (o : Open) (bs : List ℕ) → takes_store o.config.flags (read_whole (store_in rates) bs) ≡ false → on_load rates o bs ≡ (opened o, says 0x0A 0 [])
unfolding on_load loading code_of unless takes_store
load_takes rates o bs = go (read_whole (store_in rates) bs)
  where
    go : (r : Option Setup) → takes_store o.config.flags r ≡ false → loading o r ≡ (opened o, says 0x0A 0 [])
    go none e = refl
    go (some s) e = rw e

pub takes_done : (rates : List ℕ) (o : Open) (bs : List ℕ) → takes_store o.config.flags (read_whole (store_in rates) bs) ≡ true → Done rates o bs
unfolding takes_store
takes_done rates o bs = go (read_whole (store_in rates) bs) refl
  where
    go : (r : Option Setup) → read_whole (store_in rates) bs ≡ r → takes_store o.config.flags r ≡ true → Done rates o bs
    go none e h = absurd (true≢false (sym h))
    go (some s) e h = record { setup = s; reads = e; flags = eqb-true s.flags o.config.flags h }

-- a version 1 store loads on flags 0 only
pub old_on_0 : (rates : List ℕ) (o : Open) (rest : List ℕ) → Bytes (1 ∷ rest) → Done rates o (1 ∷ rest) → o.config.flags ≡ 0
old_on_0 rates o rest b d = sym d.flags ∙ old_flags rates rest b d.setup d.reads

-- LOADING, THEN SAVING, gives the same bytes of a version 2 store
pub load_save : (rates : List ℕ) (now : ℕ) (o : Open) (rest : List ℕ) → Bytes (2 ∷ rest) → (on_call rates now (opened o) (load_setup (2 ∷ rest))).1.code ≡ 0
    → SavedBack (2 ∷ rest) (on_call rates now (opened o) (load_setup (2 ∷ rest)))
unfolding on_call on_open on_raw_call on_load
load_save rates now o rest b e =
    let d = load_done rates o (2 ∷ rest) e in
    let s : Setup = d.setup in
    let is : on_load rates o (2 ∷ rest) ≡ done_with (opened (loaded o s)) 0 = done_loads rates o (2 ∷ rest) d in
    record {
      after = loaded o s;
      is = ap (λ (x : Outcome). x.0) is ∙ first (opened (loaded o s));
      bytes = ap store_bytes (loaded_setup o s d.flags) ∙ sym (new_exact rates rest b s d.reads);
    }
  where
    first : (c : Rattle.machine.specs.Channel.Chan) → (done_with c 0).0 ≡ c
    first c = unfold done_with in refl

-- ---- a save

-- a save that was done: the store is the first bytes of the buffer, as many as the value says
pub saved_bytes : (o : Open) (b : List ℕ) → (on_save o b).1.code ≡ 0 → take (on_save o b).1.value (on_save o b).1.buffer ≡ store_bytes (setup_of o)
unfolding on_save code_of unless says
saved_bytes o b = go (ltb (length b) (length (store_bytes (setup_of o))))
  where
    s : List ℕ
    s = store_bytes (setup_of o)

    out : Bool → Outcome
    out t = unless (if t then 0x04 else 0) (opened o) b (opened o, says 0x00 (length s) (s ++ drop (length s) b))

    go : (t : Bool) → (out t).1.code ≡ 0 → take (out t).1.value (out t).1.buffer ≡ s
    go true h = let z : ◌≡◌ {A = ℕ} 4 0 = h in absurd (omega arith)
    go false h = take-append_seam s (drop (length s) b)

-- SAVING, THEN LOADING on a channel of the same flags, while set takes the rate
pub save_load : (rates : List ℕ) (now now' : ℕ) (o o' : Open) (b : List ℕ) → GoodSetup rates (setup_of o) → o.config.flags ≡ o'.config.flags
    → (on_call rates now (opened o) (save_setup b)).1.code ≡ 0
    → Loaded o o' (on_call rates now' (opened o') (load_setup (take (on_call rates now (opened o) (save_setup b)).1.value (on_call rates now (opened o) (save_setup b)).1.buffer)))
unfolding on_call on_open on_raw_call on_save on_load setup_of loaded done_with says
save_load rates now now' o o' b g e h =
    subst (λ (bs : List ℕ). Loaded o o' (loading o' (read_whole (store_in rates) bs))) (sym (saved_bytes o b h))
    (subst (λ (r : Option Setup). Loaded o o' (loading o' r)) (sym (stored_whole rates (setup_of o) g))
    (subst (Loaded o o') (sym (load_does o' (setup_of o) e))
    (record {
      after = loaded o' (setup_of o);
      is = refl;
      code = refl;
      filters = refl;
      rate = refl;
      loopback = refl;
      periodics = anew_kept o.sending.periodics;
      flags = refl;
      written = refl;
      flight = refl;
      receiving = refl;
      last = refl;
      link = refl;
      again = ap store_bytes (loaded_setup o' (setup_of o) e);
    })))
