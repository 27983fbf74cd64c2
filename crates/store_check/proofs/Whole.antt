-- A whole store, part by part. Assumes nothing.
use Rattle.std.specs.Prelude.{if◌then◌else◌}
use Prim.Native.Nat.{ℕ}
use mathlib.Core.Path.{◌≡◌, refl, sym, ap, ◌∙◌, subst}
use mathlib.Core.Bool.{Bool, true, false, true≢false, ◌&&◌}
use mathlib.Core.List.{List}
use mathlib.Core.Option.{Option, none, some, bind}
use borrow.Author.Tests.{eq-eqb, ne_eqb, eqb-true}
use lib.Dec.{eqb, leb, leb→le, eqb→eq}
use lib.ListN.{length}
use Rattle.codec.specs.Plain.{member, within}
use Rattle.codec.proofs.Tests.{and_true, and_false, T_true}
use Rattle.number.specs.Reads.{◌>>=◌, done, bad, number, where_true, only}
use Rattle.machine.specs.Message.{Rec}
use Rattle.machine.specs.Filter.{Filter, Slots}
use Rattle.machine.specs.Store.{Setup, slots_in, nothing_after, read_whole}
use Rattle.machine.specs.Channel.{filter_in, periodic_in, body_in, version_in, store_in}
use Rattle.setups.specs.Saved.{takes_store}
use Rattle.setups.proofs.Reading.{no_value, Split, split, done_there, only_there, Entire, whole_there}
use Rattle.store_records.specs.Places.{after_of}
use Rattle.store_check.specs.Walk.{ends_at, head_in, flags_in, config_in, Laid, Taken}
use Rattle.store_check.proofs.Slots.{from_0, after_done, slots_at}

-- ---- the flags

module _ (flags : ℕ) (s : List ℕ) where
  pub no_version : number s 0 ≡ none → none ≡ after_of (flags_in flags s 0)
  unfolding flags_in only head_in ◌>>=◌ bind after_of
  no_version e = rw e

  module _ {version next : ℕ} (v : number s 0 ≡ some (version, next)) where
    module _ (one : version ≡ 1) where
      pub old_refused : (flags ≡ 0 → ⊥) → none ≡ after_of (flags_in flags s 0)
      unfolding flags_in only head_in ◌>>=◌ bind after_of done where_true bad
      old_refused h = rw (v, eq-eqb version 1 one, ne_eqb 0 flags (λ e. h (sym e)))

      pub old_taken : flags ≡ 0 → some next ≡ after_of (flags_in flags s 0)
      unfolding flags_in only head_in ◌>>=◌ bind after_of done where_true bad
      old_taken h = rw (v, eq-eqb version 1 one, eq-eqb 0 flags (sym h))

    module _ (other : version ≡ 1 → ⊥) where
      pub unknown_version : (version ≡ 2 → ⊥) → none ≡ after_of (flags_in flags s 0)
      unfolding flags_in only head_in ◌>>=◌ bind after_of done where_true bad
      unknown_version h = rw (v, ne_eqb version 1 other, ne_eqb version 2 h)

      module _ (two : version ≡ 2) where
        pub no_flags : number s next ≡ none → none ≡ after_of (flags_in flags s 0)
        unfolding flags_in only head_in ◌>>=◌ bind after_of done where_true bad
        no_flags e = rw (v, ne_eqb version 1 other, eq-eqb version 2 two, e)

        module _ {own body : ℕ} (e : number s next ≡ some (own, body)) where
          pub new_refused : (own ≡ flags → ⊥) → none ≡ after_of (flags_in flags s 0)
          unfolding flags_in only head_in ◌>>=◌ bind after_of done where_true bad
          new_refused h = rw (v, ne_eqb version 1 other, eq-eqb version 2 two, e, ne_eqb own flags h)

          pub new_taken : own ≡ flags → some body ≡ after_of (flags_in flags s 0)
          unfolding flags_in only head_in ◌>>=◌ bind after_of done where_true bad
          new_taken h = rw (v, ne_eqb version 1 other, eq-eqb version 2 two, e, eq-eqb own flags h)

-- ---- rate and loopback

module _ (rates s : List ℕ) (at : ℕ) where
  pub no_rate : number s at ≡ none → none ≡ after_of (config_in rates s at)
  unfolding config_in only ◌>>=◌ bind after_of
  no_rate e = rw e

  module _ {rate next : ℕ} (r : number s at ≡ some (rate, next)) where
    pub rate_refused : member rate rates ≡ false → none ≡ after_of (config_in rates s at)
    unfolding config_in only ◌>>=◌ bind after_of where_true bad
    rate_refused e = rw (r, e)

    module _ (taken : member rate rates ≡ true) where
      read : only (λ r. member r rates) number s at ≡ some (rate, next)
      unfolding only ◌>>=◌ bind where_true done
      read = rw (r, taken)

      config : (o : Option (ℕ × ℕ)) → only (within 0 1) number s next ≡ o → after_of (config_in rates s at) ≡ after_of o
      unfolding config_in ◌>>=◌ bind
      config o e = rw read (after_done (only (λ n. leb n 1) number) (λ l. (rate, l)) s next ∙ ap after_of (sym (from_0 1 s next) ∙ e))

      pub no_loopback : only (within 0 1) number s next ≡ none → none ≡ after_of (config_in rates s at)
      unfolding after_of
      no_loopback e = sym (config none e)

      pub config_taken : {on end : ℕ} → only (within 0 1) number s next ≡ some (on, end) → some end ≡ after_of (config_in rates s at)
      unfolding after_of
      config_taken {on} {end} e = sym (config (some (on, end)) e)

-- whatever is made of them
config_any : {B : Type 0} (f : ℕ → ℕ → B) (rates s : List ℕ) (at : ℕ)
    → after_of ((only (λ r. member r rates) number >>= λ rate. only (λ n. leb n 1) number >>= λ l. done (f rate l)) s at) ≡ after_of (config_in rates s at)
unfolding config_in ◌>>=◌ bind after_of
config_any f rates s at = go (only (λ r. member r rates) number s at)
  where
    go : (o : Option (ℕ × ℕ)) → after_of (bind o (λ x. (only (λ n. leb n 1) number >>= λ l. done (f x.0 l)) s x.1))
        ≡ after_of {A = ℕ × ℕ} (bind o (λ x. (only (λ n. leb n 1) number >>= λ l. done (x.0, l)) s x.1))
    go none = refl
    go (some x) = after_done (only (λ n. leb n 1) number) (f x.0) s x.1 ∙ sym (after_done (only (λ n. leb n 1) number) (λ l. (x.0, l)) s x.1)

-- ---- the whole

module _ (rates s : List ℕ) where
  -- a store is its flags and what follows them
  head_first : store_in rates s 0 ≡ (head_in >>= body_in rates) s 0
  unfolding store_in head_in version_in ◌>>=◌ bind done bad
  head_first = go (number s 0)
    where
      by : (n : ℕ) (a b : Bool) → (if a then body_in rates 0 else if b then number >>= body_in rates else bad) s n ≡ bind ((if a then done 0 else if b then number else bad) s n) (λ q. body_in rates q.0 s q.1)
      by n true b = refl
      by n false true = refl
      by n false false = refl

      go : (o : Option (ℕ × ℕ)) → bind o (λ r. version_in rates r.0 s r.1) ≡ bind (bind o (λ r. (if eqb r.0 1 then done 0 else if eqb r.0 2 then number else bad) s r.1)) (λ q. body_in rates q.0 s q.1)
      go none = refl
      go (some r) = by r.1 (eqb r.0 1) (eqb r.0 2)

  -- its flags are kept
  body_flags : (f at : ℕ) (t : Setup) (e : ℕ) → body_in rates f s at ≡ some (t, e) → t.flags ≡ f
  unfolding body_in
  body_flags f at t e h =
      let x = split (slots_in (filter_in f)) _ s at t e h in
      let y = split (slots_in (periodic_in f)) _ s x.place t e x.rest in
      let z = split (only (λ r. member r rates) number) _ s y.place t e y.rest in
      let u = split (only (λ n. leb n 1) number) _ s z.place t e z.rest in
      let made : Setup = record { flags = f; filters = x.what; periodics = y.what; rate = z.what; loopback = eqb u.what 1 } in
      sym (ap (λ (v : Setup). v.flags) (done_there made t s u.place e u.rest).0)

  module _ (flags : ℕ) where
    judged : (f : ℕ) (o : Option (Setup × ℕ)) → ((t : Setup) (e : ℕ) → o ≡ some (t, e) → t.flags ≡ f) → takes_store flags (nothing_after (length s) o) ≡ (eqb f flags && ends_at (length s) (after_of o))
    unfolding takes_store nothing_after after_of
    judged f none k = sym (and_false (eqb f flags))
    judged f (some r) k = go (eqb r.1 (length s))
      where
        go : (b : Bool) → takes_store flags (if b then some r.0 else none) ≡ (eqb f flags && b)
        go true = ap (λ (n : ℕ). eqb n flags) (k r.0 r.1 refl) ∙ sym (and_true (eqb f flags))
        go false = sym (and_false (eqb f flags))

    -- what a store of some flags is taken for
    by_head : {f body : ℕ} → head_in s 0 ≡ some (f, body) → takes_store flags (read_whole (store_in rates) s) ≡ (eqb f flags && ends_at (length s) (after_of (body_in rates f s body)))
    unfolding read_whole ◌>>=◌ bind
    by_head {f} {body} h = rw (head_first, h) (judged f (body_in rates f s body) (body_flags f body))

    pub other_flags : flags_in flags s 0 ≡ none → false ≡ takes_store flags (read_whole (store_in rates) s)
    unfolding flags_in only ◌>>=◌ bind read_whole nothing_after takes_store where_true bad done
    other_flags = go (head_in s 0) refl
      where
        by : (f body : ℕ) → head_in s 0 ≡ some (f, body) → (b : Bool) → eqb f flags ≡ b → where_true b f s body ≡ none → false ≡ takes_store flags (read_whole (store_in rates) s)
        by f body h true q e = no_value (sym e)
        by f body h false q e = sym (by_head h ∙ ap (λ (b : Bool). b && ends_at (length s) (after_of (body_in rates f s body))) q)

        go : (o : Option (ℕ × ℕ)) → head_in s 0 ≡ o → bind o (λ r. where_true (eqb r.0 flags) r.0 s r.1) ≡ none → false ≡ takes_store flags (read_whole (store_in rates) s)
        go none h e = rw (head_first, h)
        go (some r) h e = by r.0 r.1 h (eqb r.0 flags) refl e

    module _ {f body : ℕ} (h : flags_in flags s 0 ≡ some (f, body)) where
      own_flags : takes_store flags (read_whole (store_in rates) s) ≡ ends_at (length s) (after_of (body_in rates flags s body))
      unfolding flags_in
      own_flags =
          let x = only_there (λ n. eqb n flags) head_in f s 0 body h in
          let e : f ≡ flags = eqb→eq f flags x.1 in
          by_head x.0 ∙ ap (λ (b : Bool). b && ends_at (length s) (after_of (body_in rates f s body))) (T_true (eqb f flags) x.1)
          ∙ ap (λ (n : ℕ). ends_at (length s) (after_of (body_in rates n s body))) e

      pub no_filters : slots_in (filter_in flags) s body ≡ none → false ≡ takes_store flags (read_whole (store_in rates) s)
      unfolding body_in ◌>>=◌ bind after_of
      no_filters e = sym (own_flags ∙ rw e)

      module _ {fs : Slots Filter} {middle : ℕ} (a : slots_in (filter_in flags) s body ≡ some (fs, middle)) where
        pub no_periodics : slots_in (periodic_in flags) s middle ≡ none → false ≡ takes_store flags (read_whole (store_in rates) s)
        unfolding body_in ◌>>=◌ bind after_of
        no_periodics e = sym (own_flags ∙ rw (a, e))

        module _ {ps : Slots (Rec × ℕ)} {last : ℕ} (b : slots_in (periodic_in flags) s middle ≡ some (ps, last)) where
          pub ended : ends_at (length s) (after_of (config_in rates s last)) ≡ takes_store flags (read_whole (store_in rates) s)
          unfolding body_in ◌>>=◌ bind
          ended =
              sym (own_flags
              ∙ rw (a, b)
              (ap (ends_at (length s))
              (config_any (λ rate l. record { flags = flags; filters = fs; periodics = ps; rate = rate; loopback = eqb l 1 }) rates s last)))

-- ---- where the parts stand

module _ (rates s : List ℕ) (flags : ℕ) (t : Setup) where
  flags_here : {body : ℕ} → head_in s 0 ≡ some (flags, body) → flags_in flags s 0 ≡ some (flags, body)
  unfolding flags_in only ◌>>=◌ bind where_true done
  flags_here h = rw (h, eq-eqb flags flags refl)

  body_laid : (body next : ℕ) → next ≡ length s → head_in s 0 ≡ some (flags, body) → body_in rates flags s body ≡ some (t, next) → Laid rates s flags t
  unfolding body_in
  body_laid body next ends h e =
      let x = split (slots_in (filter_in flags)) _ s body t next e in
      let y = split (slots_in (periodic_in flags)) _ s x.place t next x.rest in
      let z = split (only (λ r. member r rates) number) _ s y.place t next y.rest in
      let u = split (only (λ n. leb n 1) number) _ s z.place t next z.rest in
      let made : Setup = record { flags = flags; filters = x.what; periodics = y.what; rate = z.what; loopback = eqb u.what 1 } in
      let d = done_there made t s u.place next u.rest in
      let fs = slots_at (filter_in flags) s body x.place x.what x.first in
      let ps = slots_at (periodic_in flags) s x.place y.place y.what y.first in
      let r = only_there (λ r. member r rates) number z.what s y.place z.place z.first in
      let l = only_there (λ n. leb n 1) number u.what s z.place u.place u.first in
      subst (Laid rates s flags) {x = made} d.0
      (record {
        body = body;
        periodics_at = x.place;
        rate_at = y.place;
        loopback_at = z.place;
        on = u.what;
        head = flags_here h;
        filters = fs.there;
        filters_are = fs.are;
        periodics = ps.there;
        periodics_are = ps.are;
        rate = r.0;
        rate_taken = r.1;
        loopback = l.0 ∙ ap (λ (n : ℕ). some (u.what, n)) (d.1 ∙ ends);
        on_small = leb→le u.what 1 l.1;
        loopback_is = refl;
      })

  -- WHERE THE PARTS STAND of a store that reads as a set-up of these flags
  pub laid : read_whole (store_in rates) s ≡ some t → t.flags ≡ flags → Laid rates s flags t
  laid e own = go (whole_there (store_in rates) s t e)
    where
      by : (next : ℕ) → next ≡ length s → Split head_in (body_in rates) s 0 t next → Laid rates s flags t
      by next ends x =
          let f : x.what ≡ flags = sym (body_flags rates s x.what x.place t next x.rest) ∙ own in
          body_laid x.place next ends (x.first ∙ ap (λ (n : ℕ). some (n, x.place)) f) (ap (λ (n : ℕ). body_in rates n s x.place) (sym f) ∙ x.rest)

      go : Entire (store_in rates) s t → Laid rates s flags t
      go w = by w.next w.ends (split head_in (body_in rates) s 0 t w.next (sym (head_first rates s) ∙ w.read))

-- what the check's yes says
pub taken : (rates s : List ℕ) (flags : ℕ) → takes_store flags (read_whole (store_in rates) s) ≡ true → Taken rates s flags
unfolding takes_store
taken rates s flags = go (read_whole (store_in rates) s) refl
  where
    go : (r : Option Setup) → read_whole (store_in rates) s ≡ r → takes_store flags r ≡ true → Taken rates s flags
    go none e h = absurd (true≢false (sym h))
    go (some t) e h = let own = eqb-true t.flags flags h in record { setup = t; reads = e; own = own; laid = laid rates s flags t e own }
