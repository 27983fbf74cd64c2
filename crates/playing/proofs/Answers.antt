-- From what a call on the memory promises and what was written to what the replay of one event leaves. Assumes nothing.
use Rattle.std.specs.Prelude.{if◌then◌else◌}
use Prim.Native.Nat.{ℕ, ◌+◌, ◌*◌, ◌≤◌, ◌<◌}
use mathlib.Core.Path.{◌≡◌, refl, sym, ap, ap₂, ◌∙◌, subst}
use mathlib.Core.Bool.{Bool, true, false}
use mathlib.Core.List.{List, [], ◌∷◌, ◌++◌, append-nil}
use native.Mathlib.Omega.{arith}
use lib.ListN.{length, take, drop, set, length-append, length-take, length-drop, length-replicate}
use lib.Seq.{take_at}
use lib.Dec.{T, eqb}
use borrow.Author.Tests.{eq-eqb, ne_eqb}
use borrow.Rule.Slice.PartMut.{put_mid, mid_of}
use Rattle.codec.specs.Plain.{zeros}
use Rattle.machine.specs.Limits.{record_size}
use Rattle.iso.specs.Limits.{iso_record_size}
use Rattle.machine.specs.Channel.{Call, Answer, says, write, read, take_next}
use Rattle.machine.specs.Step.{Event, call}
use Rattle.layout.specs.Promise.{gives, answered}
use Rattle.whole.specs.Device.{Device, step}
use Rattle.whole.specs.Demands.{EightChannels}
use Rattle.memory.specs.Memory.{image, load, valid}
use Rattle.memory.specs.Promise.{outcome}
use Rattle.memory.proofs.Memory.{ok_load}
use Rattle.memory.proofs.Reach.{ok_sane}
use Rattle.memory.proofs.Rows.{by_step}
use Rattle.number.specs.Number.{bytes_of}
use Rattle.events.specs.declared.Plain.{Plain}
use Rattle.events.specs.declared.Plain.TheVariants as plain
use Rattle.events.specs.declared.Giving.{Giving}
use Rattle.events.specs.declared.Giving.TheVariants as giving
use Rattle.events.specs.Found.{plain_of, giving_of}
use Rattle.answers.specs.Output.{on_done, after_call, after_code, answer_bytes, numbered, counted}
use Rattle.answers.specs.Put.{Put}
use Rattle.playing.specs.Step.{Answered}
use Rattle.playing.proofs.Small.{small_number, small_code}
use Rattle.playing.proofs.Lent.{Gives, Counted, OneOrNone, reads, takes}
use Rattle.answers.proofs.Put.{put_same, put_before, put_lent}
use Rattle.recording_sizes.specs.Sizes.{most, on_iso, record_on, event_room}
use Rattle.recording_sizes.proofs.Laws.{record_fits}

-- ---- what a call on a valid memory promises, taken apart

pub record Told (c v : ℕ) (b m' : List ℕ) (x : Device × Answer) : Type 0 where
  pub code : c ≡ x.1.code
  pub value : v ≡ x.1.value
  pub buffer : b ≡ x.1.buffer
  pub memory : m' ≡ image x.0

module _ (rates m : List ℕ) (ok : T (valid m)) (e : Event) {c v : ℕ} {b m' : List ℕ} (h : gives c v b m' ≡ outcome rates m e) where
  abbrev after : Device × Answer
  after = step rates (load m) e

  pub told : Told c v b m' after
  told =
      let q : gives c v b m' ≡ answered after.1 (image after.0) = h ∙ sym (by_step m ok rates e after.0 after.1 refl) in
      record { code = ap (λ r. r.code) q; value = ap (λ r. r.value) q; buffer = ap (λ r. r.buffer) q; memory = ap (λ r. r.memory) q }

  -- what was written is the answer, where it says so for any answer
  pub answers : (bytes : ℕ → ℕ → List ℕ) → ((a : Answer) → answer_bytes e a ≡ bytes a.code a.value) → {out out' : List ℕ} {at n : ℕ} → Put out at (bytes c v) n out' → Answered rates e m out at n m' out'
  answers bytes same p =
      let t = told in
      record { memory = t.memory; written = put_same (ap₂ bytes t.code t.value ∙ sym (same after.1)) p }

-- the code alone
pub plain_bytes : (s : List ℕ) (e : Plain) (a : Answer) → answer_bytes (plain_of s e) a ≡ bytes_of a.code
unfolding answer_bytes after_code after_call
plain_bytes s (plain.Disconnect c) a = append-nil _
plain_bytes s plain.Close a = append-nil _
plain_bytes s (plain.Advance t) a = append-nil _
plain_bytes s (plain.Frame l w i f e) a = append-nil _
plain_bytes s (plain.StopFilter c n) a = append-nil _
plain_bytes s (plain.StopPeriodic c n) a = append-nil _
plain_bytes s (plain.Sent c) a = append-nil _
plain_bytes s (plain.Clear c k) a = append-nil _
plain_bytes s (plain.Set c p v) a = append-nil _

pub giving_bytes : (s : List ℕ) (e : Giving) (a : Answer) → answer_bytes (giving_of s e) a ≡ numbered a.code a.value
unfolding answer_bytes after_code after_call
giving_bytes s (giving.Connect l p f r) a = refl
giving_bytes s (giving.StartFilter c t m p e) a = refl
giving_bytes s (giving.StartFlow c t m p f e) a = refl
giving_bytes s (giving.StartPeriodic c f e i) a = refl
giving_bytes s (giving.Get c p) a = refl

pub write_bytes : (k n : ℕ) (b : List ℕ) (a : Answer) → answer_bytes (call k (write n b)) a ≡ counted a.code a.value
unfolding answer_bytes after_code after_call
write_bytes k n b a = refl

-- ---- a read and a take, which are lent a part of the output: as if zeros had been lent

-- the call of a buffer, lent b and not zeros, gave this code and value, and left these bytes and this memory
pub record AsIfZeros (rates m : List ℕ) (k size : ℕ) (rule : ℕ → ℕ → ℕ → Type 0) (x : List ℕ → Call) (b : List ℕ) (c v : ℕ) (b' m' : List ℕ) : Type 0 where
  pub bytes : List ℕ
  pub taken : ℕ
  pub few : taken ≤ size
  pub ruled : rule c v taken
  pub long : length bytes ≡ taken
  pub buffer : b' ≡ bytes ++ drop taken b
  pub memory : m' ≡ image (step rates (load m) (call k (x (zeros size)))).0
  pub answer : (step rates (load m) (call k (x (zeros size)))).1 ≡ says c v (bytes ++ drop taken (zeros size))

module _ (rates m : List ℕ) (ok : T (valid m)) (k size : ℕ) (rule : ℕ → ℕ → ℕ → Type 0) (x : List ℕ → Call) (g : Gives size rule (λ (b : List ℕ). step rates (load m) (call k (x b)))) where
  pub as_if_zeros : (b : List ℕ) {c v : ℕ} {b' m' : List ℕ} → gives c v b' m' ≡ outcome rates m (call k (x b)) → length b ≡ size → length b' ≡ length b → AsIfZeros rates m k size rule x b c v b' m'
  unfolding says
  as_if_zeros b {c} {v} {b'} {m'} h long kept =
      let t = told rates m ok (call k (x b)) h in
      let one = g.is b long in
      let two = g.is (zeros size) (length-replicate size 0) in
      let code : c ≡ g.code = t.code ∙ ap (λ y. y.1.code) one in
      let value : v ≡ g.value = t.value ∙ ap (λ y. y.1.value) one in
      let left : b' ≡ g.bytes ++ drop g.taken b = t.buffer ∙ ap (λ y. y.1.buffer) one in
      record {
        bytes = g.bytes;
        taken = g.taken;
        few = g.few;
        ruled = subst (λ (n : ℕ). rule n v g.taken) (sym code) (subst (λ (n : ℕ). rule g.code n g.taken) (sym value) g.ruled);
        long = omega (arith, g.few, ap length left, length-append g.bytes (drop g.taken b), length-drop g.taken b);
        buffer = left;
        memory = t.memory ∙ ap (λ y. image y.0) one ∙ ap (λ y. image y.0) (sym two);
        answer = ap (λ y. y.1) two ∙ ap₂ (λ (i j : ℕ). says i j (g.bytes ++ drop g.taken (zeros size))) (sym code) (sym value);
      }

-- a code is one byte
pub told_small : (rates m : List ℕ) → T (valid m) → (e : Event) {c v : ℕ} {b m' : List ℕ} → gives c v b m' ≡ outcome rates m e → c < 128
told_small rates m ok e h = omega (arith, (told rates m ok e h).code, small_code rates (load m) e)

no_bytes : (l : List ℕ) → length l ≡ 0 → l ≡ []
no_bytes [] e = refl
no_bytes (x ∷ l) e = absurd (omega arith)

-- the box in a valid memory has its eight channels
eight : (m : List ℕ) → T (valid m) → EightChannels (load m)
eight m ok = (ok_sane (load m) (ok_load m ok)).eight

-- the records of any channel have room
pub records_fit : (k n : ℕ) {unit : ℕ} → unit ≡ record_on k → n ≤ most → 2 + unit * n ≤ event_room
unfolding record_on
records_fit k n e h = rw e (go (on_iso k))
  where
    go : (b : Bool) → 2 + (if b then iso_record_size else record_size) * n ≤ event_room
    go true = omega arith
    go false = omega arith

module _ (rates m : List ℕ) (ok : T (valid m)) (k : ℕ) (out : List ℕ) (at : ℕ) where
  abbrev unit : ℕ
  unit = record_on k

  module _ (n c v : ℕ) (b' m' : List ℕ) (h : gives c v b' m' ≡ outcome rates m (call k (read n (mid_of (at + 2) (unit * n) out)))) (room : at + 2 + unit * n ≤ length out) (kept : length b' ≡ unit * n) where
    lent_size : length (mid_of (at + 2) (unit * n) out) ≡ unit * n
    lent_size = omega (arith, length-take (unit * n) (drop (at + 2) out), length-drop (at + 2) out)

    z : AsIfZeros rates m k (unit * n) (Counted n unit) (λ (b : List ℕ). read n b) (mid_of (at + 2) (unit * n) out) c v b' m'
    z = as_if_zeros rates m ok k (unit * n) (Counted n unit) (λ b. read n b) (reads rates (load m) (eight m ok) k n) (mid_of (at + 2) (unit * n) out) h lent_size (kept ∙ sym lent_size)

    -- as many as were asked for at most
    pub read_count : v ≤ n
    read_count = z.ruled.1

    -- the code and the count stand in front of the records
    pub read_answered : n ≤ most → Answered rates (call k (read n (zeros (unit * n)))) m out at (at + 2 + unit * v) m' (set (set (put_mid (at + 2) (unit * n) out b') (at + 1) v) at c)
    unfolding answer_bytes after_code after_call says
    read_answered few =
        let l : length z.bytes ≡ unit * v = z.long ∙ z.ruled.0 in
        let most_bytes : unit * v ≤ unit * n = omega (arith, z.few, z.ruled.0) in
        let left : b' ≡ z.bytes ++ drop (unit * v) (mid_of (at + 2) (unit * n) out) = z.buffer ∙ ap (λ (j : ℕ). z.bytes ++ drop j (mid_of (at + 2) (unit * n) out)) z.ruled.0 in
        let two : at + 2 ≡ at + 1 + 1 = omega arith in
        let records = put_lent out b' z.bytes (at + 2) (unit * n) (unit * v) room most_bytes l left in
        let counted = put_before v (subst (λ (j : ℕ). Put out j z.bytes (at + 2 + unit * v) (put_mid (at + 2) (unit * n) out b')) two records) (omega arith) in
        let whole = put_before c counted (omega arith) in
        let code : bytes_of c ≡ c ∷ [] = small_number c (told_small rates m ok (call k (read n (mid_of (at + 2) (unit * n) out))) h) in
        let count : bytes_of v ≡ v ∷ [] = small_number v (omega (arith, read_count)) in
        let given : take (unit * v) (z.bytes ++ drop z.taken (zeros (unit * n))) ≡ z.bytes = take_at z.bytes (drop z.taken (zeros (unit * n))) (unit * v) l in
        record {
          memory = z.memory;
          written = put_same (sym (ap (answer_bytes (call k (read n (zeros (unit * n))))) z.answer ∙ rw (code, count, given))) whole;
        }

  module _ (c : ℕ) (b' m' : List ℕ) (h : gives c 0 b' m' ≡ outcome rates m (call k (take_next (mid_of (at + 1) unit out)))) (room : at + 1 + unit ≤ length out) (kept : length b' ≡ unit) where
    one_size : length (mid_of (at + 1) unit out) ≡ unit
    one_size = omega (arith, length-take unit (drop (at + 1) out), length-drop (at + 1) out)

    t : AsIfZeros rates m k unit (OneOrNone unit) (λ (b : List ℕ). take_next b) (mid_of (at + 1) unit out) c 0 b' m'
    t = as_if_zeros rates m ok k unit (OneOrNone unit) (λ b. take_next b) (takes rates (load m) (eight m ok) k) (mid_of (at + 1) unit out) h one_size (kept ∙ sym one_size)

    -- the code stands in front of so many bytes
    code_before : (j : ℕ) → t.taken ≡ j → Put out at (c ∷ t.bytes) (at + 1 + j) (set (put_mid (at + 1) unit out b') at c)
    code_before j e =
        let left : b' ≡ t.bytes ++ drop j (mid_of (at + 1) unit out) = t.buffer ∙ ap (λ (i : ℕ). t.bytes ++ drop i (mid_of (at + 1) unit out)) e in
        put_before c (put_lent out b' t.bytes (at + 1) unit j room (omega (arith, t.few)) (t.long ∙ e) left) (omega (arith, t.long, t.few))

    -- and they are the answer
    took : (j : ℕ) → t.taken ≡ j → c ∷ t.bytes ≡ bytes_of c ++ on_done c (take unit (t.bytes ++ drop t.taken (zeros unit))) → Answered rates (call k (take_next (zeros unit))) m out at (at + 1 + j) m' (set (put_mid (at + 1) unit out b') at c)
    unfolding answer_bytes after_code after_call says
    took j e q = record { memory = t.memory; written = put_same (q ∙ sym (ap (answer_bytes (call k (take_next (zeros unit)))) t.answer)) (code_before j e) }

    small : bytes_of c ≡ c ∷ []
    small = small_number c (told_small rates m ok (call k (take_next (mid_of (at + 1) unit out))) h)

    pub take_done : c ≡ 0 → Answered rates (call k (take_next (zeros unit))) m out at (at + 1 + unit) m' (set (put_mid (at + 1) unit out b') at c)
    unfolding on_done
    take_done e =
        let i : eqb c 0 ≡ true = eq-eqb c 0 e in
        let whole : t.taken ≡ unit = t.ruled ∙ rw i in
        took unit whole (sym (rw (small, i, take_at t.bytes (drop t.taken (zeros unit)) unit (t.long ∙ whole))))

    pub take_refused : (c ≡ 0 → ⊥) → Answered rates (call k (take_next (zeros unit))) m out at (at + 1) m' (set (put_mid (at + 1) unit out b') at c)
    unfolding on_done
    take_refused e =
        let i : eqb c 0 ≡ false = ne_eqb c 0 e in
        let none : t.taken ≡ 0 = t.ruled ∙ rw i in
        let empty : t.bytes ≡ [] = no_bytes t.bytes (t.long ∙ none) in
        let same : at + 1 + 0 ≡ at + 1 = omega arith in
        subst (λ (j : ℕ). Answered rates (call k (take_next (zeros unit))) m out at j m' (set (put_mid (at + 1) unit out b') at c)) same
        (took 0 none (sym (rw (small, i) (ap (λ (l : List ℕ). c ∷ l) (sym empty)))))

-- ---- the same, where a record and the part that was lent have their sizes in other words

pub record ReadInto (rates m out : List ℕ) (k n at unit size c v : ℕ) (b' m' : List ℕ) : Type 0 where
  pub code : c < 128
  pub count : v ≤ n
  pub answered : Answered rates (call k (read n (zeros (record_on k * n)))) m out at (at + 2 + unit * v) m' (set (set (put_mid (at + 2) size out b') (at + 1) v) at c)

pub record TakenInto (rates m out : List ℕ) (k at unit size c : ℕ) (b' m' : List ℕ) : Type 0 where
  pub code : c < 128
  pub done : c ≡ 0 → Answered rates (call k (take_next (zeros (record_on k)))) m out at (at + 1 + unit) m' (set (put_mid (at + 1) size out b') at c)
  pub refused : (c ≡ 0 → ⊥) → Answered rates (call k (take_next (zeros (record_on k)))) m out at (at + 1) m' (set (put_mid (at + 1) size out b') at c)

module _ (rates m out : List ℕ) (ok : T (valid m)) (k at : ℕ) (room : at + event_room ≤ length out) where
  pub read_into_law : (n unit size : ℕ) {c v : ℕ} (b' : List ℕ) {m' : List ℕ} → record_on k ≡ unit → record_on k * n ≡ size → n ≤ most → gives c v b' m' ≡ outcome rates m (call k (read n (mid_of (at + 2) size out))) → length b' ≡ size
      → ReadInto rates m out k n at unit size c v b' m'
  read_into_law n unit size {c} {v} b' {m'} e e' few h kept =
      subst (λ (u : ℕ). ReadInto rates m out k n at u size c v b' m') e
      (subst (λ (j : ℕ). gives c v b' m' ≡ outcome rates m (call k (read n (mid_of (at + 2) j out))) → length b' ≡ j → ReadInto rates m out k n at (record_on k) j c v b' m') e'
      (λ h kept. let fits = records_fit k n refl few in record {
        code = told_small rates m ok (call k (read n (mid_of (at + 2) (record_on k * n) out))) h;
        count = read_count rates m ok k out at n c v b' m' h (omega arith) kept;
        answered = read_answered rates m ok k out at n c v b' m' h (omega arith) kept few;
      }) h kept)

  pub taken_into : (unit size : ℕ) {c : ℕ} (b' : List ℕ) {m' : List ℕ} → record_on k ≡ unit → record_on k ≡ size → gives c 0 b' m' ≡ outcome rates m (call k (take_next (mid_of (at + 1) size out))) → length b' ≡ size
      → TakenInto rates m out k at unit size c b' m'
  taken_into unit size {c} b' {m'} e e' h kept =
      subst (λ (u : ℕ). TakenInto rates m out k at u size c b' m') e
      (subst (λ (j : ℕ). gives c 0 b' m' ≡ outcome rates m (call k (take_next (mid_of (at + 1) j out))) → length b' ≡ j → TakenInto rates m out k at (record_on k) j c b' m') e'
      (λ h kept. let fits = record_fits k refl in record {
        code = told_small rates m ok (call k (take_next (mid_of (at + 1) (record_on k) out))) h;
        done = take_done rates m ok k out at c b' m' h (omega arith) kept;
        refused = take_refused rates m ok k out at c b' m' h (omega arith) kept;
      }) h kept)
