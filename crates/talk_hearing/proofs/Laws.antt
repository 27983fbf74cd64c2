-- What each frame means, as code finds it out. Assumes nothing.
use Rattle.std.specs.Prelude.{if◌then◌else◌}
use mathlib.Core.Path.{◌≡◌, refl, sym, ap, ap₂, ◌∙◌}
use Prim.Native.Nat.{ℕ, ◌+◌, ◌*◌, ◌-◌, ◌/◌, ◌%◌, ◌≤◌, ◌<◌, min}
use native.Mathlib.Omega.{arith}
use mathlib.Core.Bool.{Bool, true, false, ◌&&◌}
use mathlib.Core.List.{List, [], ◌∷◌}
use lib.ListN.{length, get_or, take, drop}
use lib.Dec.{ltb}
use borrow.Author.Tests.{lt-ltb, le-ltb, le-leb, lt-leb, eq-eqb, ne_eqb}
use Rattle.codec.specs.Plain.{within}
use Rattle.codec.proofs.Tests.{below, above, between, and_false}
use Rattle.iso.specs.Limits.{most_payload, in_single, least_segmented, in_next, longest_gap}
use Rattle.iso.specs.Iso.{Transfer, Talk, Heard, Reception, idle, transmits, awaits, sends, becomes, arrived, ended, low, transmitting, gap_of, number_after, on_single, on_first, on_next, on_consecutive, staged, on_flow, on_flow_of, listening}
use Rattle.talk_head.specs.declared.Head.{Head}
use Rattle.talk_head.specs.Headed.{headed}
use Rattle.talk_hearing.specs.declared.Means.{Means}
use Rattle.talk_hearing.specs.declared.Means.TheVariants.{Nothing, Single, Instead, Start, Refuse, Drop, More, Last, Flow}
use Rattle.talk_hearing.specs.Meaning.{meant, Conversing, Meant}
use Rattle.talk_hearing.proofs.ByKind.{receiving, awaiting, sends_on, sends_not, ends_not, goes_not_on, awaits_not}

-- ---- STmin

module _ (v : ℕ) where
  pub gap_ms : v ≤ 0x7F → 1000 * v ≡ gap_of v
  unfolding gap_of
  gap_ms h = rw (le-leb v 0x7F h)

  pub gap_low : 0x7F < v → v ≤ 0xF0 → longest_gap ≡ gap_of v
  unfolding gap_of
  gap_low h g = rw (lt-leb v 0x7F h) (rw (below 0xF1 0xF9 v (omega arith)) refl)

  pub gap_us : 0xF0 < v → v ≤ 0xF9 → 100 * (v - 0xF0) ≡ gap_of v
  unfolding gap_of
  gap_us h g = let k : 0x7F < v = omega arith in rw (lt-leb v 0x7F k) (rw (between 0xF1 0xF9 v (omega arith) g) refl)

  pub gap_high : 0xF9 < v → longest_gap ≡ gap_of v
  unfolding gap_of
  gap_high h = let k : 0x7F < v = omega arith in rw (lt-leb v 0x7F k) (rw (above 0xF1 0xF9 v h) refl)

-- ---- a frame that means nothing

nothing : (h : Head) (b : List ℕ) (f : ℕ → Talk → Heard) → ((t : ℕ) (c : Talk) (p : List ℕ) → c.transfer ≡ headed h p → f t c ≡ becomes c.transfer []) → (held : ℕ) (same : Bool) → Meant Nothing h held same b f
unfolding meant
nothing h b f e held same t c p k = e t c p k.transfer

-- ---- a single frame

module _ (h : Head) (b : List ℕ) where
  single_no : (within 1 in_single (low b) && ltb (low b) (length b)) ≡ false → (held : ℕ) (same : Bool) → Meant Nothing h held same b (λ t c. on_single t c b)
  unfolding on_single
  single_no e = nothing h b (λ t c. on_single t c b) (λ t c p k. rw e refl)

  module _ (n : ℕ) (e : n ≡ get_or b 0 0 % 16) where
    pub single_none : n < 1 → (held : ℕ) (same : Bool) → Meant Nothing h held same b (λ t c. on_single t c b)
    unfolding low
    single_none l = single_no (ap (λ (x : Bool). x && ltb (low b) (length b)) (below 1 in_single (low b) (omega arith)))

    pub single_much : in_single < n → (held : ℕ) (same : Bool) → Meant Nothing h held same b (λ t c. on_single t c b)
    unfolding low
    single_much l = single_no (ap (λ (x : Bool). x && ltb (low b) (length b)) (above 1 in_single (low b) (omega arith)))

    pub single_short : length b ≤ n → (held : ℕ) (same : Bool) → Meant Nothing h held same b (λ t c. on_single t c b)
    unfolding low
    single_short l = single_no (ap (λ (x : Bool). within 1 in_single (low b) && x) (le-ltb (low b) (length b) (omega arith)) ∙ and_false (within 1 in_single (low b)))

    module _ (lo : 1 ≤ n) (hi : n ≤ in_single) (long : n < length b) where
      single_is : (t : ℕ) (c : Talk) → on_single t c b ≡ becomes (ended c.transfer) (arrived t c (take n (drop 1 b)))
      unfolding on_single low
      single_is t c =
          ap (λ (g : Bool). if g then becomes (ended c.transfer) (arrived t c (take (low b) (drop 1 b))) else becomes c.transfer [])
          (ap₂ (λ (x y : Bool). x && y) (between 1 in_single (low b) (omega arith) (omega arith)) (lt-ltb (low b) (length b) (omega arith)))
          ∙ ap (λ (m : ℕ). becomes (ended c.transfer) (arrived t c (take m (drop 1 b)))) (sym e)

      pub single_instead : h.kind ≡ 2 → (held : ℕ) (same : Bool) → Meant (Instead n) h held same b (λ t c. on_single t c b)
      unfolding meant ended
      single_instead q held same t c p k =
          single_is t c ∙ ap (λ (x : Transfer). becomes (ended x) (arrived t c (take n (drop 1 b)))) (k.transfer ∙ receiving h p q)

      pub single_beside : h.kind ≤ 2 → (h.kind ≡ 2 → ⊥) → (held : ℕ) (same : Bool) → Meant (Single n) h held same b (λ t c. on_single t c b)
      unfolding meant
      single_beside q r held same t c p k =
          single_is t c
          ∙ ap (λ (x : Transfer). becomes x (arrived t c (take n (drop 1 b)))) (ap ended k.transfer ∙ ends_not h p q r ∙ sym k.transfer)

-- ---- a first frame

module _ (b : List ℕ) (same : Bool) where
  pub first_same : same ≡ true → (h : Head) (held : ℕ) → Meant Nothing h held same b (λ t c. on_first t c b)
  unfolding meant on_first
  first_same e h held t c p k = rw (k.alike ∙ e) refl

  module _ (differ : same ≡ false) where
    pub first_short : length b < 8 → (h : Head) (held : ℕ) → Meant Nothing h held same b (λ t c. on_first t c b)
    unfolding meant on_first
    first_short l h held t c p k = rw (k.alike ∙ differ) (rw (lt-ltb (length b) 8 l) refl)

    module _ (long : 8 ≤ length b) (size : ℕ) (e : size ≡ get_or b 0 0 % 16 * 256 + get_or b 1 0) where
      pub first_small : size < least_segmented → (h : Head) (held : ℕ) → Meant Nothing h held same b (λ t c. on_first t c b)
      unfolding meant on_first low
      first_small l h held t c p k = rw (k.alike ∙ differ) (rw (le-ltb (length b) 8 long) (rw (sym e) (rw (lt-ltb size least_segmented l) refl)))

      pub first_refused : least_segmented ≤ size → most_payload < size → (h : Head) (held : ℕ) → Meant Refuse h held same b (λ t c. on_first t c b)
      unfolding meant on_first low
      first_refused l m h held t c p k =
          rw (k.alike ∙ differ) (rw (le-ltb (length b) 8 long) (rw (sym e) (rw (le-ltb size least_segmented l) (rw (lt-leb size most_payload m) refl))))

      pub first_starts : least_segmented ≤ size → size ≤ most_payload → (h : Head) (held : ℕ)
          → Meant (Start (record { kind = 2; n = size; time = 0; left = 0; gap = 0; waits = true })) h held same b (λ t c. on_first t c b)
      unfolding meant on_first low headed
      first_starts l m h held t c p k =
          rw (k.alike ∙ differ) (rw (le-ltb (length b) 8 long) (rw (sym e) (rw (le-ltb size least_segmented l) (rw (le-leb size most_payload m) refl))))

-- ---- a consecutive frame of a reception

module _ (h : Head) (b : List ℕ) (kind : h.kind ≡ 2) (held missing : ℕ) (e : missing ≡ h.n - held) where
  abbrev reception : List ℕ → Reception
  reception p = record { size = h.n; bytes = p; run = h.time; go_on = h.waits }

  consecutive_is : (same : Bool) (t : ℕ) (c : Talk) (p : List ℕ) → Conversing c h p held same → on_consecutive t c c.transfer b ≡ on_next t c (reception p) b
  unfolding on_consecutive
  consecutive_is same t c p k = ap (λ (x : Transfer). on_consecutive t c x b) (k.transfer ∙ receiving h p kind)

  -- by the payload's length
  missing_is : (p : List ℕ) → length p ≡ held → h.n - length p ≡ missing
  missing_is p l = ap (λ (j : ℕ). h.n - j) l ∙ sym e

  pub next_short : length b ≤ min in_next missing → (same : Bool) → Meant Nothing h held same b (λ t c. on_consecutive t c c.transfer b)
  unfolding meant on_next
  next_short l same t c p k =
      consecutive_is same t c p k
      ∙ rw (missing_is p k.holds) (rw (le-leb (length b) (min in_next missing) l) (ap (λ (x : Transfer). becomes x []) (sym (k.transfer ∙ receiving h p kind))))

  module _ (long : min in_next missing < length b) (n number : ℕ) (f : n ≡ get_or b 0 0 % 16) (g : number ≡ number_after held) where
    pub next_other : (n ≡ number → ⊥) → (same : Bool) → Meant Drop h held same b (λ t c. on_consecutive t c c.transfer b)
    unfolding meant on_next low
    next_other d same t c p k =
        consecutive_is same t c p k
        ∙ rw (missing_is p k.holds) (rw (lt-leb (length b) (min in_next missing) long) (rw k.holds (rw (sym f) (rw (sym g) (rw (ne_eqb n number d) refl)))))

    pub next_more : n ≡ number → in_next < missing → (same : Bool)
        → Meant (More (record { kind = 2; n = h.n; time = 0; left = 0; gap = 0; waits = h.waits })) h held same b (λ t c. on_consecutive t c c.transfer b)
    unfolding meant on_next low headed
    next_more d l same t c p k =
        consecutive_is same t c p k
        ∙ rw (missing_is p k.holds)
        (rw (lt-leb (length b) (min in_next missing) long) (rw k.holds (rw (sym f) (rw (sym g) (rw (eq-eqb n number d) (rw (lt-ltb in_next missing l) refl))))))

    pub next_last : n ≡ number → missing ≤ in_next → (same : Bool) → Meant (Last missing) h held same b (λ t c. on_consecutive t c c.transfer b)
    unfolding meant on_next low
    next_last d l same t c p k =
        consecutive_is same t c p k
        ∙ rw (missing_is p k.holds)
        (rw (lt-leb (length b) (min in_next missing) long) (rw k.holds (rw (sym f) (rw (sym g) (rw (eq-eqb n number d) (rw (le-ltb in_next missing l) refl))))))

-- ---- a flow frame

module _ (h : Head) (b : List ℕ) where
  abbrev Flows : Means → Type 0
  Flows m = (held : ℕ) (same : Bool) → Meant m h held same b (λ t c. becomes (on_flow_of c.transfer b) [])

  pub flow_none : (h.kind ≡ 4 → ⊥) → Flows Nothing
  unfolding meant
  flow_none n held same t c p k = ap (λ (x : Transfer). becomes x []) (ap (λ (x : Transfer). on_flow_of x b) k.transfer ∙ awaits_not h p n b ∙ sym k.transfer)

  module _ (kind : h.kind ≡ 4) where
    abbrev awaited : List ℕ → Transfer
    awaited p = transmits (record { payload = p; taken = h.n; stage = awaits h.time })

    flow_is : (m : Means) (x : List ℕ → Transfer) → ((t : ℕ) (c : Talk) (p : List ℕ) → c.transfer ≡ awaited p → becomes (x p) [] ≡ meant m t c p b) → ((p : List ℕ) → on_flow_of (awaited p) b ≡ x p) → Flows m
    flow_is m x e f held same t c p k =
        ap (λ (y : Transfer). becomes y []) (ap (λ (y : Transfer). on_flow_of y b) (k.transfer ∙ awaiting h p kind) ∙ f p) ∙ e t c p (k.transfer ∙ awaiting h p kind)

    pub flow_short : length b < 3 → Flows Nothing
    unfolding meant on_flow_of on_flow
    flow_short l = flow_is Nothing awaited (λ t c p q. ap (λ (y : Transfer). becomes y []) (sym q)) (λ p. rw (lt-ltb (length b) 3 l) refl)

    module _ (long : 3 ≤ length b) (n : ℕ) (f : n ≡ get_or b 0 0 % 16) where
      pub flow_on : n ≡ 0 → (block gap : ℕ) → block ≡ get_or b 1 0 → gap ≡ gap_of (get_or b 2 0) → Flows (Flow (record { kind = 6; n = h.n; time = 0; left = block; gap = gap; waits = false }))
      unfolding meant on_flow_of on_flow low staged headed
      flow_on z block gap x y =
          flow_is (Flow (record { kind = 6; n = h.n; time = 0; left = block; gap = gap; waits = false })) (λ p. transmits (record { payload = p; taken = h.n; stage = sends block gap 0 })) (λ t c p q. refl)
          (λ p. rw (le-ltb (length b) 3 long) (rw (sym f) (rw (eq-eqb n 0 z) (rw (sym x) (rw (sym y) refl)))))

      pub flow_wait : (n ≡ 0 → ⊥) → n ≡ 1 → Flows (Flow (record { kind = 4; n = h.n; time = 0; left = 0; gap = 0; waits = false }))
      unfolding meant on_flow_of on_flow low staged headed
      flow_wait z o =
          flow_is (Flow (record { kind = 4; n = h.n; time = 0; left = 0; gap = 0; waits = false })) (λ p. transmits (record { payload = p; taken = h.n; stage = awaits 0 })) (λ t c p q. refl)
          (λ p. rw (le-ltb (length b) 3 long) (rw (sym f) (rw (ne_eqb n 0 z) (rw (eq-eqb n 1 o) refl))))

      pub flow_end : (n ≡ 0 → ⊥) → (n ≡ 1 → ⊥) → Flows Drop
      unfolding meant on_flow_of on_flow low
      flow_end z o = flow_is Drop (λ p. idle) (λ t c p q. refl) (λ p. rw (le-ltb (length b) 3 long) (rw (sym f) (rw (ne_eqb n 0 z) (rw (ne_eqb n 1 o) refl))))

-- ---- a frame

either : {A : Type 0} (g : Bool) (x : A) → (if g then x else x) ≡ x
either true x = refl
either false x = refl

module _ (h : Head) (held : ℕ) (same : Bool) (b : List ℕ) where
  abbrev Hears : Means → Type 0
  Hears m = Meant m h held same b (λ t c. listening t c b)

  pub hears_nothing : length b < 1 → Hears Nothing
  unfolding meant listening on_single low within
  hears_nothing l t c p k = go b l
    where
      go : (b : List ℕ) → length b < 1 → listening t c b ≡ becomes c.transfer []
      go [] l = either (transmitting c.transfer) (becomes c.transfer [])
      go (x ∷ b) l = absurd (omega arith)

  module _ (high : ℕ) (e : high ≡ get_or b 0 0 / 16) (m : Means) where
    pub hears_flow : high ≡ 3 → ((held : ℕ) (same : Bool) → Meant m h held same b (λ t c. becomes (on_flow_of c.transfer b) [])) → Hears m
    unfolding listening
    hears_flow q f t c p k = rw (sym e) (rw (eq-eqb high 3 q) (f held same t c p k))

    module _ (no_flow : high ≡ 3 → ⊥) where
      pub hears_busy : 2 < h.kind → Hears Nothing
      unfolding listening meant
      hears_busy q t c p k = rw (sym e) (rw (ne_eqb high 3 no_flow) (rw (ap transmitting k.transfer ∙ sends_on h p q) refl))

      module _ (calm : h.kind ≤ 2) where
        silent : (c : Talk) (p : List ℕ) → c.transfer ≡ headed h p → transmitting c.transfer ≡ false
        silent c p q = ap transmitting q ∙ sends_not h p calm

        pub hears_single : high ≡ 0 → ((held : ℕ) (same : Bool) → Meant m h held same b (λ t c. on_single t c b)) → Hears m
        unfolding listening
        hears_single q f t c p k = rw (sym e) (rw (ne_eqb high 3 no_flow) (rw (silent c p k.transfer) (rw (eq-eqb high 0 q) (f held same t c p k))))

        module _ (no-single : high ≡ 0 → ⊥) where
          pub hears_first : high ≡ 1 → ((h : Head) (held : ℕ) → Meant m h held same b (λ t c. on_first t c b)) → Hears m
          unfolding listening
          hears_first q f t c p k =
              rw (sym e) (rw (ne_eqb high 3 no_flow) (rw (silent c p k.transfer) (rw (ne_eqb high 0 no-single) (rw (eq-eqb high 1 q) (f h held t c p k)))))

          module _ (no-first : high ≡ 1 → ⊥) where
            pub hears_other : (high ≡ 2 → ⊥) → Hears Nothing
            unfolding listening meant
            hears_other q t c p k =
                rw (sym e) (rw (ne_eqb high 3 no_flow) (rw (silent c p k.transfer) (rw (ne_eqb high 0 no-single) (rw (ne_eqb high 1 no-first) (rw (ne_eqb high 2 q) refl)))))

            pub hears_next : high ≡ 2 → ((same : Bool) → Meant m h held same b (λ t c. on_consecutive t c c.transfer b)) → Hears m
            unfolding listening
            hears_next q f t c p k =
                rw (sym e) (rw (ne_eqb high 3 no_flow) (rw (silent c p k.transfer) (rw (ne_eqb high 0 no-single) (rw (ne_eqb high 1 no-first) (rw (eq-eqb high 2 q) (f same t c p k))))))

  pub next_none : h.kind < 2 → (same : Bool) → Meant Nothing h held same b (λ t c. on_consecutive t c c.transfer b)
  unfolding meant
  next_none l same t c p k = ap (λ (x : Transfer). on_consecutive t c x b) k.transfer ∙ goes_not_on h p l t c b ∙ ap (λ (x : Transfer). becomes x []) (sym k.transfer)
